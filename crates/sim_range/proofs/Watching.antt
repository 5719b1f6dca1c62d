-- The sights beside the facts, when some of them are changed in turn.
use Rattle.sim_range.proofs.Common.{AgreeElsewhere, arith, IsStrictlyIncreasing, list_any_more, missing_without, rising_placed, rising_without, without_missing}
use Rattle.sim_range.proofs.Common.{AreChanging, Bool, found_there, get_or_read, list_any_at, map-set_same, nothing_new, only_itself, put_nothing, vec_capacity}
use Rattle.sim_range.proofs.Common.{AreInView, AreSights, fact_with, found_read, HaveRooms, id_of_fact, length-map, not_there, with_kept, with_only, without_id}
use Rattle.sim_range.proofs.Common.{Ascend, eq-eqb, get_or, ids_at, ids_of, IfSome, insert, length, nat_lt, ne_eqb, Option, put_new, vec_len, with_id, without}
use Rattle.sim_range.proofs.Common.{Fact, Land, List, None, Rising, Sight, Some, Stands, cond, false, placed, refl, remove, rising, sight, subst, take, turned}
use Rattle.sim_range.proofs.Common.{[], All, ap, inl, inr, map, not, set, suc, sym, true, view, zero, ℕ, ◌+◌, ◌<◌, ◌==◌, ◌||◌, ◌∙◌, ◌∷◌, ◌≡◌}
use Rattle.sim_range.proofs.Common.{above_at, All-head, All-tail, ascends, Belongs, cases_eq, cases_lt, HasPlace, is_among, is_seen, map-set, Missing, put_over}
use Rattle.sim_range.proofs.{Nearing.chosen, Nearing.chosen-cons, Seeing.chosen_only, Seeing.chosen_ups, Seeing.chosen_without, Seeing.seen_is}
use Rattle.sim_range.proofs.{Seeing.sight_ups, Seeing.still_sees, Seeing.turned_is, Turning.increasing, Turning.with_without}

-- What an edit of a bucket leaves: the facts ascend, and the ids are theirs.

-- ---- the facts

rising_only : (id : ℕ) (part : Option Fact) (facts : List Fact) → IfSome part (λ (f : Fact). f.id ≡ id) → Rising facts → Rising (with_only id part facts)
rising_only id None facts named r = rising_without id facts r
rising_only id (Some f) facts named r =
    rising_placed f (without id facts) (subst (λ (n : ℕ). Missing n (without id facts)) (sym named) (without_missing id facts)) (rising_without id facts r)

pub only_ascends : (id : ℕ) (part : Option Fact) (facts xs : List Fact) → IfSome part (λ (f : Fact). f.id ≡ id) → Ascend facts → xs ≡ with_only id part facts
    → Ascend xs
only_ascends id part facts xs named up is = subst Ascend (sym is) (ascends (with_only id part facts) (rising_only id part facts named (rising facts up)))

pub ok_list : (a : Bool) (xs ys zs : List Fact) → a ≡ true → zs ≡ cond a ys xs → zs ≡ ys
ok_list a xs ys zs ok is = is ∙ ap (λ (c : Bool). cond c ys xs) ok

-- ---- their ids

map-remove : (facts : List Fact) (at : ℕ) → map id_of_fact (remove facts at) ≡ remove (map id_of_fact facts) at
map-remove [] zero = refl
map-remove [] (suc at) = refl
map-remove (f ∷ facts) zero = refl
map-remove (f ∷ facts) (suc at) = ap (λ (xs : List ℕ). f.id ∷ xs) (map-remove facts at)

map-insert : (facts : List Fact) (at : ℕ) (f : Fact) → map id_of_fact (insert facts at f) ≡ insert (map id_of_fact facts) at f.id
map-insert [] zero f = refl
map-insert [] (suc at) f = refl
map-insert (g ∷ facts) zero f = refl
map-insert (g ∷ facts) (suc at) f = ap (λ (xs : List ℕ). g.id ∷ xs) (map-insert facts at f)

pub named_over : (lent facts : List Fact) (ids : List ℕ) (id at : ℕ) (part : Option Fact) (f : Fact) → lent ≡ facts → Stands lent id at → part ≡ Some f
    → IfSome part (λ (g : Fact). g.id ≡ id) → ids ≡ map id_of_fact facts →
    ids ≡ map id_of_fact (set facts at f)
named_over lent facts ids id at None f is s e named same = absurd (cc)
named_over lent facts ids id at (Some g) f is s e named same =
    let one : g ≡ f = cc in
    let here : Stands facts id at = subst (λ (fs : List Fact). Stands fs id at) is s in
    same ∙ sym (map-set_same id_of_fact facts at f f (ap id_of_fact (sym one) ∙ named ∙ sym (here.same f)))

pub named_removed : (facts xs : List Fact) (ids left : List ℕ) (at : ℕ) → ids ≡ map id_of_fact facts → xs ≡ remove facts at → left ≡ remove ids at →
    left ≡ map id_of_fact xs
named_removed facts xs ids left at same first second = second ∙ ap (λ (ns : List ℕ). remove ns at) same ∙ sym (map-remove facts at) ∙
    ap (map id_of_fact) (sym first)

pub named_inserted : (facts xs : List Fact) (ids more : List ℕ) (id at : ℕ) (part : Option Fact) (f : Fact) (a b : Bool) → part ≡ Some f
    → IfSome part (λ (g : Fact). g.id ≡ id) → ids ≡ map id_of_fact facts → a ≡ true → b ≡ true →
    xs ≡ cond a (insert facts at f) facts → more ≡ cond b (insert ids at id) ids → more ≡ map id_of_fact xs
named_inserted facts xs ids more id at None f a b e named same one two first second = absurd (cc)
named_inserted facts xs ids more id at (Some g) f a b e named same one two first second =
    let it : g ≡ f = cc in
    second ∙ ap (λ (c : Bool). cond c (insert ids at id) ids) two ∙ ap (λ (ns : List ℕ). insert ns at id) same ∙ ap (insert (map id_of_fact facts) at)
    (sym named ∙ ap id_of_fact it) ∙ sym (map-insert facts at f)
    ∙ ap (map id_of_fact) (sym (ok_list a facts (insert facts at f) xs one first))

-- ---- lists in step

module _ {X Y : Type 0} (f : X → List ℕ) (g : Y → List ℕ) where
  pub read_map : (xs : List X) (ys : List Y) (i : ℕ) (d : X) (e : Y) → map f xs ≡ map g ys → i < length ys → f (get_or xs i d) ≡ g (get_or ys i e)
  read_map [] [] i d e same lt = absurd (omega arith)
  read_map [] (y ∷ ys) i d e same lt = absurd (cc)
  read_map (x ∷ xs) [] i d e same lt = absurd (omega arith)
  read_map (x ∷ xs) (y ∷ ys) zero d e same lt = cc
  read_map (x ∷ xs) (y ∷ ys) (suc i) d e same lt = read_map xs ys i d e (cc) (omega arith)

  pub map_by : (xs : List X) (ys : List Y) → length xs ≡ length ys → ((i : ℕ) (d : X) (e : Y) → i < length ys → f (get_or xs i d) ≡ g (get_or ys i e))
      → map f xs ≡ map g ys
  map_by [] [] along same = refl
  map_by [] (y ∷ ys) along same = absurd (omega arith)
  map_by (x ∷ xs) [] along same = absurd (omega arith)
  map_by (x ∷ xs) (y ∷ ys) along same =
      let first : f x ≡ g y = same zero x y (omega arith) in
      let rest = map_by xs ys (omega arith) (λ i d e lt. same (suc i) d e (omega arith)) in
      ap (λ (z : List ℕ). z ∷ map f xs) first ∙ ap (λ (zs : List (List ℕ)). g y ∷ zs) rest

  pub long_as : (xs : List X) (ys : List Y) → map f xs ≡ map g ys → length xs ≡ length ys
  long_as xs ys same = sym (length-map xs f) ∙ ap (λ (zs : List (List ℕ)). length zs) same ∙ length-map ys g

module _ {X : Type 0} (f : X → List ℕ) where
  map-removed : (xs : List X) (at : ℕ) → map f (remove xs at) ≡ remove (map f xs) at
  map-removed [] zero = refl
  map-removed [] (suc at) = refl
  map-removed (x ∷ xs) zero = refl
  map-removed (x ∷ xs) (suc at) = ap (λ (zs : List (List ℕ)). f x ∷ zs) (map-removed xs at)

  map-inserted : (xs : List X) (at : ℕ) (y : X) → map f (insert xs at y) ≡ insert (map f xs) at (f y)
  map-inserted [] zero y = refl
  map-inserted [] (suc at) y = refl
  map-inserted (x ∷ xs) zero y = refl
  map-inserted (x ∷ xs) (suc at) y = ap (λ (zs : List (List ℕ)). f x ∷ zs) (map-inserted xs at y)

-- ---- one sight is put in its place, or taken out

module _ (see : Fact → List ℕ) (facts : List Fact) (sights : List Sight) (in_step : map ids_of sights ≡ map see facts) (up : Ascend facts) (id at : ℕ)
    (o : Option Fact) (named : IfSome o (λ (f : Fact). f.id ≡ id)) where
  pub sight_over : (f : Fact) (own : Sight) → IfSome o (λ (g : Fact). own.ids.items ≡ see g) → Stands facts id at → o ≡ Some f
      → map ids_of (set sights at own) ≡ map see (with_only id o facts)
  sight_over f own given s is =
      map-set ids_of sights at own ∙ ap (λ (zs : List (List ℕ)). set zs at (ids_of own)) in_step ∙ ap (set (map see facts) at) (by o given is) ∙
      sym (map-set see facts at f)
      ∙ ap (map see) (put_over facts facts id at o f refl up s is named)
    where
      by : (p : Option Fact) → IfSome p (λ (g : Fact). own.ids.items ≡ see g) → p ≡ Some f → own.ids.items ≡ see f
      by None h e = absurd (cc)
      by (Some g) h e = let same : g ≡ f = cc in subst (λ (k : Fact). own.ids.items ≡ see k) same h

  pub sight_out : Stands facts id at → o ≡ None → map ids_of (remove sights at) ≡ map see (with_only id o facts)
  sight_out s is =
      map-removed ids_of sights at ∙ ap (λ (zs : List (List ℕ)). remove zs at) in_step ∙ sym (map-removed see facts at) ∙
      ap (map see) (put_nothing facts facts id at o refl up s is)

  pub sight_in : (f : Fact) (own : Sight) → IfSome o (λ (g : Fact). own.ids.items ≡ see g) → Belongs facts id at → o ≡ Some f
      → map ids_of (insert sights at own) ≡ map see (with_only id o facts)
  sight_in f own given b is =
      map-inserted ids_of sights at own ∙ ap (λ (zs : List (List ℕ)). insert zs at (ids_of own)) in_step ∙ ap (insert (map see facts) at) (by o given is) ∙
      sym (map-inserted see facts at f)
      ∙ ap (map see) (put_new facts facts id at o f refl b is named)
    where
      by : (p : Option Fact) → IfSome p (λ (g : Fact). own.ids.items ≡ see g) → p ≡ Some f → own.ids.items ≡ see f
      by None h e = absurd (cc)
      by (Some g) h e = let same : g ≡ f = cc in subst (λ (k : Fact). own.ids.items ≡ see k) same h

  pub sight_none : Belongs facts id at → o ≡ None → map ids_of sights ≡ map see (with_only id o facts)
  sight_none b is = in_step ∙ ap (map see) (nothing_new facts facts id at o refl b is)

pub ok_sights : (a : Bool) (xs ys zs : List Sight) → a ≡ true → zs ≡ cond a ys xs → zs ≡ ys
ok_sights a xs ys zs ok is = is ∙ ap (λ (c : Bool). cond c ys xs) ok

-- ---- the places of ids

same_place : (facts : List Fact) (i j : ℕ) (d e : Fact) → Rising facts → i < length facts → j < length facts → (get_or facts i d).id ≡ (get_or facts j e).id
    → i ≡ j
same_place [] i j d e r one two same = absurd (omega arith)
same_place (f ∷ facts) zero zero d e r one two same = refl
same_place (f ∷ facts) zero (suc j) d e r one two same = let above = above_at f.id facts j e r.0 (omega arith) in absurd (omega (arith, above, same))
same_place (f ∷ facts) (suc i) zero d e r one two same = let above = above_at f.id facts i d r.0 (omega arith) in absurd (omega (arith, above, same))
same_place (f ∷ facts) (suc i) (suc j) d e r one two same = ap suc (same_place facts i j d e r.1 (omega arith) (omega arith) same)

only_there : (facts : List Fact) (id at i : ℕ) (d : Fact) → Ascend facts → Stands facts id at → i < length facts → (get_or facts i d).id ≡ id → i ≡ at
only_there facts id at i d up s lt is = same_place facts i at d d (rising facts up) lt s.within (is ∙ sym (s.same d))

pub nowhere : (facts : List Fact) (id at i : ℕ) (d : Fact) → Belongs facts id at → i < length facts → (get_or facts i d).id ≡ id → ⊥
nowhere facts id at i d b lt is =
    elim (cases_lt i at) [
      | inl before ↦ (let h = b.before i d before in absurd (omega (arith, h, is)))
      | inr behind ↦ (let h = b.behind i d (omega arith) lt in
          absurd (omega (arith, h, is)))
    ]

-- one watcher more is among them
module _ (watchers : List ℕ) (j n : ℕ) (lt : j < length watchers) where
  more : is_among (take (j + 1) watchers) n ≡ (is_among (take j watchers) n || (get_or watchers j 0 == n))
  more = list_any_more (λ (m : ℕ). m == n) watchers j 0 lt

  pub among_still : (get_or watchers j 0 ≡ n → ⊥) → is_among (take (j + 1) watchers) n ≡ is_among (take j watchers) n
  among_still other = more ∙ ap (λ (b : Bool). is_among (take j watchers) n || b) (ne_eqb (get_or watchers j 0) n other) ∙ by (is_among (take j watchers) n)
    where
      by : (b : Bool) → (b || false) ≡ b
      by true = refl
      by false = refl

  pub among_now : get_or watchers j 0 ≡ n → is_among (take (j + 1) watchers) n ≡ true
  among_now same = more ∙ ap (λ (b : Bool). is_among (take j watchers) n || b) (eq-eqb (get_or watchers j 0) n same) ∙ by (is_among (take j watchers) n)
    where
      by : (b : Bool) → (b || true) ≡ true
      by true = refl
      by false = refl

-- ---- rooms

module _ (facts : List Fact) (watchers : List ℕ) (j : ℕ) (lt : j < length watchers) (old : List Sight) (rooms : HaveRooms facts (take j watchers) old) where
  pub more_rooms : (at : ℕ) (new : List Sight) → Ascend facts → Stands facts (get_or watchers j 0) at →
      ((d : Sight) → vec_len (get_or new at d).ids < vec_capacity (get_or new at d).ids)
      → ((k : ℕ) (d : Sight) → (k ≡ at → ⊥) → get_or new k d ≡ get_or old k d) → HaveRooms facts (take (j + 1) watchers) new
  more_rooms at new up s there others i f d within among =
      elim (cases_eq i at) [
        | inl here ↦ subst (λ (k : ℕ). vec_len (get_or new k d).ids < vec_capacity (get_or new k d).ids) (sym here) (there d)
        | inr differ ↦
            (let away : i ≡ at → ⊥ = λ e. absurd (omega (arith, differ, e)) in
            let other : get_or watchers j 0 ≡ (get_or facts i f).id → ⊥ = λ e. away (only_there facts (get_or watchers j 0) at i f up s within (sym e)) in
            let known = rooms i f d within (sym (among_still watchers j (get_or facts i f).id lt other) ∙ among) in
            subst (λ (t : Sight). vec_len t.ids < vec_capacity t.ids) (sym (others i d away)) known)
      ]

  pub same_rooms : (at : ℕ) → Belongs facts (get_or watchers j 0) at → HaveRooms facts (take (j + 1) watchers) old
  same_rooms at b i f d within among =
      let other : get_or watchers j 0 ≡ (get_or facts i f).id → ⊥ = λ e. nowhere facts (get_or watchers j 0) at i f b within (sym e) in
      rooms i f d within (sym (among_still watchers j (get_or facts i f).id lt other) ∙ among)

-- ---- what is seen before and after

module _ (land : Land) (id : ℕ) (after : Option Fact) (facts : List Fact) (up : Ascend facts) (named : IfSome after (λ (f : Fact). f.id ≡ id)) where
  abbrev later : List Fact
  later = with_only id after facts

  later_up : Rising later
  later_up = rising later (only_ascends id after facts later named up refl)

  -- what is kept of it is put in its place again
  without_placed : (f : Fact) (ys : List Fact) → Missing f.id ys → without f.id (placed f ys) ≡ ys
  without_placed f [] m = let same : (f.id == f.id) ≡ true = eq-eqb f.id f.id refl in rw same refl
  without_placed f (g ∷ ys) m = by (nat_lt f.id g.id) (without_placed f ys m.1)
    where
      same : (f.id == f.id) ≡ true
      same = eq-eqb f.id f.id refl

      other : (g.id == f.id) ≡ false
      other = ne_eqb g.id f.id m.0

      by : (b : Bool) → without f.id (placed f ys) ≡ ys → without f.id (cond b (f ∷ g ∷ ys) (g ∷ placed f ys)) ≡ g ∷ ys
      by true rest = rw same (missing_without f.id (g ∷ ys) m)
      by false rest = rw other (ap (λ (fs : List Fact). g ∷ fs) rest)

  without_again : (o : Option Fact) → IfSome o (λ (f : Fact). f.id ≡ id) → without id (with_kept o (without id facts)) ≡ without id facts
  without_again None h = missing_without id (without id facts) (without_missing id facts)
  without_again (Some f) h =
      let missing : Missing f.id (without id facts) = subst (λ (n : ℕ). Missing n (without id facts)) (sym h) (without_missing id facts) in
      subst (λ (n : ℕ). without n (placed f (without id facts)) ≡ without id facts) h (without_placed f (without id facts) missing)

  only_again : with_only id after later ≡ later
  only_again = ap (with_kept after) (without_again after named)

  -- what a watcher sees, when it was changed and when it was not
  abbrev pub state : Bool → Fact → List ℕ
  state b w = cond b (sight land (with_only id after facts) w) (sight land facts w)

  state_up : (b : Bool) (w : Fact) → IsStrictlyIncreasing (state b w)
  state_up true w = increasing (sight land later w) (sight_ups land w later later_up)
  state_up false w = increasing (sight land facts w) (sight_ups land w facts (rising facts up))

  state_turned : (b : Bool) (w : Fact) → turned (is_seen land w after) id (state b w) ≡ sight land later w
  state_turned true w = turned_is land w id after later later_up named ∙ ap (λ (fs : List Fact). sight land fs w) only_again
  state_turned false w = turned_is land w id after facts (rising facts up) named

  -- in the end all are
  pub all_turned : (before : Option Fact) (watchers all : List ℕ) (sights : List Sight) → before ≡ fact_with facts id → all ≡ watchers
      → length sights ≡ length facts →
      ((i : ℕ) (f : Fact) (d : Sight) → i < length facts → ids_at sights i d ≡ state (is_among all (get_or facts i f).id) (get_or facts i f))
      → AreChanging land facts before after watchers → map ids_of sights ≡ map (sight land (with_only id after facts)) facts
  all_turned before watchers all sights found is along seen changing =
      map_by ids_of (sight land later) sights facts along
      (λ i d f lt. seen i f d lt ∙ ap (λ (ws : List ℕ). state (is_among ws (get_or facts i f).id) (get_or facts i f)) is ∙
      by i f lt (is_among watchers (get_or facts i f).id) refl)
    where
      by : (i : ℕ) (f : Fact) → i < length facts → (b : Bool) → is_among watchers (get_or facts i f).id ≡ b → state b (get_or facts i f) ≡ sight land later
          (get_or facts i f)
      by i f lt true e = refl
      by i f lt false e = sym (still_sees land (get_or facts i f) id before after facts (rising facts up) found named (changing i f lt e))

  module _ (watchers : List ℕ) (j : ℕ) (lt : j < length watchers) (old : List Sight) (seen : (i : ℕ) (f : Fact) (d : Sight) → i < length facts
      → ids_at old i d ≡ state (is_among (take j watchers) (get_or facts i f).id) (get_or facts i f))
      (room : (i : ℕ) (f : Fact) (d : Sight) → i < length facts → is_among watchers (get_or facts i f).id ≡ true
      → is_among (take j watchers) (get_or facts i f).id ≡ false → vec_len (get_or old i d).ids < vec_capacity (get_or old i d).ids) where
    module _ (at : ℕ) (s : Stands facts (get_or watchers j 0) at) (f : Fact) (is : f ≡ get_or facts at f) where
      pub ready_up : (d : Sight) → IsStrictlyIncreasing (ids_at old at d)
      ready_up d = subst IsStrictlyIncreasing (sym (seen at f d s.within)) (state_up (is_among (take j watchers) (get_or facts at f).id) (get_or facts at f))

      pub ready_room : (b : Bool) → b ≡ is_seen land f after → (d : Sight) → b ≡ true → HasPlace id (get_or old at d)
      ready_room b test d seen_now new = by (is_among (take j watchers) (get_or facts at f).id) refl
        where
          w : Fact
          w = get_or facts at f

          sees : is_seen land w after ≡ true
          sees = ap (λ (g : Fact). is_seen land g after) (sym is) ∙ sym test ∙ seen_now

          by : (c : Bool) → is_among (take j watchers) w.id ≡ c → vec_len (get_or old at d).ids < vec_capacity (get_or old at d).ids
          by true e =
              let known : ids_at old at d ≡ sight land later w = seen at f d s.within ∙ ap (λ (c : Bool). state c w) e in
              let same : with_id id (sight land later w) ≡ sight land later w = sym (ap (λ (c : Bool). turned c id (sight land later w)) sees) ∙
              state_turned true w in
              absurd (new (ap (with_id id) known ∙ same ∙ sym known))
          by false e = room at f d s.within (list_any_at (λ (m : ℕ). m == w.id) watchers j 0 lt (eq-eqb (get_or watchers j 0) w.id (sym (s.same f)))) e

      module _ (new : List Sight) (others : (k : ℕ) (d : Sight) → (k ≡ at → ⊥) → get_or new k d ≡ get_or old k d) where
        away : (i : ℕ) (g : Fact) → i < length facts → (i ≡ at → ⊥) → get_or watchers j 0 ≡ (get_or facts i g).id → ⊥
        away i g within differ e = differ (only_there facts (get_or watchers j 0) at i g up s within (sym e))

        pub next_seen : (b : Bool) → b ≡ is_seen land f after → ((d : Sight) → ids_at new at d ≡ turned b id (ids_at old at d)) → (i : ℕ) (g : Fact) (d : Sight)
            → i < length facts → ids_at new i d ≡ state (is_among (take (j + 1) watchers) (get_or facts i g).id) (get_or facts i g)
        next_seen b test there i g d within =
            elim (cases_eq i at) [
              | inl here ↦ subst (λ (k : ℕ). ids_at new k d ≡ state (is_among (take (j + 1) watchers) (get_or facts k g).id) (get_or facts k g)) (sym here) now
              | inr differ ↦
                  (let apart : i ≡ at → ⊥ = λ e. absurd (omega (arith, differ, e)) in
                  ap ids_of (others i d apart) ∙ seen i g d within ∙ ap (λ (c : Bool). state c (get_or facts i g))
                  (sym (among_still watchers j (get_or facts i g).id lt (away i g within apart))))
            ]
          where
            w : Fact
            w = get_or facts at g

            test_at : b ≡ is_seen land w after
            test_at = test ∙ ap (λ (h : Fact). is_seen land h after) (get_or_read facts at f s.within is g)

            now : ids_at new at d ≡ state (is_among (take (j + 1) watchers) w.id) w
            now =
                there d ∙ ap (turned b id) (seen at g d s.within) ∙ ap (λ (c : Bool). turned c id (state (is_among (take j watchers) w.id) w)) test_at ∙
                state_turned (is_among (take j watchers) w.id) w
                ∙ ap (λ (c : Bool). state c w) (sym (among_now watchers j w.id lt (sym (s.same g))))

        pub next_room : (i : ℕ) (g : Fact) (d : Sight) → i < length facts → is_among watchers (get_or facts i g).id ≡ true
            → is_among (take (j + 1) watchers) (get_or facts i g).id ≡ false → vec_len (get_or new i d).ids < vec_capacity (get_or new i d).ids
        next_room i g d within among later_on =
            elim (cases_eq i at) [
              | inl here ↦
                  (let same : get_or watchers j 0 ≡ (get_or facts i g).id = sym (s.same g) ∙ ap (λ (k : ℕ). (get_or facts k g).id) (sym here) in
                  let done : is_among (take (j + 1) watchers) (get_or facts i g).id ≡ true = among_now watchers j (get_or facts i g).id lt same in
                  absurd (cc))
              | inr differ ↦
                  (let apart : i ≡ at → ⊥ = λ e. absurd (omega (arith, differ, e)) in
                  subst (λ (t : Sight). vec_len t.ids < vec_capacity t.ids) (sym (others i d apart))
                  (room i g d within among (sym (among_still watchers j (get_or facts i g).id lt (away i g within apart)) ∙ later_on)))
            ]

    module _ (at : ℕ) (b : Belongs facts (get_or watchers j 0) at) where
      other : (i : ℕ) (g : Fact) → i < length facts → get_or watchers j 0 ≡ (get_or facts i g).id → ⊥
      other i g within e = nowhere facts (get_or watchers j 0) at i g b within (sym e)

      pub same_seen : (i : ℕ) (g : Fact) (d : Sight) → i < length facts → ids_at old i d ≡ state (is_among (take (j + 1) watchers) (get_or facts i g).id)
          (get_or facts i g)
      same_seen i g d within = seen i g d within ∙ ap (λ (c : Bool). state c (get_or facts i g))
          (sym (among_still watchers j (get_or facts i g).id lt (other i g within)))

      pub same_room : (i : ℕ) (g : Fact) (d : Sight) → i < length facts → is_among watchers (get_or facts i g).id ≡ true
          → is_among (take (j + 1) watchers) (get_or facts i g).id ≡ false → vec_len (get_or old i d).ids < vec_capacity (get_or old i d).ids
      same_room i g d within among later_on = room i g d within among (sym (among_still watchers j (get_or facts i g).id lt (other i g within)) ∙ later_on)

-- What passes a test, when the test changes for some in turn.

module _ (p q : Fact → Bool) where
  -- where two tests say the same of all
  chosen_same : (facts : List Fact) → All (λ (e : Fact). p e ≡ q e) facts → chosen p facts ≡ chosen q facts
  chosen_same [] same = refl
  chosen_same (f ∷ facts) same =
      chosen-cons p f facts ∙ ap (λ (c : Bool). cond c (f.id ∷ chosen p facts) (chosen p facts)) (All-head (λ (e : Fact). p e ≡ q e) f facts same)
      ∙ ap (λ (xs : List ℕ). cond (q f) (f.id ∷ xs) xs) (chosen_same facts (All-tail (λ (e : Fact). p e ≡ q e) f facts same)) ∙ sym (chosen-cons q f facts)

  -- and of all but one
  same_without : (id : ℕ) (facts : List Fact) → All (λ (e : Fact). (e.id ≡ id → ⊥) → p e ≡ q e) facts → chosen p (without id facts) ≡ chosen q
      (without id facts)
  same_without id [] same = refl
  same_without id (f ∷ facts) same =
      by (f.id == id) refl (All-head (λ (e : Fact). (e.id ≡ id → ⊥) → p e ≡ q e) f facts same)
      (same_without id facts (All-tail (λ (e : Fact). (e.id ≡ id → ⊥) → p e ≡ q e) f facts same))
    where
      by : (b : Bool) → (f.id == id) ≡ b → ((f.id ≡ id → ⊥) → p f ≡ q f) → chosen p (without id facts) ≡ chosen q (without id facts) →
          chosen p (cond (not b) (f ∷ without id facts) (without id facts)) ≡ chosen q (cond (not b) (f ∷ without id facts) (without id facts))
      by true e first rest = rest
      by false e first rest =
          chosen-cons p f (without id facts) ∙ ap (λ (c : Bool). cond c (f.id ∷ chosen p (without id facts)) (chosen p (without id facts)))
          (first (λ s. let yes : (f.id == id) ≡ true = eq-eqb f.id id s in absurd (cc)))
          ∙ ap (λ (xs : List ℕ). cond (q f) (f.id ∷ xs) xs) rest ∙ sym (chosen-cons q f (without id facts))

  turned_chosen : (facts : List Fact) (id at : ℕ) (f : Fact) → Ascend facts → Stands facts id at → f ≡ get_or facts at f
      → All (λ (e : Fact). (e.id ≡ id → ⊥) → p e ≡ q e) facts → turned (q f) id (chosen p facts) ≡ chosen q facts
  turned_chosen facts id at f up s is same = by (q f) ∙ sym again
    where
      named : f.id ≡ id
      named = ap (λ (e : Fact). e.id) is ∙ s.same f

      whole : placed f (without id facts) ≡ facts
      whole = ap (λ (o : Option Fact). with_only id o facts) (found_read facts id at f up s is) ∙ only_itself id facts (rising facts up)

      again : chosen q facts ≡ turned (q f) id (chosen q facts)
      again = ap (chosen q) (sym whole) ∙ chosen_only q id f facts (rising facts up) named

      alike : without_id id (chosen p facts) ≡ without_id id (chosen q facts)
      alike = sym (chosen_without p id facts) ∙ same_without id facts same ∙ chosen_without q id facts

      by : (c : Bool) → turned c id (chosen p facts) ≡ turned c id (chosen q facts)
      by true = sym (with_without id (chosen p facts) (chosen_ups p facts (rising facts up))) ∙ ap (with_id id) alike ∙ with_without id (chosen q facts)
          (chosen_ups q facts (rising facts up))
      by false = alike

-- a test when it has changed for these
abbrev pub mixed : (Fact → Bool) → (Fact → Bool) → List ℕ → Fact → Bool
mixed g h done f = cond (is_among done f.id) (h f) (g f)

module _ (g h : Fact → Bool) (facts : List Fact) (up : Ascend facts) (ids : List ℕ) where
  pub mixed_up : (done own : List ℕ) → own ≡ chosen (mixed g h done) facts → IsStrictlyIncreasing own
  mixed_up done own is = subst IsStrictlyIncreasing (sym is) (increasing (chosen (mixed g h done) facts) (chosen_ups (mixed g h done) facts (rising facts up)))

  pub mixed_all : (done : List ℕ) → done ≡ ids → AgreeElsewhere g h facts ids → chosen (mixed g h done) facts ≡ chosen h facts
  mixed_all done is agree = ap (λ (ns : List ℕ). chosen (mixed g h ns) facts) is ∙ chosen_same (mixed g h ids) h facts
      (λ i f lt. by i f lt (is_among ids (get_or facts i f).id) refl)
    where
      by : (i : ℕ) (f : Fact) → i < length facts → (b : Bool) → is_among ids (get_or facts i f).id ≡ b → cond b (h (get_or facts i f)) (g (get_or facts i f)) ≡
          h (get_or facts i f)
      by i f lt true e = refl
      by i f lt false e = agree i f lt e

  module _ (j : ℕ) (lt : j < length ids) (own : List ℕ) (is : own ≡ chosen (mixed g h (take j ids)) facts) where
    still : (n : ℕ) (e : Fact) → e.id ≡ n → (get_or ids j 0 ≡ n → ⊥) → mixed g h (take j ids) e ≡ mixed g h (take (j + 1) ids) e
    still n e named other = ap (λ (c : Bool). cond c (h e) (g e)) (sym (among_still ids j e.id lt (λ s. other (s ∙ named))))

    pub next_mixed : (at : ℕ) (f : Fact) (b : Bool) (new : List ℕ) → Stands facts (get_or ids j 0) at → f ≡ get_or facts at f → b ≡ h f
        → new ≡ turned b (get_or ids j 0) own → new ≡ chosen (mixed g h (take (j + 1) ids)) facts
    next_mixed at f b new s at_is test given =
        given ∙ ap (turned b (get_or ids j 0)) is ∙ ap (λ (c : Bool). turned c (get_or ids j 0) (chosen (mixed g h (take j ids)) facts)) (test ∙ sym now)
        ∙ turned_chosen (mixed g h (take j ids)) (mixed g h (take (j + 1) ids)) facts (get_or ids j 0) at f up s at_is
        (λ i e within other. still (get_or facts i e).id (get_or facts i e) refl (λ t. other (sym t)))
      where
        now : mixed g h (take (j + 1) ids) f ≡ h f
        now = ap (λ (c : Bool). cond c (h f) (g f)) (among_now ids j f.id lt (sym (ap (λ (e : Fact). e.id) at_is ∙ s.same f)))

    pub same_mixed : (at : ℕ) → Belongs facts (get_or ids j 0) at → own ≡ chosen (mixed g h (take (j + 1) ids)) facts
    same_mixed at b = is ∙ chosen_same (mixed g h (take j ids)) (mixed g h (take (j + 1) ids)) facts
        (λ i e within. still (get_or facts i e).id (get_or facts i e) refl (λ t. nowhere facts (get_or ids j 0) at i e b within (sym t)))

-- ---- what an entity saw before

module _ (land : Land) (facts : List Fact) (sights : List Sight) (up : Ascend facts) (seen : AreSights land facts sights) (id at : ℕ) (own : List ℕ) where
  pub saw : (s : Sight) (d : Fact) → Stands facts id at → s ≡ get_or sights at s → own ≡ s.ids.items → own ≡ view land facts (fact_with facts id)
  saw s d there is given =
      let w = get_or facts at d in
      given ∙ ap ids_of is ∙ read_map ids_of (sight land facts) sights facts at s d seen there.within ∙ seen_is land w w.vision facts ∙
      ap (view land facts) (sym (found_there facts id at d (rising facts up) there))

  pub saw_none : Belongs facts id at → own ≡ [] → own ≡ view land facts (fact_with facts id)
  saw_none b none = none ∙ sym (nobody facts) ∙ ap (view land facts) (not_there facts id at b)
    where
      nobody : (fs : List Fact) → view land fs None ≡ []
      nobody [] = refl
      nobody (f ∷ fs) = nobody fs

-- what was kept of an entity that will be kept is what is found of its id
pub in_view : (land : Land) (facts lent : List Fact) (before after : Option Fact) (ids : List ℕ) → lent ≡ facts
    → IfSome after (λ (f : Fact). before ≡ fact_with facts f.id) → AreInView land lent before after ids
    → IfSome after (λ (f : Fact). AreInView land lent (fact_with lent f.id) (Some f) ids)
in_view land facts lent before None ids is found view = tt
in_view land facts lent before (Some f) ids is found view = subst (λ (o : Option Fact). AreInView land lent o (Some f) ids)
    (found ∙ ap (λ (fs : List Fact). fact_with fs f.id) (sym is)) view
