-- A state stays valid where a row is removed. Where all rows whose health is spent are removed, the state is valid again.
use Rattle.sim_base.specs.{Commands.{aimed_at, halted, seen, with_stance, within}, Turn.choices}
use Rattle.sim_base.specs.{Turn.{gone, is_idle, is_spent, lets_go, looking, may_take, square_to, target_for, with_releases, with_targets}, Ways.lesser_of}
use Rattle.sim_laws.proofs.Common.{Aim, aimed, All-map, and_parts, ap, arith, Arms, arms_of, Bool, Both, cond, cond_both, enemies_of, eqb-false, false, filter}
use Rattle.sim_laws.proofs.Common.{fold, has_health, id_of, in_mask, inl, inr, ints, is_before, is_near, is_some, IsKnownRow, IsLooselyValid, IsState}
use Rattle.sim_laws.proofs.Common.{IsStrictlyIncreasing, IsTrue, IsValid, IsValidAim, IsValidMotion, IsValidRow, least_of, length, length-map, List, map}
use Rattle.sim_laws.proofs.Common.{Motion, nat_list_cmp_total, ne_eqb, None, not, not-true, Option, option_map, pos, refl, released, removed, Row, row_of}
use Rattle.sim_laws.proofs.Common.{Setup, Some, State, Still, subst, sym, target_of, Template, true, unwrap_or, ℕ, ℤ, ⊎_elim, [], ◌&&◌, ◌<◌, ◌==◌, ◌∙◌, ◌∷◌}
use Rattle.sim_laws.proofs.{Common.{◌≡◌, ◌≢◌, ◌≤ℤ◌, ◌≤◌, ◌⊎◌}, Neighbours.{Has, Has-map, Has-of_map}, Validity.{all_at, all_from, Has-filter, Has-of_filter}}
use Rattle.sim_laws.proofs.Validity.{has_health_of, known_row, map-map, map_agree, mapped_is_state, of_has_health, row_known, Stays}
use Rattle.std.{proofs.lemmas.{List.{Kept.IsStrictlyIncreasing-filter, MinMax.ranks_by}, Map.Entries.option_filter}, specs.Cmp.IsStrictWeakOrder}

-- ---- rows that take another target, stand still, or are released

-- a target that a row may have: none, or another row that has health
abbrev pub IsTarget : List Row → Row → ℕ → Type 0
IsTarget rows row target = (target ≡ 0) ⊎ ((target ≢ row.id) × IsTrue (has_health rows target))

module _ (least : ℕ) (setup : Setup) (rows : List Row) (row : Row) (t : Template) where
  pub aimed_at_is_valid : (target : ℕ) → IsTarget rows row target → IsValidRow least setup rows row t
      → IsValidRow least setup rows (aimed_at target row) t
  aimed_at_is_valid target may h = record { at = h.at; owner = h.owner; health = h.health; motion = h.motion; attack = by row.attack t.arms h.attack }
    where
      by : (a : Option Aim) (b : Option Arms) → Both a b (IsValidAim rows row.id)
          → Both (option_map (λ (aim : Aim). record aim { target = target }) a) b (IsValidAim rows row.id)
      by None None v = tt
      by None (Some arms) v = absurd v
      by (Some aim) None v = absurd v
      by (Some aim) (Some arms) v = record { target = may; cooldown = v.cooldown }

  pub with_stance_is_valid : (hold : Bool) → IsValidRow least setup rows row t → IsValidRow least setup rows (with_stance hold row) t
  with_stance_is_valid hold h = record { at = h.at; owner = h.owner; health = h.health; motion = h.motion; attack = by row.attack t.arms h.attack }
    where
      by : (a : Option Aim) (b : Option Arms) → Both a b (IsValidAim rows row.id)
          → Both (option_map (λ (aim : Aim). record aim { hold = hold }) a) b (IsValidAim rows row.id)
      by None None v = tt
      by None (Some arms) v = absurd v
      by (Some aim) None v = absurd v
      by (Some aim) (Some arms) v = record { target = v.target; cooldown = v.cooldown }

  pub halted_is_valid : IsValidRow least setup rows row t → IsValidRow least setup rows (halted row) t
  halted_is_valid h = record { at = h.at; owner = h.owner; health = h.health; motion = by row.motion t.speed h.motion; attack = h.attack }
    where
      by : (a : Option Motion) (b : Option ℤ) → Both a b (λ m s. IsValidMotion setup m)
          → Both (option_map (λ (m : Motion). Still) a) b (λ m s. IsValidMotion setup m)
      by None None v = tt
      by None (Some speed) v = absurd v
      by (Some motion) None v = absurd v
      by (Some motion) (Some speed) v = tt

module _ (least : ℕ) (setup : Setup) (rows : List Row) (row : Row) (t : Template) (h : IsValidRow least setup rows row t) where
  pub same_stays : Stays least setup rows row row t
  same_stays = record { id = refl; template = refl; valid = h }

  pub aimed_at_stays : (target : ℕ) → IsTarget rows row target → Stays least setup rows row (aimed_at target row) t
  aimed_at_stays target may = record { id = refl; template = refl; valid = aimed_at_is_valid least setup rows row t target may h }

  pub halted_stays : Stays least setup rows row (halted row) t
  halted_stays = record { id = refl; template = refl; valid = halted_is_valid least setup rows row t h }

  -- also where it holds its place or does not from now on
  pub placed_stays : (target : ℕ) (hold : Bool) → IsTarget rows row target → Stays least setup rows row (with_stance hold (aimed_at target row)) t
  placed_stays target hold may =
      record {
        id = refl;
        template = refl;
        valid = with_stance_is_valid least setup rows (aimed_at target row) t hold
            (aimed_at_is_valid least setup rows row t target may h);
      }

  pub ordered_stays : (target : ℕ) (hold : Bool) → IsTarget rows row target → Stays least setup rows row (halted (with_stance hold (aimed_at target row))) t
  ordered_stays target hold may =
      record {
        id = refl;
        template = refl;
        valid = halted_is_valid least setup rows (with_stance hold (aimed_at target row)) t (placed_stays target hold may).valid;
      }

  pub released_stays : Stays least setup rows row (released row) t
  released_stays = record { id = refl; template = refl; valid = halted_is_valid least setup rows (aimed_at 0 row) t (aimed_at_stays 0 (inl refl)).valid }

-- ---- a row is removed

map-filter : {X Y : Type 0} (f : X → Y) (p : Y → Bool) (xs : List X) → map f (filter (λ x. p (f x)) xs) ≡ filter p (map f xs)
map-filter f p [] = refl
map-filter f p (x ∷ xs) = by (p (f x)) (map-filter f p xs)
  where
    by : (b : Bool) → map f (filter (λ x. p (f x)) xs) ≡ filter p (map f xs)
        → map f (cond b (x ∷ filter (λ x. p (f x)) xs) (filter (λ x. p (f x)) xs)) ≡ cond b (f x ∷ filter p (map f xs)) (filter p (map f xs))
    by true e = ap (λ ys. f x ∷ ys) e
    by false e = e

filter_short : {X : Type 0} (p : X → Bool) (xs : List X) → length (filter p xs) ≤ length xs
filter_short p [] = omega arith
filter_short p (x ∷ xs) = by (p x) (filter_short p xs)
  where
    by : (b : Bool) → length (filter p xs) ≤ length xs → length (cond b (x ∷ filter p xs) (filter p xs)) ≤ length (x ∷ xs)
    by true h = omega arith
    by false h = omega arith

-- what becomes of a row that stays when another is removed
abbrev pub let_go : ℕ → Row → Row
let_go id row = cond (target_of row == id) (released row) row

pub let_go-id : (id : ℕ) (row : Row) → (let_go id row).id ≡ row.id
let_go-id id row = by (target_of row == id)
  where
    by : (b : Bool) → (cond b (released row) row).id ≡ row.id
    by true = refl
    by false = refl

let_go-health : (id : ℕ) (row : Row) → (let_go id row).health ≡ row.health
let_go-health id row = by (target_of row == id)
  where
    by : (b : Bool) → (cond b (released row) row).health ≡ row.health
    by true = refl
    by false = refl

abbrev pub others : ℕ → Row → Bool
others id row = not (row.id == id)

pub target_of-released : (row : Row) → target_of (released row) ≡ 0
target_of-released row = by row.attack
  where
    by : (a : Option Aim) → unwrap_or (option_map (λ (aim : Aim). aim.target) (option_map (λ (aim : Aim). record aim { target = 0 }) a)) 0 ≡ 0
    by None = refl
    by (Some aim) = refl

-- the ids that stay keep their order
pub removed-ids : (state : State) (id : ℕ) → map id_of (removed id state).rows ≡ filter (λ n. not (n == id)) (map id_of state.rows)
removed-ids state id =
    let left = filter (others id) state.rows in
    map-map (let_go id) id_of left ∙ map_agree (λ (row : Row). (let_go id row).id) id_of left (λ row h. let_go-id id row) ∙
    map-filter id_of (λ n. not (n == id)) state.rows

module _ (least : ℕ) (setup : Setup) (state : State) (id : ℕ) (valid : IsState least setup state) where
  abbrev left : List Row
  left = filter (others id) state.rows

  abbrev rest : List Row
  rest = map (let_go id) left

  still_has_health : (n : ℕ) → (n ≡ id → ⊥) → has_health state.rows n ≡ true → has_health rest n ≡ true
  still_has_health n other h =
      let (row, m, e, k) = of_has_health state.rows n h in
      let passes : others id row ≡ true = rw (ne_eqb row.id id (λ s. other (sym e ∙ s))) refl in
      subst (λ (i : ℕ). has_health rest i ≡ true) (let_go-id id row ∙ e)
      (has_health_of rest (let_go id row) (Has-map (let_go id) left row (Has-filter (others id) state.rows row m passes)) (ap is_some (let_go-health id row) ∙
      k))

  -- a row whose target stays, or that has none, is valid beside the rows that stay
  valid_after : (row : Row) (t : Template) → (target_of row ≡ 0) ⊎ (target_of row ≡ id → ⊥) → IsValidRow least setup state.rows row t
      → IsValidRow least setup rest row t
  valid_after row t elsewhere h = record { at = h.at; owner = h.owner; health = h.health; motion = h.motion; attack = by row.attack t.arms elsewhere h.attack }
    where
      target_kept : (target : ℕ) → (target ≡ 0) ⊎ (target ≡ id → ⊥) → (target ≡ 0) ⊎ ((target ≢ row.id) × IsTrue (has_health state.rows target))
          → (target ≡ 0) ⊎ ((target ≢ row.id) × IsTrue (has_health rest target))
      target_kept target (inl none) v = inl none
      target_kept target (inr other) (inl none) = inl none
      target_kept target (inr other) (inr v) = inr (v.0, still_has_health target other v.1)

      by : (a : Option Aim) (b : Option Arms)
          → (unwrap_or (option_map (λ (aim : Aim). aim.target) a) 0 ≡ 0) ⊎ (unwrap_or (option_map (λ (aim : Aim). aim.target) a) 0 ≡ id → ⊥) →
          Both a b (IsValidAim state.rows row.id) → Both a b (IsValidAim rest row.id)
      by None None e v = tt
      by None (Some arms) e v = absurd v
      by (Some aim) None e v = absurd v
      by (Some aim) (Some arms) e v = record { target = target_kept aim.target e v.target; cooldown = v.cooldown }

  known_after : (row : Row) → Has left row → IsKnownRow least setup rest (let_go id row)
  known_after row h =
      let (m, passes) = Has-of_filter (others id) state.rows row h in
      let (t, e, v) = known_row least setup state.rows row (all_at (IsKnownRow least setup state.rows) state.rows row valid.rows m) in
      cond_both (target_of row == id) (released row) row (IsKnownRow least setup rest)
      (λ same. row_known least setup rest (released row) t e
      (valid_after (released row) t (inl (target_of-released row)) (released_stays least setup state.rows row t v).valid))
      (λ other. row_known least setup rest row t e (valid_after row t (inr (eqb-false (target_of row) id other)) v))

  pub removed_is_state : IsState least setup (removed id state)
  removed_is_state =
      record {
        turn = valid.turn;
        next = valid.next;
        word = valid.word;
        few = omega (arith, valid.few, length-map left (let_go id), filter_short (others id) state.rows);
        ascending = subst IsStrictlyIncreasing (sym (removed-ids state id)) (IsStrictlyIncreasing-filter (λ n. not (n == id)) (map id_of state.rows)
            valid.ascending);
        ids = All-map (λ (r : Row). (2 ≤ r.id) × (r.id < state.next)) (let_go id) left
            (all_from (λ (row : Row). (2 ≤ (let_go id row).id) × ((let_go id row).id < state.next)) left
            (λ row h. let (m, passes) = Has-of_filter (others id) state.rows row h in let b = all_at (λ (r : Row). (2 ≤ r.id) × (r.id < state.next)) state.rows
            row valid.ids m in
            (omega (arith, b.0, let_go-id id row), omega (arith, b.1, let_go-id id row))));
        rows = All-map (IsKnownRow least setup rest) (let_go id) left (all_from (λ (row : Row). IsKnownRow least setup rest (let_go id row)) left known_after);
      }

-- ---- rows are removed one after another

abbrev pub removed_all : State → List ℕ → State
removed_all = fold (λ s id. removed id s)

pub removed_all_is_state : (least : ℕ) (setup : Setup) (ids : List ℕ) (state : State) → IsState least setup state
    → IsState least setup (removed_all state ids)
removed_all_is_state least setup [] state valid = valid
removed_all_is_state least setup (id ∷ ids) state valid = removed_all_is_state least setup ids (removed id state) (removed_is_state least setup state id valid)

pub removed_all-turn : (ids : List ℕ) (state : State) → (removed_all state ids).turn ≡ state.turn
removed_all-turn [] state = refl
removed_all-turn (id ∷ ids) state = removed_all-turn ids (removed id state)

-- where a row that is left comes from
pub record IsLeft (rows : List Row) (ids : List ℕ) (row : Row) : Type 0 where
  pub was : Row
  pub has : Has rows was
  pub id : row.id ≡ was.id
  pub health : row.health ≡ was.health
  pub not_removed : Has ids row.id → ⊥

left_once : (id : ℕ) (state : State) (row : Row) → Has (removed id state).rows row → IsLeft state.rows (id ∷ []) row
left_once id state row h =
    let (was, m, e) = Has-of_map (let_go id) (filter (others id) state.rows) row h in
    let (k, passes) = Has-of_filter (others id) state.rows was m in
    let same : row.id ≡ was.id = ap id_of (sym e) ∙ let_go-id id was in
    record {
      was = was;
      has = k;
      id = same;
      health = ap (λ (r : Row). r.health) (sym e) ∙ let_go-health id was;
      not_removed = ⊎_elim (λ (s : id ≡ row.id). eqb-false was.id id (not-true (was.id == id) passes) (sym same ∙ sym s)) (λ (none : ⊥). none);
    }

pub left_all : (ids : List ℕ) (state : State) (row : Row) → Has (removed_all state ids).rows row → IsLeft state.rows ids row
left_all [] state row h = record { was = row; has = h; id = refl; health = refl; not_removed = λ none. none }
left_all (id ∷ ids) state row h =
    let later = left_all ids (removed id state) row h in
    let once = left_once id state later.was later.has in
    record {
      was = once.was;
      has = once.has;
      id = later.id ∙ once.id;
      health = later.health ∙ once.health;
      not_removed = ⊎_elim (λ (s : id ≡ row.id). once.not_removed (inl (s ∙ later.id))) later.not_removed;
    }

-- ---- those whose health is spent are gone

not_spent : (health most : Option ℤ) → is_spent health ≡ false → Both health most (λ h m. (pos 0 ≤ℤ h) × (h ≤ℤ m))
    → Both health most (λ h m. (pos 1 ≤ℤ h) × (h ≤ℤ m))
not_spent None None e v = tt
not_spent None (Some most) e v = absurd v
not_spent (Some health) None e v = absurd v
not_spent (Some health) (Some most) e v = let low : pos 1 ≤ℤ health = grind (arith, ints) in (low, v.1)

unspent_row : (setup : Setup) (rows : List Row) (row : Row) → is_spent row.health ≡ false → IsKnownRow 0 setup rows row → IsKnownRow 1 setup rows row
unspent_row setup rows row unspent known =
    let (t, e, v) = known_row 0 setup rows row known in
    row_known 1 setup rows row t e
    (record { at = v.at; owner = v.owner; health = not_spent row.health t.health unspent v.health; motion = v.motion; attack = v.attack })

-- the ids of those whose health is spent
abbrev pub spent_ids : State → List ℕ
spent_ids state = map id_of (filter (λ (row : Row). is_spent row.health) state.rows)

module _ (setup : Setup) (state : State) (loose : IsLooselyValid setup state) where
  pub left_valid : IsState 0 setup (gone state)
  left_valid = removed_all_is_state 0 setup (spent_ids state) state loose

  pub unspent : (row : Row) → Has (gone state).rows row → is_spent row.health ≡ false
  unspent row h = by (is_spent row.health) refl (left_all (spent_ids state) state row h)
    where
      by : (b : Bool) → is_spent row.health ≡ b → IsLeft state.rows (spent_ids state) row → b ≡ false
      by false e from = refl
      by true e from =
          let listed : Has (spent_ids state) from.was.id = Has-map id_of (filter (λ (r : Row). is_spent r.health) state.rows) from.was
          (Has-filter (λ (r : Row). is_spent r.health) state.rows from.was from.has (ap is_spent (sym from.health) ∙ e)) in
          absurd (from.not_removed (subst (Has (spent_ids state)) (sym from.id) listed))

  pub gone_is_valid : IsValid setup (gone state)
  gone_is_valid =
      record {
        turn = left_valid.turn;
        next = left_valid.next;
        word = left_valid.word;
        few = left_valid.few;
        ascending = left_valid.ascending;
        ids = left_valid.ids;
        rows = all_from (IsKnownRow 1 setup (gone state).rows) (gone state).rows
            (λ row h. unspent_row setup (gone state).rows row (unspent row h)
            (all_at (IsKnownRow 0 setup (gone state).rows) (gone state).rows row left_valid.rows h));
      }

-- The least member of a list by a key: it is a member, and no member's key comes before its own. Among the members that pass a
-- test which all members before one that passes pass too, it is the least of all, or there is none.

module _ {X : Type 0} (key : X → List ℕ) where
  order : IsStrictWeakOrder (λ (x y : X). is_before (key x) (key y))
  order = ranks_by nat_list_cmp_total key

  -- r is a member, and no member's key comes before its key
  pub record IsLeast (xs : List X) (r : X) : Type 0 where
    pub member : Has xs r
    pub least : (y : X) → Has xs y → is_before (key y) (key r) ≡ false

  itself : (x : X) → is_before (key x) (key x) ≡ false
  itself x = by (is_before (key x) (key x)) refl
    where
      by : (b : Bool) → is_before (key x) (key x) ≡ b → is_before (key x) (key x) ≡ false
      by true e = order.one_way x x e
      by false e = e

  least_from : (best : X) (xs : List X) → (r : X) × (fold (λ b x. Some (lesser_of key b x)) (Some best) xs ≡ Some r) × IsLeast (best ∷ xs) r
  least_from best [] = (best, refl, record { member = inl refl; least = alone })
    where
      alone : (y : X) → (best ≡ y) ⊎ ⊥ → is_before (key y) (key best) ≡ false
      alone y (inl e) = rw (← e) (itself best)
      alone y (inr h) = absurd h
  least_from best (x ∷ xs) = by (is_before (key x) (key best)) refl (least_from x xs) (least_from best xs)
    where
      Result : X → Type 0
      Result b = (r : X) × (fold (λ c y. Some (lesser_of key c y)) (Some b) xs ≡ Some r) × IsLeast (b ∷ xs) r

      by : (b : Bool) → is_before (key x) (key best) ≡ b → Result x → Result best → (r : X)
          × (fold (λ c y. Some (lesser_of key c y)) (Some (cond b x best)) xs ≡ Some r) × IsLeast (best ∷ x ∷ xs) r
      by true e (r, f, l) other = (r, f, record { member = inr l.member; least = all })
        where
          all : (y : X) → Has (best ∷ x ∷ xs) y → is_before (key y) (key r) ≡ false
          all y (inl s) = rw (← s) (order.chain best x r (order.one_way x best e) (l.least x (inl refl)))
          all y (inr m) = l.least y m
      by false e other (r, f, l) = (r, f, record { member = member l.member; least = all })
        where
          member : Has (best ∷ xs) r → Has (best ∷ x ∷ xs) r
          member (inl s) = inl s
          member (inr m) = inr (inr m)

          all : (y : X) → Has (best ∷ x ∷ xs) y → is_before (key y) (key r) ≡ false
          all y (inl s) = l.least y (inl s)
          all y (inr (inl s)) = rw (← s) (order.chain x best r e (l.least best (inl refl)))
          all y (inr (inr m)) = l.least y (inr m)

  pub least_of-cons : (x : X) (xs : List X) → (r : X) × (least_of key (x ∷ xs) ≡ Some r) × IsLeast (x ∷ xs) r
  least_of-cons x xs = least_from x xs

  pub least_of-some : (xs : List X) (r : X) → least_of key xs ≡ Some r → IsLeast xs r
  least_of-some [] r e = absurd (cc)
  least_of-some (x ∷ xs) r e =
      let (s, f, l) = least_from x xs in
      let same : s ≡ r = cc in
      rw same at l

  pub least_of-has : (xs : List X) (x : X) → Has xs x → (r : X) × (least_of key xs ≡ Some r) × IsLeast xs r
  least_of-has [] x h = absurd h
  least_of-has (y ∷ ys) x h = least_from y ys

  -- where a member passes a test, so do all whose keys do not come after its key
  abbrev pub IsDownward : (X → Bool) → Type 0
  IsDownward p = (x y : X) → is_before (key y) (key x) ≡ false → p y ≡ true → p x ≡ true

  module _ (p : X → Bool) (downward : IsDownward p) where
    not_passed : (x y : X) → is_before (key y) (key x) ≡ false → p x ≡ false → p y ≡ false
    not_passed x y e f = by (p y) refl
      where
        by : (b : Bool) → p y ≡ b → p y ≡ false
        by true g = let passes = downward x y e g in absurd (cc)
        by false g = g

    -- the next member where it passes, and where it does not
    takes_next : (best : Option X) (x : X) → p x ≡ true → lesser_of key (option_filter p best) x ≡ lesser_of key best x × (p (lesser_of key best x) ≡ true)
    takes_next None x e = (refl, e)
    takes_next (Some best) x e = by (p best) (is_before (key x) (key best)) refl refl
      where
        by : (b c : Bool) → p best ≡ b → is_before (key x) (key best) ≡ c → lesser_of key (cond b (Some best) None) x ≡ cond c x best
            × (p (cond c x best) ≡ true)
        by true true f g = (ap (λ (d : Bool). cond d x best) g, e)
        by true false f g = (ap (λ (d : Bool). cond d x best) g, f)
        by false true f g = (refl, e)
        by false false f g = let passes = downward best x g e in absurd (cc)

    leaves_next : (best : Option X) (x : X) → p x ≡ false → option_filter p (Some (lesser_of key best x)) ≡ option_filter p best
    leaves_next None x e = ap (λ (b : Bool). cond b (Some x) None) e
    leaves_next (Some best) x e = by (is_before (key x) (key best)) refl
      where
        by : (c : Bool) → is_before (key x) (key best) ≡ c → option_filter p (Some (cond c x best)) ≡ option_filter p (Some best)
        by true f = ap (λ (b : Bool). cond b (Some x) None) e ∙ sym (ap (λ (b : Bool). cond b (Some best) None) (not_passed x best (order.one_way x best f) e))
        by false f = refl

    abbrev step : Option X → X → Option X
    step best x = Some (lesser_of key best x)

    filter_from : (best : Option X) (xs : List X) → fold step (option_filter p best) (filter p xs) ≡ option_filter p (fold step best xs)
    filter_from best [] = refl
    filter_from best (x ∷ xs) = by (p x) refl (λ o. filter_from o xs)
      where
        by : (b : Bool) → p x ≡ b → ((o : Option X) → fold step (option_filter p o) (filter p xs) ≡ option_filter p (fold step o xs))
            → fold step (option_filter p best) (cond b (x ∷ filter p xs) (filter p xs)) ≡ option_filter p (fold step (step best x) xs)
        by true e rest =
            let (same, passes) = takes_next best x e in
            ap (λ (y : X). fold step (Some y) (filter p xs)) same ∙ ap (λ (b : Bool). fold step (cond b (step best x) None) (filter p xs)) (sym passes) ∙
            rest (step best x)
        by false e rest = ap (λ (o : Option X). fold step o (filter p xs)) (sym (leaves_next best x e)) ∙ rest (step best x)

    pub least_of-filter : (xs : List X) → least_of key (filter p xs) ≡ option_filter p (least_of key xs)
    least_of-filter xs = filter_from None xs

-- The phase in which fighters aim keeps a state valid.

-- whom a row sees is another row that has health
seen_is_target : (setup : Setup) (state : State) (row : Row) (arms : Arms) (id : ℕ) → Has (seen setup state row arms) id → IsTarget state.rows row id
seen_is_target setup state row arms id h =
    let (near, other) = Has-of_filter (λ (n : ℕ). not (n == row.id)) (within state row.at arms.vision (enemies_of setup row.owner)) id h in
    let test : Row → Bool = λ (q : Row). is_some q.health && in_mask (enemies_of setup row.owner) q.owner && is_near q.at row.at arms.vision in
    let (q, m, e) = Has-of_map id_of (filter test state.rows) id near in
    let (k, passes) = Has-of_filter test state.rows q m in
    let (first, rest) = and_parts (is_some q.health && in_mask (enemies_of setup row.owner) q.owner) (is_near q.at row.at arms.vision) passes in
    let (some, enemy) = and_parts (is_some q.health) (in_mask (enemies_of setup row.owner) q.owner) first in
    inr (eqb-false id row.id (not-true (id == row.id) other), subst (λ (n : ℕ). has_health state.rows n ≡ true) e (has_health_of state.rows q k some))

pub target_for_is_target : (setup : Setup) (state : State) (row : Row) (arms : Arms) → IsTarget state.rows row (target_for setup state row arms)
target_for_is_target setup state row arms = by (least_of key (choices setup state row arms)) refl
  where
    key : ℕ → List ℕ
    key id = square_to state row id ∷ id ∷ []

    by : (o : Option ℕ) → least_of (λ id. square_to state row id ∷ id ∷ []) (choices setup state row arms) ≡ o → IsTarget state.rows row (unwrap_or o 0)
    by None e = inl refl
    by (Some id) e =
        let chosen = (least_of-some (λ id. square_to state row id ∷ id ∷ []) (choices setup state row arms) id e).member in
        seen_is_target setup state row arms id ((Has-of_filter (may_take state row arms) (seen setup state row arms) id chosen).0)

module _ (least : ℕ) (setup : Setup) (state : State) (valid : IsState least setup state) where
  pub with_releases_is_state : IsState least setup (with_releases setup state)
  with_releases_is_state =
      mapped_is_state least least setup state (λ (row : Row). cond (lets_go setup row (row_of state (target_of row))) (released row) row) valid
      (λ row t h e v. cond_both (lets_go setup row (row_of state (target_of row))) (released row) row (λ (new : Row). Stays least setup state.rows row new t)
      (λ yes. released_stays least setup state.rows row t v) (λ no. same_stays least setup state.rows row t v))

  pub with_targets_is_state : IsState least setup (with_targets setup state)
  with_targets_is_state = mapped_is_state least least setup state (λ (row : Row). looking setup state row (is_idle row) (arms_of setup row)) valid
      (λ row t h e v. by row t v (is_idle row) (arms_of setup row))
    where
      by : (row : Row) (t : Template) → IsValidRow least setup state.rows row t → (idle : Bool) (arms : Option Arms)
          → Stays least setup state.rows row (looking setup state row idle arms) t
      by row t v true (Some arms) = aimed_at_stays least setup state.rows row t v (target_for setup state row arms) (target_for_is_target setup state row arms)
      by row t v true None = same_stays least setup state.rows row t v
      by row t v false arms = same_stays least setup state.rows row t v

pub aimed_is_state : (least : ℕ) (setup : Setup) (state : State) → IsState least setup state → IsState least setup (aimed setup state)
aimed_is_state least setup state valid = with_targets_is_state least setup (with_releases setup state) (with_releases_is_state least setup state valid)
