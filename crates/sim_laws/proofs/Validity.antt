-- A valid state is loosely valid, a state stays valid where a row is made, and so the first state of a match is valid.
use Rattle.{sim_base.specs.Limits.{IsFirst, IsRawFrom}, sim_laws.proofs.Common.{Aim, All, All-cons, All-head, All-map, All-nil, All-tail, All-weaker}}
use Rattle.sim_laws.proofs.Common.{and_parts, ap, arith, Arms, Bool, Both, cases_lt, cond, created, eq-eqb, eqb-true, false, filter, find, First, first_state}
use Rattle.sim_laws.proofs.Common.{fold, get_or, has_health, id_of, inl, inr, ints, is_some, IsInside, IsKnownRow, IsLooselyValid, IsSetup, IsState}
use Rattle.sim_laws.proofs.Common.{IsStrictlyIncreasing, IsTemplate, IsTrue, IsValid, IsValidAim, IsValidMotion, IsValidRow, length, length-map, List, map}
use Rattle.sim_laws.proofs.Common.{map-append, MatchOption, new_row, None, Option, option_map, or_cases, or_left, Point, pos, refl, Row, row_of, Setup}
use Rattle.sim_laws.proofs.Common.{slice_get, Some, State, Still, subst, suc, sym, Template, template_of, true, with_new, zero, ℕ, ℤ, ⊎_elim, [], ◌&&◌, ◌++◌}
use Rattle.sim_laws.proofs.{Common.{◌+◌, ◌-◌, ◌<◌, ◌==◌, ◌∙◌, ◌∷◌, ◌≡◌, ◌≢◌, ◌≤ℤ◌, ◌≤◌}, Neighbours.{Has, Has-map}}
use Rattle.std.proofs.{Common.{IfSome, length-append}, lemmas.{Bool.or_right, List.{Elements.All-push, Folds.list_any-append, get_or-append_right}}}
use Rattle.std.{proofs.lemmas.{List.{get_or_append_left, Kept.AllPairs-from_increasing}, Option.slice_get-get_or}, specs.Prelude.AllPairs}

-- Rows of a state: which are among its rows, that their ids are apart, and what is found by an id.

-- ---- members

module _ {X : Type 0} (P : X → Type 0) where
  pub all_at : (xs : List X) (x : X) → All P xs → Has xs x → P x
  all_at [] x all h = absurd h
  all_at (y ∷ ys) x all (inl e) = subst P e (All-head P y ys all)
  all_at (y ∷ ys) x all (inr h) = all_at ys x (All-tail P y ys all) h

  pub all_from : (xs : List X) → ((x : X) → Has xs x → P x) → All P xs
  all_from [] each = All-nil P
  all_from (x ∷ xs) each = All-cons P x xs (each x (inl refl)) (all_from xs (λ y h. each y (inr h)))

-- two functions that agree on the members
pub map_agree : {X Y : Type 0} (f g : X → Y) (xs : List X) → ((x : X) → Has xs x → f x ≡ g x) → map f xs ≡ map g xs
map_agree f g [] each = refl
map_agree f g (x ∷ xs) each =
    let head : f x ≡ g x = each x (inl refl) in
    let tail : map f xs ≡ map g xs = map_agree f g xs (λ y h. each y (inr h)) in
    cc

pub map-map : {X Y Z : Type 0} (f : X → Y) (g : Y → Z) (xs : List X) → map g (map f xs) ≡ map (λ x. g (f x)) xs
map-map f g [] = refl
map-map f g (x ∷ xs) = ap (λ ys. g (f x) ∷ ys) (map-map f g xs)

pub Has-filter : {X : Type 0} (p : X → Bool) (xs : List X) (x : X) → Has xs x → p x ≡ true → Has (filter p xs) x
Has-filter p [] x h e = absurd h
Has-filter p (y ∷ ys) x (inl s) e = let t : p y ≡ true = ap p s ∙ e in rw t (inl s)
Has-filter p (y ∷ ys) x (inr h) e = by (p y) (Has-filter p ys x h e)
  where
    by : (b : Bool) → Has (filter p ys) x → Has (cond b (y ∷ filter p ys) (filter p ys)) x
    by true m = inr m
    by false m = m

pub Has-of_filter : {X : Type 0} (p : X → Bool) (xs : List X) (x : X) → Has (filter p xs) x → Has xs x × (p x ≡ true)
Has-of_filter p [] x h = absurd h
Has-of_filter p (y ∷ ys) x h = by (p y) refl h (Has-of_filter p ys x)
  where
    by : (b : Bool) → p y ≡ b → Has (cond b (y ∷ filter p ys) (filter p ys)) x → (Has (filter p ys) x → Has ys x × (p x ≡ true))
        → Has (y ∷ ys) x × (p x ≡ true)
    by true e (inl s) rest = (inl s, ap p (sym s) ∙ e)
    by true e (inr m) rest = let (k, t) = rest m in (inr k, t)
    by false e m rest = let (k, t) = rest m in (inr k, t)

-- ---- the rows of a valid state

-- a row of a valid state has a template, and is valid as a row of it
pub known_row : (least : ℕ) (setup : Setup) (rows : List Row) (row : Row) → IsKnownRow least setup rows row
    → (t : Template) × (template_of setup row ≡ Some t) × IsValidRow least setup rows row t
known_row least setup rows row h = by (template_of setup row) refl h
  where
    by : (o : Option Template) → template_of setup row ≡ o → MatchOption o ⊥ (IsValidRow least setup rows row)
        → (t : Template) × (template_of setup row ≡ Some t) × IsValidRow least setup rows row t
    by None e h = absurd h
    by (Some t) e h = (t, e, h)

pub row_known : (least : ℕ) (setup : Setup) (rows : List Row) (row : Row) (t : Template) → template_of setup row ≡ Some t
    → IsValidRow least setup rows row t → IsKnownRow least setup rows row
row_known least setup rows row t e h = subst (λ (o : Option Template). MatchOption o ⊥ (IsValidRow least setup rows row)) (sym e) h

-- a row that has health is of a template that has, and the other way round
pub both_same : {X Y : Type 0} (P : X → Y → Type 0) (a : Option X) (b : Option Y) → Both a b P → is_some a ≡ is_some b
both_same P None None h = refl
both_same P None (Some y) h = absurd h
both_same P (Some x) None h = absurd h
both_same P (Some x) (Some y) h = refl

-- ---- ids are apart

-- each row's id is below those of the rows after it
abbrev pub Apart : List Row → Type 0
Apart [] = Unit {0}
Apart (row ∷ rows) = ((q : Row) → Has rows q → row.id < q.id) × Apart rows

apart_by_pairs : (rows : List Row) → AllPairs (λ (a b : ℕ). a < b) (map id_of rows) → Apart rows
apart_by_pairs [] p = tt
apart_by_pairs (row ∷ rows) p = (
  λ q h. all_at (λ (n : ℕ). row.id < n) (map id_of rows) q.id (λ k d within. p zero (suc k) d (omega arith) (omega arith)) (Has-map id_of rows q h),
  apart_by_pairs rows (λ i j d before within. p (suc i) (suc j) d (omega arith) (omega arith)),
)

pub apart : (rows : List Row) → IsStrictlyIncreasing (map id_of rows) → Apart rows
apart rows h = apart_by_pairs rows (AllPairs-from_increasing (map id_of rows) h)

pub same_row : (rows : List Row) (a b : Row) → Apart rows → Has rows a → Has rows b → a.id ≡ b.id → a ≡ b
same_row [] a b apart h k e = absurd h
same_row (row ∷ rows) a b apart (inl s) (inl t) e = sym s ∙ t
same_row (row ∷ rows) a b apart (inl s) (inr t) e = let below = apart.0 b t in let same : row.id ≡ a.id = ap id_of s in absurd (omega (arith, below))
same_row (row ∷ rows) a b apart (inr s) (inl t) e = let below = apart.0 a s in let same : row.id ≡ b.id = ap id_of t in absurd (omega (arith, below))
same_row (row ∷ rows) a b apart (inr s) (inr t) e = same_row rows a b apart.1 s t e

-- ---- what is found

pub find_has : {X : Type 0} (p : X → Bool) (xs : List X) (x : X) → find p xs ≡ Some x → Has xs x × (p x ≡ true)
find_has p [] x e = absurd (cc)
find_has p (y ∷ ys) x e = by (p y) refl e (find_has p ys x)
  where
    by : (b : Bool) → p y ≡ b → cond b (Some y) (find p ys) ≡ Some x → (find p ys ≡ Some x → Has ys x × (p x ≡ true)) → Has (y ∷ ys) x × (p x ≡ true)
    by true t f rest = let same : y ≡ x = cc in (inl same, ap p (sym same) ∙ t)
    by false t f rest = let (k, s) = rest f in (inr k, s)

-- the row that is found by an id is a row with this id
pub found_row : (state : State) (id : ℕ) (row : Row) → row_of state id ≡ Some row → Has state.rows row × (row.id ≡ id)
found_row state id row e = let (h, t) = find_has (λ (r : Row). r.id == id) state.rows row e in (h, eqb-true row.id id t)

pub find_by_id : (rows : List Row) (row : Row) → Apart rows → Has rows row → find (λ (r : Row). r.id == row.id) rows ≡ Some row
find_by_id [] row apart h = absurd h
find_by_id (q ∷ rows) row apart h = by (q.id == row.id) refl h (find_by_id rows row apart.1)
  where
    by : (b : Bool) → (q.id == row.id) ≡ b → Has (q ∷ rows) row → (Has rows row → find (λ (r : Row). r.id == row.id) rows ≡ Some row)
        → cond b (Some q) (find (λ (r : Row). r.id == row.id) rows) ≡ Some row
    by true e m rest = ap Some (same_row (q ∷ rows) q row apart (inl refl) m (eqb-true q.id row.id e))
    by false e (inl s) rest = let same : (q.id == row.id) ≡ true = eq-eqb q.id row.id (ap id_of s) in absurd (cc)
    by false e (inr m) rest = rest m

-- a row is found by its id
pub row_found : (state : State) (row : Row) → Apart state.rows → Has state.rows row → row_of state row.id ≡ Some row
row_found state row apart h = find_by_id state.rows row apart h

-- ---- which ids have health

pub has_health_of : (rows : List Row) (row : Row) → Has rows row → is_some row.health ≡ true → has_health rows row.id ≡ true
has_health_of [] row h e = absurd h
has_health_of (q ∷ rows) row (inl s) e =
    or_left _ _ (subst (λ (r : Row). ((r.id == row.id) && is_some r.health) ≡ true) (sym s) (both (eq-eqb row.id row.id refl) e))
  where
    both : {a b : Bool} → a ≡ true → b ≡ true → (a && b) ≡ true
    both {a} {b} p q = rw (p, q) refl
has_health_of (q ∷ rows) row (inr h) e = or_right _ _ (has_health_of rows row h e)

pub of_has_health : (rows : List Row) (id : ℕ) → has_health rows id ≡ true → (row : Row) × Has rows row × (row.id ≡ id) × (is_some row.health ≡ true)
of_has_health [] id e = absurd (cc)
of_has_health (q ∷ rows) id e = ⊎_elim
    (λ (h : ((q.id == id) && is_some q.health) ≡ true). let (a, b) = and_parts (q.id == id) (is_some q.health) h in (q, inl refl, eqb-true q.id id a, b))
    (λ (h : has_health rows id ≡ true). let (row, m, s, t) = of_has_health rows id h in (row, inr m, s, t))
    (or_cases ((q.id == id) && is_some q.health) (has_health rows id) e)

-- what is said of two parts may be weakened
pub Both-weaker : {X Y : Type 0} (P Q : X → Y → Type 0) → ((x : X) (y : Y) → P x y → Q x y) → (a : Option X) (b : Option Y) → Both a b P → Both a b Q
Both-weaker P Q weaker None None h = h
Both-weaker P Q weaker None (Some y) h = h
Both-weaker P Q weaker (Some x) None h = h
Both-weaker P Q weaker (Some x) (Some y) h = weaker x y h

-- ---- a valid state is loosely valid

row_is_loose : (setup : Setup) (rows : List Row) (row : Row) (t : Template) → IsValidRow 1 setup rows row t → IsValidRow 0 setup rows row t
row_is_loose setup rows row t h =
    record {
      at = h.at;
      owner = h.owner;
      motion = h.motion;
      attack = h.attack;
      health = Both-weaker (λ (x most : ℤ). (pos 1 ≤ℤ x) × (x ≤ℤ most)) (λ (x most : ℤ). (pos 0 ≤ℤ x) × (x ≤ℤ most))
          (λ x most p. (omega (arith, ints, p.0), p.1)) row.health t.health h.health;
    }

known_is_loose : (setup : Setup) (rows : List Row) (row : Row) → IsKnownRow 1 setup rows row → IsKnownRow 0 setup rows row
known_is_loose setup rows row = by (template_of setup row)
  where
    by : (t : Option Template) → MatchOption t ⊥ (IsValidRow 1 setup rows row) → MatchOption t ⊥ (IsValidRow 0 setup rows row)
    by None h = h
    by (Some t) h = row_is_loose setup rows row t h

pub valid_is_loose : (setup : Setup) (state : State) → IsValid setup state → IsLooselyValid setup state
valid_is_loose setup state v =
    record {
      turn = v.turn;
      next = v.next;
      word = v.word;
      few = v.few;
      ascending = v.ascending;
      ids = v.ids;
      rows = All-weaker (IsKnownRow 1 setup state.rows) (IsKnownRow 0 setup state.rows) (known_is_loose setup state.rows) state.rows v.rows;
    }

-- ---- a list that ascends still does with a greater number at its end

pub IsStrictlyIncreasing-push : (xs : List ℕ) (x : ℕ) → IsStrictlyIncreasing xs → All (λ y. y < x) xs → IsStrictlyIncreasing (xs ++ x ∷ [])
IsStrictlyIncreasing-push xs x ascends below k inside = ⊎_elim (among) (at_end) (cases_lt (k + 1) (length xs))
  where
    among : k + 1 < length xs → get_or (xs ++ x ∷ []) k 0 < get_or (xs ++ x ∷ []) (k + 1) 0
    among h = omega (arith, get_or_append_left xs (x ∷ []) 0 k (omega arith), get_or_append_left xs (x ∷ []) 0 (k + 1) h, ascends k h)

    at_end : length xs ≤ k + 1 → get_or (xs ++ x ∷ []) k 0 < get_or (xs ++ x ∷ []) (k + 1) 0
    at_end h =
        let few : k + 1 < length xs + 1 = omega (arith, inside, length-append xs (x ∷ [])) in
        let e : k + 1 ≡ length xs = omega arith in
        let last : get_or (xs ++ x ∷ []) (k + 1) 0 ≡ get_or (x ∷ []) (k + 1 - length xs) 0 = get_or-append_right xs (x ∷ []) (length xs) (k + 1) 0 refl h in
        let zero_th : k + 1 - length xs ≡ 0 = omega arith in
        let is_x : get_or (xs ++ x ∷ []) (k + 1) 0 ≡ x = last ∙ ap (λ (n : ℕ). get_or (x ∷ []) n 0) zero_th in
        omega (arith, get_or_append_left xs (x ∷ []) 0 k (omega arith), below k 0 (omega arith), is_x)

-- ---- a state stays valid where a row is made

has_health-append : (rows more : List Row) (id : ℕ) → has_health rows id ≡ true → has_health (rows ++ more) id ≡ true
has_health-append rows more id h = list_any-append _ rows more ∙ or_left (has_health rows id) (has_health more id) h

aim_stays : (rows more : List Row) (id : ℕ) (aim : Aim) (arms : Arms) → IsValidAim rows id aim arms → IsValidAim (rows ++ more) id aim arms
aim_stays rows more id aim arms h =
    record {
      target = ⊎_elim (λ (none : aim.target ≡ 0). inl none) (λ (other : (aim.target ≢ id) × IsTrue (has_health rows aim.target)). inr
          (other.0, has_health-append rows more aim.target other.1)) h.target;
      cooldown = h.cooldown;
    }

known_stays : (least : ℕ) (setup : Setup) (rows more : List Row) (row : Row) → IsKnownRow least setup rows row → IsKnownRow least setup (rows ++ more) row
known_stays least setup rows more row = by (template_of setup row)
  where
    by : (t : Option Template) → MatchOption t ⊥ (IsValidRow least setup rows row) → MatchOption t ⊥ (IsValidRow least setup (rows ++ more) row)
    by None h = h
    by (Some t) h =
        record {
          at = h.at;
          owner = h.owner;
          health = h.health;
          motion = h.motion;
          attack = Both-weaker (IsValidAim rows row.id) (IsValidAim (rows ++ more) row.id) (aim_stays rows more row.id) row.attack t.arms h.attack;
        }

-- what a new row of a template of the match must be given
pub record MayStand (least : ℕ) (setup : Setup) (p : Point) (owner : ℕ) : Type 0 where
  pub low : least ≤ 1
  pub inside : IsInside setup p
  pub known_owner : owner ≤ setup.players

new_row_is_valid : (least : ℕ) (setup : Setup) (rows : List Row) (id number : ℕ) (p : Point) (owner : ℕ) (t : Template) →
    MayStand least setup p owner → IsTemplate (length setup.templates) t → IsValidRow least setup rows (new_row id number p owner t) t
new_row_is_valid least setup rows id number p owner t may is_template =
    record {
      at = may.inside;
      owner = may.known_owner;
      health = unhurt t.health is_template.health;
      motion = stands t.speed;
      attack = idle t.arms;
    }
  where
    unhurt : (most : Option ℤ) → IfSome most (IsRawFrom 1 1048576000) → Both most most (λ x m. (pos least ≤ℤ x) × (x ≤ℤ m))
    unhurt None h = tt
    unhurt (Some most) h = (omega (arith, ints, h.0, may.low), omega (arith, ints))

    stands : (speed : Option ℤ) → Both (option_map (λ (s : ℤ). Still) speed) speed (λ m s. IsValidMotion setup m)
    stands None = tt
    stands (Some speed) = tt

    idle : (arms : Option Arms) → Both (option_map (λ (a : Arms). record { target = 0; cooldown = 0; hold = false }) arms) arms (IsValidAim rows id)
    idle None = tt
    idle (Some arms) = record { target = inl refl; cooldown = omega arith }

pub with_new_is_valid : (least : ℕ) (setup : Setup) (state : State) (number : ℕ) (p : Point) (owner : ℕ) (t : Template) →
    IsState least setup state → MayStand least setup p owner → slice_get setup.templates number ≡ Some t → IsTemplate (length setup.templates) t →
    length state.rows < 4096 → state.next < 0x20000000 → IsState least setup (with_new number p owner (Some t) state)
with_new_is_valid least setup state number p owner t v may known is_template few room =
    let row = new_row state.next number p owner t in
    let P : Option Template → Type 0 = λ o. MatchOption o ⊥ (IsValidRow least setup (state.rows ++ row ∷ []) row) in
    record {
      turn = v.turn;
      next = (omega (arith, v.next.0), omega arith);
      word = v.word;
      few = omega (arith, length-append state.rows (row ∷ []));
      ascending =
          let Q : List ℕ → Type 0 = IsStrictlyIncreasing in
          subst Q (sym (map-append id_of state.rows (row ∷ [])))
          (IsStrictlyIncreasing-push (map id_of state.rows) state.next v.ascending
          (All-map (λ (n : ℕ). n < state.next) id_of state.rows (All-weaker (λ (r : Row). (2 ≤ r.id) × (r.id < state.next)) (λ (r : Row). r.id < state.next)
          (λ r h. h.1) state.rows v.ids)));
      ids = All-push (λ (r : Row). (2 ≤ r.id) × (r.id < state.next + 1)) state.rows row
          (All-weaker (λ (r : Row). (2 ≤ r.id) × (r.id < state.next)) (λ (r : Row). (2 ≤ r.id) × (r.id < state.next + 1)) (λ r h. (h.0, omega (arith, h.1)))
          state.rows v.ids)
          (v.next.0, omega arith);
      rows = All-push (IsKnownRow least setup (state.rows ++ row ∷ [])) state.rows row
          (All-weaker (IsKnownRow least setup state.rows) (IsKnownRow least setup (state.rows ++ row ∷ [])) (known_stays least setup state.rows (row ∷ []))
          state.rows v.rows)
          (subst P (sym known) (new_row_is_valid least setup (state.rows ++ row ∷ []) state.next number p owner t may is_template));
    }

-- ---- the first state is valid

abbrev make : Setup → State → First → State
make setup state first = created setup state first.template first.at first.owner

-- so many entities were made: the state is valid, and its next id is 2 and their number
record IsMade (setup : Setup) (n : ℕ) (state : State) : Type 0 where
  valid : IsValid setup state
  next : state.next ≡ n + 2
  rows : length state.rows ≡ n

made_more : (setup : Setup) → IsSetup setup → (n : ℕ) → n < 4096 → (state : State) → IsMade setup n state → (first : First) → IsFirst setup first
    → IsMade setup (n + 1) (make setup state first)
made_more setup limits n few state made first is_first =
    let t = get_or setup.templates first.template nobody in
    let known : slice_get setup.templates first.template ≡ Some t = slice_get-get_or setup.templates first.template nobody is_first.template in
    let P : Option Template → Type 0 = λ o. IsMade setup (n + 1) (with_new first.template first.at first.owner o state) in
    subst P (sym known) (record {
      valid = with_new_is_valid 1 setup state first.template first.at first.owner t made.valid
          (record { low = omega arith; inside = is_first.at; known_owner = is_first.owner }) known (limits.templates first.template nobody is_first.template)
          (omega (arith, made.rows)) (omega (arith, made.next));
      next = omega (arith, made.next);
      rows = length-append state.rows (new_row state.next first.template first.at first.owner t ∷ []) ∙ ap (λ (k : ℕ). k + 1) made.rows;
    })
  where
    nobody : Template
    nobody = record { name = []; health = None; resist = record { hack = 0; pierce = 0; crush = 0 }; speed = None; obstruct = None; arms = None; train = None }

all_made : (setup : Setup) → IsSetup setup → (firsts : List First) → All (IsFirst setup) firsts → (n : ℕ) → n + length firsts ≤ 4096 → (state : State)
    → IsMade setup n state →
    IsValid setup (fold (make setup) state firsts)
all_made setup limits [] good n few state made = made.valid
all_made setup limits (first ∷ firsts) good n few state made =
    all_made setup limits firsts (All-tail (IsFirst setup) first firsts good) (n + 1) (omega arith) (make setup state first)
    (made_more setup limits n (omega arith) state made first (All-head (IsFirst setup) first firsts good))

pub first_state_is_valid : (setup : Setup) → IsSetup setup → IsValid setup (first_state setup)
first_state_is_valid setup limits =
    all_made setup limits setup.first limits.first 0 (omega (arith, limits.few_first)) (record { turn = 0; next = 2; word = setup.seed; rows = [] })
    (record {
      valid = record {
        turn = omega arith;
        next = (omega arith, omega arith);
        word = limits.seed;
        few = omega arith;
        ascending = λ k h. absurd (omega arith);
        ids = λ k d h. absurd (omega arith);
        rows = λ k d h. absurd (omega arith);
      };
      next = refl;
      rows = refl;
    })

-- A state stays valid where each row is changed for itself and is still a valid row of its template.

-- a row beside what it was, a row of template t: it is the same entity, and still a valid row of t
pub record Stays (least : ℕ) (setup : Setup) (rows : List Row) (row new : Row) (t : Template) : Type 0 where
  pub id : new.id ≡ row.id
  pub template : new.template ≡ row.template
  pub valid : IsValidRow least setup rows new t

-- a row is valid beside other rows where the same ids have health
pub valid_beside : (least : ℕ) (setup : Setup) (rows more : List Row) → ((id : ℕ) → has_health rows id ≡ true → has_health more id ≡ true) →
    (row : Row) (t : Template) → IsValidRow least setup rows row t → IsValidRow least setup more row t
valid_beside least setup rows more kept row t h =
    record {
      at = h.at;
      owner = h.owner;
      health = h.health;
      motion = h.motion;
      attack = Both-weaker (IsValidAim rows row.id) (IsValidAim more row.id) aim_kept row.attack t.arms h.attack;
    }
  where
    aim_kept : (aim : Aim) (arms : Arms) → IsValidAim rows row.id aim arms → IsValidAim more row.id aim arms
    aim_kept aim arms v =
        record {
          target = ⊎_elim (λ (none : aim.target ≡ 0). inl none) (λ (other : (aim.target ≢ row.id) × IsTrue (has_health rows aim.target)). inr
              (other.0, kept aim.target other.1)) v.target;
          cooldown = v.cooldown;
        }

module _ (old least : ℕ) (setup : Setup) (state : State) (f : Row → Row) where
  -- each row of the state is the same entity after f, and valid beside the rows before
  abbrev pub EachStays : Type 0
  EachStays = (row : Row) (t : Template) → Has state.rows row → template_of setup row ≡ Some t → IsValidRow old setup state.rows row t
      → Stays least setup state.rows row (f row) t

  module _ (valid : IsState old setup state) (each : EachStays) where
    stays : (row : Row) → Has state.rows row
        → (t : Template) × (template_of setup row ≡ Some t) × IsValidRow old setup state.rows row t × Stays least setup state.rows row (f row) t
    stays row h =
        let (t, e, v) = known_row old setup state.rows row (all_at (IsKnownRow old setup state.rows) state.rows row valid.rows h) in
        (t, e, v, each row t h e v)

    same_ids : map id_of (map f state.rows) ≡ map id_of state.rows
    same_ids = map-map f id_of state.rows ∙ map_agree (λ (row : Row). (f row).id) id_of state.rows (λ row h. let (t, e, v, s) = stays row h in s.id)

    kept_health : (id : ℕ) → has_health state.rows id ≡ true → has_health (map f state.rows) id ≡ true
    kept_health id h =
        let (row, m, e, k) = of_has_health state.rows id h in
        let (t, known, v, s) = stays row m in
        let some : is_some (f row).health ≡ true = both_same _ (f row).health t.health s.valid.health ∙ sym (both_same _ row.health t.health v.health) ∙ k in
        subst (λ (n : ℕ). has_health (map f state.rows) n ≡ true) (s.id ∙ e) (has_health_of (map f state.rows) (f row) (Has-map f state.rows row m) some)

    pub mapped_is_state : IsState least setup (record state { rows = map f state.rows })
    mapped_is_state =
        record {
          turn = valid.turn;
          next = valid.next;
          word = valid.word;
          few = omega (arith, valid.few, length-map state.rows f);
          ascending = subst IsStrictlyIncreasing (sym same_ids) valid.ascending;
          ids = All-map (λ (r : Row). (2 ≤ r.id) × (r.id < state.next)) f state.rows
              (all_from (λ (row : Row). (2 ≤ (f row).id) × ((f row).id < state.next)) state.rows
              (λ row h. let (t, e, v, s) = stays row h in let b = all_at (λ (r : Row). (2 ≤ r.id) × (r.id < state.next)) state.rows row valid.ids h in
              (omega (arith, b.0, s.id), omega (arith, b.1, s.id))));
          rows = All-map (IsKnownRow least setup (map f state.rows)) f state.rows (all_from (λ (row : Row). IsKnownRow least setup (map f state.rows) (f row))
              state.rows is_known);
        }
      where
        is_known : (row : Row) → Has state.rows row → IsKnownRow least setup (map f state.rows) (f row)
        is_known row h =
            let (t, e, v, s) = stays row h in
            row_known least setup (map f state.rows) (f row) t (ap (λ (n : ℕ). slice_get setup.templates n) s.template ∙ e)
            (valid_beside least setup state.rows (map f state.rows) kept_health (f row) t s.valid)
