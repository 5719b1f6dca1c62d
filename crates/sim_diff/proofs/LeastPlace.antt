-- What the definition answers is the least place over every entity and part, and there is one least place at most.
use Rattle.sim_diff.proofs.Common.{ap, arith, Attack, bits, Bool, bytes_eq, bytes_eq-Decides, cases_eq, cases_order, Clock, cond, Decides, difference_in}
use Rattle.sim_diff.proofs.Common.{difference_of, entities, Entity, eq-eqb, eqb-true, false, filter, find, get_or, Has, Has-append_left, Has-append_right}
use Rattle.sim_diff.proofs.Common.{Has-flat_map, Has-map, Has-of_flat_map, Has-of_map, HaveSameBits, Health, id_of, inl, inr, is_before, is_different, IsBefore}
use Rattle.sim_diff.proofs.Common.{IsLeastDifference, key_of, le-ltb, least_of-has, least_of-some, List, lt-ltb, map, Motion, ne_eqb, None, none-some}
use Rattle.sim_diff.proofs.Common.{not-false, not-true, number_of, Option, option_and_then, option_eq, Owner, Part, parts, Place, place_at, places, Position}
use Rattle.sim_diff.proofs.Common.{refl, Row, row_bits, row_of, same_Some, Some, Stance, State, subst, sym, true, true≢false, ℕ, ⊎_elim, [], ◌+◌, ◌<◌, ◌==◌}
use Rattle.{sim_diff.proofs.Common.{◌∙◌, ◌∷◌, ◌≡◌, ◌≢◌, ◌≤◌, ◌⊎◌}, sim_laws.proofs.Validity.{Has-filter, Has-of_filter}}

-- The first part of one entity that differs: all parts before it are the same, and where there is none, all are.

-- ---- the test

equal-decides : (a b : Option (List ℕ)) → Decides (option_eq bytes_eq a b) (a ≡ b)
equal-decides None None = (λ e. refl, λ e. refl)
equal-decides None (Some y) = (λ e. absurd (true≢false (sym e)), λ e. absurd (none-some y e))
equal-decides (Some x) None = (λ e. absurd (true≢false (sym e)), λ e. absurd (none-some x (sym e)))
equal-decides (Some x) (Some y) = (λ e. ap Some ((bytes_eq-Decides x y).0 e), λ e. (bytes_eq-Decides x y).1 (same_Some x y e))

pub different_not_same : (place : Place) → is_different place ≡ true → place.left ≢ place.right
different_not_same place differs same = true≢false (sym ((equal-decides place.left place.right).1 same) ∙ not-true _ differs)

pub not_different_same : (place : Place) → is_different place ≡ false → place.left ≡ place.right
not_different_same place alike = (equal-decides place.left place.right).0 (not-false _ alike)

-- ---- the numbers of the parts

back : (part : Part) → get_or parts (number_of part) Clock ≡ part
back Clock = refl
back Entity = refl
back Position = refl
back Owner = refl
back Health = refl
back Motion = refl
back Attack = refl
back Stance = refl

pub number_of-one : (p q : Part) → number_of p ≡ number_of q → p ≡ q
number_of-one p q e = sym (back p) ∙ ap (λ n. get_or parts n Clock) e ∙ back q

number_of-below : (part : Part) → number_of part < 8
number_of-below Clock = omega arith
number_of-below Entity = omega arith
number_of-below Position = omega arith
number_of-below Owner = omega arith
number_of-below Health = omega arith
number_of-below Motion = omega arith
number_of-below Attack = omega arith
number_of-below Stance = omega arith

-- the parts have their numbers from n on, up to the last
abbrev IsNumbered : ℕ → List Part → Type 0
IsNumbered n [] = n ≡ 8
IsNumbered n (part ∷ more) = (number_of part ≡ n) × IsNumbered (n + 1) more

parts_numbered : IsNumbered 0 parts
parts_numbered = (refl, (refl, (refl, (refl, (refl, (refl, (refl, (refl, refl))))))))

-- ---- the first part

module _ (left right : State) (entity : ℕ) where
  -- a place of this entity that is different, and all parts before it, from number n on, are the same
  pub record IsFirst (n : ℕ) (place : Place) : Type 0 where
    pub is : place ≡ place_at left right entity place.part
    pub different : place.left ≢ place.right
    pub before : (part : Part) → n ≤ number_of part → number_of part < number_of place.part → bits left entity part ≡ bits right entity part

  abbrev pub Finds : ℕ → Option Place → Type 0
  Finds n None = (part : Part) → n ≤ number_of part → bits left entity part ≡ bits right entity part
  Finds n (Some place) = IsFirst n place

  one_more : (n : ℕ) (p : Part) (rest : Option Place) → number_of p ≡ n → bits left entity p ≡ bits right entity p → Finds (n + 1) rest → Finds n rest
  one_more n p None is here more = λ part from. ⊎_elim (λ (e : number_of p ≡ number_of part). ap (bits left entity) (sym (number_of-one p part e)) ∙ here ∙
      ap (bits right entity) (number_of-one p part e)) (λ (up : n + 1 ≤ number_of part). more part up) (here_or_more (number_of p) n (number_of part) is from)
    where
      here_or_more : (a n j : ℕ) → a ≡ n → n ≤ j → (a ≡ j) ⊎ (n + 1 ≤ j)
      here_or_more a n j e f = grind arith
  one_more n p (Some place) is here more = record {
    is = more.is;
    different = more.different;
    before = λ part from below. ⊎_elim (λ (e : number_of p ≡ number_of part). ap (bits left entity) (sym (number_of-one p part e)) ∙ here ∙
        ap (bits right entity) (number_of-one p part e)) (λ (up : n + 1 ≤ number_of part). more.before part up below)
        (here_or_more (number_of p) n (number_of part) is from);
  }
    where
      here_or_more : (a n j : ℕ) → a ≡ n → n ≤ j → (a ≡ j) ⊎ (n + 1 ≤ j)
      here_or_more a n j e f = grind arith

  finds : (n : ℕ) (ps : List Part) → IsNumbered n ps → Finds n (find is_different (map (place_at left right entity) ps))
  finds n [] last = λ part from. absurd (omega (arith, last, number_of-below part))
  finds n (p ∷ ps) (is, more) = by (is_different (place_at left right entity p)) refl (finds (n + 1) ps more)
    where
      rest : Option Place
      rest = find is_different (map (place_at left right entity) ps)

      by : (b : Bool) → is_different (place_at left right entity p) ≡ b → Finds (n + 1) rest → Finds n (cond b (Some (place_at left right entity p)) rest)
      by true differs more = record {
        is = refl;
        different = different_not_same (place_at left right entity p) differs;
        before = λ part from below. absurd (omega arith);
      }
      by false alike more = one_more n p rest is (not_different_same (place_at left right entity p) alike) more

  difference_in-finds : Finds 0 (difference_in left right entity)
  difference_in-finds = finds 0 parts parts_numbered

  pub first-is_first : (place : Place) → Some place ≡ difference_in left right entity → IsFirst 0 place
  first-is_first place e = subst (Finds 0) (sym e) difference_in-finds

  pub no_first-same : None ≡ difference_in left right entity → (part : Part) → bits left entity part ≡ bits right entity part
  no_first-same e part = let all : Finds 0 None = subst (Finds 0) (sym e) difference_in-finds in all part (omega arith)

  alike : (part : Part) → bits left entity part ≡ bits right entity part → is_different (place_at left right entity part) ≡ false
  alike part same = by (is_different (place_at left right entity part)) refl
    where
      by : (b : Bool) → is_different (place_at left right entity part) ≡ b → b ≡ false
      by false e = refl
      by true e = absurd (different_not_same (place_at left right entity part) e same)

  pub same-no_first : ((part : Part) → bits left entity part ≡ bits right entity part) → None ≡ difference_in left right entity
  same-no_first same =
      rw (
        alike Clock (same Clock),
        alike Entity (same Entity),
        alike Position (same Position),
        alike Owner (same Owner),
        alike Health (same Health),
        alike
            Motion (same Motion),
        alike Attack (same Attack),
        alike Stance (same Stance),
      ) refl

-- ---- members

Has-parts : (part : Part) → Has parts part
Has-parts Clock = inl refl
Has-parts Entity = inr (inl refl)
Has-parts Position = inr (inr (inl refl))
Has-parts Owner = inr (inr (inr (inl refl)))
Has-parts Health = inr (inr (inr (inr (inl refl))))
Has-parts Motion = inr (inr (inr (inr (inr (inl refl)))))
Has-parts Attack = inr (inr (inr (inr (inr (inr (inl refl))))))
Has-parts Stance = inr (inr (inr (inr (inr (inr (inr (inl refl)))))))

-- a row that is found has its id among the ids
Has-found : (rows : List Row) (entity : ℕ) (row : Row) → find (λ (row : Row). row.id == entity) rows ≡ Some row → Has (map id_of rows) entity
Has-found [] entity row found = absurd (none-some row found)
Has-found (r ∷ rs) entity row found = by (r.id == entity) refl found (Has-found rs entity row)
  where
    by : (b : Bool) → (r.id == entity) ≡ b → cond b (Some r) (find (λ (row : Row). row.id == entity) rs) ≡ Some row
        → (find (λ (row : Row). row.id == entity) rs ≡ Some row → Has (map id_of rs) entity) → Has (map id_of (r ∷ rs)) entity
    by true e f rest = inl (eqb-true r.id entity e)
    by false e f rest = inr (rest f)

pub bits-row : (state : State) (entity : ℕ) (part : Part) → (entity ≡ 1 → ⊥) → bits state entity part ≡ option_and_then (row_bits part) (row_of state entity)
bits-row state entity part not_clock = rw (ne_eqb entity 1 not_clock) refl

-- an entity of which something differs is among the entities
Has-entity : (left right : State) (entity : ℕ) (part : Part) → bits left entity part ≢ bits right entity part → Has (entities left right) entity
Has-entity left right entity part differs = by_clock (cases_eq entity 1)
  where
    by_rows : (entity ≡ 1 → ⊥) → (l r : Option Row) → row_of left entity ≡ l → row_of right entity ≡ r → Has (entities left right) entity
    by_rows not_clock (Some row) r in_left in_right =
        inr (Has-append_left (map id_of left.rows) (map id_of right.rows) entity (Has-found left.rows entity row in_left))
    by_rows not_clock None (Some row) in_left in_right =
        inr (Has-append_right (map id_of left.rows) (map id_of right.rows) entity (Has-found right.rows entity row in_right))
    by_rows not_clock None None in_left in_right =
        absurd (differs (bits-row left entity part not_clock ∙ ap (option_and_then (row_bits part)) (in_left ∙ sym in_right) ∙
        sym (bits-row right entity part not_clock)))

    by_clock : (entity ≡ 1) ⊎ (entity ≡ 1 → ⊥) → Has (entities left right) entity
    by_clock (inl clock) = inl (sym clock)
    by_clock (inr not_clock) = by_rows not_clock (row_of left entity) (row_of right entity) refl refl

-- a place that is different is among those of which the least is taken
Has-place : (left right : State) (entity : ℕ) (part : Part) → is_different (place_at left right entity part) ≡ true
    → Has (filter is_different (places left right)) (place_at left right entity part)
Has-place left right entity part differs =
    let here = Has-entity left right entity part (different_not_same (place_at left right entity part) differs) in
    let there = Has-map (place_at left right entity) parts part (Has-parts part) in
    Has-filter is_different (places left right) (place_at left right entity part)
    (Has-flat_map (λ (e : ℕ). map (place_at left right e) parts) (entities left right) entity (place_at left right entity part) here there) differs

-- ---- keys

before_keys : (a b c d : ℕ) → (a < c) ⊎ ((a ≡ c) × (b < d)) → is_before (a ∷ b ∷ []) (c ∷ d ∷ []) ≡ true
before_keys a b c d (inl less) = rw (lt-ltb a c less) refl
before_keys a b c d (inr (same, less)) = rw (le-ltb a c (omega arith), eq-eqb a c same, lt-ltb b d less) refl

-- ---- the definition answers the least difference

pub difference_of-some : (left right : State) (place : Place) → difference_of left right ≡ Some place → IsLeastDifference left right place
unfolding difference_of
difference_of-some left right place is =
    let l = least_of-some key_of (filter is_different (places left right)) place is in
    let (among, differs) = Has-of_filter is_different (places left right) place l.member in
    let (entity, in_entities, in_map) = Has-of_flat_map (λ (e : ℕ). map (place_at left right e) parts) (entities left right) place among in
    let (part, in_parts, same) = Has-of_map (place_at left right entity) parts place in_map in
    record {
      in_left = rw (← same) refl;
      in_right = rw (← same) refl;
      different = different_not_same place differs;
      least = λ e p before. alike e p before l.least (is_different (place_at left right e p)) refl;
    }
  where
    alike : (e : ℕ) (p : Part) → IsBefore e p place → ((y : Place) → Has (filter is_different (places left right)) y → is_before (key_of y) (key_of place) ≡
        false) → (b : Bool) → is_different (place_at left right e p) ≡ b → bits left e p ≡ bits right e p
    alike e p before least false same = not_different_same (place_at left right e p) same
    alike e p before least true differs =
        absurd (true≢false (sym (before_keys e (number_of p) place.entity (number_of place.part) before) ∙ least (place_at left right e p)
        (Has-place left right e p differs)))

pub difference_of-none : (left right : State) → difference_of left right ≡ None → HaveSameBits left right
unfolding difference_of
difference_of-none left right is = λ entity part. by entity part (is_different (place_at left right entity part)) refl
  where
    by : (entity : ℕ) (part : Part) (b : Bool) → is_different (place_at left right entity part) ≡ b → bits left entity part ≡ bits right entity part
    by entity part false same = not_different_same (place_at left right entity part) same
    by entity part true differs =
        let (r, some, least) = least_of-has key_of (filter is_different (places left right)) (place_at left right entity part)
        (Has-place left right entity part differs) in
        absurd (none-some r (sym is ∙ some))

-- ---- and there is one at most

not_before : (left right : State) (p q : Place) → IsLeastDifference left right p → IsLeastDifference left right q → IsBefore p.entity p.part q → ⊥
not_before left right p q one other before = one.different (one.in_left ∙ other.least p.entity p.part before ∙ sym one.in_right)

is_place_at : (left right : State) (p : Place) → IsLeastDifference left right p → p ≡ place_at left right p.entity p.part
is_place_at left right p one =
    let first : p ≡ record p { left = bits left p.entity p.part } = ap (λ l. record p { left = l }) one.in_left in
    first ∙ ap (λ r. record p { left = bits left p.entity p.part; right = r }) one.in_right

one_least : (left right : State) (p q : Place) → IsLeastDifference left right p → IsLeastDifference left right q → p ≡ q
one_least left right p q one other =
    let entities_same : p.entity ≡ q.entity = by_entity (cases_order p.entity q.entity) in
    let parts_same : p.part ≡ q.part = number_of-one p.part q.part (by_part entities_same (cases_order (number_of p.part) (number_of q.part))) in
    is_place_at left right p one ∙ ap (λ e. place_at left right e p.part) entities_same ∙ ap (place_at left right q.entity) parts_same ∙
    sym (is_place_at left right q other)
  where
    by_entity : (p.entity ≡ q.entity) ⊎ ((p.entity < q.entity) ⊎ (q.entity < p.entity)) → p.entity ≡ q.entity
    by_entity (inl same) = same
    by_entity (inr (inl less)) = absurd (not_before left right p q one other (inl less))
    by_entity (inr (inr more)) = absurd (not_before left right q p other one (inl more))

    by_part : p.entity ≡ q.entity → (number_of p.part ≡ number_of q.part) ⊎ ((number_of p.part < number_of q.part) ⊎ (number_of q.part < number_of p.part))
        → number_of p.part ≡ number_of q.part
    by_part at (inl same) = same
    by_part at (inr (inl less)) = absurd (not_before left right p q one other (inr (at, less)))
    by_part at (inr (inr more)) = absurd (not_before left right q p other one (inr (sym at, more)))

-- ---- so an answer that is the least difference, or that there is none, is that of the definition

differs_somewhere : (left right : State) (place : Place) → IsLeastDifference left right place → HaveSameBits left right → ⊥
differs_somewhere left right place least same = least.different (least.in_left ∙ same place.entity place.part ∙ sym least.in_right)

pub least-difference_of : (left right : State) (place : Place) → IsLeastDifference left right place → Some place ≡ difference_of left right
least-difference_of left right place least = by (difference_of left right) refl
  where
    by : (o : Option Place) → difference_of left right ≡ o → Some place ≡ o
    by None e = absurd (differs_somewhere left right place least (difference_of-none left right e))
    by (Some other) e = ap Some (one_least left right place other least (difference_of-some left right other e))

pub same-difference_of : (left right : State) → HaveSameBits left right → None ≡ difference_of left right
same-difference_of left right same = by (difference_of left right) refl
  where
    by : (o : Option Place) → difference_of left right ≡ o → None ≡ o
    by None e = refl
    by (Some other) e = absurd (differs_somewhere left right other (difference_of-some left right other e) same)
