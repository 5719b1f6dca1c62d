-- Groups whose keys ascend: where a key stands or belongs, and whose group is found after an edit there.
use Rattle.sim_fact_lists.proofs.Common.{MatchOption, MatchResult, Some, None, Ok, Err, insert, remove, Option, Result, refl, AllPairs-from_increasing, ap}
use Rattle.sim_fact_lists.proofs.Common.{arith, cases_lt, eq-eqb, eqb-true, forgotten, Group, group_with, GroupBelongs, GroupStands, HasPlace, HasRoom, ids_in}
use Rattle.sim_fact_lists.proofs.Common.{inl, inr, IsBinarySearchResult, IsNonDecreasingBy, IsSearchInRange, IsStrictlyIncreasing, key_of, KeysAscend, listed}
use Rattle.sim_fact_lists.proofs.Common.{map-set_same, nat_cmp, nat_tests, ne_eqb, ordering_index, queued, ranked, subst, sym, without_id, without_key, ◌∙◌}
use Rattle.sim_fact_lists.proofs.Common.{◌≡◌, ℕ, zero, suc, ◌+◌, ◌<◌, Bool, true, false, cond, not, List, [], ◌∷◌, map, length, get_or, set, is_ok, ◌==◌}

-- all keys are above a number
abbrev pub Above : ℕ → List Group → Type 0
Above n [] = Unit {0}
Above n (g ∷ groups) = (n < g.key) × Above n groups

-- each key is below all later ones
abbrev pub Rising : List Group → Type 0
Rising [] = Unit {0}
Rising (g ∷ groups) = Above g.key groups × Rising groups

-- ---- the two ways to say that keys ascend

above_by : (n : ℕ) (groups : List Group) → ((k : ℕ) → k < length (map key_of groups) → n < get_or (map key_of groups) k 0) → Above n groups
above_by n [] h = tt
above_by n (g ∷ groups) h = (h zero (omega arith), above_by n groups (λ k lt. h (suc k) (omega arith)))

rising_by : (groups : List Group) → ((i j : ℕ) → i < j → j < length (map key_of groups) → get_or (map key_of groups) i 0 < get_or (map key_of groups) j 0)
    → Rising groups
rising_by [] p = tt
rising_by (g ∷ groups) p = (
  above_by g.key groups (λ k lt. p zero (suc k) (omega arith) (omega arith)),
  rising_by groups (λ i j before within. p (suc i) (suc j) (omega arith) (omega arith)),
)

pub rising : (groups : List Group) → KeysAscend groups → Rising groups
rising groups up = rising_by groups (λ i j before within. AllPairs-from_increasing (map key_of groups) up i j 0 before within)

steps_up : (groups : List Group) → Rising groups → (k : ℕ) → suc k < length (map key_of groups) → get_or (map key_of groups) k 0 < get_or (map key_of groups)
    (suc k) 0
steps_up [] r k lt = absurd (omega arith)
steps_up (f ∷ []) r k lt = absurd (omega arith)
steps_up (f ∷ g ∷ groups) r zero lt = r.0.0
steps_up (f ∷ g ∷ groups) r (suc k) lt = steps_up (g ∷ groups) r.1 k (omega arith)

ascends : (groups : List Group) → Rising groups → KeysAscend groups
ascends groups r k lt =
    let next : suc k ≡ k + 1 = omega arith in
    subst (λ (n : ℕ). get_or (map key_of groups) k 0 < get_or (map key_of groups) n 0) next (steps_up groups r k (omega arith))

above_at : (n : ℕ) (groups : List Group) (k : ℕ) (d : Group) → Above n groups → k < length groups → n < (get_or groups k d).key
above_at n [] k d a lt = absurd (omega arith)
above_at n (g ∷ groups) zero d a lt = a.0
above_at n (g ∷ groups) (suc k) d a lt = above_at n groups k d a.1 (omega arith)

-- ---- what a search by halves answers

rises : (groups : List Group) (i j : ℕ) (d : Group) → Rising groups → i < j → j < length groups → (get_or groups i d).key < (get_or groups j d).key
rises [] i j d r before lt = absurd (omega arith)
rises (g ∷ groups) i zero d r before lt = absurd (omega arith)
rises (g ∷ groups) zero (suc j) d r before lt = above_at g.key groups j d r.0 (omega arith)
rises (g ∷ groups) (suc i) (suc j) d r before lt = rises groups i j d r.1 (omega arith) (omega arith)

comparisons_rise : (groups : List Group) (key : ℕ) → Rising groups → IsNonDecreasingBy (λ (group : Group). ordering_index (nat_cmp group.key key)) groups
comparisons_rise groups key r i j d le lt =
    elim (cases_lt i j) [
      | inl before ↦ (let h = rises groups i j d r before lt in grind (arith, nat_tests))
      | inr same ↦ (let e : i ≡ j = omega arith in rw e (omega arith))
    ]

pub place_by : (groups : List Group) (key : ℕ) (r : Result ℕ ℕ) → KeysAscend groups → IsSearchInRange r (length groups)
    → IsBinarySearchResult (λ (group : Group). nat_cmp group.key key) groups r → MatchResult r (GroupStands groups key) (GroupBelongs groups key)
place_by groups key (Ok at) up within there = record { within = within; same = λ d. ranked _ key _ (sym (there d)) }
place_by groups key (Err at) up within parted =
    let parts = parted (comparisons_rise groups key (rising groups up)) in
    record {
      within = within;
      before = λ k d lt. ranked _ key _ (sym (parts.0 k d (omega arith) lt));
      behind = λ k d le lt. ranked _ key _ (sym (parts.1 k d le lt));
    }

-- ---- the group that is found

next_stands : (g : Group) (groups : List Group) (key at : ℕ) → GroupStands (g ∷ groups) key (suc at) → GroupStands groups key at
next_stands g groups key at s = record { within = omega (arith, s.within); same = λ d. s.same d }

-- the first one is below one that stands later
first_below : (g : Group) (groups : List Group) (key at : ℕ) → Rising (g ∷ groups) → GroupStands (g ∷ groups) key (suc at) → g.key < key
first_below g groups key at r s =
    let there : (get_or groups at g).key ≡ key = s.same g in
    let above : g.key < (get_or groups at g).key = above_at g.key groups at g r.0 (omega (arith, s.within)) in
    omega arith

found_there : (groups : List Group) (key at : ℕ) (d : Group) → Rising groups → GroupStands groups key at → group_with key groups ≡ Some (get_or groups at d)
found_there [] key at d r s = absurd (omega (arith, s.within))
found_there (g ∷ groups) key zero d r s = let here : (g.key == key) ≡ true = eq-eqb g.key key (s.same g) in rw here refl
found_there (g ∷ groups) key (suc at) d r s =
    let less : g.key < key = first_below g groups key at r s in
    let other : (g.key == key) ≡ false = ne_eqb g.key key (λ e. omega arith) in
    rw other (found_there groups key at d r.1 (next_stands g groups key at s))

next_belongs : (g : Group) (groups : List Group) (key at : ℕ) → GroupBelongs (g ∷ groups) key (suc at) → GroupBelongs groups key at
next_belongs g groups key at b = record {
  within = omega (arith, b.within);
  before = λ k d lt. b.before (suc k) d (omega arith);
  behind = λ k d le lt. b.behind (suc k) d (omega arith) (omega arith);
}

all_above : (groups : List Group) (key : ℕ) → GroupBelongs groups key zero → Above key groups
all_above [] key b = tt
all_above (g ∷ groups) key b = (
  b.behind zero g (omega arith) (omega arith),
  all_above groups key (record {
    within = omega arith;
    before = λ k d lt. absurd (omega arith);
    behind = λ k d le lt. b.behind (suc k) d (omega arith) (omega arith);
  }),
)

none_above : (groups : List Group) (key : ℕ) → Above key groups → group_with key groups ≡ None
none_above [] key a = refl
none_above (g ∷ groups) key a = let first : key < g.key = a.0 in let other : (g.key == key) ≡ false = ne_eqb g.key key (λ e. omega arith) in
    rw other (none_above groups key a.1)

none_there : (groups : List Group) (key at : ℕ) → GroupBelongs groups key at → group_with key groups ≡ None
none_there [] key at b = refl
none_there (g ∷ groups) key zero b = none_above (g ∷ groups) key (all_above (g ∷ groups) key b)
none_there (g ∷ groups) key (suc at) b =
    let first : g.key < key = b.before zero g (omega arith) in
    let other : (g.key == key) ≡ false = ne_eqb g.key key (λ e. omega arith) in
    rw other (none_there groups key at (next_belongs g groups key at b))

-- ---- after a write

found_set : (groups : List Group) (key at : ℕ) (new : Group) (k : ℕ) → Rising groups → GroupStands groups key at → new.key ≡ key
    → group_with k (set groups at new) ≡ cond (key == k) (Some new) (group_with k groups)
found_set [] key at new k r s same = absurd (omega (arith, s.within))
found_set (g ∷ groups) key zero new k r s same =
    let new_is : (new.key == k) ≡ (key == k) = ap (λ (n : ℕ). n == k) same in
    let old_is : (g.key == k) ≡ (key == k) = ap (λ (n : ℕ). n == k) (s.same g) in
    rw (new_is, old_is) (by (key == k))
  where
    by : (b : Bool) → cond b (Some new) (group_with k groups) ≡ cond b (Some new) (cond b (Some g) (group_with k groups))
    by true = refl
    by false = refl
found_set (g ∷ groups) key (suc at) new k r s same = ap (λ (o : Option Group). cond (g.key == k) (Some g) o)
    (found_set groups key at new k r.1 (next_stands g groups key at s) same) ∙ by (g.key == k) (key == k) refl refl
  where
    less : g.key < key
    less = first_below g groups key at r s

    by : (b c : Bool) → (g.key == k) ≡ b → (key == k) ≡ c → cond b (Some g) (cond c (Some new) (group_with k groups)) ≡ cond c (Some new)
        (cond b (Some g) (group_with k groups))
    by true true e f = let one = eqb-true g.key k e in let other = eqb-true key k f in absurd (omega (arith, one, other, less))
    by true false e f = refl
    by false true e f = refl
    by false false e f = refl

found_insert : (groups : List Group) (at : ℕ) (new : Group) (k : ℕ) → GroupBelongs groups new.key at → group_with k (insert groups at new) ≡ cond (new.key == k)
    (Some new) (group_with k groups)
found_insert [] zero new k b = refl
found_insert [] (suc at) new k b = absurd (omega (arith, b.within))
found_insert (g ∷ groups) zero new k b = refl
found_insert (g ∷ groups) (suc at) new k b = ap (λ (o : Option Group). cond (g.key == k) (Some g) o)
    (found_insert groups at new k (next_belongs g groups new.key at b)) ∙ by (g.key == k) (new.key == k) refl refl
  where
    less : g.key < new.key
    less = b.before zero g (omega arith)

    by : (b c : Bool) → (g.key == k) ≡ b → (new.key == k) ≡ c → cond b (Some g) (cond c (Some new) (group_with k groups)) ≡ cond c (Some new)
        (cond b (Some g) (group_with k groups))
    by true true e f = let one = eqb-true g.key k e in let other = eqb-true new.key k f in absurd (omega (arith, one, other, less))
    by true false e f = refl
    by false true e f = refl
    by false false e f = refl

-- ---- the keys ascend after a write

ascend_set : (groups : List Group) (key at : ℕ) (new : Group) → KeysAscend groups → GroupStands groups key at → new.key ≡ key → KeysAscend (set groups at new)
ascend_set groups key at new up s same = subst IsStrictlyIncreasing (sym (map-set_same key_of groups at new new (same ∙ sym (s.same new)))) up

above_insert : (n : ℕ) (groups : List Group) (at : ℕ) (new : Group) → n < new.key → Above n groups → Above n (insert groups at new)
above_insert n [] zero new lt a = (lt, tt)
above_insert n [] (suc at) new lt a = (lt, tt)
above_insert n (g ∷ groups) zero new lt a = (lt, a)
above_insert n (g ∷ groups) (suc at) new lt a = (a.0, above_insert n groups at new lt a.1)

rising_insert : (groups : List Group) (at : ℕ) (new : Group) → Rising groups → GroupBelongs groups new.key at → Rising (insert groups at new)
rising_insert [] zero new r b = (tt, tt)
rising_insert [] (suc at) new r b = absurd (omega (arith, b.within))
rising_insert (g ∷ groups) zero new r b = (all_above (g ∷ groups) new.key b, r)
rising_insert (g ∷ groups) (suc at) new r b =
    (above_insert g.key groups at new (b.before zero g (omega arith)) r.0, rising_insert groups at new r.1 (next_belongs g groups new.key at b))

-- ---- the ids of each key, and the room

abbrev Room : Option Group → Type 0
Room o = MatchOption o ⊥ (λ (group : Group). HasPlace group.ids)

pub listed_there : (groups : List Group) (key at : ℕ) (d : Group) → KeysAscend groups → GroupStands groups key at → queued (get_or groups at d).ids ≡
    listed key groups
listed_there groups key at d up s = sym (ap ids_in (found_there groups key at d (rising groups up) s))

pub none_listed : (groups : List Group) (key at : ℕ) → GroupBelongs groups key at → [] ≡ listed key groups
none_listed groups key at b = sym (ap ids_in (none_there groups key at b))

module _ (groups : List Group) (key at : ℕ) (old new : Group) (change : List ℕ → List ℕ) (up : KeysAscend groups) (s : GroupStands groups key at)
    (is : old ≡ get_or groups at old) (same : new.key ≡ old.key) where
  named : new.key ≡ key
  named = same ∙ ap key_of is ∙ s.same old

  found : group_with key groups ≡ Some old
  found = found_there groups key at old (rising groups up) s ∙ ap Some (sym is)

  pub changed_ascend : KeysAscend (set groups at new)
  changed_ascend = ascend_set groups key at new up s named

  -- the ids of the group are changed
  pub changed_listed : queued new.ids ≡ change (queued old.ids) → (k : ℕ) → listed k (set groups at new) ≡ cond (key == k) (change (listed k groups))
      (listed k groups)
  changed_listed made k = ap ids_in (found_set groups key at new k (rising groups up) s named) ∙ by (key == k) refl
    where
      by : (b : Bool) → (key == k) ≡ b → ids_in (cond b (Some new) (group_with k groups)) ≡ cond b (change (listed k groups)) (listed k groups)
      by true e = made ∙ ap change (sym (ap ids_in (subst (λ (n : ℕ). group_with n groups ≡ Some old) (eqb-true key k e) found)))
      by false e = refl

  -- it has as much room as before
  pub changed_room : (HasPlace old.ids → HasPlace new.ids) → (k : ℕ) → HasRoom k groups → HasRoom k (set groups at new)
  changed_room keeps k room = subst Room (sym (found_set groups key at new k (rising groups up) s named)) (by (key == k) refl)
    where
      by : (b : Bool) → (key == k) ≡ b → Room (cond b (Some new) (group_with k groups))
      by true e = keeps (subst Room (subst (λ (n : ℕ). group_with n groups ≡ Some old) (eqb-true key k e) found) room)
      by false e = room

  -- there is room in the group
  pub room_there : HasPlace new.ids → HasRoom key (set groups at new)
  room_there room = subst Room (sym (found_set groups key at new key (rising groups up) s named ∙ ap (λ (b : Bool). cond b (Some new) (group_with key groups))
      (eq-eqb key key refl))) room

  pub room_before : HasRoom key groups → HasPlace old.ids
  room_before room = subst Room found room

-- a group without ids is put in
module _ (groups : List Group) (key at : ℕ) (new : Group) (b : GroupBelongs groups key at) (same : new.key ≡ key) where
  here : GroupBelongs groups new.key at
  here = subst (λ (n : ℕ). GroupBelongs groups n at) (sym same) b

  pub added_listed : queued new.ids ≡ [] → (k : ℕ) → listed k (insert groups at new) ≡ listed k groups
  added_listed none k = ap ids_in (found_insert groups at new k here) ∙ by (new.key == k) refl
    where
      by : (c : Bool) → (new.key == k) ≡ c → ids_in (cond c (Some new) (group_with k groups)) ≡ listed k groups
      by true e = none ∙ subst (λ (n : ℕ). [] ≡ listed n groups) (eqb-true new.key k e) (none_listed groups new.key at here)
      by false e = refl

  pub added_room : HasPlace new.ids → HasRoom key (insert groups at new)
  added_room room = subst Room
      (sym (found_insert groups at new key here ∙ ap (λ (c : Bool). cond c (Some new) (group_with key groups)) (eq-eqb new.key key same))) room

  -- whether there was memory or not
  pub added_ascend : {V E : Type 0} (r : Result V E) (after : List Group) → KeysAscend groups → after ≡ cond (is_ok r) (insert groups at new) groups
      → KeysAscend after
  added_ascend (Ok v) after up is = subst KeysAscend (sym is) (ascends (insert groups at new) (rising_insert groups at new (rising groups up) here))
  added_ascend (Err e) after up is = subst KeysAscend (sym is) up

-- a key without a group has no room
pub no_room : {P : Type 0} (groups : List Group) (key at : ℕ) → GroupBelongs groups key at → HasRoom key groups → P
no_room groups key at b room = absurd (subst Room (none_there groups key at b) room)

-- nor has it an id that could leave
pub nothing_left : (groups : List Group) (key at id : ℕ) → GroupBelongs groups key at → (k : ℕ)
    → listed k groups ≡ cond (key == k) (without_id id (listed k groups)) (listed k groups)
nothing_left groups key at id b k = by (key == k) refl
  where
    by : (c : Bool) → (key == k) ≡ c → listed k groups ≡ cond c (without_id id (listed k groups)) (listed k groups)
    by true e = let none : [] ≡ listed k groups = subst (λ (n : ℕ). [] ≡ listed n groups) (eqb-true key k e) (none_listed groups key at b) in sym none ∙
        ap (without_id id) none
    by false e = refl

-- ---- a group without ids is taken out

above_remove : (n : ℕ) (groups : List Group) (at : ℕ) → Above n groups → Above n (remove groups at)
above_remove n [] zero a = tt
above_remove n [] (suc at) a = tt
above_remove n (g ∷ groups) zero a = a.1
above_remove n (g ∷ groups) (suc at) a = (a.0, above_remove n groups at a.1)

rising_remove : (groups : List Group) (at : ℕ) → Rising groups → Rising (remove groups at)
rising_remove [] zero r = tt
rising_remove [] (suc at) r = tt
rising_remove (g ∷ groups) zero r = r.1
rising_remove (g ∷ groups) (suc at) r = (above_remove g.key groups at r.0, rising_remove groups at r.1)

found_remove : (groups : List Group) (key at k : ℕ) → Rising groups → GroupStands groups key at → group_with k (remove groups at) ≡ cond (key == k) None
    (group_with k groups)
found_remove [] key at k r s = absurd (omega (arith, s.within))
found_remove (g ∷ groups) key zero k r s =
    let old_is : (g.key == k) ≡ (key == k) = ap (λ (n : ℕ). n == k) (s.same g) in
    rw old_is (by (key == k) refl)
  where
    by : (b : Bool) → (key == k) ≡ b → group_with k groups ≡ cond b None (cond b (Some g) (group_with k groups))
    by true e = let is : g.key ≡ k = s.same g ∙ eqb-true key k e in none_above groups k (subst (λ (n : ℕ). Above n groups) is r.0)
    by false e = refl
found_remove (g ∷ groups) key (suc at) k r s = ap (λ (o : Option Group). cond (g.key == k) (Some g) o)
    (found_remove groups key at k r.1 (next_stands g groups key at s)) ∙ by (g.key == k) (key == k) refl refl
  where
    less : g.key < key
    less = first_below g groups key at r s

    by : (b c : Bool) → (g.key == k) ≡ b → (key == k) ≡ c → cond b (Some g) (cond c None (group_with k groups)) ≡ cond c None
        (cond b (Some g) (group_with k groups))
    by true true e f = let one = eqb-true g.key k e in let other = eqb-true key k f in absurd (omega (arith, one, other, less))
    by true false e f = refl
    by false true e f = refl
    by false false e f = refl

pub removed_ascend : (groups : List Group) (at : ℕ) → KeysAscend groups → KeysAscend (remove groups at)
removed_ascend groups at up = ascends (remove groups at) (rising_remove groups at (rising groups up))

pub removed_listed : (groups : List Group) (key at : ℕ) (d : Group) → KeysAscend groups → GroupStands groups key at → queued (get_or groups at d).ids ≡ []
    → (k : ℕ) → listed k (remove groups at) ≡ listed k groups
removed_listed groups key at d up s none k = ap ids_in (found_remove groups key at k (rising groups up) s) ∙ by (key == k) refl
  where
    by : (b : Bool) → (key == k) ≡ b → ids_in (cond b None (group_with k groups)) ≡ listed k groups
    by true e = sym none ∙ listed_there groups key at d up s ∙ ap (λ (n : ℕ). listed n groups) (eqb-true key k e)
    by false e = refl

-- ---- a key without ids is forgotten

without_above : (groups : List Group) (key : ℕ) → Above key groups → without_key key groups ≡ groups
without_above [] key a = refl
without_above (g ∷ groups) key a =
    let first : key < g.key = a.0 in
    let other : (g.key == key) ≡ false = ne_eqb g.key key (λ e. omega arith) in
    rw other (ap (λ (gs : List Group). g ∷ gs) (without_above groups key a.1))

removed_there : (groups : List Group) (key at : ℕ) → Rising groups → GroupStands groups key at → remove groups at ≡ without_key key groups
removed_there [] key at r s = absurd (omega (arith, s.within))
removed_there (g ∷ groups) key zero r s =
    let here : (g.key == key) ≡ true = eq-eqb g.key key (s.same g) in
    rw here (sym (without_above groups key (subst (λ (n : ℕ). Above n groups) (s.same g) r.0)))
removed_there (g ∷ groups) key (suc at) r s =
    let less : g.key < key = first_below g groups key at r s in
    let other : (g.key == key) ≡ false = ne_eqb g.key key (λ e. omega arith) in
    rw other (ap (λ (gs : List Group). g ∷ gs) (removed_there groups key at r.1 (next_stands g groups key at s)))

without_absent : (groups : List Group) (key at : ℕ) → GroupBelongs groups key at → without_key key groups ≡ groups
without_absent [] key at b = refl
without_absent (g ∷ groups) key zero b = without_above (g ∷ groups) key (all_above (g ∷ groups) key b)
without_absent (g ∷ groups) key (suc at) b =
    let first : g.key < key = b.before zero g (omega arith) in
    let other : (g.key == key) ≡ false = ne_eqb g.key key (λ e. omega arith) in
    rw other (ap (λ (gs : List Group). g ∷ gs) (without_absent groups key at (next_belongs g groups key at b)))

-- the key has no group
pub forgotten_absent : (groups : List Group) (key at : ℕ) → GroupBelongs groups key at → groups ≡ forgotten key groups
forgotten_absent groups key at b =
    sym (without_absent groups key at b) ∙ ap (λ (ids : List ℕ). cond (length ids == 0) (without_key key groups) groups) (none_listed groups key at b)

-- whether the key has no id is seen at its group
counted : (groups : List Group) (key at : ℕ) (group : Group) → KeysAscend groups → GroupStands groups key at → group ≡ get_or groups at group
    → (length (listed key groups) == 0) ≡ (length (queued group.ids) == 0)
counted groups key at group up s is = ap (λ (ids : List ℕ). length ids == 0) (sym (ap (λ (g : Group). queued g.ids) is ∙ listed_there groups key at group up s))

-- the group that stands there has no id, and goes
pub forgotten_there : (groups : List Group) (key at : ℕ) (group : Group) → KeysAscend groups → GroupStands groups key at → group ≡ get_or groups at group
    → (length (queued group.ids) == 0) ≡ true → remove groups at ≡ forgotten key groups
forgotten_there groups key at group up s is none =
    removed_there groups key at (rising groups up) s ∙
    sym (ap (λ (b : Bool). cond b (without_key key groups) groups) (counted groups key at group up s is ∙ none))

-- it has one, and stays
pub not_forgotten : (groups : List Group) (key at : ℕ) (group : Group) → KeysAscend groups → GroupStands groups key at → group ≡ get_or groups at group
    → (length (queued group.ids) == 0) ≡ false → groups ≡ forgotten key groups
not_forgotten groups key at group up s is some = sym (ap (λ (b : Bool). cond b (without_key key groups) groups) (counted groups key at group up s is ∙ some))

without_itself : (groups : List Group) (key : ℕ) → group_with key (without_key key groups) ≡ None
without_itself [] key = refl
without_itself (g ∷ groups) key = by (g.key == key) refl (without_itself groups key)
  where
    by : (b : Bool) → (g.key == key) ≡ b → group_with key (without_key key groups) ≡ None
        → group_with key (cond (not b) (g ∷ without_key key groups) (without_key key groups)) ≡ None
    by true e rest = rest
    by false e rest = rw e rest

-- a key that has no id has no group then
pub gone_with_last : (groups : List Group) (key : ℕ) → listed key groups ≡ [] → group_with key (forgotten key groups) ≡ None
gone_with_last groups key none = ap (λ (ids : List ℕ). group_with key (cond (length ids == 0) (without_key key groups) groups)) none ∙ without_itself groups key
