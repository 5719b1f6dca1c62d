-- The pass over two lists of marks gives the changes of each id, ascending.
use Rattle.sim_base.specs.{declared.state.{Row.Row, State.State}, Rows.id_of}
use Rattle.sim_trail.specs.{declared.{mark.Mark.Mark, shift.Shift.Shift}, Merge.{behind, first_of, next_id}, Shifts.{born, change_of, end_of, gone, id_of_mark}}
use Rattle.sim_trail.specs.Shifts.{IsAscending, mark_at, mark_of, marks_of, same_mark, shifts_between, SumFollows, weight_born, weight_gone}
use Rattle.std.proofs.Common.{add-one, add-zero, ap, append_assoc, arith, Bool, cond, eqb, false, get_or, length, List, map, max, min, None, Option, refl, Some}
use Rattle.std.proofs.Common.{subst, suc, sym, true, zero, ℕ, ⊎_elim, [], ◌++◌, ◌+◌, ◌<◌, ◌∙◌, ◌∷◌, ◌≡◌, ◌≤◌}
use Rattle.std.proofs.{lemmas.{Bool.{and_parts, eq-eqb, eqb-true, ne_eqb, true≢false}, List.Sums.{sum_by-append, sum_by-cons}}, Math.Nat.eq-or-lt_of_le}
use Rattle.std.specs.List.{flat_map, fold, range_with_len, Sorted.IsStrictlyIncreasing, sum_by}

-- Marks whose ids rise from a number on, by recursion on the marks, and the mark of an id among them.

-- the ids rise, from n on
abbrev pub RisingFrom : ℕ → List Mark → Type 0
RisingFrom n [] = Unit {0}
RisingFrom n (mark ∷ marks) = (n ≤ mark.id) × RisingFrom (mark.id + 1) marks

-- each id is below n
abbrev pub Below : ℕ → List Mark → Type 0
Below n [] = Unit {0}
Below n (mark ∷ marks) = (mark.id < n) × Below n marks

-- ---- ascending marks rise

rising_by : (n : ℕ) (marks : List Mark) → ((d : Mark) → 0 < length marks → n ≤ (get_or marks 0 d).id)
    → ((k : ℕ) → suc k < length (map id_of_mark marks) → get_or (map id_of_mark marks) k 0 < get_or (map id_of_mark marks) (suc k) 0) → RisingFrom n marks
rising_by n [] first up = tt
rising_by n (mark ∷ []) first up = (first mark (omega arith), tt)
rising_by n (mark ∷ (next ∷ marks)) first up = (
  first mark (omega arith),
  rising_by (mark.id + 1) (next ∷ marks) (λ d lt. let step : mark.id < next.id = up 0 (omega arith) in omega arith) (λ k lt. up (suc k) (omega arith)),
)

pub rising : (marks : List Mark) → IsAscending marks → RisingFrom 0 marks
rising marks up = rising_by 0 marks (λ d lt. omega arith) (λ k lt. rw add-one at (up k (omega arith)))

pub rising_less : (n m : ℕ) (marks : List Mark) → m ≤ n → RisingFrom n marks → RisingFrom m marks
rising_less n m [] le up = tt
rising_less n m (mark ∷ marks) le up = (omega arith, up.1)

-- ---- the greatest id

end_from : (n : ℕ) (marks : List Mark) → n ≤ fold (λ (end : ℕ) (mark : Mark). max end (mark.id + 1)) n marks
end_from n [] = omega arith
end_from n (mark ∷ marks) = omega (arith, end_from (max n (mark.id + 1)) marks)

below_from : (n end : ℕ) (marks : List Mark) → fold (λ (end : ℕ) (mark : Mark). max end (mark.id + 1)) n marks ≤ end → Below end marks
below_from n end [] le = tt
below_from n end (mark ∷ marks) le = (omega (arith, end_from (max n (mark.id + 1)) marks, le), below_from (max n (mark.id + 1)) end marks le)

pub below_end : (marks : List Mark) (end : ℕ) → end_of marks ≤ end → Below end marks
below_end marks end le = below_from 0 end marks le

-- ---- the mark of an id

pub absent : (n id : ℕ) (marks : List Mark) → id < n → RisingFrom n marks → mark_at marks id ≡ None
absent n id [] lt up = refl
absent n id (mark ∷ marks) lt up = rw (ne_eqb mark.id id (omega arith)) (absent (mark.id + 1) id marks (omega arith) up.1)

-- what stands behind an id has none of it, and all others
pub behind_rises : (id : ℕ) (marks : List Mark) → RisingFrom id marks → RisingFrom (id + 1) (behind id marks)
behind_rises id [] up = tt
behind_rises id (mark ∷ marks) up = by (eqb mark.id id) refl
  where
    by : (b : Bool) → eqb mark.id id ≡ b → RisingFrom (id + 1) (cond b marks (mark ∷ marks))
    by true e = rising_less (mark.id + 1) (id + 1) marks (omega (arith, eqb-true mark.id id e)) up.1
    by false e = (more e, up.1)
      where
        more : eqb mark.id id ≡ false → id + 1 ≤ mark.id
        more e = let other : mark.id ≡ id → ⊥ = λ h. cc (eq-eqb mark.id id h) in omega (arith, up.0)

pub behind_below : (id n : ℕ) (marks : List Mark) → Below n marks → Below n (behind id marks)
behind_below id n [] below = tt
behind_below id n (mark ∷ marks) below = by (eqb mark.id id)
  where
    by : (b : Bool) → Below n (cond b marks (mark ∷ marks))
    by true = below.1
    by false = below

pub behind_same : (id other : ℕ) (marks : List Mark) → (other ≡ id → ⊥) → mark_at (behind id marks) other ≡ mark_at marks other
behind_same id other [] ne = refl
behind_same id other (mark ∷ marks) ne = by (eqb mark.id id) refl
  where
    by : (b : Bool) → eqb mark.id id ≡ b → mark_at (cond b marks (mark ∷ marks)) other ≡ mark_at (mark ∷ marks) other
    by true e = let same : mark.id ≡ id = eqb-true mark.id id e in rw (ne_eqb mark.id other (λ h. ne (sym h ∙ same))) refl
    by false e = refl

pub first_is : (id : ℕ) (marks : List Mark) → RisingFrom id marks → first_of id marks ≡ mark_at marks id
first_is id [] up = refl
first_is id (mark ∷ marks) up = by (eqb mark.id id) refl
  where
    by : (b : Bool) → eqb mark.id id ≡ b → cond b (Some mark) None ≡ cond b (Some mark) (mark_at marks id)
    by true e = refl
    by false e = sym (absent (mark.id + 1) id marks (omega (arith, up.0)) up.1)

-- ---- the marks of a state

ids_same : (rows : List Row) → map id_of_mark (map mark_of rows) ≡ map id_of rows
ids_same [] = refl
ids_same (row ∷ rows) = ap (λ (ids : List ℕ). row.id ∷ ids) (ids_same rows)

pub marks_ascend : (state : State) → IsStrictlyIncreasing (map id_of state.rows) → IsAscending (marks_of state)
marks_ascend state up = subst IsStrictlyIncreasing (sym (ids_same state.rows)) up

-- the change of an id
abbrev pub change_at : List Mark → List Mark → ℕ → List Shift
change_at old new id = change_of (mark_at old id) (mark_at new id)

-- the changes of so many ids from one on
abbrev pub changes : List Mark → List Mark → ℕ → ℕ → List Shift
changes old new from count = flat_map (change_at old new) (range_with_len from count)

-- ---- lists in pieces

module _ {X : Type 0} (f g : ℕ → List X) where
  pub same_pieces : (from count : ℕ) → ((id : ℕ) → from ≤ id → f id ≡ g id) → flat_map f (range_with_len from count) ≡ flat_map g (range_with_len from count)
  same_pieces from zero same = refl
  same_pieces from (suc count) same = let h = same from (omega arith) in let t = same_pieces (from + 1) count (λ id le. same id (omega arith)) in cc

  pub no_pieces : (from count : ℕ) → ((id : ℕ) → f id ≡ []) → flat_map f (range_with_len from count) ≡ []
  no_pieces from zero none = refl
  no_pieces from (suc count) none = rw (none from) (no_pieces (from + 1) count none)

  -- the piece of one id, before which there is none, stands in front
  pub first_piece : (from count id : ℕ) → from ≤ id → id < from + count → ((k : ℕ) → k < id → f k ≡ []) → g id ≡ [] → ((k : ℕ) → (k ≡ id → ⊥) → f k ≡ g k) →
      flat_map f (range_with_len from count) ≡ f id ++ flat_map g (range_with_len from count)
  first_piece from zero id le lt none gone same = absurd (omega arith)
  first_piece from (suc count) id le lt none gone same =
      ⊎_elim here (λ lower. later lower (first_piece (from + 1) count id (omega arith) (omega arith) none gone same)) (eq-or-lt_of_le le)
    where
      here : from ≡ id → f from ++ flat_map f (range_with_len (from + 1) count) ≡ f id ++ (g from ++ flat_map g (range_with_len (from + 1) count))
      here e =
          let rest = same_pieces (from + 1) count (λ k above. same k (λ h. omega arith)) in
          let first = ap f e in
          let empty = ap g e ∙ gone in
          rw empty cc

      later : from < id → flat_map f (range_with_len (from + 1) count) ≡ f id ++ flat_map g (range_with_len (from + 1) count)
          → f from ++ flat_map f (range_with_len (from + 1) count) ≡ f id ++ (g from ++ flat_map g (range_with_len (from + 1) count))
      later lower more =
          let empty = none from lower in
          let empty' = sym (same from (λ h. omega arith)) ∙ empty in
          rw (empty, empty') more

-- ---- one step

-- the walk stands before these marks: those of the ids below the end, of which the changes of all were not yet told
pub record Walks (end : ℕ) (old new olds news : List Mark) (shifts : List Shift) : Type 0 where
  pub olds_rise : RisingFrom 0 olds
  pub news_rise : RisingFrom 0 news
  pub olds_below : Below end olds
  pub news_below : Below end news
  pub told : shifts ++ changes olds news 0 end ≡ changes old new 0 end

pub begins : (old new : List Mark) → IsAscending old → IsAscending new → Walks (max (end_of old) (end_of new)) old new old new []
begins old new up up' = record {
  olds_rise = rising old up;
  news_rise = rising new up';
  olds_below = below_end old _ (omega arith);
  news_below = below_end new _ (omega arith);
  told = refl;
}

-- the next id is at most each of the ids, and below the end
next_rises : (id : ℕ) (olds news : List Mark) → next_id olds news ≡ Some id → RisingFrom 0 olds → RisingFrom 0 news → RisingFrom id olds × RisingFrom id news
next_rises id [] [] e up up' = (tt, tt)
next_rises id (old ∷ olds) [] e up up' = let is : old.id ≡ id = cc in ((omega arith, up.1), tt)
next_rises id [] (new ∷ news) e up up' = let is : new.id ≡ id = cc in (tt, (omega arith, up'.1))
next_rises id (old ∷ olds) (new ∷ news) e up up' = let is : min old.id new.id ≡ id = cc in ((omega arith, up.1), (omega arith, up'.1))

next_below : (id end : ℕ) (olds news : List Mark) → next_id olds news ≡ Some id → Below end olds → Below end news → id < end
next_below id end [] [] e below below' = cc
next_below id end (old ∷ olds) [] e below below' = let is : old.id ≡ id = cc in omega (arith, below.0)
next_below id end [] (new ∷ news) e below below' = let is : new.id ≡ id = cc in omega (arith, below'.0)
next_below id end (old ∷ olds) (new ∷ news) e below below' = let is : min old.id new.id ≡ id = cc in omega (arith, below.0, below'.0)

same_ids : (old old' new new' : Option Mark) → old ≡ old' → new ≡ new' → change_of old new ≡ change_of old' new'
same_ids old old' new new' e e' = λ i. change_of (e i) (e' i)

pub goes_on : (end id : ℕ) (old new olds news : List Mark) (told : List Shift) → next_id olds news ≡ Some id → Walks end old new olds news told →
    Walks end old new (behind id olds) (behind id news) (told ++ change_of (first_of id olds) (first_of id news))
goes_on end id old new olds news told next w =
    let up = next_rises id olds news next w.olds_rise w.news_rise in
    let below = next_below id end olds news next w.olds_below w.news_below in
    let later = behind_rises id olds up.0 in
    let later' = behind_rises id news up.1 in
    let none : (k : ℕ) → k < id → change_at olds news k ≡ [] = λ k lt. same_ids _ None _ None (absent id k olds lt up.0) (absent id k news lt up.1) in
    let gone : change_at (behind id olds) (behind id news) id ≡ [] = same_ids _ None _ None (absent (id + 1) id (behind id olds) (omega arith) later)
    (absent (id + 1) id (behind id news) (omega arith) later') in
    let same : (k : ℕ) → (k ≡ id → ⊥) → change_at olds news k ≡ change_at (behind id olds) (behind id news) k =
    λ k ne. same_ids _ _ _ _ (sym (behind_same id k olds ne)) (sym (behind_same id k news ne)) in
    let first : changes olds news 0 end ≡ change_at olds news id ++ changes (behind id olds) (behind id news) 0 end =
    first_piece (change_at olds news) (change_at (behind id olds) (behind id news)) 0 end id (omega arith) (omega arith) none gone same in
    let here : change_of (first_of id olds) (first_of id news) ≡ change_at olds news id = same_ids _ _ _ _ (first_is id olds up.0) (first_is id news up.1) in
    record {
      olds_rise = rising_less (id + 1) 0 (behind id olds) (omega arith) later;
      news_rise = rising_less (id + 1) 0 (behind id news) (omega arith) later';
      olds_below = behind_below id end olds w.olds_below;
      news_below = behind_below id end news w.news_below;
      told =
          append_assoc told (change_of (first_of id olds) (first_of id news)) (changes (behind id olds) (behind id news) 0 end)
          ∙ ap (λ (s : List Shift). told ++ (s ++ changes (behind id olds) (behind id news) 0 end)) here
          ∙ ap (λ (s : List Shift). told ++ s) (sym first)
          ∙ w.told;
    }

append_none : {X : Type 0} (xs : List X) → xs ++ [] ≡ xs
append_none [] = refl
append_none (x ∷ xs) = ap (λ (ys : List _). x ∷ ys) (append_none xs)

at_end : (olds news : List Mark) → next_id olds news ≡ None → (olds ≡ []) × (news ≡ [])
at_end [] [] e = (refl, refl)
at_end (old ∷ olds) [] e = absurd (cc)
at_end [] (new ∷ news) e = absurd (cc)
at_end (old ∷ olds) (new ∷ news) e = absurd (cc)

pub ends : (old new olds news : List Mark) (told : List Shift) → next_id olds news ≡ None → Walks (max (end_of old) (end_of new)) old new olds news told
    → told ≡ shifts_between old new
unfolding shifts_between
ends old new olds news told none w =
    let done = at_end olds news none in
    let rest : changes olds news 0 (max (end_of old) (end_of new)) ≡ [] =
    (λ i. changes (done.0 i) (done.1 i) 0 (max (end_of old) (end_of new))) ∙ no_pieces (change_at [] []) (change_at [] []) 0 (max (end_of old) (end_of new))
    (λ id. refl) in
    sym (append_none told) ∙ ap (λ (s : List Shift). told ++ s) (sym rest) ∙ w.told

-- a mark of the next id is left behind
fewer : (id : ℕ) (mark : Mark) (marks : List Mark) → (length (behind id (mark ∷ marks)) ≤ length (mark ∷ marks))
    × (mark.id ≡ id → length (behind id (mark ∷ marks)) < length (mark ∷ marks))
fewer id mark marks = by (eqb mark.id id) refl
  where
    by : (b : Bool) → eqb mark.id id ≡ b → (length (cond b marks (mark ∷ marks)) ≤ length (mark ∷ marks))
        × (mark.id ≡ id → length (cond b marks (mark ∷ marks)) < length (mark ∷ marks))
    by true e = (omega arith, λ h. omega arith)
    by false e = (omega arith, λ h. absurd (true≢false (sym (eq-eqb mark.id id h) ∙ e)))

pub fewer_left : (id : ℕ) (olds news : List Mark) → next_id olds news ≡ Some id → length (behind id olds) + length (behind id news) < length olds + length news
fewer_left id [] [] e = cc
fewer_left id (old ∷ olds) [] e = let is : old.id ≡ id = cc in omega (arith, (fewer id old olds).1 is)
fewer_left id [] (new ∷ news) e = let is : new.id ≡ id = cc in omega (arith, (fewer id new news).1 is)
fewer_left id (old ∷ olds) (new ∷ news) e =
    let is : min old.id new.id ≡ id = cc in
    let f = fewer id old olds in
    let g = fewer id new news in
    by (eqb old.id id) refl is f g
  where
    by : (b : Bool) → eqb old.id id ≡ b → min old.id new.id ≡ id →
        (length (behind id (old ∷ olds)) ≤ length (old ∷ olds)) × (old.id ≡ id → length (behind id (old ∷ olds)) < length (old ∷ olds)) →
        (length (behind id (new ∷ news)) ≤ length (new ∷ news)) × (new.id ≡ id → length (behind id (new ∷ news)) < length (new ∷ news)) →
        length (behind id (old ∷ olds)) + length (behind id (new ∷ news)) < length (old ∷ olds) + length (new ∷ news)
    by true e is f g = omega (arith, f.1 (eqb-true old.id id e), g.0)
    by false e is f g = let ne : old.id ≡ id → ⊥ = λ h. true≢false (sym (eq-eqb old.id id h) ∙ e) in omega (arith, f.0, g.1 (omega arith))

-- ---- nothing has changed

same_as_itself : (m : Mark) → same_mark m m ≡ true
same_as_itself m = rw (
  eq-eqb m.id m.id refl,
  eq-eqb m.cell.x m.cell.x refl,
  eq-eqb m.cell.z m.cell.z refl,
  eq-eqb m.owner m.owner refl,
  eq-eqb m.template m.template refl,
) refl

none_of_one : (m : Option Mark) → change_of m m ≡ []
none_of_one None = refl
none_of_one (Some m) = rw (same_as_itself m) refl

pub no_shifts : (marks : List Mark) → shifts_between marks marks ≡ []
unfolding shifts_between
no_shifts marks = no_pieces (change_at marks marks) (change_at marks marks) 0 (max (end_of marks) (end_of marks)) (λ id. none_of_one (mark_at marks id))

-- A sum over marks follows the changes: what one id has before and after its change, and then all ids.

pub same_mark_is : (a b : Mark) → same_mark a b ≡ true → a ≡ b
same_mark_is a b h =
    let first = and_parts _ _ h in
    let second = and_parts _ _ first.0 in
    let third = and_parts _ _ second.0 in
    let cells = and_parts _ _ third.1 in
    let id = eqb-true a.id b.id third.0 in
    let x = eqb-true a.cell.x b.cell.x cells.0 in
    let z = eqb-true a.cell.z b.cell.z cells.1 in
    let owner = eqb-true a.owner b.owner second.1 in
    let template = eqb-true a.template b.template first.1 in
    λ i. record { id = id i; cell = record { x = x i; z = z i }; owner = owner i; template = template i }

module _ (weight : Mark → ℕ) where
  -- the weight of a mark, if there is one
  abbrev weigh : Option Mark → ℕ
  weigh None = 0
  weigh (Some mark) = weight mark

  -- the sums over the changes balance the two weights
  record Balances (before after : ℕ) (shifts : List Shift) : Type 0 where
    balance : before + sum_by (weight_born weight) shifts ≡ after + sum_by (weight_gone weight) shifts
    gone : sum_by (weight_gone weight) shifts ≤ before

  one_change : (old new : Option Mark) → Balances (weigh old) (weigh new) (change_of old new)
  one_change None None = record { balance = refl; gone = omega arith }
  one_change None (Some new) = record { balance = omega arith; gone = omega arith }
  one_change (Some old) None = record { balance = omega arith; gone = omega arith }
  one_change (Some old) (Some new) = by (same_mark old new) refl
    where
      by : (b : Bool) → same_mark old new ≡ b → Balances (weight old) (weight new) (cond b [] (gone (Some old) ++ born (Some new)))
      by true e = let same = ap weight (same_mark_is old new e) in record { balance = omega arith; gone = omega arith }
      by false e = record { balance = omega arith; gone = omega arith }

  joined : (a a' b b' : ℕ) (xs ys : List Shift) → Balances a b xs → Balances a' b' ys → Balances (a + a') (b + b') (xs ++ ys)
  joined a a' b b' xs ys p q = record {
    balance = omega (arith, sum_by-append (weight_born weight) xs ys, sum_by-append (weight_gone weight) xs ys, p.balance, q.balance);
    gone = omega (arith, sum_by-append (weight_gone weight) xs ys, p.gone, q.gone);
  }

  -- the sum without the first mark of an id
  split_off : (id : ℕ) (marks : List Mark) → RisingFrom id marks → sum_by weight marks ≡ weigh (mark_at marks id) + sum_by weight (behind id marks)
  split_off id [] up = refl
  split_off id (mark ∷ marks) up = by (eqb mark.id id) refl
    where
      by : (b : Bool) → eqb mark.id id ≡ b → sum_by weight (mark ∷ marks) ≡ weigh (cond b (Some mark) (mark_at marks id)) + sum_by weight
          (cond b marks (mark ∷ marks))
      by true e = sum_by-cons weight mark marks
      by false e = let none = ap weigh (absent (mark.id + 1) id marks (let ne : mark.id ≡ id → ⊥ = λ h. true≢false (sym (eq-eqb mark.id id h) ∙ e) in
          omega (arith, up.0)) up.1) in omega arith

  one_more : (from count : ℕ) → from + suc count ≡ from + 1 + count
  one_more from count = omega arith

  nothing_left : (n : ℕ) (marks : List Mark) → RisingFrom n marks → Below n marks → marks ≡ []
  nothing_left n [] up below = refl
  nothing_left n (mark ∷ marks) up below = absurd (omega (arith, up.0, below.0))

  all_changes : (from count : ℕ) (olds news : List Mark) → RisingFrom from olds → RisingFrom from news → Below (from + count) olds → Below (from + count) news →
      Balances (sum_by weight olds) (sum_by weight news) (changes olds news from count)
  all_changes from zero olds news up up' below below' =
      let none = nothing_left from olds up (rw add-zero at below) in
      let none' = nothing_left from news up' (rw add-zero at below') in
      rw (none, none') (record { balance = refl; gone = omega arith })
  all_changes from (suc count) olds news up up' below below' =
      let later = all_changes (from + 1) count (behind from olds) (behind from news) (behind_rises from olds up) (behind_rises from news up')
      (behind_below from (from + 1 + count) olds (subst (λ (n : ℕ). Below n olds) (one_more from count) below))
      (behind_below from (from + 1 + count) news (subst (λ (n : ℕ). Below n news) (one_more from count) below')) in
      let same = same_pieces (change_at olds news) (change_at (behind from olds) (behind from news)) (from + 1) count
      (λ id le. λ i. change_of (sym (behind_same from id olds (λ h. omega arith)) i) (sym (behind_same from id news (λ h. omega arith)) i)) in
      let here = joined (weigh (mark_at olds from)) (sum_by weight (behind from olds)) (weigh (mark_at news from)) (sum_by weight (behind from news))
      (change_at olds news from) (changes (behind from olds) (behind from news) (from + 1) count)
      (one_change (mark_at olds from) (mark_at news from)) later in
      rw (split_off from olds up, split_off from news up', same) here

pub sum_follows : (weight : Mark → ℕ) (old new : List Mark) → IsAscending old → IsAscending new → SumFollows weight old new (shifts_between old new)
unfolding shifts_between
sum_follows weight old new up up' =
    let end = max (end_of old) (end_of new) in
    let all = all_changes weight 0 end old new (rising old up) (rising new up') (below_end old (0 + end) (omega arith))
    (below_end new (0 + end) (omega arith)) in
    record { balance = all.balance; gone = all.gone; born = omega (arith, all.balance, all.gone) }
