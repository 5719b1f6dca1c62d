-- Cells that are added to a list one after another, and those that are gone through.
use Rattle.sim_search.proofs.Common.{[], All, alone, ap, arith, Bool, Cell, Contains, Contains-append_left, Contains-push, Contains-push_cases, eq-or-lt_of_le}
use Rattle.sim_search.proofs.Common.{eqb-true, false, Field, inl, inr, IsJoined, IsOnGround, IsOpenStep, length, List, neighbour, Some, subst, suc, sym, take}
use Rattle.sim_search.proofs.Common.{take_all, true, true≢false, zero, ℕ, ◌++◌, ◌+◌, ◌<◌, ◌∙◌, ◌∷◌, ◌≡◌, ◌≤◌, ◌⊎◌}
use Rattle.{sim_search.specs.Floods.AreAdded, sim_search.specs.Floods.IsInside, sim_search.specs.declared.region.Window.Window, std.specs.Prelude.◌==◌}

-- those in the directions before one
pub record Adding (field : Field) (w : Window) (from : Cell) (old new : List Cell) (n : ℕ) : Type 0 where
  pub each : (c : Cell) → Contains new c → Contains old c ⊎ IsOpenStep field from c
  pub keeps : (c : Cell) → Contains old c → Contains new c
  pub all : (j : ℕ) (c : Cell) → j < n → neighbour field.size from j ≡ Some c → field.is_open c ≡ true → IsInside w c → Contains new c

module _ (field : Field) (w : Window) (from : Cell) (old : List Cell) where
  pub adding_begins : Adding field w from old old 0
  adding_begins = record { each = λ c h. inl h; keeps = λ c h. h; all = λ j c lt. absurd (omega arith) }

  pub adding_same : (s : List Cell) (n : ℕ) → Adding field w from old s n
      → ((e : Cell) → neighbour field.size from n ≡ Some e → field.is_open e ≡ true → IsInside w e → Contains s e) → Adding field w from old s (n + 1)
  adding_same s n x there = record { each = x.each; keeps = x.keeps; all = λ j c lt e f i. by j c e f i (eq-or-lt_of_le lt) }
    where
      by : (j : ℕ) (c : Cell) → neighbour field.size from j ≡ Some c → field.is_open c ≡ true → IsInside w c → (suc j ≡ n + 1) ⊎ (suc j < n + 1)
          → Contains s c
      by j c e f i (inl same) = let is : n ≡ j = omega arith in there c (ap (neighbour field.size from) is ∙ e) f i
      by j c e f i (inr before) = x.all j c (omega arith) e f i

  pub adding_push : (s : List Cell) (n : ℕ) (to : Cell) → n < 4 → neighbour field.size from n ≡ Some to → field.is_open to ≡ true
      → Adding field w from old s n → Adding field w from old (s ++ to ∷ []) (n + 1)
  adding_push s n to lt e f x =
      adding_same (s ++ to ∷ []) n (record {
        each = λ c h. each c (Contains-push_cases s to c h);
        keeps = λ c h. Contains-append_left s (to ∷ []) c (x.keeps c h);
        all = λ j c below g free i. Contains-append_left s (to ∷ []) c (x.all j c below g free i);
      }) (λ c g free i. here c g)
    where
      step : IsOpenStep field from to
      step = record { which = n; straight = lt; leads = e; free = f }

      each : (c : Cell) → Contains s c ⊎ (to ≡ c) → Contains old c ⊎ IsOpenStep field from c
      each c (inl h) = x.each c h
      each c (inr same) = inr (subst (IsOpenStep field from) same step)

      here : (c : Cell) → neighbour field.size from n ≡ Some c → Contains (s ++ to ∷ []) c
      here c g =
          let both : Some to ≡ Some c = sym e ∙ g in
          let same : to ≡ c = cc in
          subst (Contains (s ++ to ∷ [])) same (Contains-push s to)

  pub adding_done : (s : List Cell) (n : ℕ) → 4 ≤ n → Adding field w from old s n → AreAdded field w from old s
  adding_done s n le x = record { each = x.each; keeps = x.keeps; all = λ c step i. x.all step.which c (omega (arith, step.straight)) step.leads step.free i }

-- the first cell alone
pub first_joined : (field : Field) (first : Cell) (none all : List Cell) → IsOnGround field.size first → field.is_open first ≡ true → none ≡ []
    → all ≡ none ++ first ∷ [] → (c : Cell) → Contains all c → IsJoined field first c
first_joined field first none all h e nil is c there =
    by (Contains-push_cases [] first c (subst (λ (xs : List Cell). Contains xs c) (is ∙ ap (λ (xs : List Cell). xs ++ first ∷ []) nil) there))
  where
    by : Contains [] c ⊎ (first ≡ c) → IsJoined field first c
    by (inl (k, lt, _)) = absurd (omega arith)
    by (inr same) = subst (IsJoined field first) same (alone h e)

-- all that were gone through are all of the list
pub gone_through : (P : Cell → Type 0) (xs : List Cell) (i : ℕ) → length xs ≤ i → All P (take i xs) → All P xs
gone_through P xs i le h = subst (All P) (take_all i xs le) h

-- a list that is not empty has a first cell
pub not_empty : (n : ℕ) (b : Bool) → b ≡ (n == 0) → b ≡ false → 0 < n
not_empty zero b e f = absurd (true≢false (sym e ∙ f))
not_empty (suc n) b e f = omega arith

pub none_listed : (xs : List Cell) (b : Bool) → b ≡ (length xs == 0) → b ≡ true → (c : Cell) → Contains xs c → ⊥
none_listed xs b e f c (k, lt, _) = let none : length xs ≡ 0 = eqb-true (length xs) 0 (sym e ∙ f) in omega (arith, none)
