-- Rows by cells, as lists of them are made and changed place by place.
use Rattle.sim_search.proofs.Common.{abs_diff, and_from, and_parts, ap, ap₂, arith, cases_Bool, cases_lt, Cell, cond-false, cond-true, entry_at, false, get_or}
use Rattle.sim_search.proofs.Common.{get_or-map, get_or-set_other, get_or-set_same, get_or_past, has_cell, inl, inr, IsOnGround, length, length-map, List}
use Rattle.sim_search.proofs.Common.{lt-ltb, ltb, ltb-true, map, max, None, Option, place_of, refl, same_by_parts, same_from_place, set, Size, Some, subst, suc}
use Rattle.sim_search.proofs.Common.{sym, true, ℕ, ◌*◌, ◌+◌, ◌<◌, ◌∙◌, ◌≡◌, ◌≢◌, ◌≤◌, ◌⊎◌}
use Rattle.{sim_grid.proofs.Beside.place-below, sim_search.specs.Rows.apart, sim_search.specs.Rows.row_with}

-- Cells: two are one or not, and what a list by z, then x, has at each.

pub has_cell-true : (size : Size) (c : Cell) → has_cell size c ≡ true → IsOnGround size c
has_cell-true size c h = let (e, n) = and_parts (ltb c.x size.width) (ltb c.z size.depth) h in
    record { east = ltb-true c.x size.width e; north = ltb-true c.z size.depth n }

pub on-has_cell : (size : Size) (c : Cell) → IsOnGround size c → has_cell size c ≡ true
on-has_cell size c on = and_from (ltb c.x size.width) (ltb c.z size.depth) (lt-ltb c.x size.width on.east) (lt-ltb c.z size.depth on.north)

module _ {X : Type 0} (other : X) (size : Size) where
  pub entry_at-on : (xs : List X) (c : Cell) → IsOnGround size c → entry_at other size xs c ≡ get_or xs (place_of size c) other
  entry_at-on xs c on = cond-true (has_cell size c) (get_or xs (place_of size c) other) other (on-has_cell size c on)

  pub entry_at-off : (xs : List X) (c : Cell) → has_cell size c ≡ false → entry_at other size xs c ≡ other
  entry_at-off xs c h = cond-false (has_cell size c) (get_or xs (place_of size c) other) other h

  pub entry_at-set_same : (xs : List X) (c : Cell) (v : X) → IsOnGround size c → length xs ≡ size.width * size.depth
      → entry_at other size (set xs (place_of size c) v) c ≡ v
  entry_at-set_same xs c v on full = entry_at-on (set xs (place_of size c) v) c on ∙ get_or-set_same xs (place_of size c) v other
      (omega (arith, place-below size c on))

  pub entry_at-set_other : (xs : List X) (c e : Cell) (v : X) → IsOnGround size c → e ≢ c → entry_at other size (set xs (place_of size c) v) e ≡ entry_at other
      size xs e
  entry_at-set_other xs c e v on ne = by (cases_Bool (has_cell size e))
    where
      by : (has_cell size e ≡ true) ⊎ (has_cell size e ≡ false) → entry_at other size (set xs (place_of size c) v) e ≡ entry_at other size xs e
      by (inl h) =
          let there = has_cell-true size e h in
          let apart : place_of size e ≢ place_of size c = λ f. let parts = same_from_place e.z e.x c.z c.x size.width there.east on.east f in
          ne (same_by_parts e c parts.1 parts.0) in
          entry_at-on (set xs (place_of size c) v) e there ∙ get_or-set_other xs (place_of size c) (place_of size e) v other apart ∙
          sym (entry_at-on xs e there)
      by (inr h) = entry_at-off (set xs (place_of size c) v) e h ∙ sym (entry_at-off xs e h)

pub entry_at-there : {X : Type 0} (size : Size) (xs : List (Option X)) (c : Cell) (v : X) → entry_at None size xs c ≡ Some v → IsOnGround size c
entry_at-there size xs c v e = by (cases_Bool (has_cell size c))
  where
    by : (has_cell size c ≡ true) ⊎ (has_cell size c ≡ false) → IsOnGround size c
    by (inl h) = has_cell-true size c h
    by (inr h) = let both : None ≡ Some v = sym (entry_at-off None size xs c h) ∙ e in let never : ⊥ = cc in absurd never

-- one number more of two rows
pub apart-more : (n : ℕ) (a b : List ℕ) → apart (n + 1) a b ≡ max (apart n a b) (abs_diff (get_or a n 0) (get_or b n 0))
apart-more n a b = let next : suc n ≡ n + 1 = omega arith in
    subst (λ (m : ℕ). apart m a b ≡ max (apart n a b) (abs_diff (get_or a n 0) (get_or b n 0))) next refl

-- what a list has at a cell where each of its values is made of another
pub entry_at-map : {X Y : Type 0} (f : X → Y) (x : X) (y : Y) → f x ≡ y → (size : Size) (xs : List X) (c : Cell)
    → entry_at y size (map f xs) c ≡ f (entry_at x size xs c)
entry_at-map {X} {Y} f x y e size xs c = by (cases_Bool (has_cell size c))
  where
    at : ℕ
    at = place_of size c

    within : (at < length xs) ⊎ (length xs ≤ at) → get_or (map f xs) at y ≡ f (get_or xs at x)
    within (inl lt) = get_or-map f xs at x y lt
    within (inr le) = get_or_past (map f xs) at y (omega (arith, le, length-map xs f)) ∙ sym e ∙ ap f (sym (get_or_past xs at x le))

    by : (has_cell size c ≡ true) ⊎ (has_cell size c ≡ false) → entry_at y size (map f xs) c ≡ f (entry_at x size xs c)
    by (inl h) = let on = has_cell-true size c h in
        entry_at-on y size (map f xs) c on ∙ within (cases_lt at (length xs)) ∙ ap f (sym (entry_at-on x size xs c on))
    by (inr h) = entry_at-off y size (map f xs) c h ∙ sym e ∙ ap f (sym (entry_at-off x size xs c h))

-- what rows have at a cell of which one number was set
pub entry_at-with : (which : ℕ) (size : Size) (old new : List (Option (List ℕ))) (known : List (Option ℕ)) (n : ℕ) → size.width * size.depth ≤ n
    → ((k : ℕ) → k < n → get_or new k None ≡ row_with which (get_or old k None) (get_or known k None)) → (c : Cell)
    → entry_at None size new c ≡ row_with which (entry_at None size old c) (entry_at None size known c)
entry_at-with which size old new known n all done c = by (cases_Bool (has_cell size c))
  where
    by : (has_cell size c ≡ true) ⊎ (has_cell size c ≡ false)
        → entry_at None size new c ≡ row_with which (entry_at None size old c) (entry_at None size known c)
    by (inl h) =
        let on = has_cell-true size c h in
        entry_at-on None size new c on ∙ done (place_of size c) (omega (arith, all, place-below size c on)) ∙
        sym (ap₂ (row_with which) (entry_at-on None size old c on) (entry_at-on None size known c on))
    by (inr h) = entry_at-off None size new c h ∙ sym (ap₂ (row_with which) (entry_at-off None size old c h) (entry_at-off None size known c h))

-- the rows before a place are set, and the others are as they were
pub record AreSet (which : ℕ) (old new : List (Option (List ℕ))) (known : List (Option ℕ)) (n : ℕ) : Type 0 where
  pub done : (k : ℕ) → k < n → get_or new k None ≡ row_with which (get_or old k None) (get_or known k None)
  pub rest : (k : ℕ) → n ≤ k → get_or new k None ≡ get_or old k None

pub set-begins : (which : ℕ) (old : List (Option (List ℕ))) (known : List (Option ℕ)) → AreSet which old old known 0
set-begins which old known = record { done = λ k lt. absurd (omega (arith, lt)); rest = λ k le. refl }

pub set-more : (which : ℕ) (old new : List (Option (List ℕ))) (known : List (Option ℕ)) (n : ℕ) (made : Option (List ℕ)) → n < length new
    → made ≡ row_with which (get_or old n None) (get_or known n None) → AreSet which old new known n → AreSet which old (set new n made) known (n + 1)
set-more which old new known n made lt e x =
    record {
      done = λ k below. done k (cases_lt k n) below;
      rest = λ k le. get_or-set_other new n k made None (λ f. omega (arith, f, le)) ∙ x.rest k (omega (arith, le));
    }
  where
    done : (k : ℕ) → (k < n) ⊎ (n ≤ k) → k < n + 1 → get_or (set new n made) k None ≡ row_with which (get_or old k None) (get_or known k None)
    done k (inl before) below = get_or-set_other new n k made None (λ f. omega (arith, f, before)) ∙ x.done k before
    done k (inr le) below =
        let same : n ≡ k = omega (arith, le, below) in
        subst (λ (j : ℕ). get_or (set new n made) j None ≡ row_with which (get_or old j None) (get_or known j None)) same
        (get_or-set_same new n made None lt ∙ e)
