-- The definition of a way determines it.
use Rattle.sim_laws.proofs.Common.{List, MatchBool, Some, neighbour, refl, reverse, same_cell, subst, sym, true, waypoints, ℕ, ⊎_elim, ◌<◌, ◌∙◌, ◌∷◌, ◌≡◌, ◌⊎◌}
use Rattle.sim_laws.proofs.Common.{[], ap, arith, Bool, Cell, cell_of, end_key, false, Field, first_points, IsCost, IsEnd, IsFound, IsPredecessor, IsTrail}
use Rattle.{sim_laws.proofs.Keys.same_key, sim_laws.proofs.Neighbours.same_by_parts, sim_laws.specs.WayLaws.WayIsUnique, std.proofs.lemmas.Bool.cases_order}

module _ (field : Field) (start : Cell) where
  pub cost_unique : (c : Cell) (d e : ℕ) → IsCost field start c d → IsCost field start c e → d ≡ e
  cost_unique c d e p q = omega (arith, p.least e q.walk, q.least d p.walk)

  end_unique : (goal c e : Cell) (d f : ℕ) → IsEnd field start goal c d → IsEnd field start goal e f → c ≡ e
  end_unique goal c e d f p q =
      let keys : end_key goal c d ≡ end_key goal e f = same_key (end_key goal c d) (end_key goal e f) (q.least c d p.reached) (p.least e f q.reached) in
      same_by_parts c e (cc) (cc)

  predecessor_unique : (p q c : Cell) (d : ℕ) → IsPredecessor field start p c d → IsPredecessor field start q c d → p ≡ q
  predecessor_unique p q c d f g =
      ⊎_elim
      (λ (e : f.which ≡ g.which). let h : Some p ≡ Some q = sym f.neighbour_is ∙ ap (neighbour field.size c) e ∙ g.neighbour_is in (cc))
      (λ (o : (f.which < g.which) ⊎ (g.which < f.which)). ⊎_elim
      (λ (h : f.which < g.which). absurd (g.first f.which p h f.neighbour_is f.leads))
      (λ (h : g.which < f.which). absurd (f.first g.which q h g.neighbour_is g.leads)) o)
      (cases_order f.which g.which)

  trail_unique : (c : Cell) (xs ys : List Cell) → IsTrail field start c xs → IsTrail field start c ys → xs ≡ ys
  trail_unique c [] [] f g = refl
  trail_unique c [] (y ∷ ys) f g = absurd (g.1 f)
  trail_unique c (x ∷ xs) [] f g = absurd (f.1 g)
  trail_unique c (x ∷ xs) (y ∷ ys) (fx, fc, d, fd, p, fp, frest) (gy, gc, e, ge, q, gp, grest) =
      let same_cost : d ≡ e = cost_unique c d e fd ge in
      let same : p ≡ q = predecessor_unique p q c d fp (rw (← same_cost) at gp) in
      let rest : xs ≡ ys = trail_unique p xs ys frest (rw (← same) at grest) in
      cc

pub way_unique : WayIsUnique
way_unique field from goal v w = by (same_cell (cell_of from) (cell_of goal))
  where
    by : (b : Bool) → MatchBool b (v ≡ record { points = goal ∷ []; whole = true }) (IsFound field from goal v)
        → MatchBool b (w ≡ record { points = goal ∷ []; whole = true }) (IsFound field from goal w) → v ≡ w
    by true f g = f ∙ sym g
    by false f g =
        let start = cell_of from in
        let ends : f.last ≡ g.last = end_unique field start (cell_of goal) f.last g.last f.cost g.cost f.is_end g.is_end in
        let trail : IsTrail field start f.last g.trail = subst (λ (c : Cell). IsTrail field start c g.trail) (sym ends) g.is_trail in
        let trails = trail_unique field start f.last f.trail g.trail f.is_trail trail in
        f.way_is ∙ ap (λ (cells : List Cell). first_points (waypoints goal (reverse cells))) trails ∙ sym g.way_is
