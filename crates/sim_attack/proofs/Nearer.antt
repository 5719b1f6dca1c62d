-- The loop that finds the nearest.
use Rattle.sim_attack.specs.{declared.aim.Candidate.Candidate, Finds.{better_of, nearest_of, StandsFor}}
use Rattle.sim_base.specs.{declared.state.{Row.Row, State.State}, Turn.square_to, Ways.{is_before, lesser_of}}
use Rattle.std.proofs.Common.{ap, arith, Bool, cond, false, fold, get_or, length, List, None, Option, refl, Some, subst, sym, take, true, ℕ, [], ◌++◌, ◌+◌, ◌<◌}
use Rattle.std.{proofs.{Common.{◌∙◌, ◌∷◌, ◌≡◌}, lemmas.List.{Sums.fold-append, take_all, take_more}}, specs.Prelude.{option_map, unwrap_or}}

module _ (state : State) (row : Row) where
  abbrev key : ℕ → List ℕ
  key id = square_to state row id ∷ id ∷ []

  -- the least of the first n
  abbrev pub least_first : ℕ → List ℕ → Option ℕ
  least_first n ids = fold (λ best id. Some (lesser_of key best id)) None (take n ids)

  better_stands : (best : Option Candidate) (o : Option ℕ) (far id : ℕ) → far ≡ square_to state row id → StandsFor state row best o
      → StandsFor state row (Some (better_of best far id)) (Some (lesser_of key o id))
  better_stands None o far id e h = subst (λ (p : Option ℕ). StandsFor state row (Some (record { far = far; id = id })) (Some (lesser_of key p id))) h.id
      (record { id = refl; far = e })
  better_stands (Some seen) o far id e h =
      subst (λ (p : Option ℕ). StandsFor state row (Some (better_of (Some seen) far id)) (Some (lesser_of key p id))) h.id
      (subst (λ (b : Bool). StandsFor state row (Some (better_of (Some seen) far id)) (Some (cond b id seen.id))) same
      (by (is_before (far ∷ id ∷ []) (seen.far ∷ seen.id ∷ []))))
    where
      same : is_before (far ∷ id ∷ []) (seen.far ∷ seen.id ∷ []) ≡ is_before (key id) (key seen.id)
      same = ap (λ (n : ℕ). is_before (n ∷ id ∷ []) (seen.far ∷ seen.id ∷ [])) e ∙
          ap (λ (n : ℕ). is_before (square_to state row id ∷ id ∷ []) (n ∷ seen.id ∷ [])) h.far

      by : (b : Bool) → StandsFor state row (Some (cond b (record { far = far; id = id }) seen)) (Some (cond b id seen.id))
      by true = record { id = refl; far = e }
      by false = record { id = refl; far = h.far }

  pub nearer_more : (ids : List ℕ) (n id far : ℕ) (best : Option Candidate) → n < length ids → id ≡ get_or ids n 0 → far ≡ square_to state row id
      → StandsFor state row best (least_first n ids) →
      StandsFor state row (Some (better_of best far id)) (least_first (n + 1) ids)
  nearer_more ids n id far best lt is e h =
      let step : least_first (n + 1) ids ≡ Some (lesser_of key (least_first n ids) id) =
      ap (fold (λ b i. Some (lesser_of key b i)) None) (take_more ids n 0 lt ∙ ap (λ (i : ℕ). take n ids ++ i ∷ []) (sym is)) ∙
      fold-append (λ b i. Some (lesser_of key b i)) None (take n ids) (id ∷ []) in
      subst (StandsFor state row (Some (better_of best far id))) (sym step) (better_stands best (least_first n ids) far id e h)

  pub nearer_all : (ids : List ℕ) (n : ℕ) (best : Option Candidate) → n ≡ length ids → StandsFor state row best (least_first n ids)
      → unwrap_or (option_map (λ (seen : Candidate). seen.id) best) 0 ≡ nearest_of state row ids
  nearer_all ids n best e h =
      ap (λ (o : Option ℕ). unwrap_or o 0) (h.id ∙ ap (fold (λ b i. Some (lesser_of key b i)) None) (take_all n ids (omega arith)))
