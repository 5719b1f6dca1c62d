-- The commands of a turn stand together in a list that ascends by turns.
use Rattle.{sim_base.specs.declared.command.Command.TheVariants.Resign, sim_turn.proofs.Common.{ap, arith, false, filter, get_or, get_or-map, length}}
use Rattle.sim_turn.proofs.Common.{length-map, List, map, nat_lt, refl, suc, take, Timed, true, ℕ, [], ◌+◌, ◌-◌, ◌<◌, ◌∷◌, ◌≡◌, ◌≤◌}
use Rattle.std.proofs.{Common.{drop, inl, inr, zero}, lemmas.Bool.{cases_lt, eq-eqb, ltb-false, ltb-true, ne_eqb}}
use Rattle.std.specs.{List.Sorted.{IsNonDecreasing, IsNonDecreasingBy, IsPartitionPoint}, Prelude.◌==◌}

abbrev turn_of : Timed → ℕ
turn_of timed = timed.turn

-- those of a turn are so many behind those before it
stretch : (t : ℕ) (timeds : List Timed) (first count : ℕ) → first + count ≤ length timeds → ((k : ℕ) (d : Timed) → k < first → (get_or timeds k d).turn < t) →
    ((k : ℕ) (d : Timed) → first ≤ k → k < first + count → (get_or timeds k d).turn ≡ t)
    → ((k : ℕ) (d : Timed) → first + count ≤ k → k < length timeds → t < (get_or timeds k d).turn) →
    filter (λ (timed : Timed). timed.turn == t) timeds ≡ take count (drop first timeds)
stretch t [] zero zero within before here behind = refl
stretch t [] zero (suc n) within before here behind = absurd (omega (arith, within))
stretch t [] (suc f) n within before here behind = absurd (omega (arith, within))
stretch t (x ∷ xs) zero zero within before here behind =
    let later : t < x.turn = behind 0 x (omega arith) (omega arith) in
    let away : (x.turn == t) ≡ false = ne_eqb x.turn t (λ e. omega (arith, later, e)) in
    rw away (stretch t xs zero zero (omega arith) (λ k d lt. absurd (omega (arith, lt))) (λ k d le lt. absurd (omega (arith, lt)))
    (λ k d le lt. behind (suc k) d (omega arith) (omega (arith, lt))))
stretch t (x ∷ xs) zero (suc n) within before here behind =
    let now : (x.turn == t) ≡ true = eq-eqb x.turn t (here 0 x (omega arith) (omega arith)) in
    rw now (ap (λ (ys : List Timed). x ∷ ys)
    (stretch t xs zero n (omega (arith, within)) (λ k d lt. absurd (omega (arith, lt))) (λ k d le lt. here (suc k) d (omega arith) (omega (arith, lt)))
    (λ k d le lt. behind (suc k) d (omega (arith, le)) (omega (arith, lt)))))
stretch t (x ∷ xs) (suc f) n within before here behind =
    let sooner : x.turn < t = before 0 x (omega arith) in
    let away : (x.turn == t) ≡ false = ne_eqb x.turn t (λ e. omega (arith, sooner, e)) in
    rw away (stretch t xs f n (omega (arith, within)) (λ k d lt. before (suc k) d (omega (arith, lt)))
    (λ k d le lt. here (suc k) d (omega (arith, le)) (omega (arith, lt)))
    (λ k d le lt. behind (suc k) d (omega (arith, le)) (omega (arith, lt))))

-- commands that ascend by their turns
pub rising : (timeds : List Timed) → IsNonDecreasing (map (λ (timed : Timed). timed.turn) timeds) → IsNonDecreasingBy (λ (timed : Timed). timed.turn) timeds
rising timeds up i j d le lt =
    let h : get_or (map turn_of timeds) i 0 ≤ get_or (map turn_of timeds) j 0 = up i j 0 le (rw (length-map timeds turn_of) lt) in
    let e : get_or (map turn_of timeds) i 0 ≡ (get_or timeds i d).turn = get_or-map turn_of timeds i d 0 (omega arith) in
    let f : get_or (map turn_of timeds) j 0 ≡ (get_or timeds j d).turn = get_or-map turn_of timeds j d 0 lt in
    omega arith

module _ (timeds : List Timed) (t first end : ℕ) (within : end ≤ length timeds)
    (before : IsPartitionPoint (λ (timed : Timed). nat_lt timed.turn t ≡ true) (λ (timed : Timed). nat_lt timed.turn t ≡ false) timeds first)
    (past : IsPartitionPoint (λ (timed : Timed). nat_lt timed.turn (t + 1) ≡ true) (λ (timed : Timed). nat_lt timed.turn (t + 1) ≡ false) timeds end) where
  -- stands where there is none
  no_timed : Timed
  no_timed = record { turn = 0; order = record { player = 0; command = Resign } }

  -- those before the turn end where those of the turn begin
  pub in_order : first ≤ length timeds → first ≤ end
  in_order inside = elim (cases_lt end first) [
    | inl lt ↦ (let less = ltb-true (get_or timeds end no_timed).turn t (before.0 end no_timed (omega arith) lt) in
        let more = ltb-false (get_or timeds end no_timed).turn (t + 1) (past.1 end no_timed (omega arith) (omega (arith, lt, inside))) in
        absurd (omega (arith, less, more)))
    | inr ge ↦ ge
  ]

  pub due_is : first ≤ end → filter (λ (timed : Timed). timed.turn == t) timeds ≡ take (end - first) (drop first timeds)
  due_is le =
      let joined : first + (end - first) ≡ end = omega arith in
      stretch t timeds first (end - first) (omega (arith, joined, within)) (λ k e lt. ltb-true (get_or timeds k e).turn t (before.0 k e (omega arith) lt))
      (λ k e ge lt.
      let upto = ltb-true (get_or timeds k e).turn (t + 1) (past.0 k e (omega arith) (omega (arith, joined, lt))) in
      let least = ltb-false (get_or timeds k e).turn t (before.1 k e ge (omega (arith, lt, joined, within))) in
      omega (arith, upto, least))
      (λ k e ge lt. let least = ltb-false (get_or timeds k e).turn (t + 1) (past.1 k e (omega (arith, joined, ge)) lt) in omega (arith, least))
