-- A board that was started stands at turn 0.
use Rattle.sim_play.proofs.Common.{own_turns, play_text, Setup, State, subst, sym, turn_lines, ◌∙◌, ◌≡◌, ℕ, suc, ◌-◌, [], after}
use Rattle.sim_play.proofs.Common.{after_counts_turns, ap, arith, first_state, first_state_is_valid, from, IsSetup, IsValid}

module _ (setup same : Setup) (state : State) (of_same : same ≡ setup) (is : state ≡ first_state setup) where
  pub started_valid : IsSetup setup → IsValid same state
  started_valid limits = subst (λ (s : Setup). IsValid s state) (sym of_same) (subst (IsValid setup) (sym is) (first_state_is_valid setup limits))

  pub started_turn : state.turn ≡ 0
  started_turn = ap (λ (s : State). s.turn) is ∙ after_counts_turns setup []

  all_of : setup.turns - 0 ≡ setup.turns
  all_of = omega arith

  pub started_lines : turn_lines same state state.turn (suc (same.turns - state.turn)) ≡ play_text setup
  started_lines =
      ap (λ (s : Setup). turn_lines s state state.turn (suc (s.turns - state.turn))) of_same
      ∙ ap (λ (k : ℕ). turn_lines setup state k (suc (setup.turns - k))) started_turn
      ∙ ap (λ (s : State). turn_lines setup s 0 (suc (setup.turns - 0))) is
      ∙ ap (λ (k : ℕ). turn_lines setup (first_state setup) 0 (suc k)) all_of

  pub started_until : (turn : ℕ) → from same state (own_turns same state.turn (turn - state.turn)) ≡ after setup (own_turns setup 0 turn)
  started_until turn =
      ap (λ (s : Setup). from s state (own_turns s state.turn (turn - state.turn))) of_same
      ∙ ap (λ (k : ℕ). from setup state (own_turns setup k (turn - k))) started_turn
      ∙ ap (λ (s : State). from setup s (own_turns setup 0 (turn - 0))) is
      ∙ ap (λ (k : ℕ). from setup (first_state setup) (own_turns setup 0 k)) (turn_less turn)
    where
      turn_less : (n : ℕ) → n - 0 ≡ n
      turn_less n = omega arith
