-- One turn more is played, and what becomes of the systems.
use Rattle.{sim_board.{proofs.Counting.most_kept, specs.declared.board.Board.Board}, sim_play.proofs.Common.{ap, arith, from, from_counts_turns, OnOk}}
use Rattle.sim_play.proofs.Common.{orders_at, own_turns, Result, Setup, setup_in, State, state_in, subst, suc, systems_by, turn, ℕ, ◌+◌, ◌-◌, ◌∙◌, ◌≡◌}
use Rattle.{sim_play.specs.Playing.{ComesToBy, GoesOnToBy}, sim_system.specs.Meanings.{AreBuiltOnceAtMost, Meaning}}

module _ (setup : Setup) (old new : State) (t : ℕ) (at : old.turn ≡ t) (is : new ≡ from setup old (own_turns setup old.turn (t + 1 - old.turn))) where
  one : t + 1 - old.turn ≡ 1
  one = omega (arith, at)

  played : new ≡ turn setup old (orders_at (old.turn + 1) setup.commands)
  played = is ∙ ap (λ (k : ℕ). from setup old (own_turns setup old.turn k)) one

  -- it comes after the turns so far
  pub one_turn_more : (start : State) (n : ℕ) → t ≡ start.turn + n → old ≡ from setup start (own_turns setup start.turn n)
      → new ≡ from setup start (own_turns setup start.turn (suc n))
  one_turn_more start n place so_far =
      let number : old.turn + 1 ≡ start.turn + suc n = omega (arith, at, place) in
      played ∙ ap (λ (k : ℕ). turn setup old (orders_at k setup.commands)) number ∙
      ap (λ (s : State). turn setup s (orders_at (start.turn + suc n) setup.commands)) so_far

  -- and its number is one more
  pub next_number : new.turn ≡ t + 1
  next_number = ap (λ (s : State). s.turn) is ∙ ap (λ (k : ℕ). (from setup old (own_turns setup old.turn k)).turn) one ∙
      from_counts_turns setup old (own_turns setup old.turn 1) ∙ ap (λ (k : ℕ). k + 1) at

-- a board that began, or took a state, and then went on
pub came : {X : Type 0} {F : X → Type 0} {A E : Type 0} (meaning : (i : X) → F i → Meaning) (last wanted : State) (outcome : Result A E)
    (old middle new : Board X F)
    → AreBuiltOnceAtMost (systems_by old.rig meaning) (systems_by middle.rig meaning) → setup_in middle ≡ setup_in old
    → GoesOnToBy meaning last outcome middle new → last ≡ wanted
    → ComesToBy meaning wanted outcome old new
came meaning last wanted outcome old middle new most of_same goes is = record {
  state = subst (λ (s : State). OnOk outcome (state_in new ≡ s)) is goes.state;
  whole = goes.whole;
  kinds = goes.kept.kinds;
  most = most_kept _ _ _ most goes.kept;
  setup = goes.setup ∙ of_same;
}
