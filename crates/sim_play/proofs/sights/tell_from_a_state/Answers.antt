-- The board took the state, and the sight has looked at the later ones.
use Rattle.sim_play.proofs.{Common.ap, Common.arith, Common.from, Common.IsValid, Common.later_of, Common.◌-◌, Common.◌≡◌, Common.ℕ, Playing.came}
use Rattle.sim_play.proofs.Common.{own_turns, rules, Setup, setup_in, sight_text, State, state_in, string_bytes, subst, sym, vision_after, ◌∙◌}
use Rattle.sim_play.proofs.sights.tell_from_a_state.Goals as goal

pub follow_until-requires-clause-may : goal.follow_until-requires-clause-may
follow_until-requires-clause-may g c = record {
  whole = c.in_ok-adopt.ensures.whole;
  valid = subst (IsValid (setup_in c.adopt.new.self)) (sym c.in_ok-adopt.ensures.state)
      (subst (λ (s : Setup). IsValid s c.args.state) (sym c.in_ok-adopt.ensures.setup) c.requires.resumes.valid);
  ahead = omega (
    arith,
    ap (λ (s : State). s.turn) c.in_ok-adopt.ensures.state,
    ap (λ (s : Setup). s.turns) (c.setup.ensures ∙ c.in_ok-adopt.ensures.setup),
    c.requires.resumes.valid.turn,
  );
  within = omega (arith, ap (λ (s : Setup). s.turns) c.setup.ensures);
}

pub follow_until-requires-clause-same : goal.follow_until-requires-clause-same
follow_until-requires-clause-same g c = c.requires.same ∙ sym c.in_ok-adopt.ensures.setup

pub returns-clause-text : goal.returns-clause-text
returns-clause-text g c =
    let setup = setup_in c.args.board.now in
    let state = state_in c.adopt.new.self in
    let last = c.setup.result.now.turns in
    let all = λ (s : Setup) (from : State) (n : ℕ). vision_after c.args.sight (later_of s from n) in
    let words : string_bytes c.push_sight.new.out ≡ sight_text c.follow_until.new.sight = search rules in
    words ∙ ap sight_text (c.in_ok-follow_until.ensures.followed
    ∙ ap (λ (s : Setup). all s state (last - state.turn)) c.in_ok-adopt.ensures.setup
    ∙ ap (λ (s : State). all setup s (last - s.turn)) c.in_ok-adopt.ensures.state
    ∙ ap (λ (s : Setup). all setup c.args.state (s.turns - c.args.state.turn)) (c.setup.ensures ∙ c.in_ok-adopt.ensures.setup))

pub returns-clause-ends : goal.returns-clause-ends
returns-clause-ends g c =
    let setup = setup_in c.args.board.now in
    let state = state_in c.adopt.new.self in
    let last = c.setup.result.now.turns in
    came _ _ _ _ _ c.adopt.new.self _ c.in_ok-adopt.ensures.most c.in_ok-adopt.ensures.setup
    (record {
      state = c.in_ok-follow_until.ensures.ends.state;
      whole = c.in_ok-follow_until.ensures.ends.whole;
      kept = c.follow_until.ensures.ends.kept;
      setup = c.follow_until.ensures.ends.setup;
    })
    (ap (λ (s : Setup). from s state (own_turns s state.turn (last - state.turn))) c.in_ok-adopt.ensures.setup
    ∙ ap (λ (s : State). from setup s (own_turns setup s.turn (last - s.turn))) c.in_ok-adopt.ensures.state
    ∙ ap (λ (s : Setup). from setup c.args.state (own_turns setup c.args.state.turn (s.turns - c.args.state.turn)))
    (c.setup.ensures ∙ c.in_ok-adopt.ensures.setup))
