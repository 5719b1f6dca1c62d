-- The board was started, and the sight has looked at the states of turns 0 to the one asked for.
use Rattle.sim_play.proofs.sights.tell_from_the_start.Goals as goal
use Rattle.sim_play.proofs.Common.{ap, arith, blind, explored_file, IsValid, later_of, rules, Setup, setup_in, sight_text, state_in, string_bytes, subst, sym}
use Rattle.sim_play.proofs.{Common.Vision, Common.vision_after, Common.vision_next, Common.◌-◌, Common.◌∙◌, Common.◌≡◌, Past.from_the_start, Past.started_file}
use Rattle.sim_play.proofs.{Past.started_text, Playing.came, Starting.started_turn, Starting.started_until, Starting.started_valid}

pub follow-requires : goal.follow-requires
follow-requires g c =
    let same = ap (λ (v : Vision). v.setup) c.in_ok-sight.ensures ∙ c.setup.ensures in
    let valid = started_valid _ _ _ c.in_ok-start.ensures.setup c.in_ok-start.ensures.state c.requires.limits in
    subst (IsValid c.in_ok-sight.sight.setup) (sym c.scene.ensures.state)
    (subst (λ (s : Setup). IsValid s (state_in c.start.new.self)) (c.in_ok-start.ensures.setup ∙ sym same) valid)

pub follow_until-requires-clause-may : goal.follow_until-requires-clause-may
follow_until-requires-clause-may g c = record {
  whole = c.in_ok-start.ensures.whole;
  valid = started_valid _ _ _ c.in_ok-start.ensures.setup c.in_ok-start.ensures.state c.requires.limits;
  ahead = omega (arith, started_turn _ _ _ c.in_ok-start.ensures.setup c.in_ok-start.ensures.state);
  within = omega (arith, c.requires.within, ap (λ (s : Setup). s.turns) c.in_ok-start.ensures.setup);
}

pub follow_until-requires-clause-same : goal.follow_until-requires-clause-same
follow_until-requires-clause-same g c =
    c.follow.ensures.setup ∙ ap (λ (v : Vision). v.setup) c.in_ok-sight.ensures ∙ c.setup.ensures ∙ sym c.in_ok-start.ensures.setup

pub returns-clause-text : goal.returns-clause-text
returns-clause-text g c =
    let setup = setup_in c.args.board.now in
    let same = setup_in c.start.new.self in
    let state = state_in c.start.new.self in
    let first = c.in_ok-sight.ensures ∙ ap blind c.setup.ensures in
    let begun = c.in_ok-follow.ensures.next ∙ ap (vision_next c.in_ok-sight.sight) c.scene.ensures.state ∙ ap (λ (v : Vision). vision_next v state) first in
    let seen = c.in_ok-follow_until.ensures.followed
    ∙ ap (λ (v : Vision). vision_after v (later_of same state (c.args.turn - state.turn))) begun
    ∙ from_the_start vision_next setup same state c.in_ok-start.ensures.setup c.in_ok-start.ensures.state c.args.turn (blind setup) in
    let words : string_bytes c.push_sight.new.out ≡ sight_text c.follow_until.new.sight = search rules in
    words ∙ ap sight_text seen ∙ started_text setup c.args.turn

pub returns-clause-file : goal.returns-clause-file
returns-clause-file g c =
    let setup = setup_in c.args.board.now in
    let same = setup_in c.start.new.self in
    let state = state_in c.start.new.self in
    let first = c.in_ok-sight.ensures ∙ ap blind c.setup.ensures in
    let begun = c.in_ok-follow.ensures.next ∙ ap (vision_next c.in_ok-sight.sight) c.scene.ensures.state ∙ ap (λ (v : Vision). vision_next v state) first in
    let seen = c.in_ok-follow_until.ensures.followed
    ∙ ap (λ (v : Vision). vision_after v (later_of same state (c.args.turn - state.turn))) begun
    ∙ from_the_start vision_next setup same state c.in_ok-start.ensures.setup c.in_ok-start.ensures.state c.args.turn (blind setup) in
    c.in_ok-explored_bytes.ensures.bytes ∙ ap explored_file seen ∙ started_file setup c.args.turn

pub returns-clause-ends : goal.returns-clause-ends
returns-clause-ends g c =
    came _ _ _ _ _ c.start.new.self _ c.in_ok-start.ensures.most c.in_ok-start.ensures.setup
    (record {
      state = c.in_ok-follow_until.ensures.ends.state;
      whole = c.in_ok-follow_until.ensures.ends.whole;
      kept = c.follow_until.ensures.ends.kept;
      setup = c.follow_until.ensures.ends.setup;
    })
    (started_until _ _ _ c.in_ok-start.ensures.setup c.in_ok-start.ensures.state c.args.turn)
