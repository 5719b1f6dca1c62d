-- The board was started.
use Rattle.sim_play.proofs.{Common.ap, Common.arith, Common.Setup, Playing.came, Starting.started_turn, Starting.started_until, Starting.started_valid}

pub play-requires : Rattle.sim_play.proofs.matches.start_until.Goals.play-requires
play-requires g c = record {
  whole = c.in_ok-start.ensures.whole;
  valid = started_valid _ _ _ c.in_ok-start.ensures.setup c.in_ok-start.ensures.state c.requires.limits;
  ahead = omega (arith, started_turn _ _ _ c.in_ok-start.ensures.setup c.in_ok-start.ensures.state);
  within = omega (arith, c.requires.within, ap (λ (s : Setup). s.turns) c.in_ok-start.ensures.setup);
}

pub returns-clause-ends : Rattle.sim_play.proofs.matches.start_until.Goals.returns-clause-ends
returns-clause-ends g c =
    came _ _ _ c.play.result _ c.start.new.self _ c.in_ok-start.ensures.most c.in_ok-start.ensures.setup
    (record { state = c.play.ensures.state; whole = c.play.ensures.whole; kept = c.play.ensures.kept; setup = c.play.ensures.setup })
    (started_until _ _ _ c.in_ok-start.ensures.setup c.in_ok-start.ensures.state c.args.turn)
