-- One line more.
use Rattle.sim_vision.proofs.{Common.arith, Common.explored_in, Common.sight_line, Common.visible_in, Telling.lines_more}

pub loop-player-preserved : Rattle.sim_vision.proofs.tell.push_lines.Goals.loop-player-preserved
loop-player-preserved c = record {
  first = omega arith;
  text = lines_more (λ p. sight_line p (visible_in c.args.sight.now p) (explored_in c.args.sight.now p)) c.loop-player.player _ _ _
      c.loop-player.invariant.first c.loop-player.invariant.text c.in_ok-push_line.ensures.ok;
}
