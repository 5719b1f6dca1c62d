-- The commands so far.
use Rattle.sim_play.proofs.Common.{◌≡◌, map, take, Timed}

abbrev pub invariant-loop-timed : Rattle.sim_play.proofs.due.commands_of.Given.invariant-loop-timed
invariant-loop-timed l = l.commands.items ≡ map (λ (timed : Timed). timed.order) (take l.timed-index l.timeds)
