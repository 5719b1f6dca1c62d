use Rattle.sim_board.proofs.{Common.AreKept, Common.systems_by, Feeding.AreLetGo}
use Rattle.sim_board.proofs.post.release.Given as goal

-- the first of them are let go
abbrev pub invariant-loop-watcher : goal.invariant-loop-watcher
invariant-loop-watcher g l =
    AreLetGo l.setup l.state l.id l.ids l.watcher-index (systems_by l.rig (λ i v. (goal.System-dyn g (i, v)).meaning v))
    × AreKept (systems_by l.initial.rig (λ i v. (goal.System-dyn g (i, v)).meaning v)) (systems_by l.rig (λ i v. (goal.System-dyn g (i, v)).meaning v))
