-- The rigs so far have forgotten all, and none was built.
use Rattle.sim_session.proofs.recording.clear.Given as goal
use Rattle.{sim_client.specs.StageWords.AreCleared, sim_session.{proofs.TextCommon.{All, AllBuiltAtMost, length, take, ◌≡◌}, specs.Going.rigs_by}}
use Rattle.{sim_system.specs.Meanings.HaveKinds, std.{proofs.Common.drop, specs.Prelude.vec_capacity}}

abbrev pub invariant-loop-i : goal.invariant-loop-i
invariant-loop-i g l =
    record {
      cleared : All AreCleared (take l.i (rigs_by l.rigs.items (λ i v. (goal.System-dyn g (i, v)).meaning v)));
      built : AllBuiltAtMost (λ c. 0) l.count (rigs_by l.fn.rigs.items (λ i v. (goal.System-dyn g (i, v)).meaning v))
          (rigs_by l.rigs.items (λ i v. (goal.System-dyn g (i, v)).meaning v));
      kinds : All HaveKinds (rigs_by l.fn.rigs.items (λ i v. (goal.System-dyn g (i, v)).meaning v))
          → All HaveKinds (rigs_by l.rigs.items (λ i v. (goal.System-dyn g (i, v)).meaning v));
      spare : drop l.count l.rigs.items ≡ drop l.count l.fn.rigs.items;
      count : length l.rigs.items ≡ length l.fn.rigs.items;
      room : vec_capacity l.rigs ≡ vec_capacity l.fn.rigs;
    }
