-- The first rigs have clients, which are off, and the others are left.
use Rattle.sim_session.proofs.Common.{systems_by}
use Rattle.sim_session.proofs.Common.{◌≡◌, ◌≤◌, ◌++◌, drop, replicate, vec_capacity, All, AreCleared, AreMembersBy, HaveKinds, lives_of, Off, rigs_by}
use Rattle.sim_session.proofs.rigs.seat.Given as goal

abbrev pub invariant-loop-i : goal.invariant-loop-i
invariant-loop-i g l =
    record {
      rigs : l.rigs.items ≡ drop l.i l.fn.rigs.items;
      systems : systems_by l.clients.items (λ i v. (goal.System-dyn g (i, v)).meaning v) ++ rigs_by l.rigs.items (λ i v. (goal.System-dyn g (i, v)).meaning v)
          ≡ rigs_by l.fn.rigs.items (λ i v. (goal.System-dyn g (i, v)).meaning v);
      members : AreMembersBy l.setup l.clients.items (λ i v. (goal.System-dyn g (i, v)).meaning v);
      off : lives_of l.clients.items ≡ replicate l.i Off;
      room : l.setup.players ≤ vec_capacity l.clients;
      kept : vec_capacity l.rigs ≡ vec_capacity l.fn.rigs;
      kinds : All HaveKinds (rigs_by l.rigs.items (λ i v. (goal.System-dyn g (i, v)).meaning v));
      cleared : All AreCleared (rigs_by l.rigs.items (λ i v. (goal.System-dyn g (i, v)).meaning v));
    }
