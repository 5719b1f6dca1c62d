-- The rigs of the last clients are back, and those of the others are in their places.
use Rattle.sim_session.proofs.Common.{◌≡◌, ◌+◌, ◌-◌, ◌≤◌, ◌++◌, length, drop, vec_capacity, All, HaveKinds, rigs_by, systems_by}
use Rattle.sim_session.proofs.rigs.unseat.Given as goal

abbrev pub invariant-loop-client : goal.invariant-loop-client
invariant-loop-client g l =
    record {
      systems : systems_by l.clients.items (λ i v. (goal.System-dyn g (i, v)).meaning v) ++ rigs_by l.rigs.items (λ i v. (goal.System-dyn g (i, v)).meaning v)
          ≡ systems_by l.fn.clients.items (λ i v. (goal.System-dyn g (i, v)).meaning v) ++ rigs_by l.fn.rigs.items
          (λ i v. (goal.System-dyn g (i, v)).meaning v);
      rest : drop (length l.fn.clients.items - length l.clients.items) l.rigs.items ≡ l.fn.rigs.items;
      few : length l.clients.items ≤ length l.fn.clients.items;
      room : length l.clients.items + length l.rigs.items ≤ vec_capacity l.rigs;
      kept : vec_capacity l.rigs ≡ vec_capacity l.fn.rigs;
      kinds : All HaveKinds (systems_by l.clients.items (λ i v. (goal.System-dyn g (i, v)).meaning v));
    }

abbrev pub decreases-loop-client : goal.decreases-loop-client
decreases-loop-client g l = length l.clients.items
