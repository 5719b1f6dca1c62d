-- The first clients have begun, and all others are as they were.
use Rattle.sim_session.proofs.Common.{◌≡◌, ℕ, ◌<◌, ◌≤◌, length, All, AreMembersBy, HaveKinds, life_of, lives_of, starts, StartsOnly, systems_by}
use Rattle.sim_session.proofs.session.start_all.Given as goal

abbrev pub invariant-loop-i : goal.invariant-loop-i
invariant-loop-i g l =
    record {
      count : length l.clients.items ≡ length l.fn.clients.items;
      members : AreMembersBy l.setup l.clients.items (λ i v. (goal.System-dyn g (i, v)).meaning v);
      kinds : All HaveKinds (systems_by l.clients.items (λ i v. (goal.System-dyn g (i, v)).meaning v));
      begun : (c : ℕ) → 0 < c → c ≤ l.i → life_of (lives_of l.clients.items) c ≡ starts l.setup;
      others : (c : ℕ) → l.i < c → life_of (lives_of l.clients.items) c ≡ life_of (lives_of l.fn.clients.items) c;
      built : StartsOnly l.i (systems_by l.fn.clients.items (λ i v. (goal.System-dyn g (i, v)).meaning v))
          (systems_by l.clients.items (λ i v. (goal.System-dyn g (i, v)).meaning v));
    }
