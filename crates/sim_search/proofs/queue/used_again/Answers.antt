use Rattle.sim_search.proofs.{Beginning.entry_at-all, Common.{All, All-weaker, arith, false, nat_eq, ne_eqb, refl, size_of, ℕ, ◌≡◌, ◌≤◌}}

pub returns : Rattle.sim_search.proofs.queue.used_again.Goals.returns
returns c =
    let old = c.args.rooms in
    let now = c.forget.new.self.stamp in
    let apart : All (λ (t : ℕ). nat_eq t now ≡ false) old.taken.items = All-weaker (λ (t : ℕ). t ≤ old.costs.stamp) (λ (t : ℕ). nat_eq t now ≡ false)
    (λ t le. ne_eqb t now (λ e. omega (arith, e, le, c.forget.ensures.stamp))) old.taken.items old.marked in
    record {
      start_is = refl;
      size_is = c.forget.ensures.size;
      none_reached = c.forget.ensures.none;
      none_taken = λ e. entry_at-all (λ (t : ℕ). nat_eq t now) false (size_of c.forget.new.self) old.taken.items e apart;
      none_wait = c.empty_all.ensures.empty;
    }
