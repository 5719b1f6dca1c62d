use Rattle.sim_search.proofs.Beginning.{entry_at-all}
use Rattle.sim_search.proofs.Common.{◌≡◌, ◌+◌, ◌≤◌, nat_eq, Some, None, All, refl, All-weaker, arith, cond-false, Entry, ne_eqb, read_entry, size_of}

pub returns : Rattle.sim_search.proofs.costs.Costs.forget.Goals.returns
returns c =
    let old = c.args.self.now in
    let now = old.stamp + 1 in
    let apart : All (λ (e : Entry). read_entry now e ≡ None) old.items.items =
    All-weaker (λ (e : Entry). e.stamp ≤ old.stamp) (λ (e : Entry). read_entry now e ≡ None)
    (λ e le. cond-false (nat_eq e.stamp now) (Some e.cost) None (ne_eqb e.stamp now (λ f. omega (arith, f, le)))) old.items.items old.stamped in
    record { size = refl; stamp = refl; none = λ v. entry_at-all (read_entry now) None (size_of old) old.items.items v apart }
