use Rattle.sim_search.proofs.{Beginning.entry_at-all, Common.{All, All-replicate, ap, ap₂, arith, Cell, Entry, false, get_or, get_or-replicate, IfOk-from_err}}
use Rattle.sim_search.proofs.Common.{length, length-replicate, List, nat_eq, None, read_entry, refl, Size, subst, sym, ℕ, [], ◌*◌, ◌∙◌, ◌≡◌, ◌≤◌}
use Rattle.sim_search.proofs.queue.new_rooms.Goals as goal

pub returns : goal.returns
returns c =
    let size : Size = record { width = c.args.origin.width; depth = c.args.origin.depth } in
    let unread : Entry → Type 0 = λ e. read_entry 1 e ≡ None in
    let unmarked : ℕ → Type 0 = λ t. nat_eq t 1 ≡ false in
    record {
      start_is = refl;
      size_is = refl;
      none_reached = λ v. entry_at-all (read_entry 1) None size c.in_ok-items.items.items v
          (subst (All unread) (sym c.in_ok-items.ensures) (All-replicate unread _ (record { stamp = 0; cost = 0 }) refl));
      none_taken = λ v. entry_at-all (λ (t : ℕ). nat_eq t 1) false size c.in_ok-taken.taken.items v
          (subst (All unmarked) (sym c.in_ok-taken.ensures) (All-replicate unmarked _ 0 refl));
      none_wait = λ b lt. ap (λ (rings : List (List Cell)). get_or rings b []) c.in_ok-buckets.ensures ∙ get_or-replicate 32 b [] [] lt;
    }

pub returns-in_err-items : goal.returns-in_err-items
returns-in_err-items c = IfOk-from_err _ _ c.from_residual.ensures.0

pub returns-in_err-taken : goal.returns-in_err-taken
returns-in_err-taken c = IfOk-from_err _ _ c.from_residual-in_err-taken.ensures.0

pub returns-in_err-buckets : goal.returns-in_err-buckets
returns-in_err-buckets c = IfOk-from_err _ _ c.from_residual-in_err-buckets.ensures.0

pub invariant_of-costs : goal.invariant_of-costs
invariant_of-costs c =
    let blank : Entry = record { stamp = 0; cost = 0 } in
    let room : c.in_ok-items.items.len ≡ length c.in_ok-items.items.items = omega (arith, c.in_ok-items.items.ok.0) in
    let stamped : Entry → Type 0 = λ e. e.stamp ≤ 1 in
    record {
      narrow = c.args.origin.narrow;
      shallow = c.args.origin.shallow;
      full = room ∙ ap length c.in_ok-items.ensures ∙ length-replicate _ blank ∙ ap₂ (λ (w d : ℕ). w * d) c.from.ensures c.from-2.ensures;
      stamped = subst (All stamped) (sym c.in_ok-items.ensures) (All-replicate stamped _ blank (omega arith));
    }

pub invariant_of-result : goal.invariant_of-result
invariant_of-result c =
    let room : c.in_ok-taken.taken.len ≡ length c.in_ok-taken.taken.items = omega (arith, c.in_ok-taken.taken.ok.0) in
    let rings : c.in_ok-buckets.buckets.len ≡ length c.in_ok-buckets.buckets.items = omega (arith, c.in_ok-buckets.buckets.ok.0) in
    let marked : ℕ → Type 0 = λ t. t ≤ 1 in
    record {
      east = c.args.origin.east;
      north = c.args.origin.north;
      all_cells = room ∙ ap length c.in_ok-taken.ensures ∙ length-replicate _ 0 ∙ ap₂ (λ (w d : ℕ). w * d) c.from.ensures c.from-2.ensures;
      marked = subst (All marked) (sym c.in_ok-taken.ensures) (All-replicate marked _ 0 (omega arith));
      ring = rings ∙ ap length c.in_ok-buckets.ensures;
    }
