use Rattle.sim_search.proofs.{Beginning.entry_at-replicate, Floods.labels-found}
use Rattle.sim_search.proofs.Common.{◌≡◌, ℕ, ◌*◌, ◌≤◌, Some, None, ap, ap₂, arith, Cell, entry_in, field_of_grid, IfOk-from_err, Size, size_in, sym, ◌∙◌}
use Rattle.sim_search.proofs.labels.labels_of.Goals as goal

pub loop-z-init : goal.loop-z-init
loop-z-init c =
    let table = c.in_ok-no_numbers.field-0 in
    let (width, depth, items) = c.in_ok-no_numbers.ensures in
    let none : (v : Cell) (l : ℕ) → entry_in table v ≡ Some l → ⊥ = λ v l e. let both : None ≡ Some l =
    sym (entry_at-replicate None (size_in table) table.items.items _ v items) ∙ e in cc in
    record {
      size_is = ap₂ (λ (w d : ℕ). let size : Size = record { width = w; depth = d } in size) (width ∙ c.width.ensures.width) (depth ∙ c.depth.ensures.depth);
      none_wait = c.new.ensures.items;
      sound = λ v l e. absurd (none v l e);
      closed = λ v l e. absurd (none v l e);
      past = λ v on lt. absurd (omega (arith, lt));
    }

pub returns : goal.returns
returns c =
    let size = c.args.grid.now.size in
    let rows : c.loop-z.z ≡ size.depth = omega (arith, c.loop-z.auto.z-end, c.loop-z-test.false, c.depth-z-end.ensures.depth) in
    let all : size.width * size.depth ≤ c.loop-z.z * size.width = omega (arith, ap (λ (n : ℕ). n * size.width) rows) in
    labels-found (field_of_grid c.args.grid.now) c.loop-z.flood (c.loop-z.z * size.width) all c.loop-z.invariant

pub returns-in_err-no_numbers : goal.returns-in_err-no_numbers
returns-in_err-no_numbers c = IfOk-from_err _ _ c.from_residual.ensures.0

pub returns-in_err-flood_row : goal.returns-in_err-flood_row
returns-in_err-flood_row c = IfOk-from_err _ _ c.from_residual-in_err-flood_row.ensures.0
