-- One cell more has the label.
use Rattle.sim_search.proofs.labels.Labels.give.Goals as goal
use Rattle.{sim_grid.proofs.Beside.same_or_not, sim_search.proofs.{Added.gone_through, Common.{All-get_or, All-weaker, Cell, Contains, Contains-get_or}}}
use Rattle.sim_search.proofs.Common.{get_or, inl, inr, IsOnGround, List, Size, Some, subst, sym, take, ℕ, ⊎_elim, ◌∙◌, ◌≡◌, ◌≢◌, ◌⊎◌}
use Rattle.{sim_search.specs.Floods.{HasRoom, label_in}, std.proofs.lemmas.List.Elements.{All-contains, All-more}}

pub set-requires : goal.set-requires
set-requires c = subst (λ (size : Size). IsOnGround size (get_or c.args.cells.now c.loop-cell.cell-index (record { x = 0; z = 0 })))
    (sym c.loop-cell.invariant.size)
    (All-get_or (HasRoom c.args.self.now) c.args.cells.now c.loop-cell.cell-index (record { x = 0; z = 0 }) c.loop-cell-test.true c.requires)

pub loop-cell-preserved : goal.loop-cell-preserved
loop-cell-preserved c = record {
  size = c.set.ensures.size ∙ c.loop-cell.invariant.size;
  here = All-more Has xs i (record { x = 0; z = 0 }) c.loop-cell-test.true
      (All-weaker Had Has (λ e h. still e h (same_or_not e x)) (take i xs) c.loop-cell.invariant.here) c.set.ensures.here;
  elsewhere = λ e. elsewhere e (same_or_not e x);
}
  where
    xs : List Cell
    xs = c.args.cells.now

    i : ℕ
    i = c.loop-cell.cell-index

    x : Cell
    x = get_or xs i (record { x = 0; z = 0 })

    Had : Cell → Type 0
    Had e = label_in c.loop-cell.self e ≡ Some c.args.label

    Has : Cell → Type 0
    Has e = label_in (record { table = c.set.new.self }) e ≡ Some c.args.label

    still : (e : Cell) → Had e → (e ≡ x) ⊎ (e ≢ x) → Has e
    still e h (inl same) = subst Has (sym same) c.set.ensures.here
    still e h (inr other) = c.set.ensures.elsewhere e other ∙ h

    elsewhere : (e : Cell) → (e ≡ x) ⊎ (e ≢ x) → (label_in (record { table = c.set.new.self }) e ≡ label_in c.args.self.now e) ⊎ Contains xs e
    elsewhere e (inl same) = inr (subst (Contains xs) (sym same) (Contains-get_or xs i (record { x = 0; z = 0 }) c.loop-cell-test.true))
    elsewhere e (inr other) = ⊎_elim (λ (h : label_in c.loop-cell.self e ≡ label_in c.args.self.now e). inl (c.set.ensures.elsewhere e other ∙ h))
        (λ (h : Contains xs e). inr h) (c.loop-cell.invariant.elsewhere e)

pub returns : goal.returns
returns c = record {
  here = λ e h. All-contains (λ (v : Cell). label_in c.loop-cell.self v ≡ Some c.args.label) c.args.cells.now e
      (gone_through (λ (v : Cell). label_in c.loop-cell.self v ≡ Some c.args.label) c.args.cells.now c.loop-cell.cell-index c.loop-cell-test.false
      c.loop-cell.invariant.here) h;
  elsewhere = c.loop-cell.invariant.elsewhere;
}
