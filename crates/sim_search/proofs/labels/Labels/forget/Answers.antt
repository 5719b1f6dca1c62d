-- One cell more has no label.
use Rattle.std.proofs.lemmas.List.Elements.{All-contains, All-more}
use Rattle.{sim_grid.proofs.Beside.same_or_not, sim_search.proofs.Added.gone_through, sim_search.specs.Floods.label_in}
use Rattle.sim_search.proofs.Common.{◌≡◌, ℕ, ◌≢◌, ◌⊎◌, List, All-weaker, Cell, Contains, Contains-get_or, get_or, inl, inr, None, subst, sym, take, ⊎_elim, ◌∙◌}

pub loop-cell-preserved : Rattle.sim_search.proofs.labels.Labels.forget.Goals.loop-cell-preserved
loop-cell-preserved c = record {
  here = All-more Has xs i (record { x = 0; z = 0 }) c.loop-cell-test.true
      (All-weaker Had Has (λ e h. still e h (same_or_not e x)) (take i xs) c.loop-cell.invariant.here) c.clear.ensures.here;
  elsewhere = λ e. elsewhere e (same_or_not e x);
}
  where
    xs : List Cell
    xs = c.args.cells.now

    i : ℕ
    i = c.loop-cell.cell-index

    x : Cell
    x = get_or xs i (record { x = 0; z = 0 })

    Had : Cell → Type 0
    Had e = label_in c.loop-cell.self e ≡ None

    Has : Cell → Type 0
    Has e = label_in (record { table = c.clear.new.self }) e ≡ None

    still : (e : Cell) → Had e → (e ≡ x) ⊎ (e ≢ x) → Has e
    still e h (inl same) = subst Has (sym same) c.clear.ensures.here
    still e h (inr other) = c.clear.ensures.elsewhere e other ∙ h

    elsewhere : (e : Cell) → (e ≡ x) ⊎ (e ≢ x) → (label_in (record { table = c.clear.new.self }) e ≡ label_in c.args.self.now e) ⊎ Contains xs e
    elsewhere e (inl same) = inr (subst (Contains xs) (sym same) (Contains-get_or xs i (record { x = 0; z = 0 }) c.loop-cell-test.true))
    elsewhere e (inr other) = ⊎_elim (λ (h : label_in c.loop-cell.self e ≡ label_in c.args.self.now e). inl (c.clear.ensures.elsewhere e other ∙ h))
        (λ (h : Contains xs e). inr h) (c.loop-cell.invariant.elsewhere e)

pub returns : Rattle.sim_search.proofs.labels.Labels.forget.Goals.returns
returns c = record {
  here = λ e h. All-contains (λ (v : Cell). label_in c.loop-cell.self v ≡ None) c.args.cells.now e
      (gone_through (λ (v : Cell). label_in c.loop-cell.self v ≡ None) c.args.cells.now c.loop-cell.cell-index c.loop-cell-test.false
      c.loop-cell.invariant.here) h;
  elsewhere = c.loop-cell.invariant.elsewhere;
}
