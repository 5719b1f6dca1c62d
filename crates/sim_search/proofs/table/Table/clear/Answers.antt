use Rattle.sim_search.proofs.Common.{arith, cases_Bool, entry_in, false, has_cell, inl, inr, length, None, refl, size_in, sym, true, true≢false, ◌*◌, ◌∙◌, ◌≡◌}
use Rattle.sim_search.proofs.{Common.◌⊎◌, Rows.entry_at-off, Rows.entry_at-set_other, Rows.entry_at-set_same, Rows.has_cell-true}

pub returns-then-has : Rattle.sim_search.proofs.table.Table.clear.Goals.returns-then-has
returns-then-has c =
    let old = c.args.self.now in
    let on = c.has.ensures.0 c.if-has.true in
    let full : length old.items.items ≡ old.width * old.depth = omega (arith, old.full, old.items.ok.0) in
    let p = c.place-place.ensures.place in
    record {
      size = refl;
      here = rw p (entry_at-set_same None (size_in old) old.items.items c.args.cell None on full);
      elsewhere = λ e ne. rw p (entry_at-set_other None (size_in old) old.items.items c.args.cell e None on ne);
    }

pub returns-else-has : Rattle.sim_search.proofs.table.Table.clear.Goals.returns-else-has
returns-else-has c = record { size = refl; here = by (cases_Bool (has_cell (size_in c.args.self.now) c.args.cell)); elsewhere = λ e ne. refl }
  where
    by : (has_cell (size_in c.args.self.now) c.args.cell ≡ true) ⊎ (has_cell (size_in c.args.self.now) c.args.cell ≡ false)
        → entry_in c.args.self.now c.args.cell ≡ None
    by (inl h) = absurd (true≢false (sym (c.has.ensures.1 (has_cell-true (size_in c.args.self.now) c.args.cell h)) ∙ c.if-has.false))
    by (inr h) = entry_at-off None (size_in c.args.self.now) c.args.self.now.items.items c.args.cell h
