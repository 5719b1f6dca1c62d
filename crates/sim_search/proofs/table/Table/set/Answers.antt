use Rattle.sim_search.proofs.{Common.{ap, arith, length, None, refl, set, size_in, Some, ℕ, ◌*◌, ◌≡◌}, Rows.{entry_at-set_other, entry_at-set_same}}

pub returns : Rattle.sim_search.proofs.table.Table.set.Goals.returns
returns c =
    let old = c.args.self.now in
    let full : length old.items.items ≡ old.width * old.depth = omega (arith, old.full, old.items.ok.0) in
    let p = c.place-place.ensures.place in
    record {
      size = refl;
      here = rw p (entry_at-set_same None (size_in old) old.items.items c.args.cell (Some c.args.number) c.requires full);
      elsewhere = λ e ne. rw p (entry_at-set_other None (size_in old) old.items.items c.args.cell e (Some c.args.number) c.requires ne);
      items_are = ap (λ (n : ℕ). set old.items.items n (Some c.args.number)) p;
    }
