use Rattle.{sim_grid.{proofs.Words.packed_open, specs.Packed.ArePacked}, std.proofs.Common.{List, replicate, subst, sym, true, ℕ}}

pub returns : Rattle.sim_grid.proofs.packed.all_open.Goals.returns
returns c =
    subst (λ (l : List ℕ). ArePacked (replicate c.args.count true) l) (sym (c.in_ok-vec.ensures.items_if_clones_equal (λ y e. e)))
    (packed_open c.args.count)
