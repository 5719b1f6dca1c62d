-- How much was given out where reading ended before the file did.
use Rattle.sim_store.{proofs.Given.{after_giving-after_giving, KeepsFiles-trans}, specs.{declared.fault.StoreFault.TheVariants.OutOfMemory, Reading.ReadsUp}}
use Rattle.{sim_store.specs.Shelf.after_giving, std.proofs.Common.{ap, arith, Err, length, rules, subst, sym, ◌+◌, ◌∙◌, ◌≡◌}}

pub returns-then-count-len-clause-reads : Rattle.sim_store.proofs.read.read_rest.Goals.returns-then-count-len-clause-reads
returns-then-count-len-clause-reads g c = record {
  causes = (
    length c.pieces.bytes.items + c.in-Ok.count,
    omega (arith, c.if-count-len.true, c.len.ensures),
    omega (arith, c.pieces.invariant.within, c.in-Ok.ensures.moves.bound),
    c.in-Ok.ensures.counts ∙ ap (after_giving c.in-Ok.count) c.pieces.invariant.counts ∙ after_giving-after_giving _ _ _,
  );
  end = tt;
  files = KeepsFiles-trans _ _ _ _ _ _ _ c.pieces.invariant.files c.in-Ok.ensures.files;
}

pub returns-in_err-extend_from_slice-clause-reads :
    Rattle.sim_store.proofs.read.read_rest.Goals.returns-in_err-extend_from_slice-clause-reads
returns-in_err-extend_from_slice-clause-reads g c =
    let is : c.from_residual.result ≡ Err OutOfMemory = search rules in
    subst (λ r. ReadsUp r g.S.Shelf c.args.shelf.now c.read.new.self) (sym is) (record {
      causes = (
        length c.pieces.bytes.items + c.in-Ok.count,
        omega (arith, c.if-count-len.false, c.len.ensures),
        c.in-Ok.ensures.counts ∙ ap (after_giving c.in-Ok.count) c.pieces.invariant.counts ∙ after_giving-after_giving _ _ _,
      );
      end = tt;
      files = KeepsFiles-trans _ _ _ _ _ _ _ c.pieces.invariant.files c.in-Ok.ensures.files;
    })
