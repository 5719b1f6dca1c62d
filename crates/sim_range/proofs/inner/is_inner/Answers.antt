-- Both ends are there.
use Rattle.sim_range.proofs.{Common.sym, Common.◌∙◌, Planning.inner_is, inner.is_inner.Goals.else-has_only_moved, inner.is_inner.Goals.then-has_only_moved}
use Rattle.std.proofs.Common.{true≢false}

pub returns-then-is_close : Rattle.sim_range.proofs.inner.is_inner.Goals.returns-then-is_close
returns-then-is_close c is = elim c.if-has_only_moved.branch [
  | then-has_only_moved w ↦ inner_is c.args.number c.args.near c.args.before.now c.args.after.now c.in-Some-Some.from c.in-Some-Some.to c.in-Some-Some.is-0
      c.in-Some-Some.is-1 (
        c.has_only_moved.ensures w.if-has_only_moved.true,
        w.is_close.ensures (sym w.value-is ∙ c.if-is_close.true),
        c.is_close-then-is_close.ensures is,
      )
  | else-has_only_moved w ↦ absurd (true≢false (sym c.if-is_close.true ∙ w.value-is ∙ w.if-has_only_moved.false))
]

pub returns-else-is_close : Rattle.sim_range.proofs.inner.is_inner.Goals.returns-else-is_close
returns-else-is_close c is = absurd (true≢false (sym is ∙ c.if-is_close.false))
