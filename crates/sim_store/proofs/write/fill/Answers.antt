-- One more piece written keeps the invariant: the beginning of the bytes grows by what the shelf took.
use Rattle.{sim_store.proofs.Pieces.{Appends-more, HeldSet-HeldGrows}, std.proofs.Common.{arith, length-drop, ◌∙◌}}

pub loop-done-preserved : Rattle.sim_store.proofs.write.fill.Goals.loop-done-preserved
loop-done-preserved g c =
    let step = c.in_ok-done.ensures in
    let before = c.loop-done.invariant in
    record {
      within = omega (arith, step.adds.takes.0, length-drop c.loop-done.done c.args.bytes.now);
      held = HeldSet-HeldGrows _ _ _ _ c.args.bytes.now c.loop-done.done c.in_ok-done.field-0 before.held (rw before.name at step.held);
      made = Appends-more _ _ _ c.args.bytes.now c.loop-done.done c.in_ok-done.field-0 before.made step.adds.added;
      counts = step.counts ∙ before.counts;
      making = step.making;
      name = step.name ∙ before.name;
      reading = record { opened = step.reading.opened ∙ before.reading.opened; rest = step.reading.rest ∙ before.reading.rest };
    }
