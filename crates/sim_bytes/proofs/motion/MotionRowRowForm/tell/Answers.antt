-- All pieces of a row have room in what gathers them.
use Rattle.{sim_base.specs.Spelling.moving_bytes, sim_bytes.specs.{Laws.length-moving_bytes, Telling.Tells}, std.proofs.Common.{OnOk, subst, [], ◌∙◌, ◌≡◌}}

pub returns : Rattle.sim_bytes.proofs.motion.MotionRowRowForm.tell.Goals.returns
returns g c =
    let row = c.args.self.now in
    let gathered : c.tell_pieces.new.out ≡ moving_bytes row = c.in-Ok.ensures.told [] [] (λ _. c.new-gathered.ensures)
    (length-moving_bytes row c.in-Ok.ensures.short) in
    subst (λ bytes. OnOk c.tell.result (Tells g.K.ByteSink.holds c.args.out.now c.tell.new.self bytes)) (c.bytes.ensures ∙ gathered) c.tell.ensures
