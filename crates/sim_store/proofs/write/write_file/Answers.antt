-- After a fault the name holds a prefix, whether filling the file failed or closing it.
use Rattle.{sim_store.proofs.Pieces.prefix_held, std.proofs.Common.inr}

pub returns-in_default-clause-held : Rattle.sim_store.proofs.write.write_file.Goals.returns-in_default-clause-held
returns-in_default-clause-held g c =
    let made = c.in-Ok.ensures in
    inr (rw c.close-closed.ensures.held (prefix_held c.fill-filled.result c.args.name.now _ c.args.bytes.now _ _ _ made.name made.held
    c.fill-filled.ensures.held))
