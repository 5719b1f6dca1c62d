-- The three parts stand behind the old text.
use Rattle.{sim_replay.proofs.Common.{append_assoc, codes, decimal, ◌++◌}, std.specs.Prelude.string_bytes}

pub returns : Rattle.sim_replay.proofs.lines.push_order_front.Goals.returns
returns c =
    let joined = append_assoc (string_bytes c.args.out.now) (codes "command turn " ++ decimal c.args.turn) (codes " player ") in
    cc (joined, c.from.ensures, c.in_ok-push_number.ensures, c.in_ok-push_str.ensures.bytes)
