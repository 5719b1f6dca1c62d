-- What arrives in bytes is small, so what is said has frames and the server stays small.
use Rattle.sim_pipes.proofs.Telling.{have_frames, hears_small, makes_rules, raw_is_small}
use Rattle.{sim_wire.proofs.Fronts.are_bytes, sim_wire.specs.Memory.raw, std.proofs.Common.rules}

pub returns : Rattle.sim_live.proofs.replying.hear.Goals.returns
returns c =
    record {
      answers = search rules;
      posts = have_frames c.args.server.now (raw c.args.from c.args.bytes.now) c.hear_frame.result c.hear_frame.new.self c.requires.small
          (raw_is_small c.args.from c.args.bytes.now (are_bytes _ c.type_inv.bytes)) c.hear_frame.ensures.made;
      stays = record {
        small = hears_small c.args.server.now c.args.from c.args.bytes.now c.hear_frame.result c.hear_frame.new.self c.requires.small
            (are_bytes _ c.type_inv.bytes) c.hear_frame.ensures.made;
        rules = makes_rules c.args.server.now (raw c.args.from c.args.bytes.now) c.hear_frame.result c.hear_frame.new.self c.hear_frame.ensures.made;
      };
    }
