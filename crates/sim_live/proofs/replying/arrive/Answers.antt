-- What is said where a connection ends has frames, and the server stays small.
use Rattle.{sim_pipes.proofs.Telling.have_frames, sim_pipes.proofs.Telling.makes_small, sim_plain.specs.Messages.Cut, std.proofs.Common.rules}

pub returns-in-Cut : Rattle.sim_live.proofs.replying.arrive.Goals.returns-in-Cut
returns-in-Cut c =
    record {
      answers = search rules;
      posts = have_frames c.args.server.now (Cut c.in-Cut.from) c.cut.result c.cut.new.self c.requires.small tt c.cut.ensures.made;
      stays = record {
        small = makes_small c.args.server.now (Cut c.in-Cut.from) c.cut.result c.cut.new.self c.requires.small tt c.cut.ensures.made;
        rules = search rules;
      };
    }
