-- The bytes of the sink and those that are kept tell what was told.
use Rattle.sim_talk.proofs.Talking.{tells_piped}

pub returns-clause-passed : Rattle.sim_talk.proofs.line_talk.LineTalkTalk.tell.Goals.returns-clause-passed
returns-clause-passed g c = tells_piped c.tell.result c.args.text.now _ _ _ _ _ _ _ _ _ _ c.tell.ensures.told c.tell.ensures.faults
