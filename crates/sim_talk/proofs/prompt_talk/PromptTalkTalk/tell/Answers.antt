-- Nothing is told of it.
use Rattle.sim_talk.proofs.Prompting.{tells_counted}

pub returns : Rattle.sim_talk.proofs.prompt_talk.PromptTalkTalk.tell.Goals.returns
returns g c = tells_counted c.tell.result c.args.text.now _ _ c.tell.ensures
