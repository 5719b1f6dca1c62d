-- Nor of what is written.
use Rattle.sim_talk.proofs.Prompting.{settles_counted}

pub returns : Rattle.sim_talk.proofs.prompt_talk.PromptTalkTalk.settle.Goals.returns
returns g c = settles_counted c.settle.result _ _ c.settle.ensures
