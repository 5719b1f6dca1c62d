-- What was counted where the other talk asks.
use Rattle.{sim_talk.{proofs.Prompting.{heard_read, heard_wrote}, specs.LineTalk.{HearCounts, WriteCounts}}, std.proofs.Common.{subst, ℕ}}

pub returns : Rattle.sim_talk.proofs.prompt_talk.PromptTalk.ask.Goals.returns
returns g c = record {
  read = subst (λ (n : ℕ). HearCounts c.hear.result n (g.T.Talk.history c.hear.new.self).unread) c.in_ok-say.ensures.read
      (heard_read c.hear.result _ _ _ c.hear.ensures);
  written = subst (λ (n : ℕ). WriteCounts c.hear.result n (g.T.Talk.history c.hear.new.self).unwritten) c.in_ok-say.ensures.written
      (heard_wrote c.hear.result _ _ _ c.hear.ensures);
}
