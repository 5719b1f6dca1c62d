-- Nothing has failed so far.
use Rattle.std.proofs.Common.{◌≡◌}

abbrev pub invariant-loop : Rattle.sim_talk.proofs.prompt_talk.PromptTalkTalk.hear.Given.invariant-loop
invariant-loop g l =
    record {
      read : (g.T.Talk.history l.self.talk).unread ≡ (g.T.Talk.history l.fn.self.talk).unread;
      wrote : (g.T.Talk.history l.self.talk).unwritten ≡ (g.T.Talk.history l.fn.self.talk).unwritten;
    }
