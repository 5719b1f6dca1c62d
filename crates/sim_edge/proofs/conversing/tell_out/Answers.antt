-- A text was told, and is written; or it could not be.
use Rattle.{sim_store.specs.declared.fault.Failed.Failed, sim_talk.proofs.Talking.{Extends-written, told_and_lost}}
use Rattle.{sim_talk.specs.Talks.{Extends, History, Settles, Tells, told}, std.{proofs.Common.{Err, List, Ok, Result, ℕ, [], ◌∷◌}, specs.Prelude.⊤}}

settled_text : (result : Result ⊤ Failed) (text : List ℕ) (a b c : History) → Extends a b (told text ∷ []) → Settles result b c → Tells result text a c
settled_text (Ok done) text a b c one wrote = Extends-written a b c (told text ∷ []) one wrote
settled_text (Err failed) text a b c one lost = told_and_lost failed text a b c one lost

pub returns-clause-told : Rattle.sim_edge.proofs.conversing.tell_out.Goals.returns-clause-told
returns-clause-told g c = settled_text c.settle.result c.args.text.now _ _ _ c.in_ok-tell.ensures c.settle.ensures
