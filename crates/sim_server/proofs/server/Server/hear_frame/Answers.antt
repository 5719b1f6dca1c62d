-- Bytes are heard as the message of which they are the frame. Want of memory says that they are one, and of a message that has
-- entities or a state.
use Rattle.sim_server.proofs.{Made.answers, Raw.made_cut, Raw.made_heard, Silence.is_frame, Silence.noted_is_light}
use Rattle.sim_server.proofs.Common.{ℕ, List, Err, ap, are_bytes, false≢true, Heard, IsSilent, rules, SaysNoted, server_of, subst, sym, UpOf, ◌∙◌}
use Rattle.sim_server.proofs.server.Server.hear_frame.Goals as goal

pub returns-in-Ok-clause-made : goal.returns-in-Ok-clause-made
returns-in-Ok-clause-made c = made_heard c.args.self.now c.hear.new.self c.args.from c.args.bytes.now c.in-Ok.up c.hear.result c.in-Ok.ensures.ok
    c.hear.ensures.made

pub returns-in-Ok-clause-answers : goal.returns-in-Ok-clause-answers
returns-in-Ok-clause-answers c = λ active h. answers _ _ active h _ c.hear.result (made_heard c.args.self.now c.hear.new.self c.args.from c.args.bytes.now
    c.in-Ok.up c.hear.result c.in-Ok.ensures.ok c.hear.ensures.made)

pub returns-in-Err-OutOfMemory-clause-silent : goal.returns-in-Err-OutOfMemory-clause-silent
returns-in-Err-OutOfMemory-clause-silent c =
    λ none s. absurd (is_frame c.args.bytes.now c.unframe_up.result c.unframe_up.ensures.err (c.in-Err-OutOfMemory.is ∙ ap Err c.in-Err-OutOfMemory.field-0-is)
    none)

pub returns-in-Ok-clause-light : goal.returns-in-Ok-clause-light
returns-in-Ok-clause-light c = λ message is none still.
    c.hear.ensures.silent (subst (λ (m : UpOf (List ℕ)). IsSilent c.args.self.now.rules (server_of c.args.self.now) (Heard c.args.from m))
    (sym (c.in-Ok.ensures.reads message is)) still)

pub returns-in-Err-OutOfMemory-clause-light : goal.returns-in-Err-OutOfMemory-clause-light
returns-in-Err-OutOfMemory-clause-light c =
    λ message is none still. absurd
    (false≢true (sym none ∙ c.unframe_up.ensures.memory message is (c.in-Err-OutOfMemory.is ∙ ap Err c.in-Err-OutOfMemory.field-0-is)))

pub returns-in-Err-clause-made : goal.returns-in-Err-clause-made
returns-in-Err-clause-made c = made_cut c.args.self.now c.cut.new.self c.args.from c.args.bytes.now c.cut.result (are_bytes _ c.type_inv.bytes)
    (λ message is. search rules) c.cut.ensures.made

pub returns-in-Err-clause-answers : goal.returns-in-Err-clause-answers
returns-in-Err-clause-answers c = λ active h. answers _ _ active h _ c.cut.result
    (made_cut c.args.self.now c.cut.new.self c.args.from c.args.bytes.now c.cut.result (are_bytes _ c.type_inv.bytes) (λ message is. search rules)
    c.cut.ensures.made)

pub returns-in-Ok-clause-noted : goal.returns-in-Ok-clause-noted
returns-in-Ok-clause-noted c = λ message is report. c.hear.ensures.noted (subst (SaysNoted c.args.self.now c.args.from) (sym (c.in-Ok.ensures.reads message is))
    report)

pub returns-in-Err-OutOfMemory-clause-noted : goal.returns-in-Err-OutOfMemory-clause-noted
returns-in-Err-OutOfMemory-clause-noted c =
    λ message is report. absurd
    (false≢true (sym (noted_is_light c.args.self.now c.args.from message report) ∙ c.unframe_up.ensures.memory message is
    (c.in-Err-OutOfMemory.is ∙ ap Err c.in-Err-OutOfMemory.field-0-is)))
