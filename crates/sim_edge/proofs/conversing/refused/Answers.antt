-- A refusal is told, or a beginning of it, or it has no text.
use Rattle.sim_edge.{proofs.Refusing.{refused_memory, refused_part, refused_silent, refused_told}, specs.Talked.Refused}
use Rattle.sim_top.specs.{declared.status.Status.Status, Stops.{status_of, stop_text}}
use Rattle.std.proofs.{Common.{arith, length, subst, sym, [], ◌<◌, ◌∙◌, ◌≡◌}, lemmas.{Bool.{Decides.nat_tests, eqb-true}, List.nil_from_length}}
use Rattle.sim_edge.specs.declared.ending.Ending.TheVariants as ending
use Rattle.sim_edge.proofs.conversing.refused.Goals as goal

pub returns-in_default-clause-refused : goal.returns-in_default-clause-refused
returns-in_default-clause-refused g c = refused_memory (status_of c.args.stop.now) (stop_text c.args.stop.now) (g.T.Talk.history c.args.talk.now)

pub returns-then-is_empty-clause-refused : goal.returns-then-is_empty-clause-refused
returns-then-is_empty-clause-refused g c =
    let none : c.as_bytes-bytes.result.now ≡ [] = nil_from_length c.as_bytes-bytes.result.now
    (eqb-true (length c.as_bytes-bytes.result.now) 0 (sym c.is_empty.ensures ∙ c.if-is_empty.true)) in
    subst (λ (s : Status). Refused (status_of c.args.stop.now) (stop_text c.args.stop.now) (g.T.Talk.history c.args.talk.now) (g.T.Talk.history c.args.talk.now)
    (ending.Run s)) (sym c.status.ensures)
    (refused_silent (status_of c.args.stop.now) (stop_text c.args.stop.now) (g.T.Talk.history c.args.talk.now)
    (sym c.in-Ok.ensures.text ∙ sym c.as_bytes-bytes.ensures.value ∙ none))

pub returns-in-Ok-tell_out-clause-refused : goal.returns-in-Ok-tell_out-clause-refused
returns-in-Ok-tell_out-clause-refused g c =
    let some : 0 < length c.as_bytes-bytes.result.now = grind (arith, nat_tests, c.is_empty.ensures, c.if-is_empty.false) in
    subst (λ (s : Status). Refused (status_of c.args.stop.now) (stop_text c.args.stop.now) (g.T.Talk.history c.args.talk.now)
    (g.T.Talk.history c.tell_out.new.talk) (ending.Run s)) (sym c.status-in-Ok-tell_out.ensures)
    (refused_told (status_of c.args.stop.now) (stop_text c.args.stop.now) c.as_bytes-bytes.result.now (g.T.Talk.history c.args.talk.now)
    (g.T.Talk.history c.tell_out.new.talk) (c.as_bytes-bytes.ensures.value ∙ c.in-Ok.ensures.text) some c.in-Ok-tell_out.ensures.told)

pub returns-clause-refused : goal.returns-clause-refused
returns-clause-refused g c =
    let some : 0 < length c.as_bytes-bytes.result.now = grind (arith, nat_tests, c.is_empty.ensures, c.if-is_empty.false) in
    refused_part (status_of c.args.stop.now) (stop_text c.args.stop.now) c.as_bytes-bytes.result.now c.in-Err.field-0 (g.T.Talk.history c.args.talk.now)
    (g.T.Talk.history c.tell_out.new.talk) (c.as_bytes-bytes.ensures.value ∙ c.in-Ok.ensures.text) some c.in-Err.ensures.told
