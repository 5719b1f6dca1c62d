-- What the request comes to is answered, or why it ended.
use Rattle.sim_top.proofs.Common.{ap, Asked, asked, asked_by, IsAnswered, None, Option, option_map, refl, RigsCameBackBy, Some, Status, status_of, string_bytes}
use Rattle.sim_top.proofs.{Common.{subst, sym, used, words_of, ◌≡◌}, Preparing.{answered_settled, of_answer, of_ended, of_unasked}}
use Rattle.sim_top.{proofs.Returning.{rigs_later, rigs_same}, specs.declared.words.Request.Request}
use Rattle.sim_top.proofs.top.made_answer.Goals as goal

pub returns-in-Ok-clause-answer : goal.returns-in-Ok-clause-answer
returns-in-Ok-clause-answer g c = of_answer (words_of c.args.words.now) (asked c.in-Some.request) c.in-Some.ensures.same _ _ c.in-Ok.answer
    c.in-Ok.ensures.answer

pub returns-in-Ok-clause-back : goal.returns-in-Ok-clause-back
returns-in-Ok-clause-back g c =
    subst (λ (o : Option Asked). RigsCameBackBy (λ i v. (goal.System-dyn g (i, v)).meaning v) o (g.S.Shelf.held c.args.shelf.now) c.in-Ok.answer.status
    c.args.equipment.now.rigs c.answer_to.new.self.rigs) c.in-Some.ensures.same c.in-Ok.ensures.back

pub returns-in-Err-clause-answer : goal.returns-in-Err-clause-answer
returns-in-Err-clause-answer g c =
    let made = c.answered-in-Err.result in
    let text = string_bytes made.text in
    of_ended (words_of c.args.words.now) (asked c.in-Some.request) c.in-Some.ensures.same _ _ c.in-Err.stop made.status text made.saved c.stop_text.result
    (subst (λ (s : Status). IsAnswered made.status text s c.stop_text.result) c.status.ensures c.answered-in-Err.ensures.answer) c.answered-in-Err.ensures.saved
    c.stop_text.ensures.text c.stop_text.ensures.silent
    c.in-Err.ensures.answer

pub returns-in-Err-clause-back : goal.returns-in-Err-clause-back
returns-in-Err-clause-back g c =
    let made = c.answered-in-Err.result in
    let text = string_bytes made.text in
    let held = g.S.Shelf.held c.args.shelf.now in
    rigs_later (λ i v. (goal.System-dyn g (i, v)).meaning v) (asked_by (words_of c.args.words.now)) held (status_of c.in-Err.stop) made.status
    c.args.equipment.now.rigs
    c.answer_to.new.self.rigs
    (answered_settled (status_of c.in-Err.stop) made.status text c.stop_text.result (subst (λ (s : Status). IsAnswered made.status text s c.stop_text.result)
    c.status.ensures c.answered-in-Err.ensures.answer))
    (subst (λ (o : Option Asked). RigsCameBackBy (λ i v. (goal.System-dyn g (i, v)).meaning v) o held (status_of c.in-Err.stop) c.args.equipment.now.rigs
    c.answer_to.new.self.rigs) c.in-Some.ensures.same c.in-Err.ensures.back)

-- words that are in no table make no request, and use no rig
none_asked : (request : Option Request) (wanted : Option Asked) → ((r : Request) → request ≡ Some r → ⊥) → option_map asked request ≡ wanted → wanted ≡ None
none_asked None wanted other is = sym is
none_asked (Some r) wanted other is = absurd (other r refl)

pub returns-in_default-clause-answer : goal.returns-in_default-clause-answer
returns-in_default-clause-answer g c =
    let made = c.answered.result in
    of_unasked (words_of c.args.words.now) (none_asked c.request_of.result (asked_by (words_of c.args.words.now)) c.in_default.not-Some
    c.request_of.ensures.same) _ made.status (string_bytes made.text)
    made.saved c.usage_text.result c.answered.ensures.answer c.answered.ensures.saved c.usage_text.ensures

pub returns-in_default-clause-back : goal.returns-in_default-clause-back
returns-in_default-clause-back g c =
    rigs_same (λ i v. (goal.System-dyn g (i, v)).meaning v) (asked_by (words_of c.args.words.now)) (g.S.Shelf.held c.args.shelf.now) c.answered.result.status
    c.args.equipment.now.rigs c.requires.eight
    (λ ended. ap used (none_asked c.request_of.result (asked_by (words_of c.args.words.now)) c.in_default.not-Some c.request_of.ensures.same))
