-- What a command says is said of the request; those that use no rig leave all as they are.
use Rattle.sim_top.proofs.{Common.to_show, Returning.rigs_same}
use Rattle.sim_top.proofs.Common.{Some, refl, ap, Asked, asked, IsAnswerTo, RigsCameBackBy, shelved, status_made, subst, sym, to_compare, to_parts, to_serve}
use Rattle.sim_top.proofs.commands.Equipment.answer_to.Goals as goal

pub returns-in-Play-clause-answer : goal.returns-in-Play-clause-answer
returns-in-Play-clause-answer g c =
    subst (λ (a : Asked). IsAnswerTo a c.play.result (shelved (g.S.Shelf.held c.args.shelf.now) (g.S.Shelf.counts c.args.shelf.now))
    (shelved (g.S.Shelf.held c.play.new.shelf) (g.S.Shelf.counts c.play.new.shelf))) (sym (ap asked c.in-Play.is)) c.play.ensures.answer

pub returns-in-Play-clause-back : goal.returns-in-Play-clause-back
returns-in-Play-clause-back g c = subst (λ (a : Asked). RigsCameBackBy (λ i v. (goal.System-dyn g (i, v)).meaning v) (Some a) (g.S.Shelf.held c.args.shelf.now)
    (status_made c.play.result) c.args.self.now.rigs c.play.new.self.rigs) (sym (ap asked c.in-Play.is)) c.play.ensures.back

pub returns-in-State-clause-answer : goal.returns-in-State-clause-answer
returns-in-State-clause-answer g c =
    subst (λ (a : Asked). IsAnswerTo a c.store.result (shelved (g.S.Shelf.held c.args.shelf.now) (g.S.Shelf.counts c.args.shelf.now))
    (shelved (g.S.Shelf.held c.store.new.shelf) (g.S.Shelf.counts c.store.new.shelf))) (sym (ap asked c.in-State.is)) c.store.ensures.answer

pub returns-in-State-clause-back : goal.returns-in-State-clause-back
returns-in-State-clause-back g c = subst (λ (a : Asked). RigsCameBackBy (λ i v. (goal.System-dyn g (i, v)).meaning v) (Some a) (g.S.Shelf.held c.args.shelf.now)
    (status_made c.store.result) c.args.self.now.rigs c.store.new.self.rigs) (sym (ap asked c.in-State.is)) c.store.ensures.back

pub returns-in-Resume-clause-answer : goal.returns-in-Resume-clause-answer
returns-in-Resume-clause-answer g c =
    subst (λ (a : Asked). IsAnswerTo a c.resume.result (shelved (g.S.Shelf.held c.args.shelf.now) (g.S.Shelf.counts c.args.shelf.now))
    (shelved (g.S.Shelf.held c.resume.new.shelf) (g.S.Shelf.counts c.resume.new.shelf))) (sym (ap asked c.in-Resume.is)) c.resume.ensures.answer

pub returns-in-Resume-clause-back : goal.returns-in-Resume-clause-back
returns-in-Resume-clause-back g c =
    subst (λ (a : Asked). RigsCameBackBy (λ i v. (goal.System-dyn g (i, v)).meaning v) (Some a) (g.S.Shelf.held c.args.shelf.now) (status_made c.resume.result)
    c.args.self.now.rigs c.resume.new.self.rigs) (sym (ap asked c.in-Resume.is)) c.resume.ensures.back

pub returns-in-Rejoin-clause-answer : goal.returns-in-Rejoin-clause-answer
returns-in-Rejoin-clause-answer g c =
    subst (λ (a : Asked). IsAnswerTo a c.rejoin.result (shelved (g.S.Shelf.held c.args.shelf.now) (g.S.Shelf.counts c.args.shelf.now))
    (shelved (g.S.Shelf.held c.rejoin.new.shelf) (g.S.Shelf.counts c.rejoin.new.shelf))) (sym (ap asked c.in-Rejoin.is)) c.rejoin.ensures.answer

pub returns-in-Rejoin-clause-back : goal.returns-in-Rejoin-clause-back
returns-in-Rejoin-clause-back g c =
    subst (λ (a : Asked). RigsCameBackBy (λ i v. (goal.System-dyn g (i, v)).meaning v) (Some a) (g.S.Shelf.held c.args.shelf.now) (status_made c.rejoin.result)
    c.args.self.now.rigs c.rejoin.new.self.rigs) (sym (ap asked c.in-Rejoin.is)) c.rejoin.ensures.back

pub returns-in-Session-clause-answer : goal.returns-in-Session-clause-answer
returns-in-Session-clause-answer g c =
    subst (λ (a : Asked). IsAnswerTo a c.session.result (shelved (g.S.Shelf.held c.args.shelf.now) (g.S.Shelf.counts c.args.shelf.now))
    (shelved (g.S.Shelf.held c.session.new.shelf) (g.S.Shelf.counts c.session.new.shelf))) (sym (ap asked c.in-Session.is)) c.session.ensures.answer

pub returns-in-Session-clause-back : goal.returns-in-Session-clause-back
returns-in-Session-clause-back g c =
    subst (λ (a : Asked). RigsCameBackBy (λ i v. (goal.System-dyn g (i, v)).meaning v) (Some a) (g.S.Shelf.held c.args.shelf.now) (status_made c.session.result)
    c.args.self.now.rigs c.session.new.self.rigs) (sym (ap asked c.in-Session.is)) c.session.ensures.back

pub returns-in-Show-clause-answer : goal.returns-in-Show-clause-answer
returns-in-Show-clause-answer g c =
    subst (λ (a : Asked). IsAnswerTo a c.show.result (shelved (g.S.Shelf.held c.args.shelf.now) (g.S.Shelf.counts c.args.shelf.now))
    (shelved (g.S.Shelf.held c.show.new.shelf) (g.S.Shelf.counts c.show.new.shelf))) (sym (ap asked c.in-Show.is)) c.show.ensures

pub returns-in-Show-clause-back : goal.returns-in-Show-clause-back
returns-in-Show-clause-back g c =
    let held = g.S.Shelf.held c.args.shelf.now in
    subst (λ (a : Asked). RigsCameBackBy (λ i v. (goal.System-dyn g (i, v)).meaning v) (Some a) held (status_made c.show.result) c.args.self.now.rigs
    c.args.self.now.rigs) (sym (ap asked c.in-Show.is))
    (rigs_same (λ i v. (goal.System-dyn g (i, v)).meaning v) (Some (to_show c.in-Show.game.now c.in-Show.stored.now)) held (status_made c.show.result)
    c.args.self.now.rigs c.requires.fresh.eight (λ ended. refl))

pub returns-in-Compare-clause-answer : goal.returns-in-Compare-clause-answer
returns-in-Compare-clause-answer g c =
    subst (λ (a : Asked). IsAnswerTo a c.compare.result (shelved (g.S.Shelf.held c.args.shelf.now) (g.S.Shelf.counts c.args.shelf.now))
    (shelved (g.S.Shelf.held c.compare.new.shelf) (g.S.Shelf.counts c.compare.new.shelf))) (sym (ap asked c.in-Compare.is)) c.compare.ensures

pub returns-in-Compare-clause-back : goal.returns-in-Compare-clause-back
returns-in-Compare-clause-back g c =
    let held = g.S.Shelf.held c.args.shelf.now in
    subst (λ (a : Asked). RigsCameBackBy (λ i v. (goal.System-dyn g (i, v)).meaning v) (Some a) held (status_made c.compare.result) c.args.self.now.rigs
    c.args.self.now.rigs) (sym (ap asked c.in-Compare.is))
    (rigs_same (λ i v. (goal.System-dyn g (i, v)).meaning v) (Some (to_compare c.in-Compare.game.now c.in-Compare.left.now c.in-Compare.right.now)) held
    (status_made c.compare.result) c.args.self.now.rigs c.requires.fresh.eight (λ ended. refl))

pub returns-in-Serve-clause-answer : goal.returns-in-Serve-clause-answer
returns-in-Serve-clause-answer g c =
    subst (λ (a : Asked). IsAnswerTo a c.serve.result (shelved (g.S.Shelf.held c.args.shelf.now) (g.S.Shelf.counts c.args.shelf.now))
    (shelved (g.S.Shelf.held c.serve.new.shelf) (g.S.Shelf.counts c.serve.new.shelf))) (sym (ap asked c.in-Serve.is)) c.serve.ensures

pub returns-in-Serve-clause-back : goal.returns-in-Serve-clause-back
returns-in-Serve-clause-back g c =
    let held = g.S.Shelf.held c.args.shelf.now in
    subst (λ (a : Asked). RigsCameBackBy (λ i v. (goal.System-dyn g (i, v)).meaning v) (Some a) held (status_made c.serve.result) c.args.self.now.rigs
    c.args.self.now.rigs) (sym (ap asked c.in-Serve.is))
    (rigs_same (λ i v. (goal.System-dyn g (i, v)).meaning v) (Some (to_serve c.in-Serve.schedule.now)) held (status_made c.serve.result) c.args.self.now.rigs
    c.requires.fresh.eight (λ ended. refl))

pub returns-in-Trial-clause-answer : goal.returns-in-Trial-clause-answer
returns-in-Trial-clause-answer g c =
    let shelf = shelved (g.S.Shelf.held c.args.shelf.now) (g.S.Shelf.counts c.args.shelf.now) in
    subst (λ (a : Asked). IsAnswerTo a c.trial.result shelf shelf) (sym (ap asked c.in-Trial.is)) (c.trial.ensures.answer shelf)

pub returns-in-Trial-clause-back : goal.returns-in-Trial-clause-back
returns-in-Trial-clause-back g c =
    let held = g.S.Shelf.held c.args.shelf.now in
    subst (λ (a : Asked). RigsCameBackBy (λ i v. (goal.System-dyn g (i, v)).meaning v) (Some a) held (status_made c.trial.result) c.args.self.now.rigs
    c.trial.new.self.rigs) (sym (ap asked c.in-Trial.is)) (c.trial.ensures.back held)

pub returns-in-Stock-clause-answer : goal.returns-in-Stock-clause-answer
returns-in-Stock-clause-answer g c =
    subst (λ (a : Asked). IsAnswerTo a c.stock.result (shelved (g.S.Shelf.held c.args.shelf.now) (g.S.Shelf.counts c.args.shelf.now))
    (shelved (g.S.Shelf.held c.stock.new.shelf) (g.S.Shelf.counts c.stock.new.shelf))) (sym (ap asked c.in-Stock.is)) c.stock.ensures.answer

pub returns-in-Stock-clause-back : goal.returns-in-Stock-clause-back
returns-in-Stock-clause-back g c = subst (λ (a : Asked). RigsCameBackBy (λ i v. (goal.System-dyn g (i, v)).meaning v) (Some a) (g.S.Shelf.held c.args.shelf.now)
    (status_made c.stock.result) c.args.self.now.rigs c.stock.new.self.rigs) (sym (ap asked c.in-Stock.is)) c.stock.ensures.back

pub returns-in-Realm-clause-answer : goal.returns-in-Realm-clause-answer
returns-in-Realm-clause-answer g c =
    subst (λ (a : Asked). IsAnswerTo a c.realm.result (shelved (g.S.Shelf.held c.args.shelf.now) (g.S.Shelf.counts c.args.shelf.now))
    (shelved (g.S.Shelf.held c.realm.new.shelf) (g.S.Shelf.counts c.realm.new.shelf))) (sym (ap asked c.in-Realm.is)) c.realm.ensures.answer

pub returns-in-Realm-clause-back : goal.returns-in-Realm-clause-back
returns-in-Realm-clause-back g c = subst (λ (a : Asked). RigsCameBackBy (λ i v. (goal.System-dyn g (i, v)).meaning v) (Some a) (g.S.Shelf.held c.args.shelf.now)
    (status_made c.realm.result) c.args.self.now.rigs c.realm.new.self.rigs) (sym (ap asked c.in-Realm.is)) c.realm.ensures.back

pub returns-in-Sight-clause-answer : goal.returns-in-Sight-clause-answer
returns-in-Sight-clause-answer g c =
    subst (λ (a : Asked). IsAnswerTo a c.sight.result (shelved (g.S.Shelf.held c.args.shelf.now) (g.S.Shelf.counts c.args.shelf.now))
    (shelved (g.S.Shelf.held c.sight.new.shelf) (g.S.Shelf.counts c.sight.new.shelf))) (sym (ap asked c.in-Sight.is)) c.sight.ensures.answer

pub returns-in-Sight-clause-back : goal.returns-in-Sight-clause-back
returns-in-Sight-clause-back g c = subst (λ (a : Asked). RigsCameBackBy (λ i v. (goal.System-dyn g (i, v)).meaning v) (Some a) (g.S.Shelf.held c.args.shelf.now)
    (status_made c.sight.result) c.args.self.now.rigs c.sight.new.self.rigs) (sym (ap asked c.in-Sight.is)) c.sight.ensures.back

pub returns-in-Resight-clause-answer : goal.returns-in-Resight-clause-answer
returns-in-Resight-clause-answer g c =
    subst (λ (a : Asked). IsAnswerTo a c.resight.result (shelved (g.S.Shelf.held c.args.shelf.now) (g.S.Shelf.counts c.args.shelf.now))
    (shelved (g.S.Shelf.held c.resight.new.shelf) (g.S.Shelf.counts c.resight.new.shelf))) (sym (ap asked c.in-Resight.is)) c.resight.ensures.answer

pub returns-in-Resight-clause-back : goal.returns-in-Resight-clause-back
returns-in-Resight-clause-back g c =
    subst (λ (a : Asked). RigsCameBackBy (λ i v. (goal.System-dyn g (i, v)).meaning v) (Some a) (g.S.Shelf.held c.args.shelf.now) (status_made c.resight.result)
    c.args.self.now.rigs c.resight.new.self.rigs) (sym (ap asked c.in-Resight.is)) c.resight.ensures.back

pub returns-in-Log-clause-answer : goal.returns-in-Log-clause-answer
returns-in-Log-clause-answer g c =
    subst (λ (a : Asked). IsAnswerTo a c.log.result (shelved (g.S.Shelf.held c.args.shelf.now) (g.S.Shelf.counts c.args.shelf.now))
    (shelved (g.S.Shelf.held c.log.new.shelf) (g.S.Shelf.counts c.log.new.shelf))) (sym (ap asked c.in-Log.is)) c.log.ensures.answer

pub returns-in-Log-clause-back : goal.returns-in-Log-clause-back
returns-in-Log-clause-back g c =
    subst (λ (a : Asked). RigsCameBackBy (λ i v. (goal.System-dyn g (i, v)).meaning v) (Some a) (g.S.Shelf.held c.args.shelf.now) (status_made c.log.result)
    c.args.self.now.rigs c.log.new.self.rigs) (sym (ap asked c.in-Log.is)) c.log.ensures.back

pub returns-in-Record-clause-answer : goal.returns-in-Record-clause-answer
returns-in-Record-clause-answer g c =
    subst (λ (a : Asked). IsAnswerTo a c.record.result (shelved (g.S.Shelf.held c.args.shelf.now) (g.S.Shelf.counts c.args.shelf.now))
    (shelved (g.S.Shelf.held c.record.new.shelf) (g.S.Shelf.counts c.record.new.shelf))) (sym (ap asked c.in-Record.is)) c.record.ensures.answer

pub returns-in-Record-clause-back : goal.returns-in-Record-clause-back
returns-in-Record-clause-back g c =
    subst (λ (a : Asked). RigsCameBackBy (λ i v. (goal.System-dyn g (i, v)).meaning v) (Some a) (g.S.Shelf.held c.args.shelf.now) (status_made c.record.result)
    c.args.self.now.rigs c.record.new.self.rigs) (sym (ap asked c.in-Record.is)) c.record.ensures.back

pub returns-in-Check-clause-answer : goal.returns-in-Check-clause-answer
returns-in-Check-clause-answer g c =
    subst (λ (a : Asked). IsAnswerTo a c.check.result (shelved (g.S.Shelf.held c.args.shelf.now) (g.S.Shelf.counts c.args.shelf.now))
    (shelved (g.S.Shelf.held c.check.new.shelf) (g.S.Shelf.counts c.check.new.shelf))) (sym (ap asked c.in-Check.is)) c.check.ensures.answer

pub returns-in-Check-clause-back : goal.returns-in-Check-clause-back
returns-in-Check-clause-back g c =
    subst (λ (a : Asked). RigsCameBackBy (λ i v. (goal.System-dyn g (i, v)).meaning v) (Some a) (g.S.Shelf.held c.args.shelf.now) (status_made c.check.result)
    c.args.self.now.rigs c.check.new.self.rigs) (sym (ap asked c.in-Check.is)) c.check.ensures.back

pub returns-in-Film-clause-answer : goal.returns-in-Film-clause-answer
returns-in-Film-clause-answer g c =
    subst (λ (a : Asked). IsAnswerTo a c.film.result (shelved (g.S.Shelf.held c.args.shelf.now) (g.S.Shelf.counts c.args.shelf.now))
    (shelved (g.S.Shelf.held c.film.new.shelf) (g.S.Shelf.counts c.film.new.shelf))) (sym (ap asked c.in-Film.is)) c.film.ensures.answer

pub returns-in-Film-clause-back : goal.returns-in-Film-clause-back
returns-in-Film-clause-back g c = subst (λ (a : Asked). RigsCameBackBy (λ i v. (goal.System-dyn g (i, v)).meaning v) (Some a) (g.S.Shelf.held c.args.shelf.now)
    (status_made c.film.result) c.args.self.now.rigs c.film.new.self.rigs) (sym (ap asked c.in-Film.is)) c.film.ensures.back

pub returns-in-Parts-clause-answer : goal.returns-in-Parts-clause-answer
returns-in-Parts-clause-answer g c =
    subst (λ (a : Asked). IsAnswerTo a c.parts.result (shelved (g.S.Shelf.held c.args.shelf.now) (g.S.Shelf.counts c.args.shelf.now))
    (shelved (g.S.Shelf.held c.parts.new.shelf) (g.S.Shelf.counts c.parts.new.shelf))) (sym (ap asked c.in-Parts.is)) c.parts.ensures

pub returns-in-Parts-clause-back : goal.returns-in-Parts-clause-back
returns-in-Parts-clause-back g c =
    let held = g.S.Shelf.held c.args.shelf.now in
    subst (λ (a : Asked). RigsCameBackBy (λ i v. (goal.System-dyn g (i, v)).meaning v) (Some a) held (status_made c.parts.result) c.args.self.now.rigs
    c.args.self.now.rigs) (sym (ap asked c.in-Parts.is))
    (rigs_same (λ i v. (goal.System-dyn g (i, v)).meaning v) (Some (to_parts c.in-Parts.game.now)) held (status_made c.parts.result) c.args.self.now.rigs
    c.requires.fresh.eight (λ ended. refl))
