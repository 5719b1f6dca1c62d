-- The shelf holds the same before anything is written, and the rigs are those of the command.
use Rattle.sim_top.proofs.top.run.Goals as goal
use Rattle.sim_top.proofs.Common.{Meets, MeetsBefore, OfFilm, OfParts, OfRealm, OfSession, OfStock, Option, option_map, PartsTold, scene, Setup, StepList}
use Rattle.sim_top.proofs.Common.{asked_by, Balances, Causes, File, file_of, Film, HasEnded, Headline, IfSome, IsFaultless, IsFinal, IsHostedBy, IsReady, List}
use Rattle.sim_top.proofs.{Balances.balances_told, Common.TellsLogs, Common.TellsSights, Common.Territories, Common.string_bytes, Common.subst}
use Rattle.sim_top.proofs.{Common.usage_text, Common.words_of, Common.◌∙◌, Completeness.final, Completeness.territories_told, Films.film_told}
use Rattle.sim_top.proofs.{Finishing.given_settled, Finishing.told_unfound, Finishing.told_usage, Headlines.lawful, Headlines.of_both, Headlines.of_end}
use Rattle.sim_top.proofs.{Logging.logs_told, Parts.parts_told, Returning.rigs_later, Sights.sights_told, Stopping.Told, Stopping.Told-both}

pub returns-clause-answers : goal.returns-clause-answers
returns-clause-answers g c =
    let words = words_of c.args.words.now in
    let answer = c.made_answer-answer.result in
    let text = string_bytes answer.text in
    let saved = option_map file_of answer.saved in
    let told = g.K.Sink.told c.args.out.now in
    let counts = g.S.Shelf.counts c.args.shelf.now in
    let faults = g.K.Sink.faults c.args.out.now in
    let before = scene (g.S.Shelf.held c.args.shelf.now) told counts faults in
    let now = scene (g.S.Shelf.held c.finish-status.new.shelf) (g.K.Sink.told c.finish-status.new.out) (g.S.Shelf.counts c.finish-status.new.shelf)
    (g.K.Sink.faults c.finish-status.new.out) in
    let written = subst (λ (held : Option (List File)). IfSome held (λ files. MeetsBefore answer.status words files text saved
    → Meets c.finish-status.result words files (scene held told counts faults) now))
    c.made_answer-answer.ensures.answer.same (c.finish-status.ensures.answers words counts c.made_answer-answer.ensures.answer.causes) in
    Told-both (λ files. MeetsBefore answer.status words files text saved) (λ files. MeetsBefore answer.status words files text saved
    → Meets c.finish-status.result words files before now)
    (λ files. Meets c.finish-status.result words files before now) _
    (λ files h f. f h) c.made_answer-answer.ensures.answer.answers written

pub returns-clause-causes : goal.returns-clause-causes
returns-clause-causes g c =
    let told = g.K.Sink.told c.args.out.now in
    let counts = g.S.Shelf.counts c.args.shelf.now in
    let faults = g.K.Sink.faults c.args.out.now in
    let now = scene (g.S.Shelf.held c.finish-status.new.shelf) (g.K.Sink.told c.finish-status.new.out) (g.S.Shelf.counts c.finish-status.new.shelf)
    (g.K.Sink.faults c.finish-status.new.out) in
    subst (λ (held : Option (List File)). Causes c.finish-status.result (scene held told counts faults) now)
    c.made_answer-answer.ensures.answer.same (c.finish-status.ensures.causes counts c.made_answer-answer.ensures.answer.causes)

pub returns-clause-complete : goal.returns-clause-complete
returns-clause-complete g c =
    let words = words_of c.args.words.now in
    let before = scene (g.S.Shelf.held c.args.shelf.now) (g.K.Sink.told c.args.out.now) (g.S.Shelf.counts c.args.shelf.now) (g.K.Sink.faults c.args.out.now) in
    let now = scene (g.S.Shelf.held c.finish-status.new.shelf) (g.K.Sink.told c.finish-status.new.out) (g.S.Shelf.counts c.finish-status.new.shelf)
    (g.K.Sink.faults c.finish-status.new.out) in
    Told (λ files. Meets c.finish-status.result words files before now) (λ files. IsReady files (asked_by words) → IsFaultless before now
    → IsFinal c.finish-status.result) _
    (λ files h ready faultless. final c.finish-status.result words files before now h (returns-clause-causes g c) ready faultless) (returns-clause-answers g c)

-- what is written leaves the rigs
pub returns-clause-back : goal.returns-clause-back
returns-clause-back g c =
    rigs_later (λ i v. (goal.System-dyn g (i, v)).meaning v) (asked_by (words_of c.args.words.now)) (g.S.Shelf.held c.args.shelf.now)
    c.made_answer-answer.result.status c.finish-status.result
    c.args.rigs c.made_answer-answer.new.equipment.rigs (λ settled. (c.finish-status.ensures.settled settled).0) c.made_answer-answer.ensures.back

-- what was told of a session is its text, which the laws of sessions are about
pub returns-clause-headline : goal.returns-clause-headline
returns-clause-headline g c =
    let words = words_of c.args.words.now in
    let before = scene (g.S.Shelf.held c.args.shelf.now) (g.K.Sink.told c.args.out.now) (g.S.Shelf.counts c.args.shelf.now) (g.K.Sink.faults c.args.out.now) in
    let now = scene (g.S.Shelf.held c.finish-status.new.shelf) (g.K.Sink.told c.finish-status.new.out) (g.S.Shelf.counts c.finish-status.new.shelf)
    (g.K.Sink.faults c.finish-status.new.out) in
    let hosted = λ (setup : Setup) (list : StepList). IsHostedBy (λ i v. (goal.System-dyn g (i, v)).meaning v) setup list c.args.rigs.items
    c.made_answer-answer.new.equipment.rigs.items in
    let rigs = returns-clause-back g c in
    Told-both (λ files. Meets c.finish-status.result words files before now) (λ files. HasEnded c.finish-status.result
    → OfSession files (asked_by words) hosted)
    (λ files. HasEnded c.finish-status.result → OfSession files (asked_by words) (λ setup list. Headline setup list before.told now.told)) _
    (λ files h told ended. of_both files (asked_by words) _ hosted _ (λ setup list text is. lawful setup list before.told now.told is.limits is.steps text)
    (of_end c.finish-status.result words files (asked_by words) before now (λ wanted is. is) h ended) (told ended)) (returns-clause-answers g c) rigs.hosted

-- and what was told of territories is in the words of the rules
pub returns-clause-territories : goal.returns-clause-territories
returns-clause-territories g c =
    let words = words_of c.args.words.now in
    let before = scene (g.S.Shelf.held c.args.shelf.now) (g.K.Sink.told c.args.out.now) (g.S.Shelf.counts c.args.shelf.now) (g.K.Sink.faults c.args.out.now) in
    let now = scene (g.S.Shelf.held c.finish-status.new.shelf) (g.K.Sink.told c.finish-status.new.out) (g.S.Shelf.counts c.finish-status.new.shelf)
    (g.K.Sink.faults c.finish-status.new.out) in
    Told (λ files. Meets c.finish-status.result words files before now) (λ files. HasEnded c.finish-status.result
    → OfRealm files (asked_by words) (λ setup turn. Territories setup turn before.told now.told)) _
    (λ files h ended. territories_told c.finish-status.result words files before now h ended) (returns-clause-answers g c)

-- the film is that of the match
pub returns-clause-films : goal.returns-clause-films
returns-clause-films g c =
    let words = words_of c.args.words.now in
    let before = scene (g.S.Shelf.held c.args.shelf.now) (g.K.Sink.told c.args.out.now) (g.S.Shelf.counts c.args.shelf.now) (g.K.Sink.faults c.args.out.now) in
    let now = scene (g.S.Shelf.held c.finish-status.new.shelf) (g.K.Sink.told c.finish-status.new.out) (g.S.Shelf.counts c.finish-status.new.shelf)
    (g.K.Sink.faults c.finish-status.new.out) in
    Told (λ files. Meets c.finish-status.result words files before now) (λ files. HasEnded c.finish-status.result
    → OfFilm files (asked_by words) (λ setup every. Film setup every before.told now.told)) _
    (λ files h ended. film_told c.finish-status.result words files before now h ended) (returns-clause-answers g c)

-- and the parts are those of its templates
pub returns-clause-parts : goal.returns-clause-parts
returns-clause-parts g c =
    let words = words_of c.args.words.now in
    let before = scene (g.S.Shelf.held c.args.shelf.now) (g.K.Sink.told c.args.out.now) (g.S.Shelf.counts c.args.shelf.now) (g.K.Sink.faults c.args.out.now) in
    let now = scene (g.S.Shelf.held c.finish-status.new.shelf) (g.K.Sink.told c.finish-status.new.out) (g.S.Shelf.counts c.finish-status.new.shelf)
    (g.K.Sink.faults c.finish-status.new.out) in
    Told (λ files. Meets c.finish-status.result words files before now) (λ files. HasEnded c.finish-status.result
    → OfParts files (asked_by words) (λ setup. PartsTold setup before.told now.told)) _
    (λ files h ended. parts_told c.finish-status.result words files before now h ended) (returns-clause-answers g c)

-- and so is what was told of what the players see
pub returns-clause-sights : goal.returns-clause-sights
returns-clause-sights g c =
    let words = words_of c.args.words.now in
    let before = scene (g.S.Shelf.held c.args.shelf.now) (g.K.Sink.told c.args.out.now) (g.S.Shelf.counts c.args.shelf.now) (g.K.Sink.faults c.args.out.now) in
    let now = scene (g.S.Shelf.held c.finish-status.new.shelf) (g.K.Sink.told c.finish-status.new.out) (g.S.Shelf.counts c.finish-status.new.shelf)
    (g.K.Sink.faults c.finish-status.new.out) in
    Told (λ files. Meets c.finish-status.result words files before now) (λ files. HasEnded c.finish-status.result
    → TellsSights files (asked_by words) before now) _
    (λ files h ended. sights_told c.finish-status.result words files before now h ended) (returns-clause-answers g c)

-- and of a log that was asked for, what the rules say of it
pub returns-clause-logs : goal.returns-clause-logs
returns-clause-logs g c =
    let words = words_of c.args.words.now in
    let before = scene (g.S.Shelf.held c.args.shelf.now) (g.K.Sink.told c.args.out.now) (g.S.Shelf.counts c.args.shelf.now) (g.K.Sink.faults c.args.out.now) in
    let now = scene (g.S.Shelf.held c.finish-status.new.shelf) (g.K.Sink.told c.finish-status.new.out) (g.S.Shelf.counts c.finish-status.new.shelf)
    (g.K.Sink.faults c.finish-status.new.out) in
    Told (λ files. Meets c.finish-status.result words files before now) (λ files. HasEnded c.finish-status.result
    → TellsLogs files (asked_by words) c.finish-status.result before now) _
    (λ files h ended. logs_told c.finish-status.result words files before now h ended) (returns-clause-answers g c)

-- and what was told of a match with an economy is its states and balances
pub returns-clause-stocks : goal.returns-clause-stocks
returns-clause-stocks g c =
    let words = words_of c.args.words.now in
    let before = scene (g.S.Shelf.held c.args.shelf.now) (g.K.Sink.told c.args.out.now) (g.S.Shelf.counts c.args.shelf.now) (g.K.Sink.faults c.args.out.now) in
    let now = scene (g.S.Shelf.held c.finish-status.new.shelf) (g.K.Sink.told c.finish-status.new.out) (g.S.Shelf.counts c.finish-status.new.shelf)
    (g.K.Sink.faults c.finish-status.new.out) in
    Told (λ files. Meets c.finish-status.result words files before now)
    (λ files. HasEnded c.finish-status.result → OfStock files (asked_by words) (λ setup economy. Balances setup economy before.told now.told)) _
    (λ files h ended. balances_told c.finish-status.result words files before now h ended) (returns-clause-answers g c)

-- a run that is settled wrote without reading any more
pub returns-clause-given : goal.returns-clause-given
returns-clause-given g c =
    λ files is.
    let prepared = c.made_answer-answer.ensures.answer in
    given_settled files (asked_by (words_of c.args.words.now)) c.finish-status.result c.made_answer-answer.result.status _ _ _
    (λ none. let made = prepared.unasked none in c.finish-status.ensures.unsaved made.1 ∙ made.2) c.finish-status.ensures.settled (prepared.given files is)

pub returns-clause-missing : goal.returns-clause-missing
returns-clause-missing g c =
    λ files is lacks.
    let answer = c.made_answer-answer.result in
    let prepared = c.made_answer-answer.ensures.answer in
    let missing = prepared.missing files is lacks in
    told_unfound c.finish-status.result answer.status (string_bytes answer.text) _ _ _ _ missing.0 prepared.silent (c.finish-status.ensures.told missing.1)

pub returns-clause-unasked : goal.returns-clause-unasked
returns-clause-unasked g c =
    λ none.
    let answer = c.made_answer-answer.result in
    let made = c.made_answer-answer.ensures.answer.unasked none in (
      told_usage usage_text c.finish-status.result answer.status (string_bytes answer.text) _ _ _ _ made.0 (c.finish-status.ensures.told made.1),
      c.finish-status.ensures.unsaved made.1 ∙ made.2,
    )

pub returns-clause-statuses : goal.returns-clause-statuses
returns-clause-statuses g c = c.finish-status.ensures.statuses (asked_by (words_of c.args.words.now)) c.made_answer-answer.ensures.answer.statuses
