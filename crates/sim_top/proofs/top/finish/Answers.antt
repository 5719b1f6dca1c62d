-- The file was saved, and then the text told or cut short; or the file could not be saved, which the shelf counted.
use Rattle.sim_top.proofs.top.finish.Goals as goal
use Rattle.sim_top.proofs.Common.{Counts, CountsBefore, file_of, List, Meets, MeetsBefore, option_map, scene, string_bytes, subst, sym, Tells, ℕ}
use Rattle.sim_top.proofs.Finishing.{all_told, told_causes, told_may_end, told_meets, told_settled}

pub returns-in-Ok-clause-answers : goal.returns-in-Ok-clause-answers
returns-in-Ok-clause-answers g c =
    λ words old reads.
    let answer = c.args.answer.now in
    let text = string_bytes answer.text in
    let saved = option_map file_of answer.saved in
    let before = scene (g.S.Shelf.held c.args.shelf.now) (g.K.Sink.told c.args.out.now) old (g.K.Sink.faults c.args.out.now) in
    let now = scene (g.S.Shelf.held c.save.new.shelf) (g.K.Sink.told c.tell.new.out) (g.S.Shelf.counts c.save.new.shelf) (g.K.Sink.faults c.tell.new.out) in
    let told = subst (λ (t : List ℕ). Tells c.tell.result answer.status t before.told now.told before.faults now.faults) c.as_str.ensures.value
    c.tell.ensures in
    let counts = subst (λ (new : Counts). CountsBefore answer.status old new) (sym c.in-Ok.ensures.causes) reads in
    all_told (λ files. MeetsBefore answer.status words files text saved → Meets c.tell.result words files before now) _
    (λ files h. told_meets c.tell.result answer.status words files text saved before now c.requires.silent h counts told c.in-Ok.ensures.held)

pub returns-in-Ok-clause-causes : goal.returns-in-Ok-clause-causes
returns-in-Ok-clause-causes g c =
    λ old reads.
    let answer = c.args.answer.now in
    let before = scene (g.S.Shelf.held c.args.shelf.now) (g.K.Sink.told c.args.out.now) old (g.K.Sink.faults c.args.out.now) in
    let now = scene (g.S.Shelf.held c.save.new.shelf) (g.K.Sink.told c.tell.new.out) (g.S.Shelf.counts c.save.new.shelf) (g.K.Sink.faults c.tell.new.out) in
    let told = subst (λ (t : List ℕ). Tells c.tell.result answer.status t before.told now.told before.faults now.faults) c.as_str.ensures.value
    c.tell.ensures in
    told_causes c.tell.result answer.status (string_bytes answer.text) before now c.requires.unwritten c.requires.silent told
    (subst (λ (new : Counts). CountsBefore answer.status old new) (sym c.in-Ok.ensures.causes) reads)

pub returns-in-Ok-clause-told : goal.returns-in-Ok-clause-told
returns-in-Ok-clause-told g c =
    λ none.
    let answer = c.args.answer.now in
    subst (λ (t : List ℕ). Tells c.tell.result answer.status t (g.K.Sink.told c.args.out.now) (g.K.Sink.told c.tell.new.out) (g.K.Sink.faults c.args.out.now)
    (g.K.Sink.faults c.tell.new.out))
    c.as_str.ensures.value c.tell.ensures

pub returns-in-Ok-clause-statuses : goal.returns-in-Ok-clause-statuses
returns-in-Ok-clause-statuses g c = λ asked may. told_may_end asked c.tell.result c.args.answer.now.status _ _ _ _ _ may c.tell.ensures

pub returns-in-Ok-clause-settled : goal.returns-in-Ok-clause-settled
returns-in-Ok-clause-settled g c = λ settled. (told_settled c.tell.result c.args.answer.now.status _ _ _ _ _ c.tell.ensures settled, c.in-Ok.ensures.causes)
