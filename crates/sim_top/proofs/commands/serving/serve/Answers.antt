-- The schedule was read and served, or it could not be read.
use Rattle.{sim_session.specs.Served.served_text, sim_top.proofs.Answering.{comes_to, list_ends_at}}
use Rattle.sim_top.proofs.Common.{Answer, Done, Err, IsAnswerTo, IsOutcomeOf, Ok, Outcome, printed, refl, Result, rules, Schedule, schedule_in, shelved, Some}
use Rattle.sim_top.proofs.{Common.{Stop, Stopped, subst, sym, to_serve, ◌≡◌}, Playing.text_made, Stopping.{Stopped-weaker, Then-ended, Then-read, Told}}

-- what comes of the schedule
abbrev served : Schedule → Outcome → Type 0
served schedule wanted = wanted ≡ printed Done (served_text schedule)

pub returns-in_err-schedule : Rattle.sim_top.proofs.commands.serving.serve.Goals.returns-in_err-schedule
returns-in_err-schedule g c =
    let is : c.from_residual.result ≡ Err c.in_err-schedule.field-0.0 = search rules in
    let name = c.args.name.now in
    let stop = c.in_err-schedule.field-0.0 in
    let before = shelved (g.S.Shelf.held c.args.shelf.now) (g.S.Shelf.counts c.args.shelf.now) in
    let now = shelved (g.S.Shelf.held c.read_schedule.new.shelf) (g.S.Shelf.counts c.read_schedule.new.shelf) in
    subst (λ (r : Result Answer Stop). IsAnswerTo (to_serve name) r before now) (sym is)
    (list_ends_at (to_serve name) stop before now refl refl c.in_err-schedule.ensures.read.stops
    (Told (λ files. Stopped stop (λ ended. schedule_in files name ≡ Err ended)) (λ files. Stopped stop (IsOutcomeOf files (Some (to_serve name)))) before.held
    (λ files h. Stopped-weaker stop (λ ended. schedule_in files name ≡ Err ended) (IsOutcomeOf files (Some (to_serve name)))
    (λ o e. Then-ended (schedule_in files name) served o e) h) c.in_err-schedule.ensures.tells)
    c.in_err-schedule.ensures.read.reading.causes c.in_err-schedule.ensures.read.reading.missing c.in_err-schedule.ensures.read.reading.given
    c.in_err-schedule.ensures.read.reading.same)

pub returns : Rattle.sim_top.proofs.commands.serving.serve.Goals.returns
returns g c =
    let name = c.args.name.now in
    let schedule = c.in_ok-schedule.schedule in
    let reading = c.in_ok-schedule.ensures.read.reading in
    comes_to (to_serve name) (printed Done (served_text schedule)) c.shown.result _ _
    (text_made c.shown.result c.served_text.result (served_text schedule) c.shown.ensures.stops c.shown.ensures.refused c.shown.ensures.made
    c.served_text.ensures)
    (record { status = tt; done = tt; file = tt })
    (Told (λ files. schedule_in files name ≡ Ok schedule) (λ files. IsOutcomeOf files (Some (to_serve name)) (printed Done (served_text schedule))) _
    (λ files e. Then-read (schedule_in files name) schedule served (printed Done (served_text schedule)) e refl) c.in_ok-schedule.ensures.tells)
    reading.missing reading.causes reading.given reading.same
