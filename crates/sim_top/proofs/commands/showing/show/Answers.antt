-- The match and the state were read and shown, or one could not be read.
use Rattle.{sim_report.specs.Show.show_text, sim_top.proofs.Answering.{both_given, Loads, match_ends, stored_ends, stored_goes_on}}
use Rattle.sim_top.proofs.Common.{Answer, Done, Err, File, IsAnswerTo, List, match_in, Outcome, printed, refl, Result, rules, Setup, shelved, State, Stop}
use Rattle.sim_top.proofs.{Common.{subst, sym, to_show, ℕ, ◌≡◌}, Playing.text_made, Stopping.Then-ended}
use Rattle.sim_top.proofs.commands.showing.show.Goals as goal

-- what comes of the state
abbrev seen : List File → Setup → State → Outcome → Type 0
seen files setup state wanted = wanted ≡ printed Done (show_text setup state)

loads : (game name : List ℕ) → Loads (to_show game name) game name seen
loads game name =
    record {
      opens = record { fails = λ files o e. Then-ended (match_in files game) _ o e; first = λ files. refl; lacks = λ files h. h; reads = refl; has = refl };
      is = λ files wanted h. h;
      loads = refl;
    }

pub returns-in_err-setup : goal.returns-in_err-setup
returns-in_err-setup g c =
    let is : c.from_residual.result ≡ Err c.in_err-setup.field-0.0 = search rules in
    let game = c.args.game.now in
    let before = shelved (g.S.Shelf.held c.args.shelf.now) (g.S.Shelf.counts c.args.shelf.now) in
    let now = shelved (g.S.Shelf.held c.read_match.new.shelf) (g.S.Shelf.counts c.read_match.new.shelf) in
    subst (λ (r : Result Answer Stop). IsAnswerTo (to_show game c.args.name.now) r before now) (sym is)
    (match_ends (to_show game c.args.name.now) game (λ files. match_in files game) c.in_err-setup.field-0.0 before now ((loads game c.args.name.now).opens)
    c.in_err-setup.ensures.read.stops c.in_err-setup.ensures.tells c.in_err-setup.ensures.read.reading)

pub returns-in_err-state : goal.returns-in_err-state
returns-in_err-state g c =
    let is : c.from_residual-in_err-state.result ≡ Err c.in_err-state.field-0.0 = search rules in
    let before = shelved (g.S.Shelf.held c.args.shelf.now) (g.S.Shelf.counts c.args.shelf.now) in
    let middle = shelved (g.S.Shelf.held c.read_match.new.shelf) (g.S.Shelf.counts c.read_match.new.shelf) in
    let now = shelved (g.S.Shelf.held c.read_state.new.shelf) (g.S.Shelf.counts c.read_state.new.shelf) in
    subst (λ (r : Result Answer Stop). IsAnswerTo (to_show c.args.game.now c.args.name.now) r before now) (sym is)
    (stored_ends (to_show c.args.game.now c.args.name.now) c.args.game.now c.args.name.now seen (loads c.args.game.now c.args.name.now) c.in_ok-setup.setup
    before middle now c.in_ok-setup.ensures.read.reading
    c.in_ok-setup.ensures.tells c.in_err-state.field-0.0 c.in_err-state.ensures.read.stops c.in_err-state.ensures.read.reading c.in_err-state.ensures.tells
    (λ files e refused. both_given c.args.game.now c.args.name.now c.in_ok-setup.setup (Err c.in_err-state.field-0.0) before middle now
    c.in_ok-setup.ensures.read.reading c.in_err-state.ensures.read.reading files e refused))

pub returns : goal.returns
returns g c =
    let game = c.args.game.now in
    let name = c.args.name.now in
    let setup = c.in_ok-setup.setup in
    let state = c.in_ok-state.state in
    stored_goes_on (to_show game name) game name seen (loads game name) setup _ _ _ c.in_ok-setup.ensures.read.reading c.in_ok-setup.ensures.tells state
    (printed Done (show_text setup state)) c.shown.result
    c.in_ok-state.ensures.read.reading c.in_ok-state.ensures.tells (λ files. refl) (λ files. refl)
    (text_made c.shown.result c.show_text.result (show_text setup state) c.shown.ensures.stops c.shown.ensures.refused c.shown.ensures.made c.show_text.ensures)
    (record { status = tt; done = tt; file = tt })
