-- The match was read and its templates were told, or it could not be read.
use Rattle.sim_top.proofs.{Answering.match_ends, Answering.match_goes_on, Answering.Opens, Common.Stop, Common.subst, Common.sym, Common.to_parts}
use Rattle.sim_top.proofs.{Playing.text_made, Stopping.Then-ended, Stopping.Then-read}
use Rattle.sim_top.proofs.Common.{◌≡◌, ℕ, List, Err, Result, refl, Answer, Done, IsAnswerTo, match_in, Outcome, parts_text, printed, rules, Setup, shelved}

-- what comes of the match
abbrev told : Setup → Outcome → Type 0
told setup wanted = wanted ≡ printed Done (parts_text setup.templates)

opens : (game : List ℕ) → Opens (to_parts game) game (λ files. match_in files game)
opens game = record { fails = λ files o e. Then-ended (match_in files game) told o e; first = λ files. refl; lacks = λ files h. h; reads = refl; has = refl }

pub returns-in_err-setup : Rattle.sim_top.proofs.commands.parts.parts.Goals.returns-in_err-setup
returns-in_err-setup g c =
    let is : c.from_residual.result ≡ Err c.in_err-setup.field-0.0 = search rules in
    let game = c.args.game.now in
    let before = shelved (g.S.Shelf.held c.args.shelf.now) (g.S.Shelf.counts c.args.shelf.now) in
    let now = shelved (g.S.Shelf.held c.read_match.new.shelf) (g.S.Shelf.counts c.read_match.new.shelf) in
    subst (λ (r : Result Answer Stop). IsAnswerTo (to_parts game) r before now) (sym is)
    (match_ends (to_parts game) game (λ files. match_in files game) c.in_err-setup.field-0.0 before now (opens game) c.in_err-setup.ensures.read.stops
    c.in_err-setup.ensures.tells c.in_err-setup.ensures.read.reading)

pub returns : Rattle.sim_top.proofs.commands.parts.parts.Goals.returns
returns g c =
    let game = c.args.game.now in
    let setup = c.in_ok-setup.setup in
    let text = parts_text setup.templates in
    match_goes_on (to_parts game) game (λ files. match_in files game) setup (printed Done text) c.shown.result _ _ (opens game)
    c.in_ok-setup.ensures.read.reading
    c.in_ok-setup.ensures.tells
    (λ files e. Then-read (match_in files game) setup told (printed Done text) e refl) (λ files. refl)
    (text_made c.shown.result c.parts_text.result text c.shown.ensures.stops c.shown.ensures.refused c.shown.ensures.made c.parts_text.ensures)
    (record { status = tt; done = tt; file = tt })
