-- The match and both states were read and compared, or one could not be read.
use Rattle.sim_top.proofs.{Answering.{match_ends, stored_ends}, Common.{Answer, Err, IsAnswerTo, match_in, Ok, OutOfMemory, refl, Result, rules, shelved, Stop}}
use Rattle.sim_top.proofs.{Common.{subst, sym, to_compare, ◌≡◌}, Comparing.{gave_first, loads, second_ends, second_goes_on, with_second}}
use Rattle.sim_top.proofs.commands.comparing.compare.Goals as goal

pub returns-in_err-setup : goal.returns-in_err-setup
returns-in_err-setup g c =
    let is : c.from_residual.result ≡ Err c.in_err-setup.field-0.0 = search rules in
    let game = c.args.game.now in
    let before = shelved (g.S.Shelf.held c.args.shelf.now) (g.S.Shelf.counts c.args.shelf.now) in
    let now = shelved (g.S.Shelf.held c.read_match.new.shelf) (g.S.Shelf.counts c.read_match.new.shelf) in
    subst (λ (r : Result Answer Stop). IsAnswerTo (to_compare game c.args.left.now c.args.right.now) r before now) (sym is)
    (match_ends (to_compare game c.args.left.now c.args.right.now) game (λ files. match_in files game) c.in_err-setup.field-0.0 before now
    ((loads game c.args.left.now c.args.right.now).opens) c.in_err-setup.ensures.read.stops c.in_err-setup.ensures.tells c.in_err-setup.ensures.read.reading)

pub returns-in_err-first : goal.returns-in_err-first
returns-in_err-first g c =
    let is : c.from_residual-in_err-first.result ≡ Err c.in_err-first.field-0.0 = search rules in
    let before = shelved (g.S.Shelf.held c.args.shelf.now) (g.S.Shelf.counts c.args.shelf.now) in
    let middle = shelved (g.S.Shelf.held c.read_match.new.shelf) (g.S.Shelf.counts c.read_match.new.shelf) in
    let now = shelved (g.S.Shelf.held c.read_state.new.shelf) (g.S.Shelf.counts c.read_state.new.shelf) in
    subst (λ (r : Result Answer Stop). IsAnswerTo (to_compare c.args.game.now c.args.left.now c.args.right.now) r before now) (sym is)
    (stored_ends (to_compare c.args.game.now c.args.left.now c.args.right.now) c.args.game.now c.args.left.now (with_second c.args.right.now)
    (loads c.args.game.now c.args.left.now c.args.right.now) c.in_ok-setup.setup before middle now c.in_ok-setup.ensures.read.reading
    c.in_ok-setup.ensures.tells c.in_err-first.field-0.0 c.in_err-first.ensures.read.stops c.in_err-first.ensures.read.reading c.in_err-first.ensures.tells
    (gave_first c.args.game.now c.args.left.now c.args.right.now c.in_ok-setup.setup c.in_err-first.field-0.0 before middle now
    c.in_ok-setup.ensures.read.reading
    c.in_err-first.ensures.read.reading c.in_err-first.ensures.read.stops c.in_ok-setup.ensures.tells c.in_err-first.ensures.tells))

pub returns-in_err-second : goal.returns-in_err-second
returns-in_err-second g c =
    let is : c.from_residual-in_err-second.result ≡ Err c.in_err-second.field-0.0 = search rules in
    let before = shelved (g.S.Shelf.held c.args.shelf.now) (g.S.Shelf.counts c.args.shelf.now) in
    let now = shelved (g.S.Shelf.held c.read_state-2.new.shelf) (g.S.Shelf.counts c.read_state-2.new.shelf) in
    subst (λ (r : Result Answer Stop). IsAnswerTo (to_compare c.args.game.now c.args.left.now c.args.right.now) r before now) (sym is)
    (second_ends c.args.game.now c.args.left.now c.args.right.now c.in_ok-setup.setup c.in_ok-first.first before _ _ now c.in_ok-setup.ensures.read.reading
    c.in_ok-first.ensures.read.reading
    c.in_ok-setup.ensures.tells c.in_ok-first.ensures.tells c.in_err-second.field-0.0 c.in_err-second.ensures.read.stops c.in_err-second.ensures.read.reading
    c.in_err-second.ensures.tells)

pub returns : goal.returns
returns g c =
    second_goes_on c.args.game.now c.args.left.now c.args.right.now c.in_ok-setup.setup c.in_ok-first.first _ _ _ _ c.in_ok-setup.ensures.read.reading
    c.in_ok-first.ensures.read.reading
    c.in_ok-setup.ensures.tells c.in_ok-first.ensures.tells c.in_ok-second.second (Ok c.in_ok-compared.field-0) c.in_ok-second.ensures.read.reading
    c.in_ok-second.ensures.tells
    (record { answers = c.in_ok-compared.ensures; stops = tt })

pub returns-in_err-compared : goal.returns-in_err-compared
returns-in_err-compared g c =
    let is : c.from_residual-in_err-compared.result ≡ Err OutOfMemory = search rules in
    let before = shelved (g.S.Shelf.held c.args.shelf.now) (g.S.Shelf.counts c.args.shelf.now) in
    let now = shelved (g.S.Shelf.held c.read_state-2.new.shelf) (g.S.Shelf.counts c.read_state-2.new.shelf) in
    subst (λ (r : Result Answer Stop). IsAnswerTo (to_compare c.args.game.now c.args.left.now c.args.right.now) r before now) (sym is)
    (second_goes_on c.args.game.now c.args.left.now c.args.right.now c.in_ok-setup.setup c.in_ok-first.first before _ _ now c.in_ok-setup.ensures.read.reading
    c.in_ok-first.ensures.read.reading
    c.in_ok-setup.ensures.tells c.in_ok-first.ensures.tells c.in_ok-second.second (Err OutOfMemory) c.in_ok-second.ensures.read.reading
    c.in_ok-second.ensures.tells
    (record { answers = tt; stops = refl }))
