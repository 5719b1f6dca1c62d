-- The match and its economy were read and the one was played by the other, or one could not be read.
use Rattle.sim_top.proofs.{Answering.match_ends, Common.{Answer, Done, Err, File, IsAnswerTo, List, match_in, paid_state, printed, refl, Result}}
use Rattle.sim_top.proofs.Common.{RigsCameBackBy, rules, Setup, shelved, Some, StandForPaid, status_made, stock_text, Stop, subst, sym, systems_by, to_stock}
use Rattle.sim_top.proofs.{Common.{◌∙◌, ◌≡◌}, Playing.{played_if, text_made}, Returning.{first_played, kind_of_first, rigs_left, room_for, stands_read}}
use Rattle.sim_top.proofs.Stocking.{economy_ends, economy_goes_on, paid_stands, stock_opens}
use Rattle.sim_top.proofs.commands.Equipment.stock.Goals as goal

pub returns-in_err-setup-clause-answer : goal.returns-in_err-setup-clause-answer
returns-in_err-setup-clause-answer g c =
    let is : c.from_residual.result ≡ Err c.in_err-setup.field-0.0 = search rules in
    let game = c.args.game.now in
    let name = c.args.name.now in
    let before = shelved (g.S.Shelf.held c.args.shelf.now) (g.S.Shelf.counts c.args.shelf.now) in
    let now = shelved (g.S.Shelf.held c.read_match.new.shelf) (g.S.Shelf.counts c.read_match.new.shelf) in
    subst (λ (r : Result Answer Stop). IsAnswerTo (to_stock game name) r before now) (sym is)
    (match_ends (to_stock game name) game (λ files. match_in files game) c.in_err-setup.field-0.0 before now (stock_opens game name)
    c.in_err-setup.ensures.read.stops c.in_err-setup.ensures.tells
    c.in_err-setup.ensures.read.reading)

pub returns-in_err-setup-clause-back : goal.returns-in_err-setup-clause-back
returns-in_err-setup-clause-back g c =
    let is : c.from_residual.result ≡ Err c.in_err-setup.field-0.0 = search rules in
    let held = g.S.Shelf.held c.args.shelf.now in
    subst (λ (r : Result Answer Stop). RigsCameBackBy (λ i v. (goal.System-dyn g (i, v)).meaning v) (Some (to_stock c.args.game.now c.args.name.now)) held
    (status_made r) c.args.self.now.rigs c.args.self.now.rigs) (sym is)
    (rigs_left (λ i v. (goal.System-dyn g (i, v)).meaning v) (Some (to_stock c.args.game.now c.args.name.now)) held c.in_err-setup.field-0.0
    c.args.self.now.rigs
    c.requires)

pub returns-in_err-economy-clause-answer : goal.returns-in_err-economy-clause-answer
returns-in_err-economy-clause-answer g c =
    let is : c.from_residual-in_err-economy.result ≡ Err c.in_err-economy.field-0.0 = search rules in
    let before = shelved (g.S.Shelf.held c.args.shelf.now) (g.S.Shelf.counts c.args.shelf.now) in
    let now = shelved (g.S.Shelf.held c.read_economy.new.shelf) (g.S.Shelf.counts c.read_economy.new.shelf) in
    subst (λ (r : Result Answer Stop). IsAnswerTo (to_stock c.args.game.now c.args.name.now) r before now) (sym is)
    (economy_ends c.args.game.now c.args.name.now c.in_ok-setup.setup before _ now c.in_ok-setup.ensures.read.reading c.in_ok-setup.ensures.tells
    c.in_err-economy.field-0.0 c.in_err-economy.ensures.read.stops
    c.in_err-economy.ensures.read.reading c.in_err-economy.ensures.tells)

pub returns-in_err-economy-clause-back : goal.returns-in_err-economy-clause-back
returns-in_err-economy-clause-back g c =
    let is : c.from_residual-in_err-economy.result ≡ Err c.in_err-economy.field-0.0 = search rules in
    let held = g.S.Shelf.held c.args.shelf.now in
    subst (λ (r : Result Answer Stop). RigsCameBackBy (λ i v. (goal.System-dyn g (i, v)).meaning v) (Some (to_stock c.args.game.now c.args.name.now)) held
    (status_made r) c.args.self.now.rigs c.args.self.now.rigs) (sym is)
    (rigs_left (λ i v. (goal.System-dyn g (i, v)).meaning v) (Some (to_stock c.args.game.now c.args.name.now)) held c.in_err-economy.field-0.0
    c.args.self.now.rigs
    c.requires)

pub stock_text-text-requires-clause-begins : goal.stock_text-text-requires-clause-begins
stock_text-text-requires-clause-begins g c = record {
  limits = c.in_ok-setup.ensures.read.good;
  kinds = kind_of_first (λ i v. (goal.System-dyn g (i, v)).meaning v) c.args.self.now.rigs.items c.take_first-rig.new.rigs.items c.take_first-rig.result
      c.take_first-rig.ensures.items c.requires.kinds;
}

pub put_first-requires : goal.put_first-requires
put_first-requires g c =
    room_for (λ i v. (goal.System-dyn g (i, v)).meaning v) c.args.self.now.rigs c.take_first-rig.new.rigs c.take_first-rig.result c.take_first-rig.ensures.items
    c.take_first-rig.ensures.room

pub returns-clause-answer : goal.returns-clause-answer
returns-clause-answer g c =
    let made_so = text_made c.shown.result c.stock_text-text.result.0 (stock_text c.in_ok-setup.setup c.in_ok-economy.economy) c.shown.ensures.stops
    c.shown.ensures.refused c.shown.ensures.made c.stock_text-text.ensures.text in
    economy_goes_on c.args.game.now c.args.name.now c.in_ok-setup.setup _ _ _ c.in_ok-setup.ensures.read.reading c.in_ok-setup.ensures.tells
    c.in_ok-economy.economy
    c.shown.result
    c.in_ok-economy.ensures.read.reading c.in_ok-economy.ensures.tells made_so

pub returns-clause-back : goal.returns-clause-back
returns-clause-back g c =
    let game = c.args.game.now in
    let name = c.args.name.now in
    let setup = c.in_ok-setup.setup in
    let economy = c.in_ok-economy.economy in
    let held = g.S.Shelf.held c.args.shelf.now in
    let made = c.shown.result in
    let last = c.stock_text-text.result.1 in
    let made_so = text_made c.shown.result c.stock_text-text.result.0 (stock_text c.in_ok-setup.setup c.in_ok-economy.economy) c.shown.ensures.stops
    c.shown.ensures.refused c.shown.ensures.made c.stock_text-text.ensures.text in
    let played_so = played_if c.shown.result c.stock_text-text.result.0 c.shown.ensures.stops c.shown.ensures.refused
    (λ i v. (goal.System-dyn g (i, v)).meaning v) setup (paid_state setup economy setup.turns)
    c.take_first-rig.result c.stock_text-text.result.1 c.stock_text-text.ensures.played in
    first_played (λ i v. (goal.System-dyn g (i, v)).meaning v) (to_stock game name) held setup (paid_state setup economy setup.turns)
    (printed Done (stock_text setup economy)) made c.take_first-rig.result last
    c.take_first-rig.new.rigs.items c.args.self.now.rigs c.put_first.new.rigs c.requires c.take_first-rig.ensures.items c.put_first.ensures.items
    (c.put_first.ensures.room ∙ c.take_first-rig.ensures.room) refl
    made_so tt played_so
    (stands_read held (λ files. match_in files game) setup made (λ (files : List File) (setup : Setup). StandForPaid files name setup
    (systems_by last (λ i v. (goal.System-dyn g (i, v)).meaning v)))
    c.in_ok-setup.ensures.tells
    (paid_stands game name setup _ _ _ c.in_ok-setup.ensures.read.reading c.in_ok-setup.ensures.tells economy made
    (systems_by last (λ i v. (goal.System-dyn g (i, v)).meaning v))
    c.in_ok-economy.ensures.read.reading c.in_ok-economy.ensures.tells played_so.fed))
