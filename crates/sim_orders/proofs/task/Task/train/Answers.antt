use Rattle.sim_orders.proofs.Common.{ap, Bool, Create, eq-eqb, has_room, length, nat_lt, Point, row_of, slice_get, Some, spot_for, sym, template_of, Train}
use Rattle.sim_orders.proofs.{Common.{trains, true, [], ◌&&◌, ◌==◌, ◌∙◌, ◌∷◌, ◌≡◌}, Planning.{answers_same, train_there}, Spots.spot_small}
use Rattle.sim_orders.proofs.task.Task.train.Goals as goal

pub centre_of-requires-clause-x : goal.centre_of-requires-clause-x
centre_of-requires-clause-x c =
    let task = c.args.self.now in
    let spot_is = ap (spot_for task.setup.now task.state.now) (sym c.requires.command) ∙ sym c.requires.given.help_is.spot ∙ c.in-Some-spot.is in
    (spot_small task.setup.now task.state.now (row_of task.state.now c.args.building) c.in-Some-spot.cell c.requires.given.limits spot_is).0

pub centre_of-requires-clause-z : goal.centre_of-requires-clause-z
centre_of-requires-clause-z c =
    let task = c.args.self.now in
    let spot_is = ap (spot_for task.setup.now task.state.now) (sym c.requires.command) ∙ sym c.requires.given.help_is.spot ∙ c.in-Some-spot.is in
    (spot_small task.setup.now task.state.now (row_of task.state.now c.args.building) c.in-Some-spot.cell c.requires.given.limits spot_is).1

pub returns-in-Some-spot-clause-value : goal.returns-in-Some-spot-clause-value
returns-in-Some-spot-clause-value c =
    let setup = c.args.self.now.setup.now in
    let state = c.args.self.now.state.now in
    let player = c.args.self.now.player in
    let number = c.args.template in
    let building = c.args.building in
    let row = c.in-Some.row.now in
    let cell = c.in-Some-spot.cell in
    let found_is : row_of state building ≡ Some row = sym c.in-Some.ensures in
    let spot_is : spot_for setup state (Train building number) ≡ Some cell =
    ap (spot_for setup state) (sym c.requires.command) ∙ sym c.requires.given.help_is.spot ∙ c.in-Some-spot.is in
    let own : (row.owner == player) ≡ true = eq-eqb row.owner player c.if-row-self.false in
    let room : has_room setup state player ≡ true =
    ap (λ n. nat_lt (length state.rows) 4096 && nat_lt state.next 0x20000000 && nat_lt n setup.cap) (sym c.requires.given.help_is.count) ∙
    sym c.has_room.ensures ∙ c.if-not-has_room.false in
    let may : (row.owner == player && trains (template_of setup row) number (slice_get setup.templates number) && has_room setup state player) ≡ true =
    ap (λ (b : Bool). b && trains (template_of setup row) number (slice_get setup.templates number) && has_room setup state player) own ∙
    ap (λ (b : Bool). b && has_room setup state player) (sym c.trains.ensures ∙ c.if-not-trains.false) ∙ room in
    answers_same c.created.result _ _ (ap (λ (p : Point). Create number p player ∷ []) c.centre_of.ensures ∙
    sym (train_there setup state player number building row cell found_is may spot_is)) c.created.ensures
