-- All of them are joined to the first one.
use Rattle.sim_search.proofs.{Added.not_empty, Regions.joined-chain, Regions.joined-turned}
use Rattle.sim_search.proofs.Common.{◌<◌, Cell, Contains, Contains-get_or, field_of_grid, get_or, length, List, subst}
use Rattle.sim_search.proofs.region.are_joined_within.Goals as goal

pub reached-requires-clause-on : goal.reached-requires-clause-on
reached-requires-clause-on c =
    let lt : 0 < length c.args.cells.now = not_empty (length c.args.cells.now) c.is_empty.result c.is_empty.ensures c.if-is_empty.false in
    (c.requires (get_or c.args.cells.now 0 (record { x = 0; z = 0 })) (Contains-get_or c.args.cells.now 0 (record { x = 0; z = 0 }) lt)).0

pub reached-requires-clause-is_open : goal.reached-requires-clause-is_open
reached-requires-clause-is_open c =
    let lt : 0 < length c.args.cells.now = not_empty (length c.args.cells.now) c.is_empty.result c.is_empty.ensures c.if-is_empty.false in
    (c.requires (get_or c.args.cells.now 0 (record { x = 0; z = 0 })) (Contains-get_or c.args.cells.now 0 (record { x = 0; z = 0 }) lt)).1

pub returns-in-Ok : goal.returns-in-Ok
returns-in-Ok c = λ e a b h k.
    let field = field_of_grid c.args.grid.now in
    let found = λ (v : Cell) (there : Contains c.args.cells.now v).
    c.in-Ok.ensures v (subst (λ (xs : List Cell). Contains xs v) c.as_slice.ensures.value (c.are_among.ensures e v there)) in
    joined-chain field (joined-turned field (found a h)) (found b k)
