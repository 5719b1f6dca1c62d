use Rattle.{sim_base.specs.declared.{change.Change.TheVariants.Owner, state.Row.Row}, sim_orders.proofs.Planning.{answers_same, plan_fulfils, resigns}}
use Rattle.std.{proofs.Common.{ap, cond, flat_map, List, [], ◌∷◌}, specs.Prelude.◌==◌}

pub returns : Rattle.test_systems.proofs.tests.handlers.resigned.Goals.returns
returns c =
    let task = c.args.task.now in
    plan_fulfils 7 task _ c.left.result c.requires (resigns task.command.now c.requires.kind_is)
    (answers_same c.left.result _ _
    (ap (λ (rows : List Row). flat_map (λ (row : Row). cond (row.owner == task.player) (Owner row.id 0 ∷ []) []) rows) c.as_slice.ensures) c.left.ensures)
