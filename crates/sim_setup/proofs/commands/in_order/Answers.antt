-- The place of the command is below their number.
use Rattle.sim_setup.proofs.{Common.{ap, arith, falls_at, List, Some, sym, Timed, ◌∙◌, ◌≡◌}, Falls.falls_within}

pub returns-in-Some-clause-memory : Rattle.sim_setup.proofs.commands.in_order.Goals.returns-in-Some-clause-memory
returns-in-Some-clause-memory c = λ few gone.
    let fallen : falls_at 0 0 c.args.commands ≡ Some c.in-Some.index = ap (λ (ts : List Timed). falls_at 0 0 ts) (sym c.as_slice.ensures) ∙
    sym c.in-Some.ensures in
    let below = falls_within 0 0 c.args.commands c.in-Some.index fallen in
    c.refused.ensures.told (omega (arith, few, below)) (cc)
