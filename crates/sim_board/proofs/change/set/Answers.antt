-- The row that the change is about was found, and is the only one with its id; where none was found, none is changed.
use Rattle.sim_board.proofs.change.set.Goals as goal
use Rattle.sim_board.proofs.Common.{ap, applied, List, Row, set, Some, State, sym, ◌∙◌}
use Rattle.{sim_base.specs.declared.state.Motion.Motion, sim_board.proofs.Setting.none_found, sim_board.proofs.Setting.set_found}

pub returns-in-Some : goal.returns-in-Some
returns-in-Some c = λ setup.
    let rows = c.args.rows.now.items in
    let over : List Row → State = λ rs. record c.args.state.now { rows = rs } in
    ap over (set_found rows c.as_slice.result.now c.in-Move.id (λ (row : Row). record row { at = c.in-Move.at })
    c.as_slice.ensures.value c.in-Some.place c.index_mut.result.now c.requires.rows
    c.in-Some.ensures.0 c.in-Some.ensures.1 c.index_mut.ensures.value)
    ∙ ap (applied setup (over rows)) (sym c.in-Move.is)

pub returns-in_default : goal.returns-in_default
returns-in_default c = λ setup.
    let rows = c.args.rows.now.items in
    let over : List Row → State = λ rs. record c.args.state.now { rows = rs } in
    ap over (none_found rows c.as_slice.result.now c.in-Move.id (λ (row : Row). record row { at = c.in-Move.at })
    c.as_slice.ensures.value c.in_default.ensures) ∙ ap (applied setup (over rows)) (sym c.in-Move.is)

pub returns-in-Some-place_near : goal.returns-in-Some-place_near
returns-in-Some-place_near c = λ setup.
    let rows = c.args.rows.now.items in
    let over : List Row → State = λ rs. record c.args.state.now { rows = rs } in
    ap over (ap (λ (m : Motion). set rows c.in-Some-place_near.place (record c.index_mut-in-Some-place_near.result.now { motion = Some m }))
    c.replace.ensures.value ∙
    set_found rows c.as_slice-in-Motion.result.now c.in-Motion.id (λ (row : Row). record row { motion = Some c.in-Motion.motion })
    c.as_slice-in-Motion.ensures.value c.in-Some-place_near.place c.index_mut-in-Some-place_near.result.now c.requires.rows
    c.in-Some-place_near.ensures.0 c.in-Some-place_near.ensures.1 c.index_mut-in-Some-place_near.ensures.value)
    ∙ ap (applied setup (over rows)) (sym c.in-Motion.is)

pub returns-in_default-place_near : goal.returns-in_default-place_near
returns-in_default-place_near c = λ setup.
    let rows = c.args.rows.now.items in
    let over : List Row → State = λ rs. record c.args.state.now { rows = rs } in
    ap over (none_found rows c.as_slice-in-Motion.result.now c.in-Motion.id (λ (row : Row). record row { motion = Some c.in-Motion.motion })
    c.as_slice-in-Motion.ensures.value c.in_default-place_near.ensures) ∙ ap (applied setup (over rows)) (sym c.in-Motion.is)

pub returns-in-Some-place_near-2 : goal.returns-in-Some-place_near-2
returns-in-Some-place_near-2 c = λ setup.
    let rows = c.args.rows.now.items in
    let over : List Row → State = λ rs. record c.args.state.now { rows = rs } in
    ap over (set_found rows c.as_slice-in-Attack.result.now c.in-Attack.id (λ (row : Row). record row { attack = Some c.in-Attack.aim })
    c.as_slice-in-Attack.ensures.value c.in-Some-place_near-2.place c.index_mut-in-Some-place_near-2.result.now c.requires.rows
    c.in-Some-place_near-2.ensures.0 c.in-Some-place_near-2.ensures.1 c.index_mut-in-Some-place_near-2.ensures.value)
    ∙ ap (applied setup (over rows)) (sym c.in-Attack.is)

pub returns-in_default-place_near-2 : goal.returns-in_default-place_near-2
returns-in_default-place_near-2 c = λ setup.
    let rows = c.args.rows.now.items in
    let over : List Row → State = λ rs. record c.args.state.now { rows = rs } in
    ap over (none_found rows c.as_slice-in-Attack.result.now c.in-Attack.id (λ (row : Row). record row { attack = Some c.in-Attack.aim })
    c.as_slice-in-Attack.ensures.value c.in_default-place_near-2.ensures) ∙ ap (applied setup (over rows)) (sym c.in-Attack.is)

pub returns-in-Some-place_near-3 : goal.returns-in-Some-place_near-3
returns-in-Some-place_near-3 c = λ setup.
    let rows = c.args.rows.now.items in
    let over : List Row → State = λ rs. record c.args.state.now { rows = rs } in
    ap over (set_found rows c.as_slice-in-Health.result.now c.in-Health.id (λ (row : Row). record row { health = Some c.in-Health.health })
    c.as_slice-in-Health.ensures.value c.in-Some-place_near-3.place c.index_mut-in-Some-place_near-3.result.now c.requires.rows
    c.in-Some-place_near-3.ensures.0 c.in-Some-place_near-3.ensures.1 c.index_mut-in-Some-place_near-3.ensures.value)
    ∙ ap (applied setup (over rows)) (sym c.in-Health.is)

pub returns-in_default-place_near-3 : goal.returns-in_default-place_near-3
returns-in_default-place_near-3 c = λ setup.
    let rows = c.args.rows.now.items in
    let over : List Row → State = λ rs. record c.args.state.now { rows = rs } in
    ap over (none_found rows c.as_slice-in-Health.result.now c.in-Health.id (λ (row : Row). record row { health = Some c.in-Health.health })
    c.as_slice-in-Health.ensures.value c.in_default-place_near-3.ensures) ∙ ap (applied setup (over rows)) (sym c.in-Health.is)

pub returns-in-Some-place_near-4 : goal.returns-in-Some-place_near-4
returns-in-Some-place_near-4 c = λ setup.
    let rows = c.args.rows.now.items in
    let over : List Row → State = λ rs. record c.args.state.now { rows = rs } in
    ap over (set_found rows c.as_slice-in-Owner.result.now c.in-Owner.id (λ (row : Row). record row { owner = c.in-Owner.owner })
    c.as_slice-in-Owner.ensures.value c.in-Some-place_near-4.place c.index_mut-in-Some-place_near-4.result.now c.requires.rows
    c.in-Some-place_near-4.ensures.0 c.in-Some-place_near-4.ensures.1 c.index_mut-in-Some-place_near-4.ensures.value)
    ∙ ap (applied setup (over rows)) (sym c.in-Owner.is)

pub returns-in_default-place_near-4 : goal.returns-in_default-place_near-4
returns-in_default-place_near-4 c = λ setup.
    let rows = c.args.rows.now.items in
    let over : List Row → State = λ rs. record c.args.state.now { rows = rs } in
    ap over (none_found rows c.as_slice-in-Owner.result.now c.in-Owner.id (λ (row : Row). record row { owner = c.in-Owner.owner })
    c.as_slice-in-Owner.ensures.value c.in_default-place_near-4.ensures) ∙ ap (applied setup (over rows)) (sym c.in-Owner.is)
