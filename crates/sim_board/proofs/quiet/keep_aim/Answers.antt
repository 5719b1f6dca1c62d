-- The row at the place that was found is the only one with its id, and has the target already.
use Rattle.sim_board.proofs.Common.{List, Row, Some, ap, applied, cond, map, subst, sym, ◌==◌, ◌∙◌}
use Rattle.sim_board.{proofs.Quieting.keeps_there, proofs.Setting.set_found, specs.Boards.KeepsTarget}

pub returns-then-target-aim-clause-made : Rattle.sim_board.proofs.quiet.keep_aim.Goals.returns-then-target-aim-clause-made
returns-then-target-aim-clause-made c =
    let rows = c.args.rows.now.items in
    let id = c.in-Attack.id in
    let aim = c.in-Attack.aim in
    let same_target = sym c.target_of-target.ensures ∙ c.if-target-aim.true in
    record {
      keeps = λ state same. subst (KeepsTarget state) (sym c.in-Attack.is)
          (keeps_there rows c.as_slice.result.now state id c.in-Some.place aim c.index.result.now c.as_slice.ensures.value same c.in-Some.ensures.1
          c.index.ensures same_target);
      gives = λ setup state same. ap (λ (rs : List Row). record state { rows = rs })
          (set_found rows c.as_slice.result.now id (λ (row : Row). record row { attack = Some aim }) c.as_slice.ensures.value c.in-Some.place
          c.index_mut.result.now c.requires c.in-Some.ensures.0 c.in-Some.ensures.1 c.index_mut.ensures.value
          ∙ ap (map (λ (row : Row). cond (row.id == id) (record row { attack = Some aim }) row)) (sym same))
          ∙ ap (applied setup state) (sym c.in-Attack.is);
    }
