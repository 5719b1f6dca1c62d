-- One more is released.
use Rattle.sim_board.proofs.{Common.{ap, arith, get_or, id_of, map, row_released, sym, ℕ, ◌∙◌}, Letting.{ids_stay, released_next}}

pub loop-id-preserved : Rattle.sim_board.proofs.edit.release_rows.Goals.loop-id-preserved
loop-id-preserved c =
    let id : ℕ = get_or c.args.ids.now c.loop-id.id-index 0 in (
      c.release_row-near.ensures ∙ ap (λ rows. row_released rows id) c.loop-id.invariant.0 ∙
          sym (released_next c.args.ids.now c.args.rows.now.items c.loop-id.id-index (omega arith)),
      ap (map id_of) c.release_row-near.ensures ∙ ids_stay c.loop-id.rows.items id ∙ c.loop-id.invariant.1,
    )
