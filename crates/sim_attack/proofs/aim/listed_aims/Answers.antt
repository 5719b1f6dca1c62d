-- Each row is known, and found by its id.
use Rattle.{sim_base.specs.Rows.id_of, sim_base.specs.declared.state.Row.Row, std.proofs.lemmas.List.get_or_default, sim_base.proofs.RowPlaces.row_there}
use Rattle.std.proofs.Common.{◌≡◌, ◌<◌, List, length, get_or, ap, arith, rules, sym, ◌∙◌}

pub push_aim-requires : Rattle.sim_attack.proofs.aim.listed_aims.Goals.push_aim-requires
push_aim-requires g c =
    let rows = c.args.scene.now.state.now.rows in
    let n = c.loop-row.row-index in
    let row = c.row-item.result in
    let lt : n < length rows = omega (arith, ap (λ (rs : List Row). length rs) c.as_slice-rows.ensures) in
    let is : row ≡ get_or rows n row = c.row-item.is ∙ ap (λ (rs : List Row). get_or rs n row) c.as_slice-rows.ensures in
    record {
      can = record {
        stands = c.requires;
        row_is = search rules;
        found = row_there rows row.id n row c.requires.valid.ascending lt is (λ d. ap id_of (sym (is ∙ get_or_default rows n row d lt)));
        finds = c.loop-row.invariant.finds;
      };
    }
