use Rattle.sim_grid.{proofs.Beside.{place-below, places-apart}, specs.Grids.{AreStepsFrom, field_of_grid, IsNoted, place_of}}
use Rattle.std.proofs.{Common.{arith, length, set, subst, sym, ℕ, ◌<◌}, lemmas.List.{get_or-set_other, get_or-set_same, length-set}}

pub returns : Rattle.sim_grid.proofs.steps.note.Goals.returns
returns c =
    let cells = c.args.cells.now in
    let old = c.args.steps.now.items in
    let from = c.args.from in
    let made = c.steps_from.result in
    let at = place_of cells.size from in
    let below : at < length old = omega (arith, place-below cells.size from c.requires.on, c.requires.full, c.args.steps.now.ok.0) in
    subst (λ (n : ℕ). IsNoted cells old (set old n made) from) (sym c.place-place.ensures.place)
    (record {
      full = length-set old at made;
      here = subst (λ (n : ℕ). AreStepsFrom (field_of_grid cells) from n) (sym (get_or-set_same old at made 0 below)) c.steps_from.ensures;
      elsewhere = λ e on ne. get_or-set_other old at (place_of cells.size e) made 0 (places-apart cells.size e from on c.requires.on ne);
    })
