use Rattle.sim_search.proofs.Common.{Size, Some, place_at, rules, size_in, subst, sum_by, sum_by-set, sym, ℕ, ◌*◌, ◌<◌, ◌∙◌, ◌∷◌, ◌≡◌}
use Rattle.sim_search.proofs.Common.{[], ap, arith, cond, entry_in, get_or, IfOk-from_err, inr, is_none, IsOnGround, length, length-append, None, Option}
use Rattle.{sim_grid.proofs.Beside.place-below, sim_search.proofs.Floods.none-is, sim_search.proofs.Rows.entry_at-on}

pub returns-in_ok-push : Rattle.sim_search.proofs.labels.mark.Goals.returns-in_ok-push
returns-in_ok-push c =
    let old = c.args.flood.now in
    let t = old.table in
    let on = subst (λ (size : Size). IsOnGround size c.args.cell) (sym c.requires.size) c.requires.cell_on in
    let place = place_at t c.args.cell in
    let none : entry_in t c.args.cell ≡ None = sym c.at.ensures ∙ none-is c.at.result (search rules) in
    let full : length t.items.items ≡ t.width * t.depth = omega (arith, t.full, t.items.ok.0) in
    let at : place < length t.items.items = omega (arith, place-below (size_in t) c.args.cell on) in
    let count : Option ℕ → ℕ = λ o. cond (is_none o) 1 0 in
    let own : get_or t.items.items place None ≡ None = sym (entry_at-on None (size_in t) t.items.items c.args.cell on) ∙ none in
    let one : count (get_or t.items.items place None) ≡ 1 = ap count own in
    inr (record {
      is_open = sym c.open.ensures ∙ c.if-open.true;
      had_none = none;
      size_is = c.set.ensures.size;
      here = c.set.ensures.here;
      elsewhere = c.set.ensures.elsewhere;
      waits = c.in_ok-push.ensures.items;
      less = omega (
        arith,
        sum_by-set count t.items.items place (Some c.args.label) None at,
        one,
        ap (sum_by count) c.set.ensures.items_are,
        ap length
            c.in_ok-push.ensures.items,
        length-append old.waiting.items (c.args.cell ∷ []),
      );
    })

pub returns-in_err-push : Rattle.sim_search.proofs.labels.mark.Goals.returns-in_err-push
returns-in_err-push c = IfOk-from_err _ _ c.from_residual.ensures.0
