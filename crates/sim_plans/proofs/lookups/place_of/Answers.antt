-- The first row has the least id, the ids ascend, and the closure gives the id of a row.
use Rattle.{sim_base.proofs.RowPlaces.row_missing, sim_plans.proofs.{Common.{ranked, Row, rules, sym}, Places.{no_row, none_below, row_at}}}
use Rattle.std.{proofs.{Common.{length, ℕ, ◌-◌, ◌<◌, ◌≡◌}, lemmas.List.Sorted.answers_always}, specs.List.HoldsAt}
use Rattle.sim_plans.proofs.lookups.place_of.Goals as goal

pub returns-then-id-first : goal.returns-then-id-first
returns-then-id-first c = none_below c.args.rows.now c.args.id c.first-item.result c.requires (search rules) (search rules)

pub returns-in-Some : goal.returns-in-Some
returns-in-Some c =
    let rows = c.args.rows.now in
    let at : ℕ = c.args.id - c.first-item.result.id in
    let inside : at < length rows = search rules in
    let there : HoldsAt (λ (row : Row). row.id ≡ c.args.id) rows at = search rules in (inside, λ d. row_at rows c.args.id at d c.requires inside there)

pub returns-in-Ok : goal.returns-in-Ok
returns-in-Ok c =
    let by_id = c.in-Ok.ensures.position (λ (row : Row). row.id) (answers_always _ _ _ (λ f a r g called. search rules)) in (
      c.in-Ok.ensures.bound,
      λ d. row_at c.args.rows.now c.args.id c.in-Ok.at d c.requires c.in-Ok.ensures.bound (λ e. ranked _ c.args.id _ (sym (by_id e))),
    )

pub returns-in-Err : goal.returns-in-Err
returns-in-Err c =
    let by_id = c.in-Err.ensures.position (λ (row : Row). row.id) (answers_always _ _ _ (λ f a r g called. search rules)) in
    row_missing c.args.rows.now c.args.id (no_row c.args.rows.now c.args.id c.in-Err.field-0 c.requires c.in-Err.ensures.bound by_id)
