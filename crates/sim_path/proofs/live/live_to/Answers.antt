use Rattle.sim_path.proofs.live.live_to.Goals as goal
use Rattle.sim_path.proofs.Common.{ap, Cell, false, field_of_grid, is_free, IsFirstTight, List, Option, rules, same_cell, same_cell-self, same_cell-true, subst}
use Rattle.sim_path.proofs.{Common.{sym, true, true≢false, ◌∙◌, ◌≡◌, ◌≢◌}, TightTrails.{at-further, chain-done, IsAt, live-begins, live-dead}}
use Rattle.sim_path.specs.{Questions.{is_dead, marked_in, slope_of}, SlopeLaws.slope-floor}

pub loop-init : goal.loop-init
loop-init c =
    let question = c.args.question.now in
    let field = field_of_grid question.grid.now in
    let slope = c.args.slope.now in
    let free : is_free field question.start question.goal ≡ true = search rules in
    let dead = live-dead field question.start slope question.start_on c.requires.slope (marked_in c.mark_all.new.live) (c.in_ok-mark_all.ensures
    c.if-not-branch.false) in
    subst (λ (t : List Cell). IsAt field question.start (slope_of slope) question.goal t (is_dead c.mark_all.new.live) question.goal) (sym
    c.clear.ensures.items)
    (live-begins field question.start (slope_of slope) question.goal (is_dead c.mark_all.new.live) dead (record { on = question.goal_on; free = free }))

pub returns-then-eq : goal.returns-then-eq
returns-then-eq c =
    let question = c.args.question.now in
    let field = field_of_grid question.grid.now in
    let slope = c.args.slope.now in
    λ e. chain-done field question.start (slope_of slope) question.start_on (slope-floor field question.start slope c.requires.slope) question.goal c.loop.at
    c.loop.trail.items c.loop.invariant.chain (same_cell-true c.loop.at question.start (sym c.eq.ensures ∙ c.if-eq.true))

not_same : (c e : Cell) → same_cell c e ≡ false → c ≢ e
not_same c e h f = true≢false (sym (same_cell-self c) ∙ ap (same_cell c) f ∙ h)

pub loop-preserved : goal.loop-preserved
loop-preserved c =
    let question = c.args.question.now in
    let field = field_of_grid question.grid.now in
    let start = question.start in
    let slope = c.args.slope.now in
    let at = c.loop.at in
    let dead = is_dead c.mark_all.new.live in
    let other : at ≢ start = not_same at start (sym c.eq.ensures ∙ c.if-eq.false) in
    let from = c.in-Some.from in
    let further = at-further field start (slope_of slope) question.start_on (slope-floor field start slope c.requires.slope) question.goal c.loop.trail.items
    dead
    at from other c.loop.invariant (subst (λ (o : Option Cell). IsFirstTight field start (slope_of slope) dead at 8 o) c.in-Some.is c.first_live.ensures) in
    subst (λ (t : List Cell). IsAt field start (slope_of slope) question.goal t dead from) (sym c.in_ok-push.ensures.items) further

pub first_live-requires : goal.first_live-requires
first_live-requires c = record { cell_on = c.loop.invariant.free.on; size = c.requires.slope.size_is }

pub mark_all-requires-clause-size : goal.mark_all-requires-clause-size
mark_all-requires-clause-size c = c.requires.slope.size_is
