use Rattle.sim_search.proofs.Common.{AreCosts, arith, Cell, cost_in, count_by-le-length, Drains, eqb, field_of_grid, HasStopped, inl, inr, length-map, List}
use Rattle.sim_search.proofs.{Common.{not, refl, subst, sym, takens, true≢false, ℕ, ◌*◌, ◌∙◌, ◌≤◌}, drain.go_on.Goals.{After-emptied-spare, else-branch}}
use Rattle.sim_search.proofs.{drain.go_on.Goals.then-branch, Draining.{costs-found, drains_first, ready_anew, Round, round-of, stopped}}
use Rattle.sim_search.proofs.drain.go_on.Goals as goal

cells_most : (w d : ℕ) → w ≤ 256 → d ≤ 256 → w * d ≤ 65536
cells_most w d f g = grind arith

pub loop-idle-init : goal.loop-idle-init
loop-idle-init g c =
    let s = c.args.stage.search in
    let costs = s.costs in
    record {
      start = refl;
      ready = c.requires.ready;
      idle = omega arith;
      few = omega (
        arith,
        count_by-le-length not (takens s),
        length-map s.taken.items (λ (t : ℕ). eqb t costs.stamp),
        s.all_cells,
        s.taken.ok.0,
        cells_most costs.width
            costs.depth costs.narrow costs.shallow,
      );
      spare = c.new-spare.ensures;
    }

pub swap_bucket-bucket-requires : goal.swap_bucket-bucket-requires
swap_bucket-bucket-requires g c = c.loop-idle.invariant.spare

pub drain-requires-clause-drains : goal.drain-requires-clause-drains
drain-requires-clause-drains g c =
    let field = field_of_grid c.args.grid.now in
    let between = c.swap_bucket-bucket.new.search in
    subst (λ (l : List Cell). Drains (g.A.Guide.estimate_of c.args.aim) field between c.passed-next.result.0 l)
    (sym (c.as_slice-in-loop-idle.ensures ∙ c.swap_bucket-bucket.ensures.bucket))
    (drains_first (g.A.Guide.estimate_of c.args.aim) field c.loop-idle.search between c.passed-next.result.0 c.passed-next.result.1
    (c.passed-next.ensures.ready (g.A.Guide.estimate_of c.args.aim) (field_of_grid c.args.grid.now) c.loop-idle.invariant.ready)
    c.swap_bucket-bucket.ensures.rest)

pub passed-next-requires-clause-small : goal.passed-next-requires-clause-small
passed-next-requires-clause-small g c = omega (arith, c.loop-idle.invariant.few, c.requires.small)

pub drain-requires-clause-small : goal.drain-requires-clause-small
drain-requires-clause-small g c = omega (arith, c.passed-next.ensures.gap, c.passed-next.ensures.most, c.loop-idle.invariant.few, c.requires.small)

pub overflow_add-now : goal.overflow_add-now
overflow_add-now g c = omega (arith, c.passed-next.ensures.gap, c.passed-next.ensures.most, c.loop-idle.invariant.few, c.requires.small)

round : (g : _) (c : After-emptied-spare g)
    → Round (g.A.Guide.estimate_of c.args.aim) (field_of_grid c.args.grid.now) c.loop-idle.search c.drain.new.search c.passed-next.result.0
    c.if-branch.now c.passed-next.result.1 c.if-branch.idle
round g c =
    let field = field_of_grid c.args.grid.now in
    let made = round-of (g.A.Guide.estimate_of c.args.aim) field c.loop-idle.search c.swap_bucket-bucket.new.search c.drain.new.search c.passed-next.result.0
    c.if-branch.now c.passed-next.result.1 c.if-branch.idle c.in_ok-drain.field-0
    c.passed-next.ensures.most (c.passed-next.ensures.ready (g.A.Guide.estimate_of c.args.aim) (field_of_grid c.args.grid.now) c.loop-idle.invariant.ready)
    c.swap_bucket-bucket.ensures.rest c.in_ok-drain.ensures.done c.in_ok-drain.ensures.progress in
    elim c.if-branch.branch [
      | then-branch w ↦ made (λ e. (w.now-is, w.idle-is)) (λ e. absurd (true≢false (sym w.if-branch.true ∙ e)))
      | else-branch w ↦ made (λ e. absurd (true≢false (sym e ∙ w.if-branch.false))) (λ e. (w.now-is, w.idle-is))
    ]

pub loop-idle-preserved : goal.loop-idle-preserved
loop-idle-preserved g c =
    let r = round g c in
    record {
      start = r.start_is ∙ c.loop-idle.invariant.start;
      ready = r.ready;
      idle = r.idle_in;
      few =
          omega (arith, r.falls, c.passed-next.ensures.gap, c.passed-next.ensures.most, c.loop-idle.invariant.few);
      spare = c.emptied-spare.ensures;
    }

pub loop-idle-smaller : goal.loop-idle-smaller
loop-idle-smaller g c = let r = round g c in omega (arith, r.smaller, c.passed-next.ensures.least)

pub returns-clause-start : goal.returns-clause-start
returns-clause-start g c = c.loop-idle.invariant.start

pub returns-clause-ready : goal.returns-clause-ready
returns-clause-ready g c = ready_anew (g.A.Guide.estimate_of c.args.aim) (field_of_grid c.args.grid.now) c.loop-idle.search c.loop-idle.now c.loop-idle.idle
    c.loop-idle.invariant.ready

pub returns-clause-small : goal.returns-clause-small
returns-clause-small g c = omega (arith, c.loop-idle.invariant.few)

pub returns-clause-costs : goal.returns-clause-costs
returns-clause-costs g c =
    let field = field_of_grid c.args.grid.now in
    let h = g.A.Guide.estimate_of c.args.aim in
    let found = subst (λ (v : Cell). AreCosts field v (cost_in c.loop-idle.search.costs)) c.loop-idle.invariant.start
    (costs-found h field c.loop-idle.search c.loop-idle.now c.loop-idle.idle c.loop-idle-test.false
    c.loop-idle.invariant.ready) in
    inl found

pub returns-then-is_come_to-clause-start : goal.returns-then-is_come_to-clause-start
returns-then-is_come_to-clause-start g c = c.loop-idle.invariant.start

pub returns-then-is_come_to-clause-ready : goal.returns-then-is_come_to-clause-ready
returns-then-is_come_to-clause-ready g c =
    let field = field_of_grid c.args.grid.now in
    ready_anew (g.A.Guide.estimate_of c.args.aim) field c.loop-idle.search c.passed-next.result.0 c.passed-next.result.1
    (c.passed-next.ensures.ready (g.A.Guide.estimate_of c.args.aim) field c.loop-idle.invariant.ready)

pub returns-then-is_come_to-clause-small : goal.returns-then-is_come_to-clause-small
returns-then-is_come_to-clause-small g c = omega (arith, c.passed-next.ensures.gap, c.passed-next.ensures.most, c.loop-idle.invariant.few)

pub returns-then-is_come_to-clause-costs : goal.returns-then-is_come_to-clause-costs
returns-then-is_come_to-clause-costs g c =
    let field = field_of_grid c.args.grid.now in
    let h = g.A.Guide.estimate_of c.args.aim in
    let ends = c.args.ends.now in
    let s = c.loop-idle.search in
    let come = c.is_come_to.ensures.0 c.if-is_come_to.true in
    let early = stopped h field s c.passed-next.result.0 c.passed-next.result.1 ends
    (c.passed-next.ensures.ready (g.A.Guide.estimate_of c.args.aim) field c.loop-idle.invariant.ready) come in
    let found = subst (λ (v : Cell). HasStopped field v h ends (cost_in s.costs)) c.loop-idle.invariant.start early in
    inr found
