use Rattle.sim_search.proofs.drain.drain.Goals as goal
use Rattle.sim_search.proofs.Common.{arith, at_drop_more, Bool, Cell, Drains, drop, drop_all, field_of_grid, get_or, known, List, Search, size_of, subst, sym}
use Rattle.sim_search.proofs.{Common.{true≢false, ◌+◌, ◌∙◌, ◌∷◌, ◌≡◌}, drain.drain.Goals.{in-Some+in_ok-expand, in_default}}
use Rattle.sim_search.proofs.{Draining.{Draining, draining_begins, draining_past, draining_taken, waits-first}, Rows.entry_at-there}

pub loop-cell-init : goal.loop-cell-init
loop-cell-init g c =
    draining_begins (g.A.Guide.estimate_of c.args.aim) (field_of_grid c.args.grid.now) c.args.search.now c.args.now c.args.bucket.now c.requires.drains

pub loop-cell-preserved : goal.loop-cell-preserved
loop-cell-preserved g c =
    let field = field_of_grid c.args.grid.now in
    let first = c.args.search.now in
    let s = c.loop-cell.search in
    let xs = c.args.bucket.now in
    let i = c.loop-cell.cell-index in
    let x : Cell = get_or xs i (record { x = 0; z = 0 }) in
    let rest = drop (i + 1) xs in
    let cons : drop i xs ≡ x ∷ rest = at_drop_more (λ (l : List Cell). l) xs i (record { x = 0; z = 0 }) c.loop-cell-test.true in
    let before : Draining (g.A.Guide.estimate_of c.args.aim) field first s c.args.now (x ∷ rest) c.loop-cell.any =
    subst (λ (l : List Cell). Draining (g.A.Guide.estimate_of c.args.aim) field first s c.args.now l c.loop-cell.any) cons c.loop-cell.invariant in
    elim c.match-waiting.branch [
      | in-Some+in_ok-expand w ↦
          subst (λ (n : Search). Draining (g.A.Guide.estimate_of c.args.aim) field first n c.args.now rest c.match-waiting.any) (sym w.search-is)
          (subst (λ (b : Bool). Draining (g.A.Guide.estimate_of c.args.aim) field first w.take.new.search c.args.now rest b) (sym w.any-is)
          (draining_taken (g.A.Guide.estimate_of c.args.aim) field first s w.expand.new.search w.take.new.search c.args.now x w.in-Some.cost
          rest c.loop-cell.any
          (waits-first (g.A.Guide.estimate_of c.args.aim) field s c.args.now x w.in-Some.cost rest before.drains
          (c.waiting.ensures.cost w.in-Some.cost w.in-Some.is) (c.waiting.ensures.untaken w.in-Some.cost w.in-Some.is)) w.in_ok-expand.ensures w.take.ensures before))
      | in_default w ↦
          subst (λ (n : Search). Draining (g.A.Guide.estimate_of c.args.aim) field first n c.args.now rest c.match-waiting.any) (sym w.search-is)
          (subst (λ (b : Bool). Draining (g.A.Guide.estimate_of c.args.aim) field first s c.args.now rest b) (sym w.any-is)
          (draining_past (g.A.Guide.estimate_of c.args.aim) field first s c.args.now x rest c.loop-cell.any
          (λ d w'. true≢false (sym (c.waiting.ensures.none w.in_default.is d w'.cost) ∙ w'.not_taken)) before))
    ]

pub expand-requires-clause-small : goal.expand-requires-clause-small
expand-requires-clause-small g c =
    let h = g.A.Guide.estimate_of c.args.aim in
    let field = field_of_grid c.args.grid.now in
    let s = c.loop-cell.search in
    let xs = c.args.bucket.now in
    let i = c.loop-cell.cell-index in
    let x : Cell = get_or xs i (record { x = 0; z = 0 }) in
    let rest = drop (i + 1) xs in
    let cons : drop i xs ≡ x ∷ rest = at_drop_more (λ (l : List Cell). l) xs i (record { x = 0; z = 0 }) c.loop-cell-test.true in
    let drains = subst (λ (l : List Cell). Drains h field s c.args.now l) cons c.loop-cell.invariant.drains in
    let waits = waits-first h field s c.args.now x c.in-Some.cost rest drains (c.waiting.ensures.cost c.in-Some.cost c.in-Some.is)
    (c.waiting.ensures.untaken c.in-Some.cost c.in-Some.is) in
    omega (arith, waits.key, c.requires.small)

pub take-requires : goal.take-requires
take-requires g c =
    let costs = c.expand.new.search.costs in
    entry_at-there (size_of costs) (known costs) (get_or c.args.bucket.now c.loop-cell.cell-index (record { x = 0; z = 0 })) c.in-Some.cost
    c.in_ok-expand.ensures.from_is

pub returns : goal.returns
returns g c =
    let none = drop_all c.loop-cell.cell-index c.args.bucket.now c.loop-cell-test.false in
    record {
      done = subst (λ (l : List Cell). Drains (g.A.Guide.estimate_of c.args.aim) (field_of_grid c.args.grid.now) c.loop-cell.search c.args.now l) none
          c.loop-cell.invariant.drains;
      progress = c.loop-cell.invariant.progress;
    }
