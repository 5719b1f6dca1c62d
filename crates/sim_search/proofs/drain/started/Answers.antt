use Rattle.sim_search.proofs.{Common.{ap₂, Begins, Field, field_of_grid, is_open_at, IsGuide, Ready, Size, subst, sym, ℕ, ◌≡◌}, Draining.ready_begins}
use Rattle.sim_search.proofs.drain.started.Goals as goal

pub returns-clause-start : goal.returns-clause-start
returns-clause-start g c = c.in_ok-search.ensures.start_is

pub returns-clause-key : goal.returns-clause-key
returns-clause-key g c = c.estimate.ensures.is

pub returns-clause-begins : goal.returns-clause-begins
returns-clause-begins g c =
    let size : ℕ → ℕ → Size = λ w d. record { width = w; depth = d } in
    let same : size c.width.result c.depth.result ≡ c.args.grid.now.size = ap₂ size c.width.ensures.width c.depth.ensures.depth in
    subst (λ (v : Size). Begins (g.A.Guide.estimate_of c.args.aim) v c.args.start c.in_ok-search.search) same c.in_ok-search.ensures

pub returns-clause-ready : goal.returns-clause-ready
returns-clause-ready g c =
    let grid = c.args.grid.now in
    let h = g.A.Guide.estimate_of c.args.aim in
    let s = c.in_ok-search.search in
    let size : ℕ → ℕ → Size = λ w d. record { width = w; depth = d } in
    let made : Size → Field = λ v. record { size = v; is_open = is_open_at grid } in
    let same : size c.width.result c.depth.result ≡ grid.size = ap₂ size c.width.ensures.width c.depth.ensures.depth in
    let guide = subst (λ (v : Size). IsGuide (made v) c.args.start h) (sym same) c.requires.guide in
    let ready = subst (λ (v : Size). Ready h (made v) s (h c.args.start) 0) same
    (ready_begins h (size c.width.result c.depth.result) (is_open_at grid) c.args.start s guide c.in_ok-search.ensures) in
    subst (λ (n : ℕ). Ready h (field_of_grid grid) s n 0) (sym c.estimate.ensures.is) ready
