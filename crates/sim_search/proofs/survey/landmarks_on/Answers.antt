-- Rows that tell nothing are landmarks, and stay so as each is set by the costs from an open cell.
use Rattle.sim_search.proofs.{Common.{Cell, cost_in, field_of_grid, ◌∙◌}, Guiding.{alike-landmarks, same-landmarks, set-landmarks}}
use Rattle.sim_search.specs.Rows.{alike, row_in, row_with}

pub loop-which-init : Rattle.sim_search.proofs.survey.landmarks_on.Goals.loop-which-init
loop-which-init c =
    let field = field_of_grid c.args.grid.now in
    let cost = cost_in c.in_ok-costs.costs in
    record {
      size = c.in_ok-landmarks.ensures.size ∙ c.in_ok-costs.ensures.size;
      rows = same-landmarks field (λ (v : Cell). alike (cost v)) (row_in c.in_ok-landmarks.landmarks) c.in_ok-landmarks.ensures.rows
          (alike-landmarks field c.args.from cost c.in_ok-costs.ensures.costs c.requires.on c.requires.is_open);
    }

pub loop-which-preserved : Rattle.sim_search.proofs.survey.landmarks_on.Goals.loop-which-preserved
loop-which-preserved c =
    let field = field_of_grid c.args.grid.now in
    let which = c.loop-which.which in
    let cell = c.in-Some.cell in
    let cost = cost_in c.in_ok-costs-2.costs in
    let row = row_in c.loop-which.landmarks in
    record {
      size = c.set.ensures.size ∙ c.loop-which.invariant.size;
      rows = same-landmarks field (λ (v : Cell). row_with which (row v) (cost v)) (row_in c.set.new.self) c.set.ensures.rows
          (set-landmarks field cell cost c.in_ok-costs-2.ensures.costs c.in-Some.ensures.0 c.in-Some.ensures.1 row which c.loop-which-test.true
          c.loop-which.invariant.rows);
    }
