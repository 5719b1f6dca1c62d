use Rattle.sim_path.proofs.slope.slope_step.Goals as goal
use Rattle.sim_path.proofs.Common.{ap, ap₂, arith, Cell, false, field_of_grid, IsTightStep, marked_in, octile, Option, same_Some, Some, SomeIff, subst, sym}
use Rattle.sim_path.proofs.Common.{true, true≢false, ℕ, ⊎_elim, ◌+◌, ◌-◌, ◌∙◌, ◌≡◌, ◌≤◌}
use Rattle.{sim_path.proofs.FloorLaws.octile-far, sim_path.specs.Questions.slope_of, std.proofs.lemmas.Bool.cases_Bool}

-- what is left of a cost for the step is the floor
exact : (cost step to floor n all : ℕ) → SomeIff (Some cost) (step ≤ to) (to - step) → step ≡ n → to ≡ all → floor + n ≡ all → floor ≡ cost
exact cost step to floor n all (le, is) e f g = omega arith

sum_of : (cost step to floor n all : ℕ) → SomeIff (Some cost) (step ≤ to) (to - step) → step ≡ n → to ≡ all → floor ≡ cost → floor + n ≡ all
sum_of cost step to floor n all (le, is) e f g = omega arith

pub returns-then-falls_short-clause-none : goal.returns-then-falls_short-clause-none
returns-then-falls_short-clause-none c =
    let slope = c.args.slope.now in
    λ e p t own.
    let same = same_Some c.in_ok-from.from.cell p (sym (c.step_beside.ensures.some c.in_ok-from.from c.in_ok-from.was) ∙ t.leads) in
    let sum : slope_of slope c.in_ok-from.from.cell + c.step_cost-step.result ≡ c.args.at.cost =
    ap₂ (λ (v : Cell) (n : ℕ). slope_of slope v + n) same c.step_cost-step.ensures ∙ t.sum ∙ sym c.requires.stands.cost_is in
    absurd (c.falls_short.ensures c.if-falls_short.true sum)

pub returns-then-makes_up-clause-some : goal.returns-then-makes_up-clause-some
returns-then-makes_up-clause-some c =
    let question = c.args.question.now in
    let slope = c.args.slope.now in
    let field = field_of_grid question.grid.now in
    let from = c.in_ok-from.from in
    let left = subst (λ (o : Option ℕ). SomeIff o (c.step_cost-step.result ≤ c.args.at.cost) (c.args.at.cost - c.step_cost-step.result)) c.in_ok-cost.was
    c.checked_sub.ensures in
    let made = c.makes_up.ensures.0 c.if-makes_up.true in
    let here : IsTightStep field question.start (slope_of slope) c.args.at.spot.cell from.cell c.args.which = record {
      leads = c.step_beside.ensures.some from c.in_ok-from.was;
      sum = sum_of c.in_ok-cost.cost c.step_cost-step.result c.args.at.cost _ _ _ left c.step_cost-step.ensures c.requires.stands.cost_is made.0;
    } in
    λ p is. subst (λ (v : Cell). IsTightStep field question.start (slope_of slope) c.args.at.spot.cell v c.args.which) (same_Some from.cell p is) here

pub returns-else-makes_up-clause-none : goal.returns-else-makes_up-clause-none
returns-else-makes_up-clause-none c =
    let question = c.args.question.now in
    let slope = c.args.slope.now in
    let dead = c.args.dead.now in
    let left = subst (λ (o : Option ℕ). SomeIff o (c.step_cost-step.result ≤ c.args.at.cost) (c.args.at.cost - c.step_cost-step.result)) c.in_ok-cost.was
    c.checked_sub.ensures in
    λ e p t own.
    let same = same_Some c.in_ok-from.from.cell p (sym (c.step_beside.ensures.some c.in_ok-from.from c.in_ok-from.was) ∙ t.leads) in
    let own_cost = exact c.in_ok-cost.cost c.step_cost-step.result c.args.at.cost (slope_of slope p) _ _ left c.step_cost-step.ensures
    c.requires.stands.cost_is t.sum in
    let near : octile p question.start ≤ c.in_ok-cost.cost =
    subst (λ (n : ℕ). octile p question.start ≤ n) own_cost (octile-far (field_of_grid question.grid.now) question.start own.walk) in
    let there = ap (slope_of slope) same ∙ own_cost in
    let still = subst (λ (v : Cell). octile v question.start ≤ c.in_ok-cost.cost) (sym same) near in
    ⊎_elim
    (λ (m : marked_in dead p ≡ true). m)
    (λ (m : marked_in dead p ≡ false). absurd (true≢false (sym (c.makes_up.ensures.1 (there, ap (marked_in dead) same ∙ m, still)) ∙ c.if-makes_up.false)))
    (cases_Bool (marked_in dead p))
