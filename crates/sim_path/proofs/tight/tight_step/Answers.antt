use Rattle.sim_path.proofs.Common.{none-some, same_Some, subst, sym, true≢false, ◌∙◌}
use Rattle.sim_path.proofs.Common.{◌≡◌, ℕ, ◌+◌, ◌-◌, ◌≤◌, SomeIff, Some, None, Option, ap, arith, Cell, field_of_grid, IsTightStep, marked_in}
use Rattle.sim_path.proofs.tight.tight_step.Goals.{else-is_floor-via-else-is_floor, else-is_floor-via-then-is_floor+else-not-at}
use Rattle.sim_path.proofs.tight.tight_step.Goals as goal

too_little : (step to floor n all : ℕ) → SomeIff None (step ≤ to) (to - step) → step ≡ n → to ≡ all → floor + n ≡ all → ⊥
too_little step to floor n all low e f g = low (omega arith)

rest : (cost step to floor n all : ℕ) → SomeIff (Some cost) (step ≤ to) (to - step) → step ≡ n → to ≡ all → floor ≡ cost → floor + n ≡ all
rest cost step to floor n all (le, is) e f g = omega arith

floor_by : (cost step to floor n all : ℕ) → SomeIff (Some cost) (step ≤ to) (to - step) → step ≡ n → to ≡ all → floor + n ≡ all → floor ≡ cost
floor_by cost step to floor n all (le, is) e f g = omega arith

pub returns-in_err-from-clause-none : goal.returns-in_err-from-clause-none
returns-in_err-from-clause-none g c = λ e p t. absurd (none-some p (sym c.in_err-from.was ∙ c.step.ensures ∙ t.leads))

pub returns-in_err-from-clause-some : goal.returns-in_err-from-clause-some
returns-in_err-from-clause-some g c = λ p e. absurd (none-some p (sym c.from_residual.ensures ∙ e))

pub returns-in_err-cost-clause-none : goal.returns-in_err-cost-clause-none
returns-in_err-cost-clause-none g c =
    let low = subst (λ (o : Option ℕ). SomeIff o (c.step_cost.result ≤ c.args.back.now.at.cost) (c.args.back.now.at.cost - c.step_cost.result))
    c.in_err-cost.was
    c.checked_sub.ensures in
    λ e p t. absurd (too_little c.step_cost.result c.args.back.now.at.cost _ _ _ low c.step_cost.ensures c.requires t.sum)

pub returns-in_err-cost-clause-some : goal.returns-in_err-cost-clause-some
returns-in_err-cost-clause-some g c = λ p e. absurd (none-some p (sym c.from_residual-in_err-cost.ensures ∙ e))

pub returns-then-not-at-clause-none : goal.returns-then-not-at-clause-none
returns-then-not-at-clause-none g c = λ e p t. absurd (none-some _ (sym e))

pub returns-then-not-at-clause-some : goal.returns-then-not-at-clause-some
returns-then-not-at-clause-some g c =
    let question = c.args.back.now.question.now in
    let left = subst (λ (o : Option ℕ). SomeIff o (c.step_cost.result ≤ c.args.back.now.at.cost) (c.args.back.now.at.cost - c.step_cost.result))
    c.in_ok-cost.was
    c.checked_sub.ensures in
    λ p e. subst (λ (v : Cell). IsTightStep (field_of_grid question.grid.now) question.start (g.F.Floor.floor_of c.args.floor question.start)
    c.args.back.now.at.cell v c.args.back.now.which)
    (same_Some _ p e) (record {
      leads = sym c.step.ensures ∙ c.in_ok-from.was;
      sum = rest c.in_ok-cost.cost c.step_cost.result c.args.back.now.at.cost _ _ _ left c.step_cost.ensures c.requires (c.is_floor.ensures.0
          c.if-is_floor.true);
    })

pub returns-else-is_floor-clause-none : goal.returns-else-is_floor-clause-none
returns-else-is_floor-clause-none g c =
    let question = c.args.back.now.question.now in
    let left = subst (λ (o : Option ℕ). SomeIff o (c.step_cost.result ≤ c.args.back.now.at.cost) (c.args.back.now.at.cost - c.step_cost.result))
    c.in_ok-cost.was
    c.checked_sub.ensures in
    λ e p t.
    let same = same_Some c.in_ok-from.from p (sym c.in_ok-from.was ∙ c.step.ensures ∙ t.leads) in
    let floor = floor_by c.in_ok-cost.cost c.step_cost.result c.args.back.now.at.cost _ _ _ left c.step_cost.ensures c.requires t.sum in
    elim c.else-is_floor.branch [
      | else-is_floor-via-then-is_floor+else-not-at w ↦ ap (marked_in c.args.dead.now) (sym same) ∙ sym w.at.ensures ∙ w.if-not-at.false
      | else-is_floor-via-else-is_floor w ↦ absurd (true≢false (sym (c.is_floor.ensures.1 (ap (g.F.Floor.floor_of c.args.floor question.start) same ∙ floor)) ∙
          w.if-is_floor.false))
    ]

pub returns-else-is_floor-clause-some : goal.returns-else-is_floor-clause-some
returns-else-is_floor-clause-some g c = λ p e. absurd (none-some p e)
