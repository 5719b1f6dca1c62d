-- The row that is taken stands in front of those that can still be taken.
use Rattle.sim_codec.proofs.{Common.{arith, suc, sym, ◌-◌, ◌∙◌, ◌≡◌}, TakenRows.{can_next, must_go_on, next_row, no_row_left}}
use Rattle.sim_codec.proofs.stored.StoredRows.next.Goals as goal

pub returns-then-self-eq0 : goal.returns-then-self-eq0
returns-then-self-eq0 c = sym c.self.view_is ∙ no_row_left c.self.inside.templates.now c.self.inside.count c.self.inside.walk c.if-self-eq0.true

pub invariant_of-self : goal.invariant_of-self
invariant_of-self c =
    let n : c.self.inside.count ≡ suc (c.self.inside.count - 1) = omega (arith, c.if-self-eq0.false) in
    absurd (must_go_on c.self.inside.templates.now c.self.inside.count (c.self.inside.count - 1) c.self.inside.walk n c.in-Err.ensures c.self.invariant)

pub invariant_of-self-in-Ok : goal.invariant_of-self-in-Ok
invariant_of-self-in-Ok c =
    let n : c.self.inside.count ≡ suc (c.self.inside.count - 1) = omega (arith, c.if-self-eq0.false) in
    can_next c.self.inside.templates.now c.self.inside.count (c.self.inside.count - 1) c.self.inside.walk c.in-Ok.parts c.take_parts.new.walk n c.in-Ok.ensures
    c.self.invariant

pub returns-in-Err : goal.returns-in-Err
returns-in-Err c =
    let n : c.self.inside.count ≡ suc (c.self.inside.count - 1) = omega (arith, c.if-self-eq0.false) in
    absurd (must_go_on c.self.inside.templates.now c.self.inside.count (c.self.inside.count - 1) c.self.inside.walk n c.in-Err.ensures c.self.invariant)

pub returns-in-Ok : goal.returns-in-Ok
returns-in-Ok c =
    let n : c.self.inside.count ≡ suc (c.self.inside.count - 1) = omega (arith, c.if-self-eq0.false) in
    sym c.self.view_is ∙ next_row c.self.inside.templates.now c.self.inside.count (c.self.inside.count - 1) c.self.inside.walk c.in-Ok.parts
    c.take_parts.new.walk n c.in-Ok.ensures c.self.invariant
