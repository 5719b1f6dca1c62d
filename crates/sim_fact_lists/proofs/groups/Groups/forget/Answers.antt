-- The group that stands there and has no id is taken out, and no other.
use Rattle.sim_fact_lists.proofs.Common.{ap, eqb-true, false, get_or, Group, KeysAscend, length, List, listed, nil_from_length, queued, subst, sym, true, ℕ, []}
use Rattle.sim_fact_lists.proofs.{Common.{◌==◌, ◌∙◌, ◌≡◌}, Keyed.{forgotten_absent, forgotten_there, not_forgotten, removed_ascend, removed_listed}}
use Rattle.sim_fact_lists.proofs.groups.Groups.forget.Goals as goal

pub invariant_of-self : goal.invariant_of-self
invariant_of-self c =
    let s = c.args.self.now in
    record { ascend = subst KeysAscend (sym c.remove.ensures.items) (removed_ascend s.groups.items c.in-Ok.at s.ascend) }

pub returns-then-is_empty-clause-groups : goal.returns-then-is_empty-clause-groups
returns-then-is_empty-clause-groups c =
    let s = c.args.self.now in
    let none : (length (queued c.index.result.now.ids) == 0) ≡ true = ap (λ (ids : List ℕ). length ids == 0) (sym c.as_slice.ensures) ∙ sym c.is_empty.ensures ∙
    c.if-is_empty.true in
    c.remove.ensures.items ∙ forgotten_there s.groups.items c.args.key c.in-Ok.at c.index.result.now s.ascend c.in-Ok.ensures c.index.ensures none

pub returns-then-is_empty-clause-lists : goal.returns-then-is_empty-clause-lists
returns-then-is_empty-clause-lists c k =
    let s = c.args.self.now in
    let group = c.index.result.now in
    let none : c.as_slice.result.now ≡ [] = nil_from_length c.as_slice.result.now
    (eqb-true (length c.as_slice.result.now) 0 (sym c.is_empty.ensures ∙ c.if-is_empty.true)) in
    let there : queued (get_or s.groups.items c.in-Ok.at group).ids ≡ [] = sym (ap (λ (g : Group). queued g.ids) c.index.ensures) ∙ sym c.as_slice.ensures ∙
    none in
    ap (listed k) c.remove.ensures.items ∙ removed_listed s.groups.items c.args.key c.in-Ok.at group s.ascend c.in-Ok.ensures there k

pub returns-else-is_empty-clause-groups : goal.returns-else-is_empty-clause-groups
returns-else-is_empty-clause-groups c =
    let s = c.args.self.now in
    let some : (length (queued c.index.result.now.ids) == 0) ≡ false = ap (λ (ids : List ℕ). length ids == 0) (sym c.as_slice.ensures) ∙
    sym c.is_empty.ensures ∙ c.if-is_empty.false in
    not_forgotten s.groups.items c.args.key c.in-Ok.at c.index.result.now s.ascend c.in-Ok.ensures c.index.ensures some

pub returns-in_default-clause-groups : goal.returns-in_default-clause-groups
returns-in_default-clause-groups c = forgotten_absent c.args.self.now.groups.items c.args.key c.in_default.field-0 c.in_default.ensures
