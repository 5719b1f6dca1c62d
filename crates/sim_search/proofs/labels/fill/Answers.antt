use Rattle.sim_search.proofs.Common.{ap, arith, Cell, Contains, count_by, field_of_grid, Flood, inl, inr, is_none, length, length-append, List, nil_from_length}
use Rattle.sim_search.proofs.{Common.{refl, subst, sym, Table, unlabelled, work_left, [], ◌++◌, ◌+◌, ◌∙◌, ◌∷◌, ◌≡◌, ◌⊎◌}, Floods.{popped, popped-label}}
use Rattle.sim_search.proofs.labels.fill.Goals as goal

popped_less : (old new : Flood) (from : Cell) → new.table ≡ old.table → old.waiting.items ≡ new.waiting.items ++ from ∷ [] → work_left new + 1 ≡ work_left old
popped_less old new from t w =
    let same : unlabelled new ≡ unlabelled old = ap (λ (v : Table). count_by is_none v.items.items) t in
    omega (arith, same, ap length w, length-append new.waiting.items (from ∷ []))

waiting_still : {P : Type 0} (old new : List Cell) (e : Cell) → new ≡ old → Contains old e ⊎ P → Contains new e ⊎ P
waiting_still old new e is (inl m) = inl (subst (λ (l : List Cell). Contains l e) (sym is) m)
waiting_still old new e is (inr p) = inr p

pub spread-requires-clause-floods : goal.spread-requires-clause-floods
spread-requires-clause-floods c =
    let new : Flood = record { table = c.loop-from.flood.table; waiting = c.pop.new.self } in
    popped (field_of_grid c.args.grid.now) c.loop-from.flood new c.in-Some.from c.args.label refl c.in-Some.ensures.items c.loop-from.invariant.floods

pub spread-requires-clause-label : goal.spread-requires-clause-label
spread-requires-clause-label c =
    let new : Flood = record { table = c.loop-from.flood.table; waiting = c.pop.new.self } in
    popped-label (field_of_grid c.args.grid.now) c.loop-from.flood new c.in-Some.from c.args.label refl c.in-Some.ensures.items c.loop-from.invariant.floods

pub loop-from-smaller : goal.loop-from-smaller
loop-from-smaller c =
    let new : Flood = record { table = c.loop-from.flood.table; waiting = c.pop.new.self } in
    omega (arith, c.in_ok-spread.ensures.spreads.less, popped_less c.loop-from.flood new c.in-Some.from refl c.in-Some.ensures.items)

pub loop-from-preserved : goal.loop-from-preserved
loop-from-preserved c =
    let new : Flood = record { table = c.loop-from.flood.table; waiting = c.pop.new.self } in
    let before = c.loop-from.invariant.spreads in
    let more = c.in_ok-spread.ensures.spreads in
    record {
      floods = c.in_ok-spread.ensures.floods;
      spreads = record {
        keeps = λ v l e. more.keeps v l (before.keeps v l e);
        less = omega (arith, before.less, more.less, popped_less c.loop-from.flood new c.in-Some.from refl c.in-Some.ensures.items);
      };
    }

pub loop-from-init : goal.loop-from-init
loop-from-init c = record { floods = c.requires; spreads = record { keeps = λ v l e. e; less = omega arith } }

pub returns : goal.returns
returns c =
    let v = c.loop-from.invariant in
    let old = c.loop-from.flood.waiting in
    let new = c.pop.new.self in
    let none : new.items ≡ [] = nil_from_length new.items (omega (arith, c.in_default.ensures.cases.1, new.ok.0)) in
    let still : new.items ≡ old.items = none ∙ sym (nil_from_length old.items (omega (arith, c.in_default.ensures.cases.0, old.ok.0))) in
    record {
      floods = record {
        size_is = v.floods.size_is;
        sound = v.floods.sound;
        stacked = λ e m. v.floods.stacked e (subst (λ (l : List Cell). Contains l e) still m);
        closed = λ e l is. waiting_still old.items new.items e still (v.floods.closed e l is);
      };
      fills = record { keeps = v.spreads.keeps; none_wait = none };
    }
