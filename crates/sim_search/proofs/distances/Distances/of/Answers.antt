-- The numbers are made one after another of the costs at the same places.
use Rattle.sim_search.proofs.Common.{ap, ap₂, arith, Costs, entry_at, known, length, length-map, List, map, None, read_entry, refl, size_of, sym, take}
use Rattle.{sim_search.{proofs.{Common.{take_all, ℕ, [], ◌++◌, ◌∙◌, ◌∷◌, ◌≡◌, ◌≤◌}, Rows.entry_at-map}, specs.Rows.number_of}, std.proofs.lemmas.List.map_more}
use Rattle.sim_search.proofs.distances.Distances.of.Goals as goal

pub loop-place-preserved : goal.loop-place-preserved
loop-place-preserved c =
    let costs = c.args.costs.now in
    c.in_ok-push.ensures.items ∙
    ap₂ (λ (xs : List ℕ) (x : ℕ). xs ++ x ∷ []) c.loop-place.invariant (c.number.ensures ∙ ap number_of c.at_place.ensures) ∙
    sym (map_more number_of (known costs) c.loop-place.place None
    (omega (arith, length-map costs.items.items (read_entry costs.stamp), costs.items.ok.0, c.loop-place-test.true, c.len-place-end.ensures)))

whole : (costs : Costs) (items : List ℕ) (place : ℕ) → items ≡ map number_of (take place (known costs)) → costs.items.len ≤ place
    → items ≡ map number_of (known costs)
whole costs items place e le =
    e ∙ ap (map number_of) (take_all place (known costs) (omega (arith, length-map costs.items.items (read_entry costs.stamp), costs.items.ok.0, le)))

pub invariant_of-result : goal.invariant_of-result
invariant_of-result c =
    let costs = c.args.costs.now in
    let numbers = whole costs c.loop-place.items.items c.loop-place.place c.loop-place.invariant
    (omega (arith, c.loop-place-test.false, c.len-place-end.ensures)) in
    record {
      narrow = costs.narrow;
      shallow = costs.shallow;
      full = omega (
        arith,
        c.loop-place.items.ok.0,
        ap length numbers,
        length-map (known costs) number_of,
        length-map costs.items.items (read_entry costs.stamp),
        costs.items.ok.0,
        costs.full,
      );
    }

pub returns-clause-numbers : goal.returns-clause-numbers
returns-clause-numbers c = λ v.
    let costs = c.args.costs.now in
    let numbers = whole costs c.loop-place.items.items c.loop-place.place c.loop-place.invariant
    (omega (arith, c.loop-place-test.false, c.len-place-end.ensures)) in
    ap (λ (xs : List ℕ). entry_at 0 (size_of costs) xs v) numbers ∙ entry_at-map number_of None 0 refl (size_of costs) (known costs) v
