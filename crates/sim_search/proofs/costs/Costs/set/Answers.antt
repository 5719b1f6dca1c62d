use Rattle.sim_search.proofs.Common.{ap, arith, Cell, cond-true, Entry, entry_at, eq-eqb, eqb, known, length, length-map, List, map, map-set, None, Option}
use Rattle.sim_search.proofs.{Common.{read_entry, refl, set, size_of, Some, ℕ, ◌*◌, ◌∙◌, ◌≡◌}, Rows.{entry_at-set_other, entry_at-set_same}}

pub returns : Rattle.sim_search.proofs.costs.Costs.set.Goals.returns
returns c =
    let old = c.args.self.now in
    let full : length (known old) ≡ old.width * old.depth = omega (arith, length-map old.items.items (read_entry old.stamp), old.full, old.items.ok.0) in
    let place = c.args.spot.place in
    let p = c.requires.place_is in
    let made : Entry = record { stamp = old.stamp; cost = c.args.cost } in
    let reads : read_entry old.stamp made ≡ Some c.args.cost = cond-true (eqb old.stamp old.stamp) (Some c.args.cost) None (eq-eqb old.stamp old.stamp refl) in
    let new_known : map (read_entry old.stamp) (set old.items.items place made) ≡ set (known old) place (Some c.args.cost) =
    map-set (read_entry old.stamp) old.items.items place made ∙ ap (λ (o : Option ℕ). set (known old) place o) reads in
    let at : (v : Cell) → entry_at None (size_of old) (map (read_entry old.stamp) (set old.items.items place made)) v ≡ entry_at None (size_of old)
    (set (known old) place (Some c.args.cost)) v =
    λ v. ap (λ (xs : List (Option ℕ)). entry_at None (size_of old) xs v) new_known in
    record {
      size = refl;
      stamp = refl;
      here = at c.args.spot.cell ∙ (rw p (entry_at-set_same None (size_of old) (known old) c.args.spot.cell (Some c.args.cost) c.requires.on full));
      elsewhere = λ e ne. at e ∙ (rw p (entry_at-set_other None (size_of old) (known old) c.args.spot.cell e (Some c.args.cost) c.requires.on ne));
    }
