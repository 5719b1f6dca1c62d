use Rattle.sim_search.proofs.Common.{ap, arith, Bool, Cell, cond, entry_at, eq-eqb, eqb, false, get_or, length, length-map, List, map, map-set, not, refl, set}
use Rattle.sim_search.proofs.Common.{size_of, sum_by, sum_by-set, sym, takens, true, ℕ, ◌*◌, ◌<◌, ◌∙◌, ◌≡◌}
use Rattle.sim_search.proofs.Rows.{entry_at-on, entry_at-set_other, entry_at-set_same}

pub returns : Rattle.sim_search.proofs.queue.take.Goals.returns
returns c =
    let old = c.args.search.now in
    let is_now : ℕ → Bool = λ t. eqb t old.costs.stamp in
    let full : length (takens old) ≡ old.costs.width * old.costs.depth = omega (arith, length-map old.taken.items is_now, old.all_cells, old.taken.ok.0) in
    let p = c.place-place.ensures.place in
    let place = c.place-place.result in
    let at : place < length (takens old) = omega (arith, full, c.place-place.ensures.below) in
    let count : Bool → ℕ = λ b. cond (not b) 1 0 in
    let made : map is_now (set old.taken.items place old.costs.stamp) ≡ set (takens old) place true =
    map-set is_now old.taken.items place old.costs.stamp ∙ ap (λ (b : Bool). set (takens old) place b) (eq-eqb old.costs.stamp old.costs.stamp refl) in
    let same : (v : Cell) → entry_at false (size_of old.costs) (map is_now (set old.taken.items place old.costs.stamp)) v ≡ entry_at false (size_of old.costs)
    (set (takens old) place true) v =
    λ v. ap (λ (xs : List Bool). entry_at false (size_of old.costs) xs v) made in
    record {
      start_is = refl;
      costs_are = refl;
      buckets_are = refl;
      here = same c.args.cell ∙ (rw p (entry_at-set_same false (size_of old.costs) (takens old) c.args.cell true c.requires full));
      elsewhere = λ e ne. same e ∙ (rw p (entry_at-set_other false (size_of old.costs) (takens old) c.args.cell e true c.requires ne));
      fewer = λ e.
          let own : get_or (takens old) place false ≡ false = rw p (sym (entry_at-on false (size_of old.costs) (takens old) c.args.cell c.requires) ∙ e) in
          let one : count (get_or (takens old) place false) ≡ 1 = ap count own in
          omega (arith, sum_by-set count (takens old) place true false at, one, ap (sum_by count) made);
    }
