-- One row more is set.
use Rattle.sim_search.proofs.Common.{◌≡◌, ◌*◌, ◌<◌, ◌≤◌, length, None, refl, ap, ap₂, arith, entry_at, get_or_default, known, Size, ◌∙◌}
use Rattle.sim_search.{proofs.Rows.entry_at-with, proofs.Rows.set-begins, proofs.Rows.set-more, specs.Rows.row_in, specs.Rows.row_with, specs.Rows.size_by}
use Rattle.sim_search.proofs.landmarks.Landmarks.set.Goals as goal

pub loop-place-init : goal.loop-place-init
loop-place-init c = record { size = refl; rows = set-begins c.args.which c.args.self.now.items.items (known c.args.costs.now) }

pub loop-place-preserved : goal.loop-place-preserved
loop-place-preserved c =
    let old = c.args.self.now in
    let self = c.loop-place.self in
    let at = c.loop-place.place in
    let v = c.loop-place.invariant in
    let xs = self.items.items in
    let as_many : self.width * self.depth ≡ old.width * old.depth = ap (λ (s : Size). s.width * s.depth) v.size in
    let lt : at < length xs = omega (arith, self.full, self.items.ok.0, as_many, old.full, c.loop-place-test.true, c.len-place-end.ensures) in
    let row = c.index.ensures ∙ get_or_default xs at c.index.result.now None lt ∙ v.rows.rest at (omega arith) in
    record {
      size = v.size;
      rows = set-more c.args.which old.items.items xs (known c.args.costs.now) at c.row_with.result lt
          (c.row_with.ensures ∙ ap₂ (row_with c.args.which) row c.at_place.ensures) v.rows;
    }

pub returns-clause-size : goal.returns-clause-size
returns-clause-size c = c.loop-place.invariant.size

pub returns-clause-rows : goal.returns-clause-rows
returns-clause-rows c = λ v.
    let old = c.args.self.now in
    let self = c.loop-place.self in
    let costs = c.args.costs.now in
    let all : old.width * old.depth ≤ c.loop-place.place = omega (arith, old.full, c.loop-place-test.false, c.len-place-end.ensures) in
    ap (λ (s : Size). entry_at None s self.items.items v) c.loop-place.invariant.size ∙
    entry_at-with c.args.which (size_by old) old.items.items self.items.items (known costs) c.loop-place.place all c.loop-place.invariant.rows.done v ∙
    ap (λ (s : Size). row_with c.args.which (row_in old v) (entry_at None s (known costs) v)) c.requires.size
