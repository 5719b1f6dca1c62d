-- The state was looked at, so what is counted is visible in it.
use Rattle.sim_vision.proofs.Common.{◌≡◌, ℕ, true, false, List, Some, zip, all_counts, ap, is_missed, list_any, refusal_of, rules, sym, Vision, ◌∙◌}
use Rattle.sim_vision.proofs.Joining.{by_cells}

pub returns-in_err-take_over-clause-refused : Rattle.sim_vision.proofs.sight.Sight.join.Goals.returns-in_err-take_over-clause-refused
returns-in_err-take_over-clause-refused c =
    let setup = c.args.setup.now in
    let rows = c.args.state.now.rows in
    let bytes = c.args.explored.now in
    let counts : c.follow.new.self.counts ≡ all_counts setup rows = ap (λ (v : Vision). v.counts) c.in_ok-follow.ensures.next
    ∙ ap (λ (v : Vision). all_counts v.setup rows) c.in_ok-sight.ensures in
    let missed = ap (λ (ns : List ℕ). list_any is_missed (zip ns bytes)) (sym counts) ∙ c.in_err-take_over.ensures.refused.1 in
    let known : refusal_of setup rows bytes ≡ Some c.in_err-take_over.field-0.0 =
    by_cells setup rows bytes c.in_ok-check_bytes.ensures.full c.in_ok-check_bytes.ensures.bits true missed
    ∙ ap Some (sym c.in_err-take_over.ensures.refused.0) in
    search rules

pub returns-clause-accepted : Rattle.sim_vision.proofs.sight.Sight.join.Goals.returns-clause-accepted
returns-clause-accepted c =
    let setup = c.args.setup.now in
    let rows = c.args.state.now.rows in
    let bytes = c.args.explored.now in
    let counts : c.follow.new.self.counts ≡ all_counts setup rows = ap (λ (v : Vision). v.counts) c.in_ok-follow.ensures.next
    ∙ ap (λ (v : Vision). all_counts v.setup rows) c.in_ok-sight.ensures in
    by_cells setup rows bytes c.in_ok-check_bytes.ensures.full c.in_ok-check_bytes.ensures.bits false
    (ap (λ (ns : List ℕ). list_any is_missed (zip ns bytes)) (sym counts) ∙ c.in_ok-take_over.ensures.covered)
