-- A search by halves finds the id, or where it belongs.
use Rattle.sim_range.proofs.{Common.{ap, Bool, sym, turned, ◌∙◌}, Turning.{comes_again, comes_new, goes, goes_not, is_new, ok_ids}}
use Rattle.sim_range.proofs.sight.Sight.turn.Goals as goal

pub returns-in-Ok-true : goal.returns-in-Ok-true
returns-in-Ok-true c =
    let xs = c.args.self.now.ids.items in
    comes_again _ xs c.args.id c.in-Ok-true.field-0-0 c.as_slice.ensures.value c.requires.ascending c.in-Ok-true.ensures.position ∙
    ap (λ (b : Bool). turned b c.args.id xs) (sym c.in-Ok-true.is-1)

pub returns-in-Ok-false : goal.returns-in-Ok-false
returns-in-Ok-false c =
    let xs = c.args.self.now.ids.items in
    c.remove.ensures.items ∙ goes _ xs c.args.id c.in-Ok-false.at c.as_slice.ensures.value c.requires.ascending c.in-Ok-false.ensures.position ∙
    ap (λ (b : Bool). turned b c.args.id xs) (sym c.in-Ok-false.is-1)

pub returns-in-Err-true : goal.returns-in-Err-true
returns-in-Err-true c =
    let xs = c.args.self.now.ids.items in
    let room = c.requires.room c.in-Err-true.is-1 (is_new _ xs c.args.id c.in-Err-true.at c.as_slice.ensures.value c.requires.ascending
    c.in-Err-true.ensures.position) in
    ok_ids _ xs _ _ (c.insert.ensures.succeeds room) c.insert.ensures.items ∙ comes_new _ xs c.args.id c.in-Err-true.at c.as_slice.ensures.value
    c.requires.ascending c.in-Err-true.ensures.position
    ∙ ap (λ (b : Bool). turned b c.args.id xs) (sym c.in-Err-true.is-1)

pub returns-in-Err-false : goal.returns-in-Err-false
returns-in-Err-false c =
    let xs = c.args.self.now.ids.items in
    goes_not _ xs c.args.id c.in-Err-false.field-0-0 c.as_slice.ensures.value c.requires.ascending c.in-Err-false.ensures.position ∙
    ap (λ (b : Bool). turned b c.args.id xs) (sym c.in-Err-false.is-1)
