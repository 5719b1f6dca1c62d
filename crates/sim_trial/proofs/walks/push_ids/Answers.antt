-- One id more, and in the end all of them.
use Rattle.sim_trial.proofs.Common.{ap, arith, decimal, false, id_at, joined_after, List, map, nat_lt, nat_tests, range_with_len, string_bytes, sym, ℕ, ◌++◌}
use Rattle.sim_trial.proofs.{Common.◌+◌, Common.◌-◌, Common.◌∙◌, Common.◌≡◌, OwnedSoldiers.id_texts-is, OwnedSoldiers.pieces_more}

-- one number is below another where there is a gap between them
gap : (a b : ℕ) → nat_lt a b ≡ nat_lt 0 (b - a)
gap a b = grind (arith, nat_tests)

pub loop-place-preserved : Rattle.sim_trial.proofs.walks.push_ids.Goals.loop-place-preserved
loop-place-preserved c =
    let from = c.args.from in
    let place = c.loop-place.place in
    let piece = λ (k : ℕ). decimal (id_at c.args.player k) in
    let count : place - from + 1 ≡ place + 1 - from = omega arith in
    let added : string_bytes c.write.new.self ≡ string_bytes c.push_comma.new.text ++ piece place =
    c.in_ok-write.ensures.bytes ∙ ap (λ (id : ℕ). string_bytes c.push_comma.new.text ++ decimal id) c.id_of.ensures in
    pieces_more false piece from (place - from) place (omega arith) _ _ _ _ (nat_lt from place) c.loop-place.invariant (gap from place)
    c.in_ok-push_comma.ensures added
    ∙ ap (λ (n : ℕ). string_bytes c.args.text.now ++ joined_after false (map piece (range_with_len from n))) count

pub returns : Rattle.sim_trial.proofs.walks.push_ids.Goals.returns
returns c =
    let from = c.args.from in
    let piece = λ (k : ℕ). decimal (id_at c.args.player k) in
    let count : c.loop-place.place - from ≡ c.args.to - from = omega arith in
    c.loop-place.invariant
    ∙ ap (λ (n : ℕ). string_bytes c.args.text.now ++ joined_after false (map piece (range_with_len from n))) count
    ∙ ap (λ (ids : List (List ℕ)). string_bytes c.args.text.now ++ joined_after false ids) (sym (id_texts-is c.args.player from c.args.to))
