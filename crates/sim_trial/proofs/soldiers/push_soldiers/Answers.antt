-- One soldier more takes two steps more.
use Rattle.sim_trial.proofs.Common.{ap, arith, false, nat_lt, next_word, refl, soldier_text, string_bytes, suc, word_after, ℕ, ◌*◌, ◌++◌, ◌+◌, ◌∙◌, ◌≡◌}
use Rattle.sim_trial.proofs.OwnedSoldiers.{pieces_more}

pub loop-place-preserved : Rattle.sim_trial.proofs.soldiers.push_soldiers.Goals.loop-place-preserved
loop-place-preserved c =
    let so_far = c.loop-place.invariant in
    let place = c.loop-place.place in
    let piece = λ (k : ℕ). soldier_text k (word_after c.args.seed (2 * k)) in
    let steps : suc (suc (2 * place)) ≡ 2 * (place + 1) = omega arith in
    let added : string_bytes c.push_soldier.new.text ≡ string_bytes c.push_comma.new.text ++ piece place =
    c.in_ok-word.ensures.text ∙ ap (λ (word : ℕ). string_bytes c.push_comma.new.text ++ soldier_text place word) so_far.word_is in
    record {
      written = pieces_more false piece 0 place place (omega arith) _ _ _ _ (nat_lt 0 place) so_far.written refl c.in_ok-push_comma.ensures added;
      word_is = c.in_ok-word.ensures.word ∙ ap (λ (word : ℕ). next_word (next_word word)) so_far.word_is ∙ ap (word_after c.args.seed) steps;
      word_fits = omega (arith, c.in_ok-word.ensures.word);
    }
