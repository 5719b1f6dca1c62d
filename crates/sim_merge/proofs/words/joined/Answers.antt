use Rattle.sim_merge.proofs.{Common.{ap, if◌then◌else◌, string_bytes, sym, ◌++◌, ◌==◌, ◌∙◌, ◌∷◌}, WordLemmas.joined-next}

pub loop-place-preserved : Rattle.sim_merge.proofs.words.joined.Goals.loop-place-preserved
loop-place-preserved c =
    let place = c.loop-place.place in
    let word = c.index-words-place.result in
    c.in_ok-push_word.ensures
    ∙ ap (λ w. string_bytes c.loop-place.text ++ (if place == 0 then w else 0x20 ∷ w)) c.as_str.ensures
    ∙ ap (λ text. text ++ (if place == 0 then word else 0x20 ∷ word)) c.loop-place.invariant
    ∙ sym (joined-next c.args.words.now place word c.loop-place-test.true c.index-words-place.is)
