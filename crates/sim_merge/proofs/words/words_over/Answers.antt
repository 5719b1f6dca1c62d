use Rattle.sim_merge.proofs.Common.{reverse, fold, option_copied, ap, contains_text, join_with_byte, tokens_in, with_added, with_word, words_over, ◌∙◌}
use Rattle.sim_merge.proofs.SurvivorLemmas.{words_by_changes}

pub returns : Rattle.sim_merge.proofs.words.words_over.Goals.returns
unfolding words_over
returns c =
    let upper = c.in_ok-words_in.field-0 in
    let lower = c.in_ok-words_in-2.field-0 in
    let changes = c.in_ok-changes.changes in
    c.in_ok-joined.ensures ∙ ap (join_with_byte 0x20) (c.as_slice.ensures
    ∙ c.in_ok-found.ensures
    ∙ ap (λ words. fold with_added words (reverse changes.added)) c.leaving_out-found.ensures
    ∙ words_by_changes upper lower changes.added (contains_text changes.removed) c.in_ok-changes.ensures
    ∙ ap (λ words. fold with_word words upper) c.in_ok-words_in-2.ensures
    ∙ ap (fold with_word (tokens_in (option_copied c.args.lower))) c.in_ok-words_in.ensures)
