use Rattle.sim_merge.proofs.{Common.◌||◌, Common.string_bytes, Common.bytes_eq, Common.ap, Common.contains_text, Common.◌∙◌, SetLemmas.contains_after}

pub returns : Rattle.sim_merge.proofs.words.add_word.Goals.returns
returns c = λ other.
    contains_after (string_bytes c.in_ok-from_str.field-0) c.args.set.now c.insert.new.self c.in_ok-insert.ensures.updates other
    ∙ ap (λ bytes. bytes_eq other bytes || contains_text c.args.set.now other) c.in_ok-from_str.ensures.ok
