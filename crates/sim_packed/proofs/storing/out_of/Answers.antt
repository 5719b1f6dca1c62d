-- By how many words there are.
use Rattle.sim_packed.proofs.{Outs.of_four, Outs.of_others, storing.out_of.Goals.in_default-via-else-words-lt3+else-words-lt4+else-words-lt5}
use Rattle.{sim_packed.proofs.storing.out_of.Goals.in_default-via-then-words-lt3, std.proofs.Common.arith, std.proofs.Common.inl, std.proofs.Common.inr}

pub returns-in-len4 : Rattle.sim_packed.proofs.storing.out_of.Goals.returns-in-len4
returns-in-len4 c =
    of_four c.args.words.now c.command-item-then-words-lt5.result c.turn-item.result c.out-item-then-words-lt5.result _
    c.in-len4.len_at_least c.in-len4.len_below c.command-item-then-words-lt5.is c.turn-item.is c.out-item-then-words-lt5.is
    (rw (c.as_str-in-len4.ensures.value, c.as_str-in-len4-2.ensures.value, c.as_str-in-len4-3.ensures.value) at c.out_of_three.ensures)

pub returns-in_default : Rattle.sim_packed.proofs.storing.out_of.Goals.returns-in_default
returns-in_default c =
    of_others c.args.words.now
    (elim c.in_default.branch [
      | in_default-via-then-words-lt3 w ↦ inl (grind arith)
      | in_default-via-else-words-lt3+else-words-lt4+else-words-lt5 w ↦ inr (grind arith)
    ])
