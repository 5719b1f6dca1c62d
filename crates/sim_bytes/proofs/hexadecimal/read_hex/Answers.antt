-- The empty text has no bytes.
use Rattle.{hex.specs.Hex.{decode_of, decode_pairs}, std.proofs.{Common.{ap, length, Ok, sym, ◌∙◌}, lemmas.{Bool.eqb-true, List.nil_from_length}}}

pub returns-then-is_empty-clause-value : Rattle.sim_bytes.proofs.hexadecimal.read_hex.Goals.returns-then-is_empty-clause-value
unfolding decode_pairs
returns-then-is_empty-clause-value c =
    let none = nil_from_length c.args.text.now (eqb-true (length c.args.text.now) 0 (sym c.is_empty.ensures ∙ c.if-is_empty.true)) in
    ap decode_of none ∙ ap Ok (sym c.new.ensures.items)
