-- One bit is set or cleared, and the others stay.
use Rattle.{sim_grid.proofs.Words.packed_with, std.proofs.Common.{ap, arith, length, nat_eq, sym, w64, ℕ, ◌%◌, ◌/◌, ◌<◌, ◌∙◌}}
use Rattle.std.{proofs.lemmas.{List.get_or_default, Nat.Bits.{bit_at_clear_other, bit_at_clear_same, bit_at_set_other, bit_at_set_same}}, specs.Int.bit_at}

pub returns-then-free : Rattle.sim_grid.proofs.packed.note_word.Goals.returns-then-free
returns-then-free c = λ cells p lt.
    let k = c.args.place % 64 in
    let old = c.index_mut.result.now in
    let within : c.args.place / 64 < length c.args.words.now.items = omega (arith, lt, p.full) in
    packed_with cells c.args.words.now.items c.args.place _ c.args.free within
    (ap (λ (b : ℕ). nat_eq b 1) (bit_at_set_same w64 old k (omega arith)) ∙ sym c.if-free.true)
    (λ i below apart. bit_at_set_other w64 old k (omega arith) i apart ∙
    ap (λ (w : ℕ). bit_at w i) (c.index_mut.ensures.value ∙ get_or_default c.args.words.now.items _ _ 0 within)) p lt

pub returns-else-free : Rattle.sim_grid.proofs.packed.note_word.Goals.returns-else-free
returns-else-free c = λ cells p lt.
    let k = c.args.place % 64 in
    let old = c.index_mut-else-free.result.now in
    let within : c.args.place / 64 < length c.args.words.now.items = omega (arith, lt, p.full) in
    packed_with cells c.args.words.now.items c.args.place _ c.args.free within
    (ap (λ (b : ℕ). nat_eq b 1) (bit_at_clear_same w64 old k (omega arith)) ∙ sym c.if-free.false)
    (λ i below apart. bit_at_clear_other w64 old k (omega arith) i below apart ∙
    ap (λ (w : ℕ). bit_at w i) (c.index_mut-else-free.ensures.value ∙ get_or_default c.args.words.now.items _ _ 0 within)) p lt
