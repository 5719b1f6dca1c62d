-- 32 digits are 16 bytes.
use Rattle.{sim_lists.proofs.HexLengths.hex_length, std.proofs.Common.{ap, arith, length, sym, ◌∙◌}}

pub copy_from_slice-requires : Rattle.sim_lists.proofs.hexadecimal.digest_of.Goals.copy_from_slice-requires
copy_from_slice-requires c =
    let twice = hex_length c.args.text.now c.in-Some.bytes (sym c.in_ok-bytes.ensures.value ∙ c.in-Some.is) in
    omega (arith, twice, c.if-text-ne32.false, ap length c.as_slice.ensures)
