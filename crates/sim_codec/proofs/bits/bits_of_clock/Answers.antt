-- The clock has room in the buffer.
use Rattle.sim_codec.proofs.{Common.Some, Common.[], Common.ap, Common.arith, Fits.length-clock_bytes}

pub returns : Rattle.sim_codec.proofs.bits.bits_of_clock.Goals.returns
returns c = ap Some (c.in-Ok.ensures [] [] (λ _. c.new-buffer.ensures) (omega (arith, length-clock_bytes c.args.state.now)))
