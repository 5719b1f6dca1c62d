-- The digits that are left go on from the number so far, which is below the power of ten of those that were read.
use Rattle.sim_top.{proofs.Common.◌≡◌, proofs.Common.◌^◌, proofs.Common.◌<◌, proofs.Common.drop, specs.Words.digits_from}

abbrev pub invariant-loop-digit : Rattle.sim_top.proofs.words.number_of.Given.invariant-loop-digit
invariant-loop-digit l = record {
  same : digits_from l.number (drop l.digit-index l.digits) ≡ digits_from 0 l.digits;
  room : l.number < 10 ^ l.digit-index;
}
