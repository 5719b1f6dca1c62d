-- The four laws are the lemmas of these names.
use Rattle.sim_bytes.specs.Numbers.{i32_back, u16_back, u32_back, u64_back}

pub returns : Rattle.sim_bytes.proofs.laws.numbers_are_read_back.Goals.returns
returns c = record { u16 = u16_back; u32 = u32_back; u64 = u64_back; i32 = i32_back }
