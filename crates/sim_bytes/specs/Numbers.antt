-- A number's bytes are read as that number, whatever follows.
use Rattle.{sim_base.specs.Spelling.{i32_bytes, u16_bytes, u32_bytes, u64_bytes}, sim_bytes.specs.Reading.{number_at, signed_at}}
use Rattle.std.proofs.{Common.{arith, false, length, List, ltb, refl, Some, ℕ, ℤ, ◌++◌, ◌<◌, ◌^◌, ◌≡◌}, lemmas.{Bool.le-ltb, Int.to_z-of_z, List.drop_at}}
use Rattle.std.proofs.lemmas.{List.{length-append, take_at}, Nat.{from_le_bytes-to_le_bytes_2, from_le_bytes-to_le_bytes_4, from_le_bytes-to_le_bytes_8}}
use Rattle.std.{proofs.Math.Facts.Fits-of_z, specs.{Int.{byte_len, cast_unsigned, from_le_bytes, to_le_bytes, w16, w32, w64, Width}, Prelude.FitsSigned}}

pub number_back : (w : Width) (n : ℕ) (rest : List ℕ) → length (to_le_bytes w n) ≡ byte_len w → from_le_bytes w (to_le_bytes w n) ≡ n
    → number_at w (to_le_bytes w n ++ rest) ≡ Some (n, rest)
number_back w n rest len again =
    let long : ltb (length (to_le_bytes w n ++ rest)) (byte_len w) ≡ false = le-ltb _ _ (omega (arith, length-append (to_le_bytes w n) rest)) in
    rw (long, take_at (to_le_bytes w n) rest (byte_len w) len, drop_at (to_le_bytes w n) rest (byte_len w) len, again) refl

pub u16_back : (n : ℕ) (rest : List ℕ) → n < 2 ^ 16 → number_at w16 (u16_bytes n ++ rest) ≡ Some (n, rest)
unfolding u16_bytes
u16_back n rest lt = number_back w16 n rest refl (from_le_bytes-to_le_bytes_2 n lt)

pub u32_back : (n : ℕ) (rest : List ℕ) → n < 2 ^ 32 → number_at w32 (u32_bytes n ++ rest) ≡ Some (n, rest)
unfolding u32_bytes
u32_back n rest lt = number_back w32 n rest refl (from_le_bytes-to_le_bytes_4 n lt)

pub i32_back : (z : ℤ) (rest : List ℕ) → FitsSigned w32 z → signed_at (i32_bytes z ++ rest) ≡ Some (z, rest)
unfolding i32_bytes
i32_back z rest fits =
    let below : cast_unsigned w32 z < 2 ^ 32 = omega (arith, Fits-of_z fits) in
    let read = number_back w32 (cast_unsigned w32 z) rest refl (from_le_bytes-to_le_bytes_4 (cast_unsigned w32 z) below) in
    rw (read, to_z-of_z w32 z fits) refl

pub u64_back : (n : ℕ) (rest : List ℕ) → n < 2 ^ 64 → number_at w64 (u64_bytes n ++ rest) ≡ Some (n, rest)
unfolding u64_bytes
u64_back n rest lt = number_back w64 n rest refl (from_le_bytes-to_le_bytes_8 n lt)

-- how many bytes a number has

pub length-u16_bytes : (n : ℕ) → length (u16_bytes n) ≡ 2
unfolding u16_bytes
length-u16_bytes n = refl

pub length-u32_bytes : (n : ℕ) → length (u32_bytes n) ≡ 4
unfolding u32_bytes
length-u32_bytes n = refl

pub length-u64_bytes : (n : ℕ) → length (u64_bytes n) ≡ 8
unfolding u64_bytes
length-u64_bytes n = refl

pub length-i32_bytes : (z : ℤ) → length (i32_bytes z) ≡ 4
unfolding i32_bytes
length-i32_bytes z = refl
