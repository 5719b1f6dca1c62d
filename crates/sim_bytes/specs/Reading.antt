-- What is read from the front of bytes: a value and the bytes after it, or nothing. A reader is a function on lists, so that readers
-- are put together from smaller ones by `>>=`.
use Rattle.{sim_bytes.specs.declared.take.Short.Short, std.specs.Int.{byte_len, cast_signed, from_le_bytes, w32, Width}}
use Rattle.std.specs.Prelude.{drop, Err, if◌then◌else◌, length, List, nat_lt, None, Ok, Option, Result, Some, take, ℕ, ℤ, [], ◌∷◌, ◌≡◌}

-- the second step, if the first gave a value
infixl 10 ◌>>=◌
abbrev pub ◌>>=◌ : {A B : Type 0} → Option A → (A → Option B) → Option B
(Some x) >>= f = f x
None >>= f = None

-- the value at the front of bytes and what is left, or None
abbrev pub Reader : Type 0 → Type 0
Reader X = List ℕ → Option (X × List ℕ)

-- a number of so many bits, the lowest byte first
abbrev pub number_at : Width → Reader ℕ
number_at w bytes = if nat_lt (length bytes) (byte_len w) then None else Some (from_le_bytes w (take (byte_len w) bytes), drop (byte_len w) bytes)

-- one byte
abbrev pub byte_at : Reader ℕ
byte_at [] = None
byte_at (b ∷ rest) = Some (b, rest)

-- a number of 32 bits in two's complement
abbrev pub signed_at : Reader ℤ
signed_at bytes = number_at w32 bytes >>= λ n. Some (cast_signed w32 n.0, n.1)

-- a call read what `read` says, or failed where `read` does
abbrev pub Reads : {X : Type 0} → Reader X → List ℕ → Result X Short → List ℕ → Type 0
Reads read old (Ok x) new = read old ≡ Some (x, new)
Reads read old (Err e) new = read old ≡ None

-- the same, and a failed call leaves the reader as it was
abbrev pub ReadsOrStays : {X : Type 0} → Reader X → List ℕ → Result X Short → List ℕ → Type 0
ReadsOrStays read old (Ok x) new = read old ≡ Some (x, new)
ReadsOrStays read old (Err e) new = (read old ≡ None) × (new ≡ old)

-- the same as `Reads`, where what a call gives is seen by `view`
abbrev pub ReadsBy : {Y X : Type 0} → (Y → X) → Reader X → List ℕ → Result Y Short → List ℕ → Type 0
ReadsBy view read old (Ok y) new = read old ≡ Some (view y, new)
ReadsBy view read old (Err e) new = read old ≡ None
