-- Bytes begin with the bytes of a number, where enough of them are left. All of these bytes are below 256.
use Rattle.std.proofs.{Common.zero, Common.Fits, Math.Facts.sfits_to_z, Math.ListN.get_or, lemmas.Int.of_z-to_z, lemmas.Nat.le_bytes_2, lemmas.Nat.le_bytes_4}
use Rattle.std.{proofs.lemmas.List.nil_from_length, specs.Int.cast_signed, specs.Int.from_le_bytes, specs.Int.to_le_bytes, specs.Int.w16, specs.Int.w8}
use Rattle.sim_wire.proofs.Common.{ap, append-nil, append_assoc, arith, false≢true, i32_bytes, IsPoint, ltb-false, number_at, Point, point_bytes, read_and, sym}
use Rattle.sim_wire.proofs.Common.{u16_back, u16_bytes, u32_back, u32_bytes, w32, ◌∙◌}
use Rattle.sim_wire.proofs.Common.{◌≡◌, ℕ, suc, ◌+◌, ◌*◌, ◌^◌, ◌<◌, ◌≤◌, Bool, true, false, ltb, List, [], ◌∷◌, ◌++◌, length, flat_map, refl, AllByRecursion}

-- each is a byte
abbrev pub AreBytes : List ℕ → Type 0
AreBytes bytes = AllByRecursion (λ b. b < 256) bytes

pub are_bytes : (bytes : List ℕ) → ((i : ℕ) → Fits w8 (get_or bytes i 0)) → AreBytes bytes
are_bytes [] fits = tt
are_bytes (b ∷ bytes) fits = ((let p = fits 0 in omega arith), are_bytes bytes (λ i. fits (suc i)))

two : (a b : ℕ) → a < 256 → b < 256 → (i : ℕ) → get_or (a ∷ b ∷ []) i 0 < 256
two a b p q zero = p
two a b p q (suc zero) = q
two a b p q (suc (suc i)) = omega arith

four : (a b c d : ℕ) → a < 256 → b < 256 → c < 256 → d < 256 → (i : ℕ) → get_or (a ∷ b ∷ c ∷ d ∷ []) i 0 < 256
four a b c d p q r s zero = p
four a b c d p q r s (suc zero) = q
four a b c d p q r s (suc (suc i)) = two c d r s i

-- two bytes and the others
pub record Half (bytes : List ℕ) : Type 0 where
  pub number : ℕ
  pub rest : List ℕ
  pub fits : number < 2 ^ 16
  pub is : bytes ≡ u16_bytes number ++ rest
  pub left : length bytes ≡ 2 + length rest
  pub others : AreBytes rest

pub half : (bytes : List ℕ) → AreBytes bytes → 2 ≤ length bytes → Half bytes
unfolding u16_bytes
half [] all le = absurd (omega arith)
half (a ∷ []) all le = absurd (omega arith)
half (a ∷ b ∷ rest) all le = record {
  number = from_le_bytes w16 (a ∷ b ∷ []);
  rest = rest;
  fits = let p = all.0 in let q = all.1.0 in omega arith;
  is = ap (λ (x : List ℕ). x ++ rest) (sym (le_bytes_2 (a ∷ b ∷ []) (from_le_bytes w16 (a ∷ b ∷ [])) refl (two a b all.0 all.1.0) refl));
  left = omega arith;
  others = all.1.1;
}

-- four bytes and the others
pub record Word (bytes : List ℕ) : Type 0 where
  pub number : ℕ
  pub rest : List ℕ
  pub fits : number < 2 ^ 32
  pub is : bytes ≡ u32_bytes number ++ rest
  pub left : length bytes ≡ 4 + length rest
  pub others : AreBytes rest

pub word : (bytes : List ℕ) → AreBytes bytes → 4 ≤ length bytes → Word bytes
unfolding u32_bytes
word [] all le = absurd (omega arith)
word (a ∷ []) all le = absurd (omega arith)
word (a ∷ b ∷ []) all le = absurd (omega arith)
word (a ∷ b ∷ c ∷ []) all le = absurd (omega arith)
word (a ∷ b ∷ c ∷ d ∷ rest) all le = record {
  number = from_le_bytes w32 (a ∷ b ∷ c ∷ d ∷ []);
  rest = rest;
  fits = let p = all.0 in let q = all.1.0 in let r = all.1.1.0 in let s = all.1.1.1.0 in omega arith;
  is = ap (λ (x : List ℕ). x ++ rest)
      (sym (le_bytes_4 (a ∷ b ∷ c ∷ d ∷ []) (from_le_bytes w32 (a ∷ b ∷ c ∷ d ∷ [])) refl (four a b c d all.0 all.1.0 all.1.1.0 all.1.1.1.0) refl));
  left = omega arith;
  others = all.1.1.1.1;
}

-- what was read and had its form is a number in front

pub half_held : (bytes : List ℕ) (holds : ℕ → List ℕ → Bool) → AreBytes bytes → read_and (number_at w16 bytes) holds ≡ true → (h : Half bytes)
    × (holds h.number h.rest ≡ true)
half_held bytes holds all e = go (ltb (length bytes) 2) refl
  where
    go : (b : Bool) → ltb (length bytes) 2 ≡ b → (h : Half bytes) × (holds h.number h.rest ≡ true)
    go true short = let none : read_and (number_at w16 bytes) holds ≡ false = rw short refl in absurd (false≢true (sym none ∙ e))
    go false long =
        let h = half bytes all (ltb-false (length bytes) 2 long) in
        let read : read_and (number_at w16 bytes) holds ≡ holds h.number h.rest = ap (λ (x : List ℕ). read_and (number_at w16 x) holds) h.is ∙
        rw (u16_back h.number h.rest h.fits) refl in
        (h, sym read ∙ e)

pub word_held : (bytes : List ℕ) (holds : ℕ → List ℕ → Bool) → AreBytes bytes → read_and (number_at w32 bytes) holds ≡ true → (h : Word bytes)
    × (holds h.number h.rest ≡ true)
word_held bytes holds all e = go (ltb (length bytes) 4) refl
  where
    go : (b : Bool) → ltb (length bytes) 4 ≡ b → (h : Word bytes) × (holds h.number h.rest ≡ true)
    go true short = let none : read_and (number_at w32 bytes) holds ≡ false = rw short refl in absurd (false≢true (sym none ∙ e))
    go false long =
        let h = word bytes all (ltb-false (length bytes) 4 long) in
        let read : read_and (number_at w32 bytes) holds ≡ holds h.number h.rest = ap (λ (x : List ℕ). read_and (number_at w32 x) holds) h.is ∙
        rw (u32_back h.number h.rest h.fits) refl in
        (h, sym read ∙ e)

-- so many ids, and the others
pub record Words (n : ℕ) (bytes : List ℕ) : Type 0 where
  pub ids : List ℕ
  pub rest : List ℕ
  pub count : length ids ≡ n
  pub each : AllByRecursion (λ id. id < 2 ^ 32) ids
  pub is : bytes ≡ flat_map u32_bytes ids ++ rest
  pub left : length bytes ≡ 4 * n + length rest
  pub others : AreBytes rest

pub words : (n : ℕ) (bytes : List ℕ) → AreBytes bytes → 4 * n ≤ length bytes → Words n bytes
words zero bytes all le = record { ids = []; rest = bytes; count = refl; each = tt; is = refl; left = omega arith; others = all }
words (suc n) bytes all le =
    let first = word bytes all (omega arith) in
    let few : 4 * n ≤ length first.rest = omega (arith, first.left) in
    let more = words n first.rest first.others few in
    record {
      ids = first.number ∷ more.ids;
      rest = more.rest;
      count = omega (arith, more.count);
      each = (first.fits, more.each);
      is = first.is ∙ ap (λ (x : List ℕ). u32_bytes first.number ++ x) more.is ∙
          sym (append_assoc (u32_bytes first.number) (flat_map u32_bytes more.ids) more.rest);
      left = omega (arith, first.left, more.left);
      others = more.others;
    }

-- ---- at the end

pub ends : (front rest : List ℕ) → length rest ≡ 0 → front ++ rest ≡ front
ends front rest e = ap (λ (x : List ℕ). front ++ x) (nil_from_length rest e) ∙ append-nil front

-- the last four bytes are a number
pub record LastWord (bytes : List ℕ) : Type 0 where
  pub number : ℕ
  pub fits : number < 2 ^ 32
  pub is : bytes ≡ u32_bytes number

pub last_word : (bytes : List ℕ) → AreBytes bytes → length bytes ≡ 4 → LastWord bytes
last_word bytes all e =
    let h = word bytes all (omega arith) in
    record { number = h.number; fits = h.fits; is = h.is ∙ ends (u32_bytes h.number) h.rest (omega (arith, h.left)) }

-- and the last two
pub record LastHalf (bytes : List ℕ) : Type 0 where
  pub number : ℕ
  pub fits : number < 2 ^ 16
  pub is : bytes ≡ u16_bytes number

pub last_half : (bytes : List ℕ) → AreBytes bytes → length bytes ≡ 2 → LastHalf bytes
last_half bytes all e =
    let h = half bytes all (omega arith) in
    record { number = h.number; fits = h.fits; is = h.is ∙ ends (u16_bytes h.number) h.rest (omega (arith, h.left)) }

same_bytes : (n : ℕ) → n < 2 ^ 32 → u32_bytes n ≡ i32_bytes (cast_signed w32 n)
unfolding u32_bytes i32_bytes
same_bytes n fits = ap (to_le_bytes w32) (sym (of_z-to_z w32 n fits))

-- the last eight bytes are a point
pub record LastPoint (bytes : List ℕ) : Type 0 where
  pub point : Point
  pub fits : IsPoint point
  pub is : bytes ≡ point_bytes point

pub last_point : (bytes : List ℕ) → AreBytes bytes → length bytes ≡ 8 → LastPoint bytes
last_point bytes all e =
    let x = word bytes all (omega arith) in
    let z = last_word x.rest x.others (omega (arith, x.left)) in
    record {
      point = record { x = cast_signed w32 x.number; z = cast_signed w32 z.number };
      fits = record { x = sfits_to_z (omega (arith, x.fits)); z = sfits_to_z (omega (arith, z.fits)) };
      is = x.is ∙ ap (λ (y : List ℕ). y ++ x.rest) (same_bytes x.number x.fits) ∙ ap (λ (y : List ℕ). i32_bytes (cast_signed w32 x.number) ++ y)
          (z.is ∙ same_bytes z.number z.fits);
    }
