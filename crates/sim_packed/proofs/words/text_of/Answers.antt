-- Bytes are a text where they are UTF-8.
use Rattle.{sim_packed.specs.Files.text_in, std.proofs.Common.{Bool, false, if◌then◌else◌, List, None, refl, Some, true, ℕ, ◌≡◌}}
use Rattle.std.{proofs.lemmas.Str.{is_utf8-from_IsUtf8, IsUtf8-from_is_utf8}, specs.Str.{is_utf8, IsUtf8}}

text_is : (text bytes : List ℕ) → text ≡ bytes → IsUtf8 bytes → Some text ≡ text_in bytes
text_is text bytes same utf8 = rw (same, is_utf8-from_IsUtf8 bytes utf8) refl

no_text : (bytes : List ℕ) → (IsUtf8 bytes → ⊥) → None ≡ text_in bytes
no_text bytes refused = by (is_utf8 bytes) refl
  where
    by : (utf8 : Bool) → is_utf8 bytes ≡ utf8 → None ≡ (if utf8 then Some bytes else None)
    by true e = absurd (refused (IsUtf8-from_is_utf8 bytes e))
    by false e = refl

pub returns-in-Ok : Rattle.sim_packed.proofs.words.text_of.Goals.returns-in-Ok
returns-in-Ok c = text_is c.in-Ok.text.now c.args.bytes.now c.in-Ok.ensures.cases.0 c.in-Ok.ensures.cases.1

pub returns-in-Err : Rattle.sim_packed.proofs.words.text_of.Goals.returns-in-Err
returns-in-Err c = no_text c.args.bytes.now c.in-Err.ensures.cases.0
