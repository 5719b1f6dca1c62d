-- A state as it is read: the sections are found, and then each row is put together from a reader in each of them.
use Rattle.sim_base.specs.declared.{state.Aim.Aim, state.Row.Row, template.Template.Template}
use Rattle.sim_bytes.specs.declared.{take.Short.Short, version.Version.TheVariants.One, version.Version.TheVariants.Two, version.Version.Version}
use Rattle.sim_bytes.specs.{Reading.Reader, Reading.byte_at, Reading.number_at, Reading.◌>>=◌, Rows.attack_at, Rows.entity_at, Rows.has_stances, Rows.health_at}
use Rattle.sim_bytes.specs.{Rows.moving_at, Rows.owner_at, Rows.position_at, Rows.stance_at, declared.walk.Parts.Parts, declared.walk.Walk.Walk}
use Rattle.std.specs.Prelude.{Bool, Err, false, if◌then◌else◌, is_some, List, None, Ok, Option, option_map, Result, slice_get, Some, suc, unwrap_or, zero, ℕ}
use Rattle.std.specs.{Int.w32, List.flat_map, Prelude.◌&&◌, Prelude.◌++◌, Prelude.◌==◌, Prelude.◌≡◌}

-- Sections as they are read.

-- the bytes behind so many rows
unfoldable pub skipped : {X : Type 0} → Reader X → ℕ → List ℕ → Option (List ℕ)
skipped at zero bytes = Some bytes
skipped at (suc n) bytes = at bytes >>= λ x. skipped at n x.1

abbrev pub Skips : {X : Type 0} → Reader X → ℕ → List ℕ → Result (Unit {0}) Short → List ℕ → Type 0
Skips at n old (Ok x) new = skipped at n old ≡ Some new
Skips at n old (Err e) new = skipped at n old ≡ None

-- how many rows a section has, the bytes from its first row on, and the bytes behind the section
unfoldable pub section_at : {X : Type 0} → ℕ → Reader X → Reader (ℕ × List ℕ)
section_at tag at bytes = byte_at bytes >>= λ t. if t.0 == tag then (number_at w32 t.1 >>= λ n. skipped at n.0 n.1 >>= λ rest. Some ((n.0, n.1), rest))
    else None

unfoldable pub row_if : {X : Type 0} → Reader X → Bool → Reader (Option X)
row_if at wanted bytes = if wanted then (at bytes >>= λ x. Some (Some x.0, x.1)) else Some (None, bytes)

-- these rows stand at the front
pub record IsAhead {X : Type 0} (spelled : X → List ℕ) (rows : List X) (bytes : List ℕ) : Type 0 where
  pub rest : List ℕ
  pub is : bytes ≡ flat_map spelled rows ++ rest

-- a reader in the section of stances, which version 1 does not have
unfoldable pub stances_at : Version → Reader (List ℕ)
stances_at One bytes = Some (bytes, bytes)
stances_at Two bytes = section_at 7 stance_at bytes >>= λ s. Some (s.0.1, s.1)

-- how many rows there are, and a reader in each section
unfoldable pub sections_at : Version → Reader (ℕ × Walk)
sections_at version bytes =
    section_at 1 entity_at bytes >>= λ e. section_at 2 position_at e.1 >>= λ p. section_at 3 owner_at p.1 >>= λ o.
    section_at 4 health_at o.1 >>= λ h. section_at 5 moving_at h.1 >>= λ m. section_at 6 attack_at m.1 >>= λ a.
    stances_at version a.1 >>= λ s.
    Some (
      (e.0.0, record { version = version; entity = e.0.1; position = p.0.1; owner = o.0.1; health = h.0.1; motion = m.0.1; attack = a.0.1; stance = s.0 }),
      s.1,
    )

-- what stands of the next row in each section; its template says which
unfoldable pub parts_at : List Template → Walk → Option (Parts × Walk)
parts_at templates w =
    entity_at w.entity >>= λ e. slice_get templates e.0.1 >>= λ t. position_at w.position >>= λ p. owner_at w.owner >>= λ o.
    row_if health_at (is_some t.health) w.health >>= λ h. row_if moving_at (is_some t.speed) w.motion >>= λ m. row_if attack_at (is_some t.arms) w.attack >>=
    λ a.
    row_if stance_at (has_stances w.version && is_some t.arms) w.stance >>= λ s.
    Some (
      record { entity = e.0; position = p.0; owner = o.0; health = h.0; motion = m.0; attack = a.0; stance = s.0 },
      record { version = w.version; entity = e.1; position = p.1; owner = o.1; health = h.1; motion = m.1; attack = a.1; stance = s.1 },
    )

-- who is said to hold its place does, and no other
abbrev pub holds : Option (ℕ × Bool) → Bool
holds stance = unwrap_or (option_map (λ r. r.1) stance) false

-- whom an entity attacks, of what stands of it
abbrev pub aim_of : Parts → Option Aim
aim_of p = option_map (λ r. record { target = r.1.0; cooldown = r.1.1; hold = holds p.stance }) p.attack

-- the row of these parts
abbrev pub row_of : Parts → Row
row_of p = record {
  id = p.entity.0;
  template = p.entity.1;
  at = p.position.1;
  owner = p.owner.1;
  health = option_map (λ r. r.1) p.health;
  motion = option_map (λ r. r.1) p.motion;
  attack = aim_of p;
}

-- a call read what `read` says of the readers, or failed where `read` does
abbrev pub Walks : {X : Type 0} → (Walk → Option (X × Walk)) → Walk → Result X Short → Walk → Type 0
Walks read old (Ok x) new = read old ≡ Some (x, new)
Walks read old (Err e) new = read old ≡ None
