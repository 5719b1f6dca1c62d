-- A row that is like its template stands in the sections of the parts that the template has, and in no other.
use Rattle.sim_codec.specs.{Common.{attack_part, from_le_bytes, health_part, motion_part, Row, stance_part, Template, w16, w32, with_id}, Reading.IsLike}
use Rattle.std.proofs.Common.{None, Option, refl, Some, ◌∙◌, ◌≡◌}
use Rattle.std.specs.Prelude.{Bool, drop, false, is_some, List, option_map, slice_get, take, unwrap_or, ℕ, ◌&&◌, ◌==◌}

pub is_some-map : {X Y : Type 0} (f : X → Y) (o : Option X) → is_some (option_map f o) ≡ is_some o
is_some-map f None = refl
is_some-map f (Some x) = refl

pub health_like : (row : Row) (t : Template) → IsLike row t → is_some (with_id health_part row) ≡ is_some t.health
health_like row t like = is_some-map _ row.health ∙ like.health

pub motion_like : (row : Row) (t : Template) → IsLike row t → is_some (with_id motion_part row) ≡ is_some t.speed
motion_like row t like = is_some-map _ row.motion ∙ like.motion

pub attack_like : (row : Row) (t : Template) → IsLike row t → is_some (with_id attack_part row) ≡ is_some t.arms
attack_like row t like = is_some-map _ (attack_part row) ∙ is_some-map _ row.attack ∙ like.attack

pub stance_like : (row : Row) (t : Template) → IsLike row t → is_some (with_id stance_part row) ≡ is_some t.arms
stance_like row t like = is_some-map _ (stance_part row) ∙ is_some-map _ row.attack ∙ like.attack

-- The rows of the first section, each of six bytes: what they say of an entity, and what its template then says.

-- the id
abbrev pub id_in : List ℕ → ℕ
id_in bytes = from_le_bytes w32 (take 4 bytes)

-- the number of the template
abbrev pub template_in : List ℕ → ℕ
template_in bytes = from_le_bytes w16 (take 2 (drop 4 bytes))

-- the template of this number passes the test
abbrev pub passes : (Template → Bool) → List Template → ℕ → Bool
passes test templates number = unwrap_or (option_map test (slice_get templates number)) false

-- it has an id, and its template has health
abbrev pub lives_as : List Template → ℕ → List ℕ → Bool
lives_as templates id bytes = id_in bytes == id && passes (λ t. is_some t.health) templates (template_in bytes)
