-- What an entity has in each section, as it is read there by the version, the template and the id of the entity.
use Rattle.sim_codec.specs.Common.{attack_at, entity_at, has_stances, health_at, holds, Motion, moving_at, owner_at, Point, position_at, row_if, stance_at}
use Rattle.std.specs.Prelude.{[], Bool, if◌then◌else◌, is_some, List, None, Option, option_map, slice_get, Some, true, unwrap_or, ℕ, ℤ, ◌&&◌, ◌∷◌}
use Rattle.{sim_bytes.specs.Reading.Reader, sim_bytes.specs.Reading.◌>>=◌, sim_codec.specs.Common.Template, sim_codec.specs.Common.Version}
use Rattle.{sim_codec.specs.PartLaws.id_in, sim_codec.specs.PartLaws.template_in, std.specs.List.cons_option}

-- what is read of a row that is wanted, under another id
abbrev pub named_if : {X : Type 0} → Reader (ℕ × X) → Bool → ℕ → Reader (Option (ℕ × X))
named_if at wanted id bytes = row_if at wanted bytes >>= λ r. Some (option_map (λ x. (id, x.1)) r.0, r.1)

abbrev pub entity_part_at : Version → Template → ℕ → Reader (Option (ℕ × ℕ))
entity_part_at version template id = named_if entity_at true id

abbrev pub position_part_at : Version → Template → ℕ → Reader (Option (ℕ × Point))
position_part_at version template id = named_if position_at true id

abbrev pub owner_part_at : Version → Template → ℕ → Reader (Option (ℕ × ℕ))
owner_part_at version template id = named_if owner_at true id

abbrev pub health_part_at : Version → Template → ℕ → Reader (Option (ℕ × ℤ))
health_part_at version template id = named_if health_at (is_some template.health) id

abbrev pub motion_part_at : Version → Template → ℕ → Reader (Option (ℕ × Motion))
motion_part_at version template id = named_if moving_at (is_some template.speed) id

abbrev pub attack_part_at : Version → Template → ℕ → Reader (Option (ℕ × (ℕ × ℕ)))
attack_part_at version template id = named_if attack_at (is_some template.arms) id

-- where nothing is said of its stance, an entity that can attack does not hold its place
abbrev pub stance_part_at : Version → Template → ℕ → Reader (Option (ℕ × Bool))
stance_part_at version template id bytes =
    row_if stance_at (has_stances version && is_some template.arms) bytes >>= λ r. Some (if is_some template.arms then Some (id, holds r.0) else None, r.1)

-- what the next entity of the first section has in another one
abbrev pub next_in : {X : Type 0} → (Version → Template → ℕ → Reader (Option X)) → Version → List Template → List ℕ → Reader (Option X)
next_in at version templates entity bytes = slice_get templates (template_in entity) >>= λ t. at version t (id_in entity) bytes

-- what these entities have there, up to the first of which nothing can be read
abbrev pub parts_in : {X : Type 0} → (Version → Template → ℕ → Reader (Option X)) → Version → List Template → List (List ℕ) → List ℕ → List X
parts_in at version templates [] bytes = []
parts_in at version templates (entity ∷ more) bytes =
    unwrap_or (option_map (λ r. cons_option r.0 (parts_in at version templates more r.1)) (next_in at version templates entity bytes)) []
