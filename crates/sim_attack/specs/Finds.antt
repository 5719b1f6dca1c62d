-- What fighters have found, and which others find the same.
use Rattle.sim_attack.specs.declared.{aim.Candidate.Candidate, battle.Battle.Battle, finds.Find.Find}
use Rattle.sim_base.specs.{Commands.within, declared.{place.Point.Point, setup.Setup.Setup, state.{Row.Row, State.State}}, Limits.{IsKnownRow, IsLooselyValid}}
use Rattle.sim_base.specs.{Limits.IsSetup, Places.square, Rows.{enemies_of, row_of}, Turn.{same_point, square_to}, Ways.{is_before, least_of}}
use Rattle.{sim_plans.specs.{declared.scene.Scene.Scene, SceneWords.Stands}, sim_system.specs.declared.system.System.Ghosts}
use Rattle.std.specs.{Ordering.int_eq, Prelude.{All, Bool, IfSome, if◌then◌else◌, List, None, Option, option_map, replicate, Some, unsigned_abs, unwrap_or, ℕ}}
use Rattle.std.specs.Prelude.{ℤ, [], ◌%◌, ◌&&◌, ◌*◌, ◌+◌, ◌/◌, ◌==◌, ◌∷◌, ◌≡◌}

-- how many finds are kept at most
abbrev pub find_places : ℕ
find_places = 256

-- the places of all finds, which are made for the first
abbrev pub filled : List (Option Find) → List (Option Find)
filled [] = replicate find_places None
filled (first ∷ rest) = first ∷ rest

-- where the finds for rows of an owner at a point are kept
abbrev pub place_for : ℕ → Point → ℕ
place_for owner at = ((unsigned_abs at.x * 40503 + unsigned_abs at.z * 30011) / 65536 + owner) % find_places

-- the find is one for a row that sees so far
abbrev pub is_shared : Row → ℤ → Find → Bool
is_shared row vision find = find.owner == row.owner && same_point find.at row.at && int_eq find.vision vision

-- the target that a row which sees so far takes from a find
abbrev pub shared : Row → ℤ → Option Find → Option ℕ
shared row vision None = None
shared row vision (Some find) = if is_shared row vision find then Some find.target else None

-- the nearest enemy of an owner that is seen from a point, of several the one with the least id, or 0
abbrev pub nearest_from : Setup → State → ℕ → Point → ℤ → ℕ
nearest_from setup state owner at vision =
    unwrap_or (least_of (λ id. unwrap_or (option_map (λ (other : Row). square other.at at) (row_of state id)) 0 ∷ id ∷ [])
    (within state at vision (enemies_of setup owner))) 0

-- each find is the nearest enemy that its owner sees from there
abbrev pub AreFound : Setup → State → List (Option Find) → Type 0
AreFound setup state finds = All (λ o. IfSome o (λ (find : Find). find.target ≡ nearest_from setup state find.owner find.at find.vision)) finds

-- The nearest of some rows.

-- the id of the nearest, of several the least, or 0
abbrev pub nearest_of : State → Row → List ℕ → ℕ
nearest_of state row ids = unwrap_or (least_of (λ id. square_to state row id ∷ id ∷ []) ids) 0

-- the nearer of the best so far and another one
abbrev pub better_of : Option Candidate → ℕ → ℕ → Candidate
better_of None far id = record { far = far; id = id }
better_of (Some seen) far id = if is_before (far ∷ id ∷ []) (seen.far ∷ seen.id ∷ []) then record { far = far; id = id } else seen

-- the best so far stands for this id, at its own distance
pub record StandsFor (state : State) (row : Row) (best : Option Candidate) (o : Option ℕ) : Type 0 where
  pub id : option_map (λ (seen : Candidate). seen.id) best ≡ o
  pub far : IfSome best (λ seen. seen.far ≡ square_to state row seen.id)

-- What is known of a row that fights in a battle, and of one that looks for a target.

-- the setup is within its limits, the state is loosely valid, and the row is one that may stand in it
pub record Knows (battle : Battle) (row : Row) : Type 0 where
  pub limits : IsSetup battle.setup.now
  pub valid : IsLooselyValid battle.setup.now battle.state.now
  pub row_is : IsKnownRow 0 battle.setup.now battle.state.now.rows row

-- the scene stands, the row is found in it by its id, and so were the finds
pub record MayLook {X : Type 0} {F : X → Type 0} (scene : Scene X F) (row : Row) (kept : List (Option Find)) (sys : (i : X) → Ghosts (F i)) : Type 0 where
  pub stands : Stands scene sys
  pub row_is : IsKnownRow 0 scene.setup.now scene.state.now.rows row
  pub found : row_of scene.state.now row.id ≡ Some row
  pub finds : AreFound scene.setup.now scene.state.now kept
