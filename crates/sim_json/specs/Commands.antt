-- Commands as lists of JSON: a kind, and what follows it. Whether an id or a template is there is not asked here.
use Rattle.{serde_json.specs.{Data.Data, Find.as_str}, sim_base.specs.declared.command.Command.{Command, TheVariants.{Attack, Delete, Place, Resign, Stop}}}
use Rattle.{sim_base.specs.declared.{command.Command.TheVariants.{Train, Walk}, place.Point.Point}, sim_json.specs.Values.{fixed, list_of, natural_in, two}}
use Rattle.std.specs.Prelude.{Bool, codes, Err, false, if◌then◌else◌, is_some, length, List, nat_le, None, Ok, Option, option_and_then, option_map, Result}
use Rattle.std.specs.{Prelude.{Some, ℕ, [], ◌&&◌, ◌++◌, ◌+◌, ◌-◌, ◌^◌, ◌∷◌, ◌≡◌}, Str.bytes_eq}

-- Lists of records. An item is read beside the records of the items before it; what it may not be beside them, it is
-- refused for.

-- what comes next, where there is a value, or else an answer
abbrev pub next_or : {X Y : Type 0} → Option X → Y → (X → Y) → Y
next_or None y next = y
next_or (Some x) y next = next x

-- the records of the items behind those that are done, if each item is read
abbrev pub records : {X D : Type 0} → (List X → D → Option X) → List X → List D → Option (List X)
records read done [] = Some done
records read done (d ∷ ds) = next_or (read done d) None (λ x. records read (done ++ x ∷ []) ds)

-- the same, or the number of the first item that is refused
abbrev pub numbered : {X D : Type 0} → (List X → D → Option X) → List X → List D → Result (List X) ℕ
numbered read done [] = Ok done
numbered read done (d ∷ ds) = next_or (read done d) (Err (length done)) (λ x. numbered read (done ++ x ∷ []) ds)

-- the id of an entity, be it there or not
abbrev pub id_in : Data → Option ℕ
id_in d = natural_in 0 (2 ^ 32 - 1) d

-- the number of a template, be it there or not
abbrev pub template_in : Data → Option ℕ
template_in d = natural_in 0 (2 ^ 16 - 1) d

-- at most 256 ids
abbrev pub ids_from : List Data → Option (List ℕ)
ids_from ds = if nat_le (length ds) 256 then records (λ done. id_in) [] ds else None

-- ids from their list
abbrev pub ids_of : Data → Option (List ℕ)
ids_of d = option_and_then ids_from (list_of d)

-- a point from its coordinates
abbrev pub point_of : Data → Data → Option Point
point_of x z = next_or (fixed x) None (λ x. next_or (fixed z) None (λ z. Some (record { x = x; z = z })))

-- the items of a list that has exactly three
abbrev pub three : List Data → Option (Data × Data × Data)
three (a ∷ b ∷ c ∷ []) = Some (a, b, c)
three other = None

-- to walk: ids, and both coordinates of the goal
abbrev pub walk_from : List Data → Option Command
walk_from rest = next_or (three rest) None (λ p. next_or (ids_of p.0) None (λ ids. next_or (point_of p.1 p.2) None (λ to. Some (Walk ids to))))

-- to stop: ids
abbrev pub stop_from : List Data → Option Command
stop_from (ids ∷ []) = option_map Stop (ids_of ids)
stop_from other = None

-- to attack: ids, and the target
abbrev pub attack_from : List Data → Option Command
attack_from rest = next_or (two rest) None (λ p. next_or (ids_of p.0) None (λ ids. next_or (id_in p.1) None (λ target. Some (Attack ids target))))

-- to delete: ids
abbrev pub delete_from : List Data → Option Command
delete_from (ids ∷ []) = option_map Delete (ids_of ids)
delete_from other = None

-- to place: a template, and both coordinates
abbrev pub place_from : List Data → Option Command
place_from rest = next_or (three rest) None (λ p. next_or (template_in p.0) None (λ template. next_or (point_of p.1 p.2) None (λ at. Some (Place template at))))

-- to train: the building, and a template
abbrev pub train_from : List Data → Option Command
train_from rest = next_or (two rest) None
    (λ p. next_or (id_in p.0) None (λ building. next_or (template_in p.1) None (λ template. Some (Train building template))))

-- to resign: nothing
abbrev pub resign_from : List Data → Option Command
resign_from [] = Some Resign
resign_from other = None

-- a command by its kind and what follows it
abbrev pub command_by : List ℕ → List Data → Option Command
command_by kind rest =
    if bytes_eq kind (codes "walk") then walk_from rest
    else if bytes_eq kind (codes "stop") then stop_from rest
    else if bytes_eq kind (codes "attack") then attack_from rest
    else if bytes_eq kind (codes "delete") then delete_from rest
    else if bytes_eq kind (codes "place") then place_from rest
    else if bytes_eq kind (codes "train") then train_from rest
    else if bytes_eq kind (codes "resign") then resign_from rest
    else None

-- a command from its kind on
unfoldable pub command_of : List Data → Option Command
command_of [] = None
command_of (kind ∷ rest) = next_or (as_str kind) None (λ kind. command_by kind rest)

-- Which commands ask for memory while they are read. Ids alone do; so whatever else is wrong with a command is found
-- without memory.

-- the first of some items is an id
abbrev pub begins_with_id : List Data → Bool
begins_with_id [] = false
begins_with_id (d ∷ ds) = is_some (id_in d)

-- memory is asked for where there are at most 256 items and the first is an id
abbrev pub items_take : List Data → Bool
items_take ds = nat_le (length ds) 256 && begins_with_id ds

-- the same of the items of a list
abbrev pub ids_take : Data → Bool
ids_take d = next_or (list_of d) false items_take

-- where ids stand alone behind the kind
abbrev pub alone_take : List Data → Bool
alone_take (ids ∷ []) = ids_take ids
alone_take other = false

-- where ids and a target do
abbrev pub aimed_take : List Data → Bool
aimed_take rest = next_or (two rest) false (λ p. ids_take p.0)

-- where ids and a point do
abbrev pub sent_take : List Data → Bool
sent_take rest = next_or (three rest) false (λ p. ids_take p.0)

-- a command asks for memory by its kind, where it has ids
abbrev pub kind_takes : List ℕ → List Data → Bool
kind_takes kind rest =
    if bytes_eq kind (codes "walk") then sent_take rest
    else if bytes_eq kind (codes "stop") then alone_take rest
    else if bytes_eq kind (codes "attack") then aimed_take rest
    else if bytes_eq kind (codes "delete") then alone_take rest
    else false

-- the same from its kind on
unfoldable pub command_takes : List Data → Bool
command_takes [] = false
command_takes (kind ∷ rest) = next_or (as_str kind) false (λ kind. kind_takes kind rest)

-- What the number of a refusal says.

-- the items before the i-th are read, and the i-th is not, beside their records
pub record IsLeast {X D : Type 0} (read : List X → D → Option X) (done : List X) (ds : List D) (i : ℕ) : Type 0 where
  pub front : List D
  pub refused : D
  pub back : List D
  pub made : List X
  pub whole : ds ≡ front ++ refused ∷ back
  pub place : i ≡ length done + length front
  pub reads : numbered read done front ≡ Ok made
  pub none : read made refused ≡ None
