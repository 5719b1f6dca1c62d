-- The setup of a match file, or why it has none: the passes over the file, in the order of their codes.
use Rattle.sim_merge.specs.declared.fault.MergeFault.TheVariants as merge
use Rattle.sim_setup.specs.Common.{are_distinct, as_str, command_of, command_takes, Data, First, fits, fixed, four, front_two, get, Global, Holding, is_endless}
use Rattle.sim_setup.specs.Common.{is_given, is_inside, is_list, is_missing, is_orphan, is_row_of, is_table, is_table_of, is_whole, IsLeast, Land, Laying}
use Rattle.sim_setup.specs.Common.{layings, list_at, list_of, md5, members, MergeFault, names_in, natural, natural_at, natural_in, next_or, Node, numbered}
use Rattle.sim_setup.specs.Common.{numbers, Origin, origins_of, other_key, parents_in, Point, records, Rect, result_ok, root_there, roots_in, row_limit, Setup}
use Rattle.sim_setup.specs.{Common.{size_of, Source, Template, template_in, Timed, two, value_of}, declared.fault.SetupFault.SetupFault}
use Rattle.sim_setup.specs.declared.{fault.SetupFault.TheVariants.{OutOfMemory, Refused}, ground.Size.Size, reading.Lists.Lists, rules.Rules.Rules}
use Rattle.{sim_setup.specs.Refusals.{after, coded, need, Refusal, refusal, source_of, sources_in, unless_at}, std.specs.Prelude.{bit_or, Bool, codes}}
use Rattle.std.specs.Prelude.{count_by, Err, false, filter_map, if◌then◌else◌, length, List, map, nat_le, nat_lt, None, not, Ok, Option, option_and_then, pos}
use Rattle.std.specs.{Prelude.{position, Result, slice_get, Some, suc, true, Vec, zero, ℕ, [], ◌&&◌, ◌++◌, ◌+◌, ◌-◌, ◌<◌, ◌==◌, ◌^◌, ◌∷◌, ◌≡◌}, Str.bytes_eq}

-- The numbers that rule a match.

-- each number within its limits
abbrev pub rules_in : Data → Result Rules Refusal
rules_in d =
    need 3 3 (natural_at 0 row_limit (codes "cap") d) (λ cap. need 3 4 (natural_at 1 8 (codes "delay") d) (λ delay.
    need 3 5 (natural_at 0 65535 (codes "turns") d) (λ turns. need 3 6 (natural_at 0 (2 ^ 48 - 1) (codes "seed") d) (λ seed.
    Ok (record { cap = cap; delay = delay; turns = turns; seed = seed })))))

-- The entities that stand there when a match begins.

-- no more entities than rows
abbrev pub entities_within : List Data → Option (List Data)
entities_within ds = if nat_le (length ds) row_limit then Some ds else None

-- those of the file
abbrev pub entities_in : Data → Option (List Data)
entities_in d = option_and_then entities_within (list_at (codes "entities") d)

-- a point of two coordinates
abbrev pub point_of : Data → Data → Option Point
point_of x z = next_or (fixed x) None (λ x. next_or (fixed z) None (λ z. Some (record { x = x; z = z })))

-- a point, where it lies on the ground
abbrev pub if_inside : Land → Point → Option Point
if_inside land p = if is_inside (size_of land) p then Some p else None

-- the number of a template is the place of its name
abbrev pub number_of : List (List ℕ) → List ℕ → Option ℕ
number_of names name = position (bytes_eq name) names

-- an entity of a known template, an owner, who may be Gaia, and a point on the ground
abbrev pub first_from : List (List ℕ) → Land → ℕ → Data × Data × Data × Data → Option First
first_from names land players p =
    next_or (option_and_then (number_of names) (as_str p.0)) None (λ template. next_or (natural_in 0 players p.1) None (λ owner.
    next_or (option_and_then (if_inside land) (point_of p.2 p.3)) None (λ at. Some (record { template = template; owner = owner; at = at }))))

-- an entity from its list
unfoldable pub first_of : List (List ℕ) → Land → ℕ → Data → Option First
first_of names land players d = option_and_then (first_from names land players) (option_and_then four (list_of d))

-- the entities, or the first that is none
abbrev pub firsts_from : List (List ℕ) → Land → ℕ → List Data → Result (List First) Refusal
firsts_from names land players ds = coded 8 (numbered (λ done. first_of names land players) [] ds)

-- What a call that reads a match file answers. It may run out of memory, and is else what a definition says.

-- an answer is the wanted one, or memory ran out
abbrev pub Meets : {X : Type 0} → Result X SetupFault → Result X Refusal → Type 0
Meets (Ok x) wanted = wanted ≡ Ok x
Meets (Err (Refused code index)) wanted = wanted ≡ Err (refusal code index)
Meets (Err OutOfMemory) wanted = Unit {0}

-- a fault is this refusal, or memory ran out
abbrev pub Tells : SetupFault → ℕ → ℕ → Type 0
Tells (Refused code index) wanted_code wanted_index = (code ≡ wanted_code) × (index ≡ wanted_index)
Tells OutOfMemory wanted_code wanted_index = Unit {0}

-- the same for sources
abbrev pub SourcesMeet : Result (Vec Source Global) SetupFault → Result (List Origin) Refusal → Type 0
SourcesMeet (Ok sources) wanted = wanted ≡ Ok (origins_of sources.items)
SourcesMeet (Err (Refused code index)) wanted = wanted ≡ Err (refusal code index)
SourcesMeet (Err OutOfMemory) wanted = Unit {0}

-- the same for a library, which has the names of these sources and the wanted trees
abbrev pub LibraryMeets : Result Holding SetupFault → List Origin → Result (List Node) Refusal → Type 0
LibraryMeets (Ok library) origins wanted = (library.names ≡ names_in origins) × (wanted ≡ Ok library.roots)
LibraryMeets (Err (Refused code index)) origins wanted = wanted ≡ Err (refusal code index)
LibraryMeets (Err OutOfMemory) origins wanted = Unit {0}

-- a fault is the refusal for this cause, or memory ran out in both
abbrev pub Refuses : SetupFault → MergeFault → Type 0
Refuses fault merge.OutOfMemory = fault ≡ OutOfMemory
Refuses fault (merge.NoParent index) = fault ≡ Refused 4 index
Refuses fault (merge.Cycle index) = fault ≡ Refused 5 index
Refuses fault (merge.ChainTooLong index) = fault ≡ Refused 5 index
Refuses fault (merge.BadOp index) = fault ≡ Refused 6 index

-- The players of a match, each given by the list of his enemies.

-- an enemy of a player: Gaia, who is 0, or one of so many players, but not the player himself
abbrev pub enemy_in : ℕ → ℕ → Data → Option ℕ
enemy_in players player d = option_and_then (λ enemy. if enemy == player then None else Some enemy) (natural_in 0 players d)

-- a mask with the bits of the enemies set besides
abbrev pub mask_from : ℕ → ℕ → ℕ → List Data → Option ℕ
mask_from players player mask [] = Some mask
mask_from players player mask (d ∷ ds) = next_or (enemy_in players player d) None (λ enemy. mask_from players player (bit_or mask (2 ^ enemy)) ds)

-- the mask of the next player; `done` has that of Gaia and those of the players before
abbrev pub mask_of : ℕ → List ℕ → Data → Option ℕ
mask_of players done d = option_and_then (mask_from players (length done) 0) (list_of d)

-- the masks of Gaia, who has no enemies, and of 1 to 8 players
abbrev pub masks_from : List Data → Option (List ℕ)
masks_from ds = if nat_le 1 (length ds) && nat_le (length ds) 8 then records (mask_of (length ds)) (0 ∷ []) ds else None

-- those of the file
abbrev pub masks_in : Data → Option (List ℕ)
masks_in d = option_and_then masks_from (list_at (codes "players") d)

-- The ground of a match: its size and what is closed for good, and with the players' masks the whole land.

-- a width and a depth from 1 to 256
abbrev pub size_from : Data × Data → Option Size
size_from p =
    next_or (natural_in 1 256 p.0) None (λ width. next_or (natural_in 1 256 p.1) None (λ depth.
    Some (record { width = width; depth = depth })))

-- those of the file
abbrev pub size_in : Data → Option Size
size_in d = option_and_then size_from (option_and_then two (list_at (codes "size") d))

-- a rectangle, where its corners are in order and on the ground
abbrev pub rect_on : Size → ℕ → ℕ → ℕ → ℕ → Option Rect
rect_on size x0 z0 x1 z1 =
    if nat_le x0 x1 && nat_lt x1 size.width && nat_le z0 z1 && nat_lt z1 size.depth
    then Some (record { x0 = pos x0; z0 = pos z0; x1 = pos x1; z1 = pos z1 }) else None

-- a rectangle from its four numbers, none below 0
abbrev pub rect_from : Size → Data × Data × Data × Data → Option Rect
rect_from size p =
    next_or (natural p.0) None (λ x0. next_or (natural p.1) None (λ z0. next_or (natural p.2) None (λ x1. next_or (natural p.3) None (λ z1.
    rect_on size x0 z0 x1 z1))))

-- a rectangle from its list
abbrev pub rect_of : Size → Data → Option Rect
rect_of size d = option_and_then (rect_from size) (option_and_then four (list_of d))

-- at most 4096 rectangles
abbrev pub rects_from : Size → List Data → Option (List Rect)
rects_from size ds = if nat_le (length ds) 4096 then records (λ done. rect_of size) [] ds else None

-- those of the file
abbrev pub closed_in : Size → Data → Option (List Rect)
closed_in size d = option_and_then (rects_from size) (list_at (codes "closed") d)

-- the land of the file
abbrev pub land_in : Data → Result Land Refusal
land_in d =
    need 3 0 (size_in d) (λ size. need 3 1 (closed_in size d) (λ closed. need 3 2 (masks_in d) (λ masks.
    Ok (record { width = size.width; depth = size.depth; closed = closed; masks = masks }))))

-- The commands of a match file: of which turn and which player each is, and in which order they stand.

-- how many commands a player has in a turn
abbrev pub crowd : ℕ → ℕ → List Timed → ℕ
crowd turn player done = count_by (is_given turn player) done

-- a command, where its player has fewer than 64 in its turn
abbrev pub if_room : List Timed → Timed → Option Timed
if_room done timed = if nat_lt (crowd timed.turn timed.order.player done) 64 then Some timed else None

-- a command of one of so many turns and players, beside those before it
abbrev pub timed_from : ℕ → ℕ → List Timed → Data × Data × List Data → Option Timed
timed_from turns players done p =
    next_or (natural_in 1 turns p.0) None (λ turn. next_or (natural_in 1 players p.1) None (λ player. next_or (command_of p.2) None (λ command.
    if_room done (record { turn = turn; order = record { player = player; command = command } }))))

-- a command from its list
unfoldable pub timed_of : ℕ → ℕ → List Timed → Data → Option Timed
timed_of turns players done d = option_and_then (timed_from turns players done) (option_and_then front_two (list_of d))

-- whether memory is asked for: only for a command of one of so many turns and players, by its kind
abbrev pub parts_take : ℕ → ℕ → Data × Data × List Data → Bool
parts_take turns players p = next_or (natural_in 1 turns p.0) false (λ turn. next_or (natural_in 1 players p.1) false (λ player. command_takes p.2))

-- the same from its list
unfoldable pub timed_takes : ℕ → ℕ → Data → Bool
timed_takes turns players d = next_or (option_and_then front_two (list_of d)) false (parts_take turns players)

-- the commands, or the first that is none
abbrev pub timeds_from : ℕ → ℕ → List Data → Result (List Timed) Refusal
timeds_from turns players ds = coded 9 (numbered (timed_of turns players) [] ds)

-- the place, counted from `i`, of the first command whose turn is less than that of the one before it
abbrev pub falls_at : ℕ → ℕ → List Timed → Option ℕ
falls_at before i [] = None
falls_at before i (timed ∷ rest) = if nat_lt timed.turn before then Some i else falls_at timed.turn (i + 1) rest

-- the commands, where no turn falls
abbrev pub in_order : List Timed → Result (List Timed) Refusal
in_order commands = unless_at 10 (falls_at 0 0 commands) (Ok commands)

-- The templates of a match file: each source with all that it inherits, read as a template.

-- at most 256 sources, of which no two have the same name
abbrev pub few_sources : List Origin → Option (List Origin)
few_sources origins = if nat_le (length origins) 256 && are_distinct (names_in origins) then Some origins else None

-- the first template whose parent is not there
abbrev pub orphan_in : List Origin → Option ℕ
orphan_in origins = position (is_orphan (names_in origins)) origins

-- the first template whose chain of parents is endless
abbrev pub endless_in : List (Option ℕ) → Option ℕ
endless_in parents = position (λ number. is_endless (members parents number)) (numbers parents)

-- the trees with all that they inherit, where none has a refused operation
abbrev pub roots_there : List Laying → Result (List Node) Refusal
roots_there trees = unless_at 6 (position is_missing trees) (Ok (filter_map root_there trees))

-- codes 4 to 6: the resolved trees, or the first template that has none
abbrev pub roots_of : List Origin → Result (List Node) Refusal
roots_of origins =
    unless_at 4 (orphan_in origins)
    (unless_at 5 (endless_in (parents_in origins)) (roots_there (layings (parents_in origins) (roots_in origins))))

-- the template of this number: of the source of that number, whose resolved tree stands at the same place
unfoldable pub template_at : List (List ℕ) → List Node → ℕ → Origin → Option Template
template_at names roots number origin = option_and_then (λ root. result_ok (template_in origin.name root names)) (slice_get roots number)

-- the same, once all templates before it are read
abbrev pub next_template : List (List ℕ) → List Node → List Template → Origin → Option Template
next_template names roots done origin = template_at names roots (length done) origin

-- the templates, or the first that is refused
abbrev pub templates_from : List Origin → List Node → Result (List Template) Refusal
templates_from origins roots = coded 7 (numbered (next_template (names_in origins) roots) [] origins)

-- What the index of a refusal says of a list, for each list of a match file.

abbrev pub SourceIndexIsLeast : Type 0
SourceIndexIsLeast = (ds : List Data) (i : ℕ) → numbered (λ done. source_of) [] ds ≡ Err i → IsLeast (λ done. source_of) [] ds i

abbrev pub TemplateIndexIsLeast : Type 0
TemplateIndexIsLeast = (names : List (List ℕ)) (roots : List Node) (origins : List Origin) (i : ℕ)
    → numbered (next_template names roots) [] origins ≡ Err i → IsLeast (next_template names roots) [] origins i

abbrev pub EntityIndexIsLeast : Type 0
EntityIndexIsLeast = (names : List (List ℕ)) (land : Land) (players : ℕ) (ds : List Data) (i : ℕ)
    → numbered (λ done. first_of names land players) [] ds ≡ Err i → IsLeast (λ done. first_of names land players) [] ds i

abbrev pub CommandIndexIsLeast : Type 0
CommandIndexIsLeast = (turns players : ℕ) (ds : List Data) (i : ℕ)
    → numbered (timed_of turns players) [] ds ≡ Err i → IsLeast (timed_of turns players) [] ds i

abbrev pub turns_of : List Timed → List ℕ
turns_of commands = map (λ (timed : Timed). timed.turn) commands

-- the turn at a place is less than the one before it, which is `before` for the first
abbrev pub falls : ℕ → List ℕ → ℕ → Bool
falls before [] i = false
falls before (turn ∷ turns) zero = nat_lt turn before
falls before (turn ∷ turns) (suc i) = falls turn turns i

-- a turn falls at this place, and none does at a lesser one
pub record IsLeastFall (turns : List ℕ) (i : ℕ) : Type 0 where
  pub here : falls 0 turns i ≡ true
  pub none_before : (j : ℕ) → j < i → falls 0 turns j ≡ false

abbrev pub FallIndexIsLeast : Type 0
FallIndexIsLeast = (commands : List Timed) (i : ℕ) → falls_at 0 0 commands ≡ Some i → IsLeastFall (turns_of commands) i

-- Code 2: the file is an object with exactly the ten keys, and each value is of its kind.

-- the ten keys, by their places
abbrev pub keys : List (List ℕ)
keys =
    codes "size" ∷ codes "closed" ∷ codes "players" ∷ codes "cap" ∷ codes "delay" ∷ codes "turns" ∷ codes "seed" ∷ codes "templates"
    ∷ codes "entities" ∷ codes "commands" ∷ []

-- whether each key is there with a value of its kind, by their places
abbrev pub kinds : Data → List Bool
kinds d =
    fits (is_row_of 2) (get (codes "size") d) ∷ fits (is_table_of 4) (get (codes "closed") d) ∷ fits is_table (get (codes "players") d)
    ∷ fits is_whole (get (codes "cap") d) ∷ fits is_whole (get (codes "delay") d) ∷ fits is_whole (get (codes "turns") d)
    ∷ fits is_whole (get (codes "seed") d) ∷ fits is_list (get (codes "templates") d) ∷ fits is_list (get (codes "entities") d)
    ∷ fits is_list (get (codes "commands") d) ∷ []

-- The place of the first key that is missing or not of its kind, or 10 where there is another key. A value that is no
-- object lacks the key of place 0.
abbrev pub misplaced : Data → Option ℕ
misplaced d = position not (kinds d ++ not (other_key keys d) ∷ [])

-- all owners but Gaia
abbrev pub players_of : Land → ℕ
players_of land = length land.masks - 1

-- codes 9 and 10; that the commands are a list was seen before
abbrev pub commands_in : Land → Rules → Data → Result (List Timed) Refusal
commands_in land rules d = need 2 9 (list_at (codes "commands") d) (λ ds. after (timeds_from rules.turns (players_of land) ds) in_order)

-- codes 4 to 10
abbrev pub items_in : Land → Rules → List Origin → List Data → Data → Result Lists Refusal
items_in land rules origins entities d =
    after (roots_of origins) (λ roots. after (templates_from origins roots) (λ templates.
    after (firsts_from (names_in origins) land (players_of land) entities) (λ first.
    after (commands_in land rules d) (λ commands. Ok (record { templates = templates; first = first; commands = commands })))))

-- code 3 for the lengths of lists, and codes 4 to 10
abbrev pub lists_in : Land → Rules → List Origin → Data → Result Lists Refusal
lists_in land rules origins d = need 3 7 (few_sources origins) (λ few. need 3 8 (entities_in d) (λ entities. items_in land rules few entities d))

-- a setup from its parts
abbrev pub setup_with : List ℕ → Land → Rules → Lists → Setup
setup_with id land rules lists =
    record {
      id = id;
      land = land;
      players = players_of land;
      cap = rules.cap;
      delay = rules.delay;
      turns = rules.turns;
      seed = rules.seed;
      templates = lists.templates;
      first = lists.first;
      commands = lists.commands;
    }

-- codes 3 to 10
abbrev pub limits_in : List ℕ → List Origin → Data → Result Setup Refusal
limits_in id origins d =
    after (land_in d) (λ land. after (rules_in d) (λ rules. after (lists_in land rules origins d) (λ lists. Ok (setup_with id land rules lists))))

-- codes 2 to 10
abbrev pub setup_in : List ℕ → Data → Result Setup Refusal
setup_in id d = unless_at 2 (misplaced d) (after (sources_in d) (λ origins. limits_in id origins d))

-- the setup of the bytes of a file; its id is MD5 of them
abbrev pub setup_of : List ℕ → Result Setup Refusal
setup_of bytes = need 1 0 (value_of bytes) (setup_in (md5 bytes))

-- code 11: a match of a session has no commands of its own
abbrev pub without_commands : Setup → Result Setup Refusal
without_commands setup = if length setup.commands == 0 then Ok setup else Err (refusal 11 0)

-- the setup of the bytes of a file for a session
abbrev pub session_setup_of : List ℕ → Result Setup Refusal
session_setup_of bytes = after (setup_of bytes) without_commands
