-- Worked matches, by computation: what turns make of a few rows, and the bytes of small states. Each value is one that was worked out by
-- hand, so that a definition that says something else is refused here.
use Rattle.sim_base.{proofs.RootLemmas.root_is, specs.{Commands.{commanded, field_of}, declared.command.Command.Command}}
use Rattle.sim_base.specs.declared.{command.{Command.TheVariants.{Attack, Delete, Place, Resign, Train, Walk}, PlayerCommand.PlayerCommand}, place.Point.Point}
use Rattle.sim_base.specs.declared.{setup.{First.First, Setup.Setup}, state.{Motion.TheVariants.{Going, Still}, Row.Row, State.State}, template.Harm.Harm}
use Rattle.sim_base.specs.{declared.template.Template.Template, Places.root, Spelling.{i32_bytes, moving_bytes, spelling, u16_bytes, u32_bytes, u64_bytes}}
use Rattle.{sim_base.specs.{Turn.{aimed, first_state, gone, hit, moved, no_resist, ticked, turn}, Ways.way_of}, std.proofs.Common.{ap, false, fold, List, lit<}}
use Rattle.std.{proofs.Common.{lit≤, None, pos, refl, Some, true, ℕ, [], ◌*◌, ◌+◌, ◌∙◌, ◌∷◌, ◌≡◌}, specs.{List.range_with_len, Prelude.{codes, map}}}

-- the middle of a cell
abbrev pub mid : ℕ → ℕ → Point
mid x z = record { x = pos (x * 65536 + 32768); z = pos (z * 65536 + 32768) }

abbrev pub at_metre : ℕ → Point
at_metre n = record { x = pos (n * 65536); z = pos (n * 65536) }

abbrev pub order : ℕ → Command → PlayerCommand
order player command = record { player = player; command = command }

-- ---- templates

abbrev pub nothing : Template
nothing = record { name = codes "nothing"; health = None; resist = no_resist; speed = None; obstruct = None; arms = None; train = None }

abbrev pub post : Template
post = record nothing { name = codes "post"; health = Some (pos 3276800) }

abbrev pub walker : Template
walker = record nothing { name = codes "walker"; speed = Some (pos 655360) }

abbrev pub hut : ℕ → Template
hut n = record nothing { name = codes "hut"; obstruct = Some (record { width = n; depth = n }) }

abbrev pub barracks : Template
barracks = record (hut 2) { name = codes "barracks"; train = Some (0 ∷ []) }

abbrev pub harm : ℕ → ℕ → Harm
harm hack pierce = record { hack = pos (hack * 65536); pierce = pos (pierce * 65536); crush = pos 0 }

abbrev pub guard : Template
guard = record nothing {
  name = codes "guard";
  health = Some (pos 983040);
  resist = record no_resist { hack = 1 };
  arms = Some (record { harm = harm 20 0; range = pos 131072; vision = pos 655360; repeat = 0; accuracy = 100 });
}

abbrev pub bow : Template
bow = record nothing {
  name = codes "bow";
  health = Some (pos 655360);
  arms = Some (record { harm = harm 0 1; range = pos 0; vision = pos 0; repeat = 0; accuracy = 100 });
}

-- ---- setups

abbrev pub first : ℕ → ℕ → Point → First
first template owner p = record { template = template; owner = owner; at = p }

abbrev pub setup_of : List ℕ → ℕ → List ℕ → ℕ → ℕ → List Template → List First → Setup
setup_of id size masks players cap templates firsts =
    record {
      id = id;
      land = record { width = size; depth = size; closed = []; masks = masks };
      players = players;
      cap = cap;
      delay = 1;
      turns = 2;
      seed = 0;
      templates = templates;
      first = firsts;
      commands = [];
    }

abbrev pub no_id : List ℕ
no_id = 0 ∷ 0 ∷ 0 ∷ 0 ∷ 0 ∷ 0 ∷ 0 ∷ 0 ∷ 0 ∷ 0 ∷ 0 ∷ 0 ∷ 0 ∷ 0 ∷ 0 ∷ 0 ∷ []

abbrev pub alone : ℕ → ℕ → List Template → List First → Setup
alone size cap templates firsts = setup_of no_id size (0 ∷ 0 ∷ []) 1 cap templates firsts

abbrev pub enemies : List Template → List First → Setup
enemies templates firsts = setup_of no_id 16 (0 ∷ 4 ∷ 2 ∷ []) 2 0 templates firsts

-- ---- an empty match has 70 bytes

abbrev pub empty : Setup
empty = setup_of (227 ∷ 252 ∷ 218 ∷ 66 ∷ 18 ∷ 133 ∷ 196 ∷ 220 ∷ 129 ∷ 124 ∷ 251 ∷ 13 ∷ 248 ∷ 187 ∷ 104 ∷ 104 ∷ []) 4 (0 ∷ 0 ∷ []) 1 0 [] []

empty_bytes : spelling empty (first_state empty)
    ≡ 0x52 ∷ 0x53 ∷ 0x49 ∷ 0x4d ∷ 2 ∷ 0 ∷ 0 ∷ 0 ∷ 227 ∷ 252 ∷ 218 ∷ 66 ∷ 18 ∷ 133 ∷ 196 ∷ 220 ∷ 129 ∷ 124 ∷ 251 ∷ 13 ∷ 248 ∷ 187 ∷ 104 ∷ 104 ∷
    0 ∷ 0 ∷ 0 ∷ 0 ∷ 2 ∷ 0 ∷ 0 ∷ 0 ∷ 0 ∷ 0 ∷ 0 ∷ 0 ∷ 0 ∷ 0 ∷ 0 ∷ 0 ∷
    1 ∷ 0 ∷ 0 ∷ 0 ∷ 0 ∷ 2 ∷ 0 ∷ 0 ∷ 0 ∷ 0 ∷ 3 ∷ 0 ∷ 0 ∷ 0 ∷ 0 ∷ 4 ∷ 0 ∷ 0 ∷ 0 ∷ 0 ∷ 5 ∷ 0 ∷ 0 ∷ 0 ∷ 0 ∷ 6 ∷ 0 ∷ 0 ∷ 0 ∷ 0 ∷ 7 ∷ 0 ∷ 0 ∷ 0 ∷ 0 ∷ []
unfolding u16_bytes u32_bytes u64_bytes i32_bytes
empty_bytes = refl

-- ---- two posts, of which each player owns one; the first player deletes his own alone

abbrev pub posts : Setup
posts = setup_of (48 ∷ 69 ∷ 96 ∷ 137 ∷ 178 ∷ 57 ∷ 176 ∷ 219 ∷ 239 ∷ 97 ∷ 208 ∷ 118 ∷ 253 ∷ 238 ∷ 204 ∷ 125 ∷ []) 4 (0 ∷ 0 ∷ 0 ∷ []) 2 0 (post ∷ [])
    (first 0 1 (at_metre 1) ∷ first 0 2 (at_metre 2) ∷ [])

posts_bytes : spelling posts (turn posts (first_state posts) (order 1 (Delete (2 ∷ 3 ∷ 2 ∷ [])) ∷ []))
    ≡ 0x52 ∷ 0x53 ∷ 0x49 ∷ 0x4d ∷ 2 ∷ 0 ∷ 0 ∷ 0 ∷ 48 ∷ 69 ∷ 96 ∷ 137 ∷ 178 ∷ 57 ∷ 176 ∷ 219 ∷ 239 ∷ 97 ∷ 208 ∷ 118 ∷ 253 ∷ 238 ∷ 204 ∷ 125 ∷
    1 ∷ 0 ∷ 0 ∷ 0 ∷ 4 ∷ 0 ∷ 0 ∷ 0 ∷ 0 ∷ 0 ∷ 0 ∷ 0 ∷ 0 ∷ 0 ∷ 0 ∷ 0 ∷
    1 ∷ 1 ∷ 0 ∷ 0 ∷ 0 ∷ 3 ∷ 0 ∷ 0 ∷ 0 ∷ 0 ∷ 0 ∷
    2 ∷ 1 ∷ 0 ∷ 0 ∷ 0 ∷ 3 ∷ 0 ∷ 0 ∷ 0 ∷ 0 ∷ 0 ∷ 2 ∷ 0 ∷ 0 ∷ 0 ∷ 2 ∷ 0 ∷
    3 ∷ 1 ∷ 0 ∷ 0 ∷ 0 ∷ 3 ∷ 0 ∷ 0 ∷ 0 ∷ 2 ∷
    4 ∷ 1 ∷ 0 ∷ 0 ∷ 0 ∷ 3 ∷ 0 ∷ 0 ∷ 0 ∷ 0 ∷ 0 ∷ 0x32 ∷ 0 ∷
    5 ∷ 0 ∷ 0 ∷ 0 ∷ 0 ∷ 6 ∷ 0 ∷ 0 ∷ 0 ∷ 0 ∷ 7 ∷ 0 ∷ 0 ∷ 0 ∷ 0 ∷ []
unfolding u16_bytes u32_bytes u64_bytes i32_bytes
posts_bytes = refl

-- ---- three guards: the first hits the second, and is hit by the second and the third

abbrev pub row : ℕ → ℕ → ℕ → Point → Template → Row
row id template owner p t =
    record { id = id; template = template; at = p; owner = owner; health = t.health; motion = None; attack = None }

abbrev pub fighter : ℕ → ℕ → Point → Template → ℕ → Row
fighter id owner p t target = record (row id 0 owner p t) { attack = Some (record { target = target; cooldown = 0; hold = false }) }

abbrev pub guards : Setup
guards = enemies (guard ∷ []) (first 0 1 (mid 5 5) ∷ first 0 2 (mid 6 5) ∷ first 0 2 (mid 7 5) ∷ [])

guards_fight : turn guards (first_state guards) [] ≡ record { turn = 1; next = 5; word = 11718085204285; rows = fighter 4 2 (mid 7 5) guard 0 ∷ [] }
guards_fight = refl

-- ---- three bows: only an enemy that is alive is taken as target, and only own rows are ordered

abbrev pub bows : Setup
bows = enemies (bow ∷ []) (first 0 1 (mid 1 1) ∷ first 0 1 (mid 2 1) ∷ first 0 2 (mid 3 1) ∷ [])

bows_aim : turn bows (first_state bows) (order 1 (Attack (2 ∷ []) 3) ∷ order 1 (Attack (2 ∷ []) 99) ∷ order 1 (Attack (2 ∷ 2 ∷ 4 ∷ []) 4) ∷ [])
    ≡ record { turn = 1; next = 5; word = 0; rows = fighter 2 1 (mid 1 1) bow 4 ∷ fighter 3 1 (mid 2 1) bow 0 ∷ fighter 4 2 (mid 3 1) bow 0 ∷ [] }
bows_aim = refl

-- ---- huts: the second overlaps the first, and the last would reach past the ground

abbrev pub huts : Setup
huts = alone 16 4 (hut 2 ∷ []) []

huts_placed : turn huts (first_state huts) (order 1 (Place 0 (mid 5 5)) ∷ order 1 (Place 0 (mid 6 5)) ∷ order 1 (Place 0 (mid 7 5)) ∷
    order 1 (Place 0 (mid 0 0)) ∷ order 1 Resign ∷ [])
    ≡ record { turn = 1; next = 4; word = 0; rows = row 2 0 0 (mid 5 5) (hut 2) ∷ row 3 0 0 (mid 7 5) (hut 2) ∷ [] }
huts_placed = refl

-- ---- barracks train a walker beside themselves, where the cap lets them

abbrev pub trained_by : ℕ → State
trained_by cap =
    let setup = alone 16 cap (walker ∷ barracks ∷ []) (first 1 1 (mid 5 5) ∷ []) in
    turn setup (first_state setup) (order 1 (Train 2 0) ∷ [])

abbrev pub still : ℕ → Point → Row
still id p = record (row id 0 1 p walker) { motion = Some Still }

barracks_train : trained_by 2 ≡ record { turn = 1; next = 4; word = 0; rows = row 2 1 1 (mid 5 5) barracks ∷ still 3 (mid 6 5) ∷ [] }
barracks_train = refl

barracks_full : trained_by 1 ≡ record { turn = 1; next = 3; word = 0; rows = row 2 1 1 (mid 5 5) barracks ∷ [] }
barracks_full = refl

-- with as many rows as a state may have none is made, however few of them are the player's
abbrev crowded : State
crowded = record {
  turn = 0;
  next = 4098;
  word = 0;
  rows = row 2 1 1 (mid 5 5) barracks ∷ map (λ id. record (still id (mid 1 1)) { owner = 0 }) (range_with_len 3 4095);
}

barracks_crowded : commanded (alone 16 4096 (walker ∷ barracks ∷ []) []) crowded (order 1 (Train 2 0)) ≡ crowded
barracks_crowded = refl

-- Worked matches with a walker, by computation. The root stays closed, and is given by its square and the next one.

-- two neighbouring cells are a metre apart
metre : root 4294967296 ≡ 65536
metre = root_is 4294967296 65536 (record { within = lit≤ tt; above = lit< tt })

abbrev walking : Setup
walking = alone 8 0 (walker ∷ []) (first 0 1 (mid 2 2) ∷ [])

abbrev going : Point → Point → List Point → Row
going p goal way = record (still 2 p) { motion = Some (Going goal way true) }

abbrev after_one : State
after_one = record { turn = 1; next = 3; word = 0; rows = going (mid 4 2) (mid 6 2) (mid 5 2 ∷ mid 6 2 ∷ []) ∷ [] }

-- the state in which the walker asks its way
abbrev asking : State
asking = record { turn = 0; next = 3; word = 0; rows = record (still 2 (mid 2 2)) { motion = Some (Going (mid 6 2) [] false) } ∷ [] }

straight : way_of (field_of walking asking) (mid 2 2) (mid 6 2) ≡ record { points = mid 3 2 ∷ mid 4 2 ∷ mid 5 2 ∷ mid 6 2 ∷ []; whole = true }
unfolding way_of
straight = refl

walk_one : turn walking (first_state walking) (order 1 (Walk (2 ∷ []) (mid 6 2)) ∷ []) ≡ after_one
walk_one = simp (straight, metre)

-- the bytes of its motion between the two turns
way_bytes : moving_bytes (2, Going (mid 6 2) (mid 5 2 ∷ mid 6 2 ∷ []) true)
    ≡ 2 ∷ 0 ∷ 0 ∷ 0 ∷ 1 ∷ 0 ∷ 0x80 ∷ 6 ∷ 0 ∷ 0 ∷ 0x80 ∷ 2 ∷ 0 ∷ 1 ∷ 2 ∷ 0 ∷ 0x80 ∷ 5 ∷ 0 ∷ 0 ∷ 0x80 ∷ 2 ∷ 0 ∷ 0 ∷ 0x80 ∷ 6 ∷ 0 ∷ 0 ∷ 0x80 ∷ 2 ∷ 0 ∷ []
unfolding u32_bytes i32_bytes
way_bytes = refl

walk_two : turn walking after_one [] ≡ record { turn = 2; next = 3; word = 0; rows = still 2 (mid 6 2) ∷ [] }
walk_two = simp metre

-- ---- a walker under a hut of two by two cells walks out of it; under one of three by three it is stuck

abbrev hidden : ℕ → Setup
hidden n = alone 16 4 (walker ∷ hut n ∷ []) (first 0 1 (mid 5 5) ∷ [])

abbrev leaving : ℕ → State
leaving n = record {
  turn = 0;
  next = 4;
  word = 0;
  rows = record (still 2 (mid 5 5)) { motion = Some (Going (mid 9 5) [] false) } ∷ row 3 1 1 (mid 5 5) (hut n) ∷ [];
}

way_out : way_of (field_of (hidden 2) (leaving 2)) (mid 5 5) (mid 9 5) ≡ record { points = mid 6 5 ∷ mid 7 5 ∷ mid 8 5 ∷ mid 9 5 ∷ []; whole = true }
unfolding way_of
way_out = refl

no_way_out : way_of (field_of (hidden 3) (leaving 3)) (mid 5 5) (mid 9 5) ≡ record { points = []; whole = true }
unfolding way_of
no_way_out = refl

abbrev hut_and_walk : List PlayerCommand
hut_and_walk = order 1 (Place 1 (mid 5 5)) ∷ order 1 (Walk (2 ∷ []) (mid 9 5)) ∷ []

abbrev half_out : State
half_out = record { turn = 1; next = 4; word = 0; rows = going (mid 7 5) (mid 9 5) (mid 8 5 ∷ mid 9 5 ∷ []) ∷ row 3 1 1 (mid 5 5) (hut 2) ∷ [] }

obeyed : fold (commanded (hidden 2)) (first_state (hidden 2)) hut_and_walk ≡ leaving 2
obeyed = refl

left : moved (hidden 2) (leaving 2) ≡ record half_out { turn = 0 }
left = simp (way_out, metre)

walk_out : turn (hidden 2) (first_state (hidden 2)) hut_and_walk ≡ half_out
walk_out =
    ap (λ (s : State). ticked (gone (hit (hidden 2) (moved (hidden 2) (aimed (hidden 2) s))))) obeyed
    ∙ ap (λ (s : State). ticked (gone (hit (hidden 2) s))) left

walked_out : turn (hidden 2) half_out [] ≡ record { turn = 2; next = 4; word = 0; rows = still 2 (mid 9 5) ∷ row 3 1 1 (mid 5 5) (hut 2) ∷ [] }
walked_out = simp metre

stuck : turn (hidden 3) (first_state (hidden 3)) hut_and_walk ≡
    record { turn = 1; next = 4; word = 0; rows = still 2 (mid 5 5) ∷ row 3 1 1 (mid 5 5) (hut 3) ∷ [] }
stuck = simp no_way_out
