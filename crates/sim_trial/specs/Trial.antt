-- The match of a trial as a text in JSON. Two players are each other's enemies on a ground of 128 by 128 cells, which a
-- wall with three gaps halves. The soldiers stand where the random word puts them, and walk to the middle.
use Rattle.std.specs.Prelude.{[], Bool, codes, decimal, false, filter, flat_map, if◌then◌else◌, length, List, map, nat_le, suc, true, zero, ℕ, ◌%◌, ◌&&◌, ◌*◌}
use Rattle.std.specs.{Fork.slice_chunk, Int.div_ceil, List.join_with_byte, List.range_with_len, Prelude.◌++◌, Prelude.◌+◌, Prelude.◌-◌, Prelude.◌/◌}
use Rattle.{sim_base.specs.Places.next_word, std.specs.Prelude.◌<◌, std.specs.Prelude.◌==◌, std.specs.Prelude.◌^◌, std.specs.Prelude.◌∷◌, std.specs.Prelude.◌≤◌}

-- the limits of a trial: nine digits for the seed, and so many soldiers and turns
pub record IsTrial (seed units turns : ℕ) : Type 0 where
  pub seed_fits : seed < 10 ^ 9
  pub some_units : 1 ≤ units
  pub few_units : units ≤ 1000
  pub few_turns : turns ≤ 10000

-- whether these numbers are within the limits
abbrev pub is_trial : ℕ → ℕ → ℕ → Bool
is_trial seed units turns = ((nat_le seed 999999999 && nat_le 1 units) && nat_le units 1000) && nat_le turns 10000

-- what stands between two pieces of a list
abbrev pub comma : ℕ
comma = 44

-- the ground and the players, up to the number of turns
unfoldable pub ground_text : List ℕ
ground_text =
    codes "{\"size\":[128,128],\"closed\":[[60,20,67,51],[60,76,67,107]]," ++
    codes "\"players\":[[2],[1]],\"cap\":1000,\"delay\":2,\"turns\":"

-- the one template
unfoldable pub template_text : List ℕ
template_text =
    codes "{\"@name\":\"soldier\",\"Health\":{\"Max\":100},\"Resist\":{\"Hack\":2,\"Pierce\":1},\"Motion\":{\"Speed\":9}," ++
    codes "\"Attack\":{\"Hack\":\"4.5\",\"Pierce\":2,\"Range\":3,\"Vision\":20,\"Repeat\":4,\"Accuracy\":90}}"

-- the word after so many steps
abbrev pub word_after : ℕ → ℕ → ℕ
word_after seed zero = seed
word_after seed (suc steps) = next_word (word_after seed steps)

-- whose soldier stands at a place in the list: the players take turns
abbrev pub player_of : ℕ → ℕ
player_of place = if place % 2 == 0 then 1 else 2

-- where a word puts a soldier along x: player 2 stands at the far side
abbrev pub x_of : ℕ → ℕ → ℕ
x_of player word = word / 2 ^ 17 % 48 + (if player == 2 then 80 else 0)

-- where a word puts a soldier along z
abbrev pub z_of : ℕ → ℕ
z_of word = word / 2 ^ 17 % 128

-- the soldier at a place in the list, put by the two words after this one
abbrev pub soldier_text : ℕ → ℕ → List ℕ
soldier_text place word =
    codes "[\"soldier\"," ++ (decimal (player_of place) ++
    (codes "," ++ (decimal (x_of (player_of place) (next_word word)) ++
    (codes "," ++ (decimal (z_of (next_word (next_word word))) ++ codes "]")))))

-- so many soldiers, each placed by two steps of the word
abbrev pub soldiers_text : ℕ → ℕ → List ℕ
soldiers_text seed units =
    join_with_byte comma (map (λ place. soldier_text place (word_after seed (2 * place))) (range_with_len 0 units))

-- the ids of a player's soldiers, ascending: ids begin with 2
abbrev pub ids_of : ℕ → ℕ → List ℕ
ids_of player units = filter (λ id. player_of (id - 2) == player) (range_with_len 2 units)

-- how many entities a command names at most
abbrev pub group_size : ℕ
group_size = 256

-- ids in groups, of which the last one is the rest
abbrev pub groups_of : List ℕ → List (List ℕ)
groups_of ids = map (slice_chunk ids group_size) (range_with_len 0 (div_ceil (length ids) group_size))

-- the command that sends these entities of a player to the middle, in the first turn
abbrev pub walk_text : ℕ → List ℕ → List ℕ
walk_text player ids =
    codes "[1," ++ (decimal player ++
    (codes ",\"walk\",[" ++ (join_with_byte comma (map decimal ids) ++ codes "],64,64]")))

-- the commands of a player
abbrev pub walks_of : ℕ → ℕ → List (List ℕ)
walks_of player units = map (walk_text player) (groups_of (ids_of player units))

-- the commands of both, if there is a turn to give them in
abbrev pub commands_text : ℕ → ℕ → List ℕ
commands_text units turns = if turns == 0 then [] else join_with_byte comma (walks_of 1 units ++ walks_of 2 units)

-- the ground, the rules and the templates
abbrev pub rules_text : ℕ → ℕ → List ℕ
rules_text seed turns =
    ground_text ++ (decimal turns ++ (codes ",\"seed\":" ++ (decimal seed ++
    (codes ",\"templates\":[" ++ (template_text ++ codes "]")))))

-- the whole file
abbrev pub text_of_trial : ℕ → ℕ → ℕ → List ℕ
text_of_trial seed units turns =
    rules_text seed turns ++ (codes ",\"entities\":[" ++ (soldiers_text seed units ++
    (codes "],\"commands\":[" ++ (commands_text units turns ++ codes "]}"))))

-- Pieces of a list that go to a text one by one, with a comma between each two.

-- a comma, where a piece stands before
abbrev pub comma_after : Bool → List ℕ
comma_after true = comma ∷ []
comma_after false = []

-- the pieces, behind others or as the first ones
abbrev pub joined_after : Bool → List (List ℕ) → List ℕ
joined_after true pieces = flat_map (λ piece. comma ∷ piece) pieces
joined_after false pieces = join_with_byte comma pieces
