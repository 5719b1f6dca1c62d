-- The territories of a state, as text.
use Rattle.sim_play.specs.Common.{AreRooted, holders_in, holding_line, map_line, md5, range_with_len, RealmOf}
use Rattle.std.specs.{List.flat_map, Prelude.{Bool, count_by, List, zip, ℕ, ◌&&◌, ◌++◌, ◌==◌, ◌≡◌}}

-- how many cells a player holds
abbrev pub held : List ℕ → ℕ → ℕ
held holders player = count_by (λ holder. holder == player) holders

-- how many of the cells that he holds are rooted
abbrev pub held_rooted : List ℕ → List Bool → ℕ → ℕ
held_rooted holders rooted player = count_by (λ (cell : ℕ × Bool). cell.0 == player && cell.1) (zip holders rooted)

-- the line of a player
abbrev pub player_line : List ℕ → List Bool → ℕ → List ℕ
player_line holders rooted player = holding_line player (held holders player) (held_rooted holders rooted player)

-- a line for each player, and one for all holders
abbrev pub realm_lines : ℕ → List ℕ → List Bool → List ℕ
realm_lines players holders rooted = flat_map (player_line holders rooted) (range_with_len 1 players) ++ map_line (md5 holders)

-- a text tells a realm: who holds each cell, and which cells are joined to a root of their holder
pub record TellsRealm (realm : RealmOf) (text : List ℕ) : Type 0 where
  pub rooted : List Bool
  pub are : AreRooted realm.setup realm.marks rooted
  pub lines : text ≡ realm_lines realm.setup.players (holders_in realm) rooted
