-- Pasts as a session speaks of them, and what its server must know of a match.
use Rattle.std.specs.Prelude.{ℕ, zero, suc, Bool, true, false, ◌&&◌, List, [], ◌∷◌, nat_lt, nat_le}
use Rattle.sim_plain_session.specs.Common.{Bend, Past, PlayerCommand, Rules, Setup, Turn}

-- a server has as many clients as the match has players, and its delay and turns
abbrev pub rules_of : Setup → Rules
rules_of setup = record { clients = setup.players; delay = setup.delay; turns = setup.turns }

-- clients have the numbers of players
abbrev pub is_client : Setup → ℕ → Bool
is_client setup c = nat_lt 0 c && nat_le c setup.players

-- a past without a bend
abbrev pub is_unbent : Past → Bool
is_unbent [] = true
is_unbent (Turn orders ∷ past) = is_unbent past
is_unbent (Bend id health ∷ past) = false

-- turns 1 to n with the commands that are kept of them
abbrev pub kept_turns : (ℕ → List PlayerCommand) → ℕ → Past
kept_turns kept zero = []
kept_turns kept (suc n) = Turn (kept (suc n)) ∷ kept_turns kept n
