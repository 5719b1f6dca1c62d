-- What bytes that are handed in stand for: a match, a state of it, or two.
use Rattle.{sim_base.specs.declared.setup.Setup.Setup, sim_base.specs.declared.state.State.State, sim_codec.specs.Loading.StandsFor}
use Rattle.{sim_setup.specs.Setups.setup_of, std.specs.Prelude.List, std.specs.Prelude.Ok, std.specs.Prelude.ℕ, std.specs.Prelude.◌≡◌}

-- bytes are a match of which this holds
abbrev pub OfMatch : List ℕ → (Setup → Type 0) → Type 0
OfMatch game holds = (setup : Setup) × (setup_of game ≡ Ok setup) × holds setup

-- bytes are a match, others stand for a state of it, and this holds of both
abbrev pub OfState : List ℕ → List ℕ → (Setup → State → Type 0) → Type 0
OfState game bytes holds = OfMatch game (λ setup. (state : State) × StandsFor setup bytes state × holds setup state)

-- bytes are a match, others stand for two states of it, and this holds of the two
abbrev pub OfStates : List ℕ → List ℕ → List ℕ → (State → State → Type 0) → Type 0
OfStates game left right holds = OfState game left (λ setup state. (other : State) × StandsFor setup right other × holds state other)
