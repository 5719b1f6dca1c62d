-- What the laws of states say.
use Rattle.sim_base.specs.{Limits.IsLooselyValid, Limits.IsSetup, Limits.IsValid, Turn.first_state, declared.setup.Setup.Setup, declared.state.State.State}

-- what is valid between two turns is valid inside a turn
abbrev pub ValidIsLooselyValid : Type 0
ValidIsLooselyValid = (setup : Setup) (state : State) → IsValid setup state → IsLooselyValid setup state

-- a match within the limits begins with a valid state
abbrev pub FirstStateIsValid : Type 0
FirstStateIsValid = (setup : Setup) → IsSetup setup → IsValid setup (first_state setup)
