-- What bytes stand for, and what they are refused for.
use Rattle.sim_codec.specs.declared.fault.StateFault.TheVariants as faults
use Rattle.sim_codec.specs.Common.{clock_bytes, head_bytes, is_holding, IsValid, number_of, old_spelling, One, Row, rows_with, section, Setup, six_sections}
use Rattle.sim_codec.specs.{Common.{spelling, stance_bytes, stance_part, State, Two, u32_bytes, Version}, declared.fault.StateFault.StateFault}
use Rattle.std.specs.Prelude.{All, codes, drop, Err, false, IfErr, IfOk, IfSome, if◌then◌else◌, is_some, length, List, nat_lt, None, not, Ok, Option, Result}
use Rattle.std.specs.{Prelude.{Some, take, ℕ, [], ◌++◌, ◌≡◌, ◌≢◌, ◌⊎◌}, Str.bytes_eq}

-- The bytes of a state by each version of the layout.

-- the magic and the number of the version
abbrev pub start_bytes : Version → List ℕ
start_bytes version = codes "RSIM" ++ u32_bytes (number_of version)

-- the section of stances, which version 1 does not have
abbrev pub stances : Version → List Row → List ℕ
stances One rows = []
stances Two rows = section 7 stance_bytes (rows_with stance_part rows)

-- all sections of a version
abbrev pub sections_by : Version → List Row → List ℕ
sections_by version rows = six_sections rows (stances version rows)

-- the bytes of a state by a version
abbrev pub spelled_by : Version → Setup → State → List ℕ
spelled_by version setup state = head_bytes (number_of version) setup (clock_bytes state ++ sections_by version state.rows)

-- no row holds its place
abbrev pub HoldsNone : List Row → Type 0
HoldsNone = All (λ row. is_holding row ≡ false)

-- a version can say all of these rows; version 1 cannot say that one holds its place
abbrev pub CanSay : Version → List Row → Type 0
CanSay One rows = HoldsNone rows
CanSay Two rows = Unit {0}

-- the version whose magic and number these are
abbrev pub version_of : List ℕ → Option Version
version_of start = if bytes_eq start (start_bytes Two) then Some Two else if bytes_eq start (start_bytes One) then Some One else None

-- what the first 24 bytes are refused for
unfoldable pub head_fault : Setup → List ℕ → Option StateFault
head_fault setup bytes =
    if nat_lt (length bytes) 24 then Some faults.NotState
    else if not (is_some (version_of (take 8 bytes))) then Some faults.NotState
    else if not (bytes_eq (take 16 (drop 8 bytes)) setup.id) then Some faults.OtherMatch
    else None

-- bytes stand for a state that is valid and has this spelling, or by version 1, where no row holds its place
pub record StandsFor (setup : Setup) (bytes : List ℕ) (state : State) : Type 0 where
  pub valid : IsValid setup state
  pub spelled : (bytes ≡ spelling setup state) ⊎ (HoldsNone state.rows × (bytes ≡ old_spelling setup state))

-- bytes stand for some state
abbrev pub Stands : Setup → List ℕ → Type 0
Stands setup bytes = (state : State) × StandsFor setup bytes state

-- a load gives this state, or memory was refused
abbrev pub Loads : State → Result State StateFault → Type 0
Loads state (Ok loaded) = loaded ≡ state
Loads state (Err faults.NotState) = ⊥
Loads state (Err faults.OtherMatch) = ⊥
Loads state (Err faults.Grammar) = ⊥
Loads state (Err faults.OutOfMemory) = Unit {0}

-- each cause is the first that applies
abbrev pub RefusedFor : Setup → List ℕ → StateFault → Type 0
RefusedFor setup bytes faults.NotState = head_fault setup bytes ≡ Some faults.NotState
RefusedFor setup bytes faults.OtherMatch = head_fault setup bytes ≡ Some faults.OtherMatch
RefusedFor setup bytes faults.Grammar = (head_fault setup bytes ≡ None) × ((state : State) → StandsFor setup bytes state → ⊥)
RefusedFor setup bytes faults.OutOfMemory = Unit {0}

-- the state for which the bytes stand, or what they are refused for, said without memory
pub record Judges (setup : Setup) (bytes : List ℕ) (result : Result State StateFault) : Type 0 where
  pub head : IfSome (head_fault setup bytes) (λ fault. result ≡ Err fault)
  pub ok : IfOk result (StandsFor setup bytes)
  pub err : IfErr result (RefusedFor setup bytes)
  pub no_memory : result ≢ Err faults.OutOfMemory
