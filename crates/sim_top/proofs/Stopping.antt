-- How a command goes on, or ends, after each thing that it reads.
use Rattle.sim_top.{proofs.Common.TooLong, proofs.Common.◌∙◌, specs.Making.Makes, specs.declared.stop.Stop.TheVariants.NoSuchTurn}
use Rattle.sim_top.proofs.Common.{ReadFault, Saved, Setup, SightRefused, State, state_by, StateRefused, Status, Stop, Stopped, subst, sym, Then, ThenStored}
use Rattle.sim_top.proofs.Common.{file_of, IsRefused, IsState, ListRefused, LogRefused, MatchRefused, NoFile, Outcome, outcome_made, OutOfMemory, printed}
use Rattle.sim_top.proofs.Common.{◌≡◌, ℕ, List, IfSome, Some, None, Ok, Err, string_bytes, Option, Result, option_map, refl, Answer, ap, Done, EconomyRefused}

pub Stopped-weaker : (stop : Stop) (P Q : Outcome → Type 0) → ((o : Outcome) → P o → Q o) → Stopped stop P → Stopped stop Q
Stopped-weaker ReadFault P Q f h = tt
Stopped-weaker TooLong P Q f h = f _ h
Stopped-weaker NoFile P Q f h = f _ h
Stopped-weaker OutOfMemory P Q f h = tt
Stopped-weaker (MatchRefused code index) P Q f h = f _ h
Stopped-weaker (StateRefused code name) P Q f h = f _ h
Stopped-weaker (ListRefused index) P Q f h = f _ h
Stopped-weaker (NoSuchTurn asked turns) P Q f h = f _ h
Stopped-weaker (SightRefused code) P Q f h = f _ h
Stopped-weaker (LogRefused line) P Q f h = f _ h
Stopped-weaker (EconomyRefused index) P Q f h = f _ h

-- what was read, and what comes of it
pub Then-read : {X : Type 0} (r : Result X Outcome) (x : X) (next : X → Outcome → Type 0) (o : Outcome) → r ≡ Ok x → next x o → Then r next o
Then-read {X} r x next o e h = subst (λ (q : Result X Outcome). Then q next o) (sym e) h

-- a command ends where it could not read
pub Then-ended : {X : Type 0} (r : Result X Outcome) (next : X → Outcome → Type 0) (o : Outcome) → r ≡ Err o → Then r next o
Then-ended {X} r next o e = subst (λ (q : Result X Outcome). Then q next o) (sym e) refl

pub Then-weaker : {X : Type 0} (r : Result X Outcome) (P Q : X → Outcome → Type 0) → ((x : X) (o : Outcome) → P x o → Q x o) → (o : Outcome) → Then r P o
    → Then r Q o
Then-weaker (Ok x) P Q f o h = f x o h
Then-weaker (Err ended) P Q f o h = h

pub refused_ends : (setup : Setup) (name bytes : List ℕ) (next : State → Outcome → Type 0) (o : Outcome) → IsRefused setup name bytes o
    → ThenStored setup name bytes next o
refused_ends setup name bytes next o r = record { found = Err r.fault; stored = r.stored; goes_on = Then-ended (state_by name (Err r.fault)) next o r.ended }

-- the match could not be read
pub match_ends : {X : Type 0} (stop : Stop) (r : Result X Outcome) (next : X → Outcome → Type 0) → Stopped stop (λ ended. r ≡ Err ended)
    → Stopped stop (Then r next)
match_ends stop r next h = Stopped-weaker stop (λ ended. r ≡ Err ended) (Then r next) (Then-ended r next) h

-- the state of its file could not be read
pub state_ends : (stop : Stop) (setup : Setup) (name : List ℕ) (found : Result Setup Outcome) (file : Result (List ℕ) Outcome) (next : Setup → State → Outcome
    → Type 0) → found ≡ Ok setup
    → Stopped stop (Then file (IsRefused setup name)) → Stopped stop (Then found (λ s. Then file (λ bytes. ThenStored s name bytes (next s))))
state_ends stop setup name found file next e h =
    Stopped-weaker stop (Then file (IsRefused setup name)) (Then found (λ s. Then file (λ bytes. ThenStored s name bytes (next s))))
    (λ o r. Then-read found setup (λ s. Then file (λ bytes. ThenStored s name bytes (next s))) o e
    (Then-weaker file (IsRefused setup name) (λ bytes. ThenStored setup name bytes (next setup)) (λ bytes p. refused_ends setup name bytes (next setup) p) o r))
    h

-- both were read
pub state_goes_on : (setup : Setup) (name : List ℕ) (state : State) (found : Result Setup Outcome) (file : Result (List ℕ) Outcome)
    (next : Setup → State → Outcome → Type 0) (o : Outcome) → found ≡ Ok setup
    → IsState setup file state → next setup state o → Then found (λ s. Then file (λ bytes. ThenStored s name bytes (next s))) o
state_goes_on setup name state found file next o e s h =
    Then-read found setup (λ s. Then file (λ bytes. ThenStored s name bytes (next s))) o e
    (Then-read file s.bytes (λ bytes. ThenStored setup name bytes (next setup)) o s.read (record { found = Ok state; stored = s.stored; goes_on = h }))

-- the state of a file was read, or it could not be
pub file_goes_on : (setup : Setup) (name : List ℕ) (state : State) (file : Result (List ℕ) Outcome) (next : State → Outcome → Type 0) (o : Outcome)
    → IsState setup file state → next state o
    → Then file (λ bytes. ThenStored setup name bytes next) o
file_goes_on setup name state file next o s h = Then-read file s.bytes (λ bytes. ThenStored setup name bytes next) o s.read
    (record { found = Ok state; stored = s.stored; goes_on = h })

pub file_ends : (stop : Stop) (setup : Setup) (name : List ℕ) (file : Result (List ℕ) Outcome) (next : State → Outcome → Type 0)
    → Stopped stop (Then file (IsRefused setup name))
    → Stopped stop (Then file (λ bytes. ThenStored setup name bytes next))
file_ends stop setup name file next h =
    Stopped-weaker stop (Then file (IsRefused setup name)) (Then file (λ bytes. ThenStored setup name bytes next))
    (λ o r. Then-weaker file (IsRefused setup name) (λ bytes. ThenStored setup name bytes next) (λ bytes p. refused_ends setup name bytes next p) o r) h

-- what a later part of a command makes is what the whole command makes
pub Makes-weaker : (made : Result Answer Stop) (P Q : Outcome → Type 0) → ((o : Outcome) → P o → Q o) → Makes made P → Makes made Q
Makes-weaker (Ok answer) P Q f h = f (outcome_made answer) h
Makes-weaker (Err stop) P Q f h = Stopped-weaker stop P Q f h

-- ---- where the shelf tells its files

pub Told : {X : Type 0} (P Q : X → Type 0) (held : Option X) → ((x : X) → P x → Q x) → IfSome held P → IfSome held Q
Told P Q None f h = tt
Told P Q (Some x) f h = f x h

pub Told-both : {X : Type 0} (P Q R : X → Type 0) (held : Option X) → ((x : X) → P x → Q x → R x) → IfSome held P → IfSome held Q → IfSome held R
Told-both P Q R None f h k = tt
Told-both P Q R (Some x) f h k = f x h k

pub Told-all : {X : Type 0} (P Q R S : X → Type 0) (held : Option X) → ((x : X) → P x → Q x → R x → S x) → IfSome held P → IfSome held Q → IfSome held R
    → IfSome held S
Told-all P Q R S None f h k l = tt
Told-all P Q R S (Some x) f h k l = f x h k l

-- ---- what is made

-- a text alone
pub printed_is : (made : Answer) (text : List ℕ) → made.status ≡ Done → string_bytes made.text ≡ text → made.saved ≡ None
    → outcome_made made ≡ printed Done text
printed_is made text status is saved =
    ap (λ (s : Status). record { status = s; text = string_bytes made.text; saved = option_map file_of made.saved }) status
    ∙ ap (λ (t : List ℕ). record { status = Done; text = t; saved = option_map file_of made.saved }) is
    ∙ ap (λ (f : Option Saved). record { status = Done; text = text; saved = option_map file_of f }) saved
