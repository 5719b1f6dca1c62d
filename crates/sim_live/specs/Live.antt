-- A session as a talk: what is answered to a line after the steps that were made, and what a whole talk is.
use Rattle.{sim_json.specs.{Commands.next_or, Values.value_of}, sim_lists.specs.StepLists.{IsStep, step_of}}
use Rattle.{sim_live.specs.declared.line.Line.{Line, TheVariants.{Look, Other, Step}}, sim_plain_session.specs.Sessions.{events, session, start_events}}
use Rattle.sim_session.specs.{Laws.{ending_lines, lines_of}, Standing.{Seen, StandsFor}}
use Rattle.sim_talk.specs.{declared.fault.TalkFault.TalkFault, Dialogues.{after_lines, AnswersLines, Converses}, Marks.{ok_line, refused_line}, Talks.History}
use Rattle.std.specs.Prelude.{Err, length, List, None, Ok, Option, Result, Some, ℕ, ⊤, [], ◌++◌, ◌+◌, ◌∷◌}
use Rattle.sim_live.specs.{Looks.IsLook, Looks.look_of, Shown.look_text, declared.look.Look.Look as AnyLook}
use Rattle.{serde_json.specs.Data.Data, sim_base.specs.declared.setup.Setup.Setup, sim_base.specs.declared.step.Step.Step as AnyStep}

-- What a line of a talk asks for.

-- a look, or nothing
abbrev pub looked : Option AnyLook → Line
looked None = Other
looked (Some look) = Look look

-- a step, or else a look
abbrev pub line_in : ℕ → Data → Line
line_in players d = next_or (step_of players d) (looked (look_of players d)) Step

-- a line is the value of its text
abbrev pub line_of : ℕ → List ℕ → Line
line_of players line = next_or (value_of line) Other (line_in players)

-- a step or a look of one of so many players
abbrev pub IsLine : ℕ → Line → Type 0
IsLine players (Step step) = IsStep players step
IsLine players (Look look) = IsLook players look
IsLine players Other = Unit {0}

-- to a step the lines of its events, to a look what it shows, and to anything else that it is refused, with the number of the step that
-- was made, or that would have been
abbrev pub answer_to : Setup → ℕ → List AnyStep → Line → List ℕ
answer_to setup clients steps (Step x) = lines_of (events setup (session setup clients steps) x) ++ ok_line (length steps + 1)
answer_to setup clients steps (Look look) = look_text setup (session setup clients steps) look ++ ok_line (length steps)
answer_to setup clients steps Other = refused_line (length steps + 1)

-- the steps with that of a line, if it is one
abbrev pub steps_with : List AnyStep → Line → List AnyStep
steps_with steps (Step x) = steps ++ x ∷ []
steps_with steps (Look look) = steps
steps_with steps Other = steps

-- the same of the bytes of a line
abbrev pub answer : Setup → ℕ → List AnyStep → List ℕ → List ℕ
answer setup clients steps line = answer_to setup clients steps (line_of setup.players line)

abbrev pub next : Setup → List AnyStep → List ℕ → List AnyStep
next setup steps line = steps_with steps (line_of setup.players line)

-- who is on in the beginning
abbrev pub first_text : Setup → ℕ → List ℕ
first_text setup clients = lines_of (start_events setup clients)

-- what the session has come to
abbrev pub last_text : Setup → ℕ → List AnyStep → List ℕ
last_text setup clients steps = ending_lines setup (session setup clients steps)

-- a talk over a session of a match that begins with so many clients
abbrev pub Lives : Result ⊤ TalkFault → Setup → ℕ → History → History → Type 0
Lives result setup clients old new = Converses result (answer setup clients) (next setup) (last_text setup clients) [] (first_text setup clients) old new

-- What the parts of a talk over a session come to.

-- where all lines were answered, the session stands for that over their steps
abbrev pub StandsAfter : Result ⊤ TalkFault → Setup → ℕ → Seen → List (List ℕ) → Type 0
StandsAfter (Ok done) setup clients seen lines = StandsFor setup seen (session setup clients (after_lines (next setup) [] lines))
StandsAfter (Err fault) setup clients seen lines = Unit {0}

-- some lines were answered, and the session stands for that over their steps; or it stopped, with at most one line more
abbrev pub AnswersAll : Result ⊤ TalkFault → Setup → ℕ → Seen → History → History → Type 0
AnswersAll result setup clients seen old new =
    (lines : List (List ℕ)) × StandsAfter result setup clients seen lines × AnswersLines result (answer setup clients) (next setup) [] lines old new
