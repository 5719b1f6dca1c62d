-- What each client of a session has come to.
use Rattle.sim_session.specs.declared.ending.End.TheVariants as ends
use Rattle.sim_base.specs.{declared.setup.Setup.Setup, Turn.turns_in}
use Rattle.sim_plain_session.specs.{Clients.{digest_of, Joining, Off, On, Phase}, Sessions.{downs_of, Session, ups_of}}
use Rattle.{sim_report.specs.Lines.{spaced_number, turn_line}, sim_session.specs.declared.ending.End.End, sim_wire.specs.Reading.{down_frame, up_frame}}
use Rattle.std.specs.Prelude.{codes, decimal, flat_map, length, List, map, suc, zero, ℕ, [], ◌++◌}

-- what is told of each of 1 to n, in their order
abbrev pub told_of : (ℕ → List ℕ) → ℕ → List ℕ
told_of tell zero = []
told_of tell (suc n) = told_of tell n ++ tell (suc n)

-- a word and the number of a client, before what is told of it
abbrev pub of_client : List ℕ → ℕ → List ℕ
of_client word client = word ++ (codes " " ++ (decimal client ++ codes " "))

-- what it is, and if it is on its turn and the digest of its state
abbrev pub end_text : End → List ℕ
end_text ends.Off = codes "off\n"
end_text ends.Joining = codes "joining\n"
end_text (ends.On turn digest) = turn_line (codes "on") turn digest

-- a client and what it is in the end
abbrev pub end_line : ℕ → End → List ℕ
end_line client end = of_client (codes "end") client ++ end_text end

-- what a client is in the end
abbrev pub end_of : Setup → Phase → End
end_of setup Off = ends.Off
end_of setup Joining = ends.Joining
end_of setup (On seat) = ends.On (turns_in seat.past) (digest_of setup seat)

-- what each client of the match is in the end
abbrev pub end_lines : Setup → Session → List ℕ
end_lines setup s = told_of (λ c. end_line c (end_of setup (s.client c))) setup.players

-- What still lies in the pipes of a session.

-- how long each frame is, the first to be heard first
abbrev pub lengths_text : List (List ℕ) → List ℕ
lengths_text frames = flat_map (λ (frame : List ℕ). spaced_number (length frame)) frames

-- a pipe of a client by its word, and the frames in it
abbrev pub pipe_line : ℕ → List ℕ → List (List ℕ) → List ℕ
pipe_line c word frames = of_client (codes "pipe") c ++ (word ++ (lengths_text frames ++ codes "\n"))

-- the frames of what a client has said and the server is still to hear
abbrev pub up_frames : Setup → Session → ℕ → List (List ℕ)
up_frames setup s c = map up_frame (ups_of setup s c)

-- the frames of what the server has said and the client is still to hear
abbrev pub down_frames : Setup → Session → ℕ → List (List ℕ)
down_frames setup s c = map down_frame (downs_of setup s c)

-- both pipes of a client
abbrev pub pipes_of : Setup → Session → ℕ → List ℕ
pipes_of setup s c = pipe_line c (codes "up") (up_frames setup s c) ++ pipe_line c (codes "down") (down_frames setup s c)

-- those of each client of the match
abbrev pub pipe_lines : Setup → Session → List ℕ
pipe_lines setup s = told_of (pipes_of setup s) setup.players
