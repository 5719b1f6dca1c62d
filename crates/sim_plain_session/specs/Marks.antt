-- What a report shows of its client, by the turn.
use Rattle.sim_plain_session.specs.{Clients.{bent_seat, digest_of, mark_of, Seat, state_of}, Common.{is_full_turn, quick, Setup, turns_in}}
use Rattle.std.specs.Prelude.{false, true, ℕ, ℤ, ◌≡◌}

-- at a full turn it shows the whole digest
abbrev pub FullIsDigest : Type 0
FullIsDigest = (setup : Setup) (seat : Seat) → is_full_turn (turns_in seat.past) ≡ true → mark_of setup seat ≡ digest_of setup seat

-- at any other it shows the clock and the places
abbrev pub OthersAreQuick : Type 0
OthersAreQuick = (setup : Setup) (seat : Seat) → is_full_turn (turns_in seat.past) ≡ false → mark_of setup seat ≡ quick (state_of setup seat)

-- so a bend is in no report of its turn, unless that turn is full
abbrev pub BendsAreHidden : Type 0
BendsAreHidden =
    (setup : Setup) (seat : Seat) (id : ℕ) (health : ℤ) → is_full_turn (turns_in seat.past) ≡ false
    → mark_of setup (bent_seat id health seat) ≡ mark_of setup seat
