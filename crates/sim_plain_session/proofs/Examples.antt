-- Sessions, computed step by step.
use Rattle.sim_base.specs.declared.step.Event.TheVariants as event
use Rattle.sim_base.specs.declared.step.Step.TheVariants as step
use Rattle.sim_plain.specs.declared.message.DownOf.TheVariants as down
use Rattle.sim_plain.specs.declared.message.UpOf.TheVariants as up
use Rattle.sim_plain_session.proofs.Common.{[], ap, Off, On, pos, Row, Stop, suc, sym, true, Turn, Walk, zero, ℤ, ◌*◌, ◌++◌, ◌+◌, ◌==◌, ◌∙◌, ◌∷◌, ◌≡◌}
use Rattle.sim_plain_session.proofs.Common.{after, bent, Bool, false, first, List, md5, no_id, order, Past, Phase, Point, quick, refl, Setup, Some, State, Step}
use Rattle.sim_plain_session.proofs.Common.{after_counts_turns, BendsAreHidden, if◌then◌else◌, OthersAreQuick, PlayerCommand, position_bytes, session_events, ℕ}
use Rattle.sim_plain_session.proofs.Common.{bent_seat, clock_bytes, cond-false, cond-true, digest_of, FullIsDigest, is_full_turn, map, position_part, rows_with}
use Rattle.sim_plain_session.proofs.Common.{digest, events, Joining, length, may_bend, Resign, row_of, section, session, setup_of, state_of, walker, with_row}

-- the point half a metre behind these metres
abbrev pub half : ℕ → ℕ → Point
half x z = record { x = pos (x * 65536 + 32768); z = pos (z * 65536 + 32768) }

-- the digest after a past
abbrev shown : Setup → Past → List ℕ
shown setup past = digest setup (after setup past)

-- what a report carries at a turn that is not full
abbrev reported : Setup → Past → List ℕ
reported setup past = quick (after setup past)

-- the past of a client
abbrev past_of : Phase → Past
past_of Off = []
past_of Joining = []
past_of (On seat) = seat.past

-- the commands of a turn that a client knows
abbrev known_of : Phase → ℕ → List PlayerCommand
known_of Off t = []
known_of Joining t = []
known_of (On seat) t = seat.known t

-- ---- two clients order and play a turn each

abbrev pub two : Setup
two = record (setup_of no_id 16 (0 ∷ 0 ∷ 0 ∷ []) 2 0 (walker ∷ []) (first 0 1 (half 2 2) ∷ first 0 2 (half 2 8) ∷ [])) { delay = 2; turns = 5 }

abbrev walks : PlayerCommand
walks = order 1 (Walk (2 ∷ []) (half 6 2))

abbrev stops : PlayerCommand
stops = order 2 (Stop (3 ∷ []))

abbrev ordering : List Step
ordering = step.Order 1 walks.command ∷ step.Up 1 ∷ step.Order 2 stops.command ∷ step.Up 2 ∷ step.Play 1 ∷ step.Play 2 ∷ []

ordering_events : session_events two 2 ordering
    ≡ event.Start 1 (shown two []) ∷ event.Start 2 (shown two []) ∷ event.Order 1 3 ∷ event.Order 2 3
    ∷ event.Play 1 1 (shown two (Turn [] ∷ [])) ∷ event.Play 2 1 (shown two (Turn [] ∷ [])) ∷ []
ordering_events = refl

ordering_released : (session two 2 ordering).server.released ≡ 2
ordering_released = refl

ordering_kept : (session two 2 ordering).server.kept 3 ≡ walks ∷ stops ∷ []
ordering_kept = refl

ordering_end : past_of ((session two 2 ordering).client 2) ≡ Turn [] ∷ []
ordering_end = refl

ordering_ups : (session two 2 ordering).ups 1 ≡ up.Report 1 (reported two (Turn [] ∷ [])) ∷ up.Done 3 ∷ []
ordering_ups = refl

ordering_downs : (session two 2 ordering).downs 1 ≡ down.Command 3 walks ∷ down.Command 3 stops ∷ []
ordering_downs = refl

-- ---- a turn that is not released is not played

unreleased_events : session_events two 2 (step.Play 1 ∷ step.Play 1 ∷ step.Play 1 ∷ [])
    ≡ event.Start 1 (shown two []) ∷ event.Start 2 (shown two [])
    ∷ event.Play 1 1 (shown two (Turn [] ∷ [])) ∷ event.Play 1 2 (shown two (Turn [] ∷ Turn [] ∷ [])) ∷ []
unreleased_events = refl

-- ---- a donor that is cut, and another one that is asked

abbrev pub three : Setup
three = record two { players = 3; land = record two.land { masks = 0 ∷ 0 ∷ 0 ∷ 0 ∷ [] } }

abbrev donors : List Step
donors = step.Join 3 ∷ step.Up 3 ∷ step.Cut 1 ∷ step.Down 2 ∷ step.Up 2 ∷ step.Down 3 ∷ []

donors_events : session_events three 2 donors
    ≡ event.Start 1 (shown three []) ∷ event.Start 2 (shown three []) ∷ event.Join 3 ∷ event.Cut 1 ∷ event.Load 3 0 (shown three []) ∷ []
donors_events = refl

donors_asked : (session three 2 (step.Join 3 ∷ step.Up 3 ∷ step.Cut 1 ∷ [])).downs 2 ≡ down.Ask 3 ∷ []
donors_asked = refl

-- ---- a donor that is cut after it has answered: its state is lost, and another one is asked

abbrev answering : List Step
answering = step.Join 3 ∷ step.Up 3 ∷ step.Down 1 ∷ step.Cut 1 ∷ step.Down 2 ∷ step.Up 2 ∷ step.Down 3 ∷ []

answering_lost : (session three 2 (step.Join 3 ∷ step.Up 3 ∷ step.Down 1 ∷ [])).ups 1 ≡ up.State 3 0 [] ∷ []
answering_lost = refl

answering_events : session_events three 2 answering
    ≡ event.Start 1 (shown three []) ∷ event.Start 2 (shown three []) ∷ event.Join 3 ∷ event.Cut 1 ∷ event.Load 3 0 (shown three []) ∷ []
answering_events = refl

-- ---- a client that is cut and loads again: the command that it knew comes once more, and it plays on

abbrev reloading : List Step
reloading =
    step.Order 1 walks.command ∷ step.Up 1 ∷ step.Down 2 ∷ step.Play 1 ∷ step.Up 1 ∷ step.Up 1 ∷ step.Play 2 ∷ step.Cut 2 ∷ step.Join 2 ∷ step.Up 2
    ∷ step.Down 1 ∷ step.Down 1 ∷ step.Down 1 ∷ step.Up 1 ∷ step.Down 2 ∷ step.Down 2 ∷ step.Down 2 ∷ step.Play 2 ∷ []

reloading_events : session_events two 2 reloading
    ≡ event.Start 1 (shown two []) ∷ event.Start 2 (shown two []) ∷ event.Order 1 3 ∷ event.Play 1 1 (shown two (Turn [] ∷ []))
    ∷ event.Play 2 1 (shown two (Turn [] ∷ [])) ∷ event.Cut 2 ∷ event.Join 2 ∷ event.Load 2 1 (shown two (Turn [] ∷ []))
    ∷ event.Play 2 2 (shown two (Turn [] ∷ Turn [] ∷ [])) ∷ []
reloading_events = refl

reloading_knows : known_of ((session two 2 reloading).client 2) 3 ≡ walks ∷ []
reloading_knows = refl

reloading_ups : (session two 2 reloading).ups 2 ≡ up.Report 2 (reported two (Turn [] ∷ Turn [] ∷ [])) ∷ up.Done 4 ∷ []
reloading_ups = refl

-- ---- nobody is left to ask

abbrev alone : List Step
alone = step.Cut 1 ∷ step.Join 2 ∷ step.Up 2 ∷ step.Down 2 ∷ []

alone_events : session_events two 1 alone ≡ event.Start 1 (shown two []) ∷ event.Cut 1 ∷ event.Join 2 ∷ event.Refused 2 4 ∷ []
alone_events = refl

alone_end : (session two 1 alone).client 2 ≡ Off
alone_end = refl

alone_pipes : (session two 1 alone).ups 2 ≡ []
alone_pipes = refl

-- ---- an order that is one too many, since a client forgets at a load how many it has given

abbrev times : ℕ → List Step → List Step
times zero steps = []
times (suc n) steps = steps ++ times n steps

abbrev crowding : List Step
crowding =
    times 64 (step.Order 1 Resign ∷ step.Up 1 ∷ []) ++ (step.Cut 1 ∷ step.Join 1 ∷ step.Up 1 ∷ []) ++ times 65 (step.Down 2 ∷ [])
    ++ (step.Up 2 ∷ []) ++ times 66 (step.Down 1 ∷ []) ++ (step.Order 1 Resign ∷ step.Up 1 ∷ [])

crowding_refused : events two (session two 2 crowding) (step.Down 1) ≡ event.Refused 1 3 ∷ []
crowding_refused = refl

crowding_kept : length ((session two 2 crowding).server.kept 3) ≡ 64
crowding_kept = refl

-- ---- a state for a wish that was cut serves the next wish, and the state for that is dropped

abbrev again : List Step
again =
    step.Join 3 ∷ step.Up 3 ∷ step.Cut 3 ∷ step.Join 3 ∷ step.Up 3 ∷ step.Down 1 ∷ step.Down 1 ∷ step.Up 1 ∷ step.Up 1 ∷ step.Down 3 ∷ []

again_events : session_events three 2 again
    ≡ event.Start 1 (shown three []) ∷ event.Start 2 (shown three []) ∷ event.Join 3 ∷ event.Cut 3 ∷ event.Join 3 ∷ event.Load 3 0 (shown three []) ∷ []
again_events = refl

again_downs : (session three 2 again).downs 3 ≡ down.Release 2 ∷ []
again_downs = refl

-- What a report shows of its client, by the turn.

pub full_is_digest : FullIsDigest
full_is_digest setup seat full =
    cond-true _ (digest_of setup seat) (quick (state_of setup seat)) (ap is_full_turn (after_counts_turns setup seat.past) ∙ full)

pub others_are_quick : OthersAreQuick
others_are_quick setup seat other =
    cond-false _ (digest_of setup seat) (quick (state_of setup seat)) (ap is_full_turn (after_counts_turns setup seat.past) ∙ other)

-- rows stand where they stood
places_stay : (id : ℕ) (health : ℤ) (rows : List Row)
    → rows_with position_part (map (λ (row : Row). if row.id == id then record row { health = Some health } else row) rows) ≡ rows_with position_part rows
places_stay id health [] = refl
places_stay id health (row ∷ rows) = by (row.id == id) (ap (λ (l : List (ℕ × Point)). (row.id, row.at) ∷ l) (places_stay id health rows))
  where
    others : List Row
    others = map (λ (row : Row). if row.id == id then record row { health = Some health } else row) rows

    by : (b : Bool) → (row.id, row.at) ∷ rows_with position_part others ≡ rows_with position_part (row ∷ rows)
        → rows_with position_part ((if b then record row { health = Some health } else row) ∷ others) ≡ rows_with position_part (row ∷ rows)
    by true same = same
    by false same = same

quick_bent : (setup : Setup) (state : State) (id : ℕ) (health : ℤ) → quick (bent setup state id health) ≡ quick state
unfolding quick
quick_bent setup state id health = by (may_bend setup health (row_of state id))
  where
    by : (b : Bool) → quick (if b then with_row id (λ (row : Row). record row { health = Some health }) state else state) ≡ quick state
    by true = ap (λ (l : List (ℕ × Point)). md5 (clock_bytes state ++ section 2 position_bytes l)) (places_stay id health state.rows)
    by false = refl

pub bends_are_hidden : BendsAreHidden
bends_are_hidden setup seat id health other =
    others_are_quick setup (bent_seat id health seat) other ∙ quick_bent setup (state_of setup seat) id health ∙ sym (others_are_quick setup seat other)
