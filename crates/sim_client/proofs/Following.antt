-- A client that has a state follows one that has a past, through each step and each message.
use Rattle.sim_base.specs.declared.step.Event.TheVariants as event
use Rattle.sim_plain.specs.declared.message.DownOf.TheVariants as down
use Rattle.sim_plain.specs.declared.message.UpOf.TheVariants as up
use Rattle.sim_plain_session.specs.Clients as plain
use Rattle.sim_base.specs.{declared.step.Event.Event, Rows.row_of, Spelling.{digest, mark, spelling}, Turn.{after, may_bend, Past, turns_in}}
use Rattle.sim_client.proofs.Common.{Act, ap, arith, bent, Bool, Command, false, hears, if◌then◌else◌, is_client, Life, List, ltb-true, nat_lt, None, On}
use Rattle.sim_client.proofs.Common.{Option, orders, PlayerCommand, put, refl, Setup, Some, State, true, ℕ, [], ◌&&◌, ◌++◌, ◌+◌, ◌==◌, ◌∷◌, ◌≡◌}
use Rattle.sim_client.specs.Lives.{BendingFollows, bends, Follows, hands_on, hearing_shown, HearingFollows, Joining, JoiningFollows, learns, loads, may_order}
use Rattle.sim_client.specs.Lives.{may_play, may_tell_done, Off, order_shown, ordered, OrderingFollows, played, PlayingFollows, plays, refused, releases}
use Rattle.{sim_client.specs.Lives.{says_of, shows_after, StartingFollows, told, told_alone, told_with_done}, sim_laws.proofs.Turning.after_counts_turns}
use Rattle.{sim_plain.{proofs.Calm.put_other, specs.Messages.carry_down}, sim_plain_session.proofs.PlayerLemmas.beginning_stands}
use Rattle.sim_plain_session.{proofs.PlayerLemmas.{bending_stands, learning_stands, playing_stands, same_mark, same_turn}, specs.Players.{IsPlayerOf, Player}}
use Rattle.{sim_plain_session.specs.Sessions.spelled, std.{proofs.{Common.{suc, ◌<◌}, lemmas.Bool.ltb-false}, specs.Prelude.{max, min, ℤ}}}

pub starting_follows : StartingFollows
starting_follows setup = beginning_stands setup (min setup.turns setup.delay) (min setup.turns setup.delay) []

pub joining_follows : JoiningFollows
joining_follows setup c Off plain.Off lives = record { lives = tt; said = refl; printed = refl }
joining_follows setup c Off plain.Joining lives = absurd lives
joining_follows setup c Off (plain.On seat) lives = absurd lives
joining_follows setup c Joining plain.Off lives = absurd lives
joining_follows setup c Joining plain.Joining lives = record { lives = tt; said = refl; printed = refl }
joining_follows setup c Joining (plain.On seat) lives = absurd lives
joining_follows setup c (On player) plain.Off lives = absurd lives
joining_follows setup c (On player) plain.Joining lives = absurd lives
joining_follows setup c (On player) (plain.On seat) lives = record { lives = lives; said = refl; printed = refl }

-- where two tests agree, it follows if it does where they hold and where they do not
branch : (setup : Setup) (old : Life) (act : Act) (shown : Option Act → List Event) (acted : Bool → plain.Acted) (x y : Bool) → x ≡ y →
    (x ≡ true → Follows setup old (Some act) (shown (Some act)) (acted true)) → (x ≡ false → Follows setup old None (shown None) (acted false)) →
    (let made = if x then Some act else None in Follows setup old made (shown made) (acted y))
branch setup old act shown acted true true same does idles = does refl
branch setup old act shown acted true false same does idles = absurd (cc)
branch setup old act shown acted false true same does idles = absurd (cc)
branch setup old act shown acted false false same does idles = idles refl

module _ (setup : Setup) (player : Player) (seat : plain.Seat) (s : IsPlayerOf setup player seat) where
  at : player.state.turn ≡ turns_in seat.past
  at = (same_turn setup player seat s).0

  hash : digest setup player.state ≡ plain.digest_of setup seat
  hash = (same_turn setup player seat s).1

  told_mark : mark setup player.state ≡ plain.mark_of setup seat
  told_mark = same_mark setup player seat s

  ordering_on : (c : ℕ) (command : Command) →
      (let act = orders setup command (On player) in Follows setup (On player) act (order_shown c (says_of act)) (plain.orders setup c command (plain.On seat)))
  ordering_on c command =
      branch setup (On player) (ordered command player) (λ act. order_shown c (says_of act)) (λ b. if b then plain.ordered c command seat
      else plain.idle (plain.On seat)) (may_order setup player)
      (plain.may_order setup seat) (λ i. nat_lt (s.done i) setup.turns && nat_lt (s.orders i) 64)
      (λ e. record {
        lives = record { state = s.state; known = s.known; released = s.released; done = s.done; orders = ap suc s.orders };
        said = ap (λ n. up.Command (suc n) command ∷ []) s.done;
        printed = ap (λ n. event.Order c (suc n) ∷ []) s.done;
      })
      (λ e. record { lives = s; said = refl; printed = refl })

  -- a turn that was played is told
  telling : (c : ℕ) (old : Life) → Follows setup old (Some (told setup player)) (shows_after setup (event.Play c) (Some (told setup player)))
      (plain.told setup c seat)
  telling c old = by (may_tell_done setup player) (plain.may_tell_done setup seat) (λ i. nat_lt (s.done i) (min setup.turns (at i + setup.delay)))
    where
      by : (x y : Bool) → x ≡ y →
          (let act = if x then told_with_done setup player else told_alone setup player in
          Follows setup old (Some act) (shows_after setup (event.Play c) (Some act)) (if y then plain.told_with_done setup c seat
          else plain.told_alone setup c seat))
      by true true e =
          record {
            lives = record { state = s.state; known = s.known; released = s.released; done = ap suc s.done; orders = refl };
            said = (λ i. up.Report (at i) (told_mark i) ∷ up.Done (suc (s.done i)) ∷ []);
            printed = (λ i. event.Play c (at i) (hash i) ∷ []);
          }
      by true false e = absurd (cc)
      by false true e = absurd (cc)
      by false false e = record { lives = s; said = (λ i. up.Report (at i) (told_mark i) ∷ []); printed = (λ i. event.Play c (at i) (hash i) ∷ []) }

  played_stands : IsPlayerOf setup (played setup player) (plain.played seat)
  played_stands =
      playing_stands setup player seat (put (suc player.state.turn) [] player.known) s
      (λ t above. put_other (suc player.state.turn) [] player.known t (λ e. absurd (omega (arith, e, above))))

  bending_on : (c id : ℕ) (health : ℤ) →
      (let act = bends setup id health (On player) in Follows setup (On player) act (shows_after setup (event.Bend c) act)
      (plain.bends setup c id health (plain.On seat)))
  bending_on c id health =
      branch setup (On player) (record { life = On changed; says = [] }) (shows_after setup (event.Bend c))
      (λ b. if b then plain.shows_bend setup c (plain.bent_seat id health seat) else plain.idle (plain.On seat))
      (may_bend setup health (row_of player.state id))
      (may_bend setup health (row_of (plain.state_of setup seat) id)) (ap (λ (state : State). may_bend setup health (row_of state id)) s.state)
      (λ e. record { lives = stands; said = refl; printed = (λ i. event.Bend c (same.0 i) (same.1 i) ∷ []) })
      (λ e. record { lives = s; said = refl; printed = refl })
    where
      changed : Player
      changed = record player { state = bent setup player.state id health }

      stands : IsPlayerOf setup changed (plain.bent_seat id health seat)
      stands = bending_stands setup player seat id health s

      same : (changed.state.turn ≡ turns_in seat.past) × (digest setup changed.state ≡ plain.digest_of setup (plain.bent_seat id health seat))
      same = same_turn setup changed (plain.bent_seat id health seat) stands

  asked : (c client : ℕ) → Follows setup (On player) (Some (hands_on setup client player)) [] (plain.hears setup c (plain.On seat) (down.Ask client))
  asked c client = record { lives = s; said = (λ i. up.State client (at i) (spelling setup (s.state i)) ∷ []); printed = refl }

  learning : (c t : ℕ) (order : PlayerCommand) → Follows setup (On player) (learns setup t order player) []
      (plain.hears setup c (plain.On seat) (down.Command t order))
  learning c t order =
      branch setup (On player) (record { life = On (record player { known = put t (player.known t ++ order ∷ []) player.known }); says = [] }) (λ act. [])
      (λ b. plain.idle (plain.On (if b then record seat { known = put t (seat.known t ++ order ∷ []) seat.known } else seat)))
      (nat_lt player.state.turn t && is_client setup order.player)
      (nat_lt (turns_in seat.past) t && is_client setup order.player) (λ i. nat_lt (at i) t && is_client setup order.player)
      (λ e. record { lives = learning_stands setup player seat t order s (above e); said = refl; printed = refl })
      (λ e. record { lives = s; said = refl; printed = refl })
    where
      first : (a b : Bool) → (a && b) ≡ true → a ≡ true
      first true b h = refl
      first false b h = h

      above : (nat_lt player.state.turn t && is_client setup order.player) ≡ true → turns_in seat.past < t
      above e = let less = ltb-true player.state.turn t (first (nat_lt player.state.turn t) (is_client setup order.player) e) in omega (arith, at, less)

  releasing : (c t : ℕ) → Follows setup (On player) (releases t player) [] (plain.hears setup c (plain.On seat) (down.Release t))
  releasing c t =
      branch setup (On player) (record { life = On (record player { released = t }); says = [] }) (λ act. [])
      (λ b. plain.hears setup c (plain.On seat) (down.Release t)) (nat_lt player.released t)
      (nat_lt player.released t) refl
      (λ e. let less = ltb-true player.released t e in record { lives = knowing t (omega (arith, s.released, less)); said = refl; printed = refl })
      (λ e. let more = ltb-false player.released t e in
      record { lives = knowing player.released (omega (arith, s.released, more)); said = refl; printed = refl })
    where
      knowing : (r : ℕ) → r ≡ max seat.released t → IsPlayerOf setup (record player { released = r }) (record seat { released = max seat.released t })
      knowing r is = record { state = s.state; known = s.known; released = is; done = s.done; orders = s.orders }

-- the next turn, where it may be played
playing_on : (setup : Setup) (player : Player) (seat : plain.Seat) (s : IsPlayerOf setup player seat) (c : ℕ) →
    (let act = plays setup (On player) in Follows setup (On player) act (shows_after setup (event.Play c) act) (plain.plays setup c (plain.On seat)))
playing_on setup player seat s c =
    branch setup (On player) (told setup (played setup player)) (shows_after setup (event.Play c)) (λ b. if b then plain.told setup c (plain.played seat)
    else plain.idle (plain.On seat))
    (may_play setup player) (plain.may_play setup seat) (λ i. nat_lt (at setup player seat s i) setup.turns && nat_lt (at setup player seat s i) (s.released i))
    (λ e. telling setup (played setup player) (plain.played seat) (played_stands setup player seat s) c (On player))
    (λ e. record { lives = s; said = refl; printed = refl })

-- ---- each life with its phase

pub ordering_follows : OrderingFollows
ordering_follows setup c command Off plain.Off lives = record { lives = tt; said = refl; printed = refl }
ordering_follows setup c command Off plain.Joining lives = absurd lives
ordering_follows setup c command Off (plain.On seat) lives = absurd lives
ordering_follows setup c command Joining plain.Off lives = absurd lives
ordering_follows setup c command Joining plain.Joining lives = record { lives = tt; said = refl; printed = refl }
ordering_follows setup c command Joining (plain.On seat) lives = absurd lives
ordering_follows setup c command (On player) plain.Off lives = absurd lives
ordering_follows setup c command (On player) plain.Joining lives = absurd lives
ordering_follows setup c command (On player) (plain.On seat) lives = ordering_on setup player seat lives c command

pub playing_follows : PlayingFollows
playing_follows setup c Off plain.Off lives = record { lives = tt; said = refl; printed = refl }
playing_follows setup c Off plain.Joining lives = absurd lives
playing_follows setup c Off (plain.On seat) lives = absurd lives
playing_follows setup c Joining plain.Off lives = absurd lives
playing_follows setup c Joining plain.Joining lives = record { lives = tt; said = refl; printed = refl }
playing_follows setup c Joining (plain.On seat) lives = absurd lives
playing_follows setup c (On player) plain.Off lives = absurd lives
playing_follows setup c (On player) plain.Joining lives = absurd lives
playing_follows setup c (On player) (plain.On seat) lives = playing_on setup player seat lives c

pub bending_follows : BendingFollows
bending_follows setup c id health Off plain.Off lives = record { lives = tt; said = refl; printed = refl }
bending_follows setup c id health Off plain.Joining lives = absurd lives
bending_follows setup c id health Off (plain.On seat) lives = absurd lives
bending_follows setup c id health Joining plain.Off lives = absurd lives
bending_follows setup c id health Joining plain.Joining lives = record { lives = tt; said = refl; printed = refl }
bending_follows setup c id health Joining (plain.On seat) lives = absurd lives
bending_follows setup c id health (On player) plain.Off lives = absurd lives
bending_follows setup c id health (On player) plain.Joining lives = absurd lives
bending_follows setup c id health (On player) (plain.On seat) lives = bending_on setup player seat lives c id health

-- a state that is loaded is that after the past
loading : (setup : Setup) (c done : ℕ) (past : Past) (loaded : Option State) → loaded ≡ Some (after setup past) →
    Follows setup Joining (loads done loaded) (shows_after setup (event.Load c) (loads done loaded)) (plain.hears setup c plain.Joining (down.State done past))
loading setup c done past loaded is =
    let at : (after setup past).turn ≡ turns_in past = after_counts_turns setup past in
    rw is (record {
      lives = record { state = refl; known = λ t above. refl; released = at; done = refl; orders = refl };
      said = refl;
      printed = (λ i. event.Load c (at i) (digest setup (after setup past)) ∷ []);
    })

-- the refusal of the wish to join
refusing : (setup : Setup) (c code : ℕ) → Follows setup Joining (refused code) (event.Refused c code ∷ [])
    (plain.hears setup c plain.Joining (down.Refused code))
refusing setup c code = by (code == 4) refl
  where
    by : (b : Bool) → (code == 4) ≡ b → Follows setup Joining (refused code) (event.Refused c code ∷ []) (plain.hears setup c plain.Joining (down.Refused code))
    by true e = rw e (record { lives = tt; said = refl; printed = refl })
    by false e = rw e (record { lives = tt; said = refl; printed = refl })

-- one that is off hears nothing
deaf : (setup : Setup) (c : ℕ) (loaded : Option State) (said : plain.Down) →
    (let heard = hears setup loaded (carry_down (spelled setup) said) Off in
    Follows setup Off heard (hearing_shown setup c (carry_down (spelled setup) said) heard) (plain.hears setup c plain.Off said))
deaf setup c loaded (down.Ask client) = record { lives = tt; said = refl; printed = refl }
deaf setup c loaded (down.State done past) = record { lives = tt; said = refl; printed = refl }
deaf setup c loaded (down.Command t order) = record { lives = tt; said = refl; printed = refl }
deaf setup c loaded (down.Release t) = record { lives = tt; said = refl; printed = refl }
deaf setup c loaded (down.Notice t client) = record { lives = tt; said = refl; printed = refl }
deaf setup c loaded (down.Refused code) = record { lives = tt; said = refl; printed = refl }

pub hearing_follows : HearingFollows
hearing_follows setup c loaded said Off plain.Off lives as_said = deaf setup c loaded said
hearing_follows setup c loaded said Off plain.Joining lives as_said = absurd lives
hearing_follows setup c loaded said Off (plain.On seat) lives as_said = absurd lives
hearing_follows setup c loaded said Joining plain.Off lives as_said = absurd lives
hearing_follows setup c loaded (down.Ask client) Joining plain.Joining lives as_said = record { lives = tt; said = refl; printed = refl }
hearing_follows setup c loaded (down.State done past) Joining plain.Joining lives as_said = loading setup c done past loaded as_said
hearing_follows setup c loaded (down.Command t order) Joining plain.Joining lives as_said = record { lives = tt; said = refl; printed = refl }
hearing_follows setup c loaded (down.Release t) Joining plain.Joining lives as_said = record { lives = tt; said = refl; printed = refl }
hearing_follows setup c loaded (down.Notice t client) Joining plain.Joining lives as_said = record { lives = tt; said = refl; printed = refl }
hearing_follows setup c loaded (down.Refused code) Joining plain.Joining lives as_said = refusing setup c code
hearing_follows setup c loaded said Joining (plain.On seat) lives as_said = absurd lives
hearing_follows setup c loaded said (On player) plain.Off lives as_said = absurd lives
hearing_follows setup c loaded said (On player) plain.Joining lives as_said = absurd lives
hearing_follows setup c loaded (down.Ask client) (On player) (plain.On seat) lives as_said = asked setup player seat lives c client
hearing_follows setup c loaded (down.State done past) (On player) (plain.On seat) lives as_said = record { lives = lives; said = refl; printed = refl }
hearing_follows setup c loaded (down.Command t order) (On player) (plain.On seat) lives as_said = learning setup player seat lives c t order
hearing_follows setup c loaded (down.Release t) (On player) (plain.On seat) lives as_said = releasing setup player seat lives c t
hearing_follows setup c loaded (down.Notice t client) (On player) (plain.On seat) lives as_said = record { lives = lives; said = refl; printed = refl }
hearing_follows setup c loaded (down.Refused code) (On player) (plain.On seat) lives as_said = record { lives = lives; said = refl; printed = refl }
