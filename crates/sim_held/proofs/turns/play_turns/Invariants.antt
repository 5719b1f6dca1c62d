-- The run so far, and the board and the seat on which it goes on.
use Rattle.{sim_board.specs.Boards.state_in, sim_client.specs.{Lives.On, StageWords.{IsPlayingBy, player_at}}, sim_held.specs.Clients.{RanOn, runs}}

abbrev pub invariant-loop-played : Rattle.sim_held.proofs.turns.play_turns.Given.invariant-loop-played
invariant-loop-played g l =
    record {
      ran : RanOn (runs l.setup l.played (On (player_at (state_in l.fn.board) l.fn.playing.seat))) l.fn.playing.outbox l.played
          (On (player_at (state_in l.board) l.playing.seat)) l.playing.outbox;
      playing : IsPlayingBy l.setup l.board l.playing.seat (λ i v. (Rattle.sim_held.proofs.turns.play_turns.Given.System-dyn g (i, v)).meaning v);
    }
