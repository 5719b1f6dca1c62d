-- One turn more, or none.
use Rattle.sim_held.proofs.turns.play_turns.Goals as goal
use Rattle.sim_held.proofs.{Common.arith, Common.refl, Common.sym, Running.ran_more, Running.ran_out}
use Rattle.{sim_board.specs.Boards.state_in, sim_client.specs.Lives.On, sim_client.specs.StageWords.player_at, sim_held.proofs.Common.append-nil}

pub loop-played-init : goal.loop-played-init
loop-played-init g c =
    record { ran = record { many = refl; becomes = refl; adds = sym (append-nil c.args.playing.now.outbox) }; playing = rw c.setup-setup.ensures c.requires }

pub loop-played-preserved : goal.loop-played-preserved
loop-played-preserved g c =
    record {
      ran =
          ran_more c.setup-setup.result.now c.loop-played.played (On (player_at (state_in c.args.board.now) c.args.playing.now.seat)) c.args.playing.now.outbox
          (On (player_at (state_in c.loop-played.board) c.loop-played.playing.seat)) (On (player_at (state_in c.play_once.new.board) c.play_once.new.playing.seat))
          c.loop-played.playing.outbox c.play_once.new.playing.outbox c.loop-played.invariant.ran _ c.if-not-there.false c.in_ok-there.ensures.plays;
      playing = c.in_ok-there.ensures.playing;
    }

pub returns-then-not-there-clause-ran : goal.returns-then-not-there-clause-ran
returns-then-not-there-clause-ran g c =
    rw (sym c.setup-setup.ensures)
    (ran_out c.setup-setup.result.now c.loop-played.played (On (player_at (state_in c.args.board.now) c.args.playing.now.seat)) c.args.playing.now.outbox
    (On (player_at (state_in c.loop-played.board) c.loop-played.playing.seat)) (On (player_at (state_in c.play_once.new.board) c.play_once.new.playing.seat))
    c.loop-played.playing.outbox c.play_once.new.playing.outbox c.loop-played.invariant.ran c.args.most (omega (arith, c.loop-played-test.true)) _
    c.if-not-there.true c.in_ok-there.ensures.plays)

pub returns-then-not-there-clause-playing : goal.returns-then-not-there-clause-playing
returns-then-not-there-clause-playing g c = rw (sym c.setup-setup.ensures) c.in_ok-there.ensures.playing

pub returns-clause-playing : goal.returns-clause-playing
returns-clause-playing g c = rw (sym c.setup-setup.ensures) c.loop-played.invariant.playing
