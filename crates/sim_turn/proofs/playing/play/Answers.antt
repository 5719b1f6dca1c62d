-- One turn more of the match's own.
use Rattle.{sim_board.proofs.Keeping.kept_on, sim_turn.proofs.Counting.joined, sim_turn.proofs.Counting.orders_keep_turn, sim_turn.proofs.Counting.players_at}
use Rattle.sim_turn.proofs.Common.{setup_in, State, state_in, subst, sym, Timed, turn, turn_is_counted, turn_keeps_valid, ◌∙◌}
use Rattle.sim_turn.proofs.Common.{◌≡◌, ℕ, suc, ◌+◌, ◌-◌, ◌<◌, ◌≤◌, map, fold, All, ap, arith, commanded, from, IsOrderOf, IsValid, orders_at, own_turns, Setup}
use Rattle.sim_turn.proofs.playing.play.Goals as goal

pub obey_due-requires : goal.obey_due-requires
obey_due-requires g c =
    let setup = setup_in c.args.board.now in
    let n = c.loop-number.number in
    let due_is : map (λ (timed : Timed). timed.order) c.due_at.result.now ≡ orders_at (n + 1) setup.commands =
    c.due_at.ensures ∙ ap (orders_at (n + 1)) (c.as_slice-commands.ensures ∙ ap (λ (s : Setup). s.commands) c.setup-setup.ensures) in
    record {
      whole = c.loop-number.invariant.whole;
      players = subst (λ (s : Setup). All (IsOrderOf s) (map (λ (timed : Timed). timed.order) c.due_at.result.now)) (sym c.loop-number.invariant.same)
          (subst (All (IsOrderOf setup)) (sym due_is) (players_at setup n c.requires.whole.standing.limits));
    }

pub run_phases-requires : goal.run_phases-requires
run_phases-requires g c =
    let i = c.loop-number.invariant in
    let at : (state_in c.obey_due.new.board).turn ≡ c.loop-number.number =
    ap (λ (s : State). s.turn) c.in_ok-obey_due.ensures.state ∙ orders_keep_turn (setup_in c.loop-number.board) (state_in c.loop-number.board)
    (map (λ (timed : Timed). timed.order) c.due_at.result.now) ∙ i.turn in
    let last : (setup_in c.obey_due.new.board).turns ≡ (setup_in c.args.board.now).turns =
    ap (λ (s : Setup). s.turns) (c.in_ok-obey_due.ensures.setup ∙ i.same) in
    record { whole = c.in_ok-obey_due.ensures.whole; below = omega (arith, at, last, c.requires.within, c.loop-number-test.true) }

pub loop-number-preserved : goal.loop-number-preserved
loop-number-preserved g c =
    let setup = setup_in c.args.board.now in
    let start = state_in c.args.board.now in
    let here = state_in c.loop-number.board in
    let first = c.scene.result.state.now.turn in
    let n = c.loop-number.number in
    let m = n - first in
    let i = c.loop-number.invariant in
    let obeyed = c.in_ok-obey_due.ensures in
    let ran = c.in_ok-run_phases.ensures in
    let limits = c.requires.whole.standing.limits in
    let due_is : map (λ (timed : Timed). timed.order) c.due_at.result.now ≡ orders_at (n + 1) setup.commands =
    c.due_at.ensures ∙ ap (orders_at (n + 1)) (c.as_slice-commands.ensures ∙ ap (λ (s : Setup). s.commands) c.setup-setup.ensures) in
    let obeyed_is : state_in c.obey_due.new.board ≡ fold (commanded setup) here (orders_at (n + 1) setup.commands) =
    obeyed.state ∙ ap (λ (s : Setup). fold (commanded s) here (map (λ (timed : Timed). timed.order) c.due_at.result.now)) i.same ∙
    ap (fold (commanded setup) here) due_is in
    let played : state_in c.run_phases.new.board ≡ turn setup here (orders_at (n + 1) setup.commands) =
    joined setup (setup_in c.obey_due.new.board) here (state_in c.obey_due.new.board) (state_in c.run_phases.new.board) (orders_at (n + 1) setup.commands)
    (obeyed.setup ∙ i.same) obeyed_is ran.state in
    let le : first ≤ n = omega (arith, c.loop-number.auto) in
    let place : n + 1 ≡ first + suc m = omega (arith, le) in
    let next : n + 1 - first ≡ suc m = omega (arith, le) in
    let below : here.turn < setup.turns = omega (arith, i.turn, c.requires.within, c.loop-number-test.true) in
    record {
      state =
          played ∙ ap (λ (k : ℕ). turn setup here (orders_at k setup.commands)) place ∙
          ap (λ (s : State). turn setup s (orders_at (first + suc m) setup.commands)) i.state ∙
          ap (λ (k : ℕ). from setup start (own_turns setup first k)) (sym next);
      turn = ap (λ (s : State). s.turn) played ∙ turn_is_counted setup here (orders_at (n + 1) setup.commands) ∙ ap (λ (k : ℕ). k + 1) i.turn;
      first = i.first;
      valid = subst (IsValid setup) (sym played) (turn_keeps_valid setup here (orders_at (n + 1) setup.commands) limits (players_at setup n limits) i.valid
          below);
      same = ran.setup ∙ obeyed.setup ∙ i.same;
      whole = ran.whole;
      kept = kept_on _ _ _ (kept_on _ _ _ i.kept obeyed.kept) ran.kept;
    }
