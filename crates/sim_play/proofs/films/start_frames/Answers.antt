-- The board was started, and its first state is told or not; then one turn more is played, and told or not.
use Rattle.sim_play.proofs.films.start_frames.Goals as goal
use Rattle.sim_play.proofs.Common.{after, ap, append-nil, from, IsValid, own_turns, Setup, setup_in, State, state_in, string_bytes, subst, sym, told_frame}
use Rattle.sim_play.proofs.{Common.◌++◌, Common.◌+◌, Common.◌-◌, Common.◌∙◌, Common.◌≡◌, Past.film_more, Past.own_at, Past.own_more, Playing.next_number}
use Rattle.{sim_board.proofs.Counting.most_kept, sim_play.proofs.Starting.started_valid}

pub push_told-requires-clause-valid : goal.push_told-requires-clause-valid
push_told-requires-clause-valid g c =
    let valid = started_valid _ _ _ c.in_ok-start.ensures.setup c.in_ok-start.ensures.state c.requires.begins.limits in
    subst (IsValid c.setup-setup.result.now) (sym c.scene.ensures.state)
    (subst (λ (s : Setup). IsValid s (state_in c.start.new.self)) (sym c.setup-setup.ensures) valid)

pub loop-turn-init : goal.loop-turn-init
loop-turn-init g c =
    let setup = setup_in c.args.board.now in
    let every = c.args.every in
    let state = state_in c.start.new.self in
    let old = string_bytes c.args.out.now in
    let shown = c.scene.result.state.now in
    let of_match = c.setup-setup.ensures ∙ c.in_ok-start.ensures.setup in
    let first : state ≡ after setup (own_turns setup 0 0) = c.in_ok-start.ensures.state in
    let written : string_bytes c.push_told.new.out ≡ old ++ told_frame every setup state =
    c.in_ok-push_told.ensures ∙ ap (λ (s : Setup). old ++ told_frame every s shown) of_match
    ∙ ap (λ (s : State). old ++ told_frame every setup s) c.scene.ensures.state in
    record {
      state = first;
      turn = own_at setup state 0 first;
      text = film_more setup every 0 state old old (string_bytes c.push_told.new.out) first (sym (append-nil old)) written;
      valid = subst (λ (s : Setup). IsValid s state) c.in_ok-start.ensures.setup
          (started_valid _ _ _ c.in_ok-start.ensures.setup c.in_ok-start.ensures.state c.requires.begins.limits);
      same = c.in_ok-start.ensures.setup;
      whole = c.in_ok-start.ensures.whole;
      kinds = c.in_ok-start.ensures.kinds;
      most = c.in_ok-start.ensures.most;
    }

pub loop-turn-preserved : goal.loop-turn-preserved
loop-turn-preserved g c =
    let setup = setup_in c.args.board.now in
    let every = c.args.every in
    let i = c.loop-turn.invariant in
    let old = c.loop-turn.board.state in
    let new = c.play.new.board.state in
    let t = c.loop-turn.turn in
    let of_match = c.setup-setup.ensures ∙ c.in_ok-start.ensures.setup in
    let is : new ≡ from setup old (own_turns setup old.turn (t + 1 - old.turn)) =
    c.in_ok-play.ensures.state ∙ ap (λ (s : Setup). from s old (own_turns s old.turn (t + 1 - old.turn))) i.same in
    let more = own_more setup old new t i.turn is i.state in
    let shown = c.scene-in-loop-turn.result.state.now in
    let so_far = string_bytes c.loop-turn.out in
    let written : string_bytes c.push_told-in-loop-turn.new.out ≡ so_far ++ told_frame every setup new =
    c.in_ok-push_told-2.ensures ∙ ap (λ (s : Setup). so_far ++ told_frame every s shown) of_match
    ∙ ap (λ (s : State). so_far ++ told_frame every setup s) c.scene-in-loop-turn.ensures.state in
    record {
      state = more;
      turn = next_number setup old new t i.turn is;
      text = film_more setup every (t + 1) new (string_bytes c.args.out.now) so_far (string_bytes c.push_told-in-loop-turn.new.out) more i.text written;
      valid = subst (λ (s : Setup). IsValid s new) i.same c.in_ok-play.ensures.valid;
      same = c.in_ok-play.ensures.setup ∙ i.same;
      whole = c.in_ok-play.ensures.whole;
      kinds = c.in_ok-play.ensures.kept.kinds;
      most = most_kept _ _ _ i.most c.in_ok-play.ensures.kept;
    }
