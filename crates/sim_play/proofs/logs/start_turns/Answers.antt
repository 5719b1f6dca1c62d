-- The board was started, and its first state has its digest; then one turn more is played, and its state has one too.
use Rattle.{sim_board.proofs.Counting.most_kept, sim_play.proofs.Common.{All, ap, arith, digest, IsOrderOf, IsValid, length, List, PlayerCommand, refl, rules}}
use Rattle.sim_play.proofs.Common.{Setup, setup_in, State, state_after, state_in, subst, sym, take, turn, ℕ, [], ◌++◌, ◌+◌, ◌<◌, ◌∙◌, ◌∷◌, ◌≡◌}
use Rattle.sim_play.proofs.{LogTurns.{digests_more, state_more, turn_at}, Starting.started_valid}
use Rattle.sim_play.proofs.logs.start_turns.Goals as goal

pub loop-commands-init : goal.loop-commands-init
loop-commands-init g c =
    let setup = setup_in c.args.board.now in
    let start = state_in c.start.new.self in
    let first : start ≡ state_after setup (take 0 c.args.turns.now) = c.in_ok-start.ensures.state in
    let shown = c.scene.result.state.now in
    let of_match = c.setup-setup.ensures ∙ c.in_ok-start.ensures.setup in
    let told : c.digest.result ≡ digest setup start =
    c.digest.ensures ∙ ap (λ (s : Setup). digest s shown) of_match ∙ ap (digest setup) c.scene.ensures.state in
    let made : c.push.new.self ≡ [] ++ digest setup start ∷ [] =
    c.in_ok-push.ensures.ok ∙ ap (λ (ds : List (List ℕ)). ds ++ c.digest.result ∷ []) c.new-digests.ensures ∙ ap (λ (d : List ℕ). d ∷ []) told in
    record {
      digests = digests_more setup c.args.turns.now 0 start [] c.push.new.self first refl made;
      state = first;
      valid = subst (λ (s : Setup). IsValid s start) c.in_ok-start.ensures.setup
          (started_valid _ _ _ c.in_ok-start.ensures.setup c.in_ok-start.ensures.state c.requires.begins.limits);
      same = c.in_ok-start.ensures.setup;
      whole = c.in_ok-start.ensures.whole;
      kinds = c.in_ok-start.ensures.kinds;
      most = c.in_ok-start.ensures.most;
    }

pub turn-requires : goal.turn-requires
turn-requires g c =
    let setup = setup_in c.args.board.now in
    let turns = c.args.turns.now in
    let i = c.loop-commands.invariant in
    let n = c.loop-commands.commands-index in
    let lt : n < length turns = search rules in
    let at = turn_at setup turns n (state_in c.loop-commands.board) (omega (arith, lt)) i.state in
    let last = ap (λ (s : Setup). s.turns) i.same in
    let orders : List PlayerCommand = c.commands-item.result in
    record {
      whole = i.whole;
      valid = subst (λ (s : Setup). IsValid s (state_in c.loop-commands.board)) (sym i.same) i.valid;
      below = omega (arith, at, last, lt, c.requires.few);
      players = subst (λ (s : Setup). All (IsOrderOf s) c.as_slice.result.now) (sym i.same)
          (subst (All (IsOrderOf setup)) (sym (c.as_slice.ensures ∙ c.commands-item.is)) (c.requires.players n orders lt));
    }

pub loop-commands-preserved : goal.loop-commands-preserved
loop-commands-preserved g c =
    let setup = setup_in c.args.board.now in
    let turns = c.args.turns.now in
    let i = c.loop-commands.invariant in
    let n = c.loop-commands.commands-index in
    let lt : n < length turns = search rules in
    let orders : List PlayerCommand = c.commands-item.result in
    let old = state_in c.loop-commands.board in
    let new = state_in c.turn.new.board in
    let played = c.in_ok-turn.ensures in
    let made : new ≡ turn setup old orders =
    played.state ∙ ap (λ (s : Setup). turn s old c.as_slice.result.now) i.same ∙ ap (turn setup old) c.as_slice.ensures in
    let state : new ≡ state_after setup (take (n + 1) turns) =
    made ∙ ap (λ (s : State). turn setup s orders) i.state ∙ sym (state_more setup turns n orders lt c.commands-item.is) in
    let shown = c.scene-in-loop-commands.result.state.now in
    let of_match = c.setup-setup.ensures ∙ c.in_ok-start.ensures.setup in
    let told : c.digest-in-loop-commands.result ≡ digest setup new =
    c.digest-in-loop-commands.ensures ∙ ap (λ (s : Setup). digest s shown) of_match
    ∙ ap (digest setup) c.scene-in-loop-commands.ensures.state in
    let digests : List (List ℕ) = c.loop-commands.digests in
    let pushed : c.push-in-loop-commands.new.self ≡ digests ++ digest setup new ∷ [] =
    c.in_ok-push-2.ensures.ok ∙ ap (λ (d : List ℕ). digests ++ d ∷ []) told in
    record {
      digests = digests_more setup turns (n + 1) new digests c.push-in-loop-commands.new.self state i.digests pushed;
      state = state;
      valid = subst (λ (s : Setup). IsValid s new) i.same played.valid;
      same = played.setup ∙ i.same;
      whole = played.whole;
      kinds = played.kept.kinds;
      most = most_kept _ _ _ i.most played.kept;
    }
