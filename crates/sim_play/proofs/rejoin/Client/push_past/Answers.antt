-- One turn more is played, and has its line.
use Rattle.{sim_board.proofs.Keeping.kept_on, sim_play.proofs.Common.{ap, arith, digest, from, IsValid, own_turns, past_lines, Setup, State, string_bytes}}
use Rattle.sim_play.proofs.{Common.{subst, suc, sym, turn_line, ℕ, ◌++◌, ◌+◌, ◌-◌, ◌∙◌, ◌≡◌}, Past.{own_more, past_lines-more}, Playing.next_number}

pub loop-number-preserved : Rattle.sim_play.proofs.rejoin.Client.push_past.Goals.loop-number-preserved
loop-number-preserved g c =
    let setup = c.args.board.now.setup.now in
    let word = c.args.self.now.word.now in
    let start = c.args.board.now.state in
    let i = c.loop-number.invariant in
    let old = c.loop-number.board.state in
    let new = c.play.new.board.state in
    let t = c.loop-number.number in
    let n = t - start.turn in
    let is : new ≡ from setup old (own_turns setup old.turn (t + 1 - old.turn)) = c.in_ok-play.ensures.state ∙
    ap (λ (s : Setup). from s old (own_turns s old.turn (t + 1 - old.turn))) i.same in
    let place : t + 1 ≡ suc start.turn + n = omega (arith, i.begun) in
    let next : t + 1 - start.turn ≡ suc n = omega (arith, i.begun) in
    let more = own_more setup old new t i.turn is i.state in
    let number = next_number setup old new t i.turn is in
    let shown = c.scene-in-loop-number.result.state.now in
    let written : string_bytes c.push_line.new.out ≡ string_bytes c.loop-number.out ++ turn_line word (t + 1) (digest setup new) =
    c.in_ok-push_line.ensures ∙ ap (λ (s : Setup). string_bytes c.loop-number.out ++ turn_line word shown.turn (digest s shown)) c.setup-setup.ensures
    ∙ ap (λ (s : State). string_bytes c.loop-number.out ++ turn_line word s.turn (digest setup s)) c.scene-in-loop-number.ensures.state
    ∙ ap (λ (k : ℕ). string_bytes c.loop-number.out ++ turn_line word k (digest setup new)) number in
    let line = past_lines-more word setup (suc start.turn) n (t + 1) (string_bytes c.args.out.now) (string_bytes c.loop-number.out)
    (string_bytes c.push_line.new.out) (digest setup new) i.text written place (ap (digest setup) more) in
    record {
      begun = omega (arith, i.begun);
      state = more;
      turn = number;
      text = line ∙ ap (λ (k : ℕ). string_bytes c.args.out.now ++ past_lines word setup (suc start.turn) k) (sym next);
      valid = subst (λ (s : Setup). IsValid s new) i.same c.in_ok-play.ensures.valid;
      same = c.in_ok-play.ensures.setup ∙ i.same;
      whole = c.in_ok-play.ensures.whole;
      kept = kept_on _ _ _ i.kept c.in_ok-play.ensures.kept;
    }
