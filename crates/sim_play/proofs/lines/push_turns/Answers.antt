-- One turn more is played, and has its line.
use Rattle.{sim_board.proofs.Keeping.kept_on, sim_play.proofs.Common.{ap, arith, codes, digest, from, IsValid, own_turns, Setup, State, string_bytes, subst}}
use Rattle.sim_play.proofs.{Common.{suc, sym, turn_line, turn_lines, ℕ, ◌++◌, ◌+◌, ◌-◌, ◌∙◌, ◌≡◌}, Playing.{next_number, one_turn_more}, PlayLines.lines_more}

pub loop-turn-preserved : Rattle.sim_play.proofs.lines.push_turns.Goals.loop-turn-preserved
loop-turn-preserved g c =
    let setup = c.args.board.now.setup.now in
    let start = c.args.board.now.state in
    let i = c.loop-turn.invariant in
    let old = c.loop-turn.board.state in
    let new = c.play.new.board.state in
    let t = c.loop-turn.turn in
    let n = t - start.turn in
    let is : new ≡ from setup old (own_turns setup old.turn (t + 1 - old.turn)) = c.in_ok-play.ensures.state ∙
    ap (λ (s : Setup). from s old (own_turns s old.turn (t + 1 - old.turn))) i.same in
    let place : t ≡ start.turn + n = omega (arith, i.begun) in
    let after : t + 1 ≡ start.turn + suc n = omega (arith, i.begun) in
    let next : t + 1 - start.turn ≡ suc n = omega (arith, i.begun) in
    let more = one_turn_more setup old new t i.turn is start n place i.state in
    let number = next_number setup old new t i.turn is in
    let shown = c.scene-in-loop-turn.result.state.now in
    let written : string_bytes c.push_line-in-loop-turn.new.out ≡ string_bytes c.loop-turn.out ++ turn_line (codes "turn") new.turn (digest setup new) =
    c.in_ok-push_line-2.ensures ∙ ap (λ (s : Setup). string_bytes c.loop-turn.out ++ turn_line (codes "turn") shown.turn (digest s shown)) c.setup-setup.ensures
    ∙ ap (λ (s : State). string_bytes c.loop-turn.out ++ turn_line (codes "turn") s.turn (digest setup s)) c.scene-in-loop-turn.ensures.state in
    let line = lines_more setup start start.turn n new.turn (string_bytes c.args.out.now) (string_bytes c.loop-turn.out)
    (string_bytes c.push_line-in-loop-turn.new.out) (digest setup new) i.text written (number ∙ after) (ap (digest setup) more) in
    record {
      begun = omega (arith, i.begun);
      state = more ∙ ap (λ (k : ℕ). from setup start (own_turns setup start.turn k)) (sym next);
      turn = number;
      text = line ∙ ap (λ (k : ℕ). string_bytes c.args.out.now ++ turn_lines setup start start.turn (suc k)) (sym next);
      valid = subst (λ (s : Setup). IsValid s new) i.same c.in_ok-play.ensures.valid;
      same = c.in_ok-play.ensures.setup ∙ i.same;
      whole = c.in_ok-play.ensures.whole;
      kept = kept_on _ _ _ i.kept c.in_ok-play.ensures.kept;
    }
