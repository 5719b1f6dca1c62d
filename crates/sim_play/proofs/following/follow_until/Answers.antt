-- One turn more is played, and followed.
use Rattle.sim_play.proofs.following.follow_until.Goals as goal
use Rattle.{sim_board.proofs.Keeping.kept_on, sim_play.proofs.Common.{ap, arith, from, IsValid, later_of, own_turns, refl, rules, Setup, State, subst, suc}}
use Rattle.sim_play.proofs.{Common.{sym, vision_after, vision_next, ℕ, ◌+◌, ◌-◌, ◌∙◌, ◌≡◌}, Past.followed_more, Playing.{next_number, one_turn_more}}

pub loop-number-init : goal.loop-number-init
loop-number-init g c =
    let setup = c.args.board.now.setup.now in
    let start = c.args.board.now.state in
    let same : c.scene.result.state.now.turn ≡ start.turn = ap (λ (s : State). s.turn) c.scene.ensures.state in
    let none : c.scene.result.state.now.turn - start.turn ≡ 0 = omega (arith, same) in
    record {
      begun = omega (arith, same);
      state = ap (λ (k : ℕ). from setup start (own_turns setup start.turn k)) (sym none);
      turn = sym same;
      followed = ap (λ (k : ℕ). vision_after c.args.sight.now (later_of setup start k)) (sym none);
      follows = c.requires.same;
      valid = c.requires.may.valid;
      same = refl;
      whole = c.requires.may.whole;
      kept = search rules;
    }

pub follow-requires : goal.follow-requires
follow-requires g c =
    let i = c.loop-number.invariant in
    let new = c.play.new.board.state in
    let valid = subst (λ (s : Setup). IsValid s new) (i.same ∙ sym i.follows) c.in_ok-play.ensures.valid in
    subst (IsValid c.loop-number.sight.setup) (sym c.scene-in-loop-number.ensures.state) valid

pub loop-number-preserved : goal.loop-number-preserved
loop-number-preserved g c =
    let setup = c.args.board.now.setup.now in
    let start = c.args.board.now.state in
    let i = c.loop-number.invariant in
    let old = c.loop-number.board.state in
    let new = c.play.new.board.state in
    let t = c.loop-number.number in
    let n = t - start.turn in
    let is : new ≡ from setup old (own_turns setup old.turn (t + 1 - old.turn)) = c.in_ok-play.ensures.state
    ∙ ap (λ (s : Setup). from s old (own_turns s old.turn (t + 1 - old.turn))) i.same in
    let place : t ≡ start.turn + n = omega (arith, i.begun) in
    let next : suc n ≡ t + 1 - start.turn = omega (arith, i.begun) in
    let more = one_turn_more setup old new t i.turn is start n place i.state in
    record {
      begun = omega (arith, i.begun);
      state = more ∙ ap (λ (k : ℕ). from setup start (own_turns setup start.turn k)) next;
      turn = next_number setup old new t i.turn is;
      followed = c.in_ok-follow.ensures.next
          ∙ ap (vision_next c.loop-number.sight) c.scene-in-loop-number.ensures.state
          ∙ ap (λ f. vision_next f new) i.followed
          ∙ followed_more vision_next setup start new n c.args.sight.now more
          ∙ ap (λ (k : ℕ). vision_after c.args.sight.now (later_of setup start k)) next;
      follows = c.follow.ensures.setup ∙ i.follows;
      valid = subst (λ (s : Setup). IsValid s new) i.same c.in_ok-play.ensures.valid;
      same = c.in_ok-play.ensures.setup ∙ i.same;
      whole = c.in_ok-play.ensures.whole;
      kept = kept_on _ _ _ i.kept c.in_ok-play.ensures.kept;
    }
