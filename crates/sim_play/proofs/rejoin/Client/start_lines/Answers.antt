-- The board was started, has its first line, and is played on: the lines up to the turn of the state that is stored, and those behind it.
use Rattle.sim_play.proofs.rejoin.Client.start_lines.Goals as goal
use Rattle.sim_play.proofs.Common.{after, ap, arith, digest, IsValid, own_turns, past_lines, Setup, setup_in, State, state_in, string_bytes, subst, suc, sym}
use Rattle.sim_play.proofs.{Common.turn_line, Common.ℕ, Common.◌++◌, Common.◌-◌, Common.◌∙◌, Common.◌≡◌, Past.begun_lines, Past.ended_lines, Past.own_at}
use Rattle.sim_play.proofs.{Past.own_by_turn, Past.own_start, Starting.started_turn, Starting.started_valid}

pub push_line-requires : goal.push_line-requires
push_line-requires g c =
    let valid = started_valid _ _ _ c.in_ok-start.ensures.setup c.in_ok-start.ensures.state c.requires.limits in
    subst (λ (s : State). IsValid c.setup-setup.result.now s) (sym c.scene.ensures.state)
    (subst (λ (s : Setup). IsValid s (state_in c.start.new.self)) (sym c.setup-setup.ensures) valid)

pub push_past-requires-clause-may : goal.push_past-requires-clause-may
push_past-requires-clause-may g c = record {
  whole = c.in_ok-start.ensures.whole;
  valid = started_valid _ _ _ c.in_ok-start.ensures.setup c.in_ok-start.ensures.state c.requires.limits;
  ahead = omega (arith, started_turn _ _ _ c.in_ok-start.ensures.setup c.in_ok-start.ensures.state);
  within = omega (arith, c.requires.within, ap (λ (s : Setup). s.turns) c.in_ok-start.ensures.setup);
}

pub push_past-requires-clause-own : goal.push_past-requires-clause-own
push_past-requires-clause-own g c =
    subst (λ (s : Setup). state_in c.start.new.self ≡ after s (own_turns s 0 (state_in c.start.new.self).turn)) (sym c.in_ok-start.ensures.setup)
    (own_start (setup_in c.args.board.now) (state_in c.start.new.self) c.in_ok-start.ensures.state)

pub push_past-requires-2-clause-own : goal.push_past-requires-2-clause-own
push_past-requires-2-clause-own g c =
    let state = state_in c.push_past.new.board in
    subst (λ (s : Setup). state ≡ after s (own_turns s 0 state.turn)) (sym c.push_past.ensures.ends.setup)
    (own_by_turn (setup_in c.start.new.self) state c.args.turn c.in_ok-push_past.ensures.ends.state)

pub returns-clause-text : goal.returns-clause-text
returns-clause-text g c =
    let setup = setup_in c.args.board.now in
    let same = setup_in c.start.new.self in
    let later = setup_in c.push_past.new.board in
    let state = state_in c.start.new.self in
    let stored = state_in c.push_past.new.board in
    let word = c.args.self.now.word.now in
    let old = string_bytes c.args.out.now in
    let middle = string_bytes c.push_line.new.out in
    let until = string_bytes c.push_past.new.out in
    let of_match = c.in_ok-start.ensures.setup in
    let zero_turn : state.turn ≡ 0 = started_turn _ _ _ of_match c.in_ok-start.ensures.state in
    let shown = c.scene.result.state.now in
    let line : middle ≡ old ++ turn_line word state.turn (digest same state) =
    c.in_ok-push_line.ensures ∙ ap (λ (s : Setup). old ++ turn_line word shown.turn (digest s shown)) c.setup-setup.ensures
    ∙ ap (λ (s : State). old ++ turn_line word s.turn (digest same s)) c.scene.ensures.state in
    let whole : c.args.turn - 0 ≡ c.args.turn = omega arith in
    let first : until ≡ old ++ past_lines word setup 0 (suc c.args.turn) =
    begun_lines word setup same state (c.args.turn - state.turn) old middle until of_match
    (own_start setup state c.in_ok-start.ensures.state) line c.in_ok-push_past.ensures.text
    ∙ ap (λ (k : ℕ). old ++ past_lines word setup k (suc (c.args.turn - k))) zero_turn ∙ ap (λ (k : ℕ). old ++ past_lines word setup 0 (suc k)) whole in
    let rest : string_bytes c.push_past-2.new.out ≡ until ++ past_lines word later (suc stored.turn) (setup.turns - stored.turn) =
    c.in_ok-push_past-2.ensures.text
    ∙ ap (λ (s : Setup). until ++ past_lines word later (suc stored.turn) (s.turns - stored.turn)) (c.setup-setup.ensures ∙ of_match) in
    ended_lines word setup later stored.turn c.args.turn setup.turns old until (string_bytes c.push_past-2.new.out)
    (c.push_past.ensures.ends.setup ∙ of_match)
    (own_at same stored c.args.turn c.in_ok-push_past.ensures.ends.state) c.requires.within first rest
