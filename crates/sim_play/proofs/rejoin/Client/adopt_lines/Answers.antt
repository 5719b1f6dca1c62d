-- The board took the state, has its line, and is played on.
use Rattle.sim_play.proofs.Common.{after, ap, digest, own_turns, past_lines, Setup, setup_in, State, state_in, string_bytes, subst, suc, sym, turn_line, ◌++◌}
use Rattle.{sim_base.proofs.Lists.on_ok, sim_play.proofs.Common.◌-◌, sim_play.proofs.Common.◌∙◌, sim_play.proofs.Common.◌≡◌, sim_play.proofs.Past.begun_lines}

pub push_past-requires-clause-own : Rattle.sim_play.proofs.rejoin.Client.adopt_lines.Goals.push_past-requires-clause-own
push_past-requires-clause-own g c =
    let own = subst (λ (s : State). s ≡ after (setup_in c.args.board.now) (own_turns (setup_in c.args.board.now) 0 s.turn)) (sym c.in_ok-adopt.ensures.state)
    c.requires.own in
    subst (λ (s : Setup). state_in c.adopt.new.self ≡ after s (own_turns s 0 (state_in c.adopt.new.self).turn)) (sym c.in_ok-adopt.ensures.setup) own

pub returns-clause-text : Rattle.sim_play.proofs.rejoin.Client.adopt_lines.Goals.returns-clause-text
returns-clause-text g c =
    let setup = setup_in c.args.board.now in
    let same = setup_in c.adopt.new.self in
    let state = c.args.state in
    let taken = c.in_ok-adopt.ensures.state in
    let word = c.args.self.now.word.now in
    let old = string_bytes c.args.out.now in
    let middle = string_bytes c.push_line.new.out in
    let new = string_bytes c.push_past.new.out in
    let shown = c.scene.result.state.now in
    let line : middle ≡ old ++ turn_line word state.turn (digest same state) =
    c.in_ok-push_line.ensures ∙ ap (λ (s : Setup). old ++ turn_line word shown.turn (digest s shown)) c.setup-setup.ensures
    ∙ ap (λ (s : State). old ++ turn_line word s.turn (digest same s)) (c.scene.ensures.state ∙ taken) in
    let last : c.setup-setup.result.now ≡ setup = c.setup-setup.ensures ∙ c.in_ok-adopt.ensures.setup in
    on_ok c.push_past.result _ _
    (λ rest. begun_lines word setup same state (setup.turns - state.turn) old middle new c.in_ok-adopt.ensures.setup c.requires.own line
    (rest ∙ ap (λ (s : State). middle ++ past_lines word same (suc s.turn) (c.setup-setup.result.now.turns - s.turn)) taken
    ∙ ap (λ (s : Setup). middle ++ past_lines word same (suc state.turn) (s.turns - state.turn)) last)) c.push_past.ensures.text
