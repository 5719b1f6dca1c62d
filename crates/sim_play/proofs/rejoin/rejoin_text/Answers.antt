-- What is loaded is the state of the turn, so the lines of the second client begin there.
use Rattle.sim_play.proofs.Common.{◌≡◌, ℕ, suc, List, ◌++◌, string_bytes, codes, after, ap, own_turns, past_lines, Setup, setup_in, StandsFor, subst, sym, ◌∙◌}
use Rattle.sim_play.proofs.Past.{joined_text, own_at, own_by_turn}

pub rest_text-text-requires-clause-own : Rattle.sim_play.proofs.rejoin.rejoin_text.Goals.rest_text-text-requires-clause-own
rest_text-text-requires-clause-own g c =
    let setup = c.args.setup.now in
    let turn = c.args.turn in
    let stored = subst (λ (s : Setup). StandsFor s c.in-Ok.bytes.items (after s (own_turns s 0 turn))) c.new-board.ensures.setup c.in-Ok.ensures.bytes in
    own_by_turn setup c.in-Ok-loaded.state turn
    (c.in-Ok-loaded.ensures.state (after setup (own_turns setup 0 turn)) (subst (λ (xs : List ℕ). StandsFor setup xs (after setup (own_turns setup 0 turn)))
    (sym c.deref.ensures.value) stored))

pub returns-in-Ok-loaded-clause-text : Rattle.sim_play.proofs.rejoin.rejoin_text.Goals.returns-in-Ok-loaded-clause-text
returns-in-Ok-loaded-clause-text g c =
    let setup = c.args.setup.now in
    let same = setup_in c.new-board.result in
    let turn = c.args.turn in
    let stored = subst (λ (s : Setup). StandsFor s c.in-Ok.bytes.items (after s (own_turns s 0 turn))) c.new-board.ensures.setup c.in-Ok.ensures.bytes in
    let at = own_at setup c.in-Ok-loaded.state turn
    (c.in-Ok-loaded.ensures.state (after setup (own_turns setup 0 turn)) (subst (λ (xs : List ℕ). StandsFor setup xs (after setup (own_turns setup 0 turn)))
    (sym c.deref.ensures.value) stored)) in
    let first : string_bytes c.start_lines-stored.new.out ≡ past_lines (codes "first") setup 0 (suc setup.turns) =
    c.in-Ok.ensures.text ∙ ap (λ (xs : List ℕ). xs ++ past_lines (codes "first") same 0 (suc same.turns)) c.new-text.ensures.bytes
    ∙ ap (λ (s : Setup). past_lines (codes "first") s 0 (suc s.turns)) c.new-board.ensures.setup in
    joined_text setup c.in-Ok-loaded.state.turn turn (string_bytes c.start_lines-stored.new.out) c.rest_text-text.result.0 at first
    c.rest_text-text.ensures.text
