-- The board was started, and its first state has its line; then one paid turn more is played and has its line.
use Rattle.sim_play.proofs.market.start_lines.Goals as goal
use Rattle.sim_play.proofs.Common.{ap, arith, books_after, books_of, codes, digest, IsEconomy, IsValid, orders_at, paid_lines, paid_state, paid_stocks}
use Rattle.sim_play.proofs.Common.{paid_turn, rules, Setup, setup_in, State, state_in, string_bytes, subst, suc, sym, turn_line, ℕ, ◌++◌, ◌+◌, ◌∙◌, ◌≡◌}
use Rattle.sim_play.proofs.PaidOnes.{books_more, books_state, books_stocks, books_turn, first_line, paid_lines_more}
use Rattle.{sim_board.proofs.Counting.most_kept, sim_play.proofs.Starting.started_valid}

pub push_line-requires : goal.push_line-requires
push_line-requires g c =
    let valid = started_valid _ _ _ c.in_ok-start.ensures.setup c.in_ok-start.ensures.state c.requires.begins.limits in
    subst (IsValid c.setup-setup.result.now) (sym c.scene.ensures.state)
    (subst (λ (s : Setup). IsValid s (state_in c.start.new.self)) (sym c.setup-setup.ensures) valid)

pub loop-turn-init : goal.loop-turn-init
loop-turn-init g c =
    let setup = setup_in c.args.board.now in
    let economy = c.args.market.now.economy.now in
    let start = state_in c.start.new.self in
    let old = string_bytes c.args.out.now in
    let books : books_of start economy.start ≡ books_after setup economy 0 = ap (λ (s : State). books_of s economy.start) c.in_ok-start.ensures.state in
    let shown = c.scene.result.state.now in
    let written : string_bytes c.push_line.new.out ≡ old ++ turn_line (codes "turn") 0 (digest setup start) =
    c.in_ok-push_line.ensures
    ∙ ap (λ (s : Setup). old ++ turn_line (codes "turn") shown.turn (digest s shown)) (c.setup-setup.ensures ∙ c.in_ok-start.ensures.setup)
    ∙ ap (λ (s : State). old ++ turn_line (codes "turn") s.turn (digest setup s)) c.scene.ensures.state
    ∙ ap (λ (k : ℕ). old ++ turn_line (codes "turn") k (digest setup start)) (books_turn setup economy start economy.start 0 books) in
    record {
      books = books;
      total_is = omega (arith, c.requires.economy.start.sum);
      text = first_line setup economy old (string_bytes c.push_line.new.out) (digest setup start) written
          (ap (digest setup) (books_state setup economy start economy.start 0 books));
      valid = subst (λ (s : Setup). IsValid s start) c.in_ok-start.ensures.setup
          (started_valid _ _ _ c.in_ok-start.ensures.setup c.in_ok-start.ensures.state c.requires.begins.limits);
      same = c.in_ok-start.ensures.setup;
      whole = c.in_ok-start.ensures.whole;
      kinds = c.in_ok-start.ensures.kinds;
      most = c.in_ok-start.ensures.most;
    }

pub play_turn-requires-clause-goes_on : goal.play_turn-requires-clause-goes_on
play_turn-requires-clause-goes_on g c =
    let i = c.loop-turn.invariant in
    record { whole = i.whole; valid = subst (λ (s : Setup). IsValid s (state_in c.loop-turn.board)) (sym i.same) i.valid }

pub play_turn-requires-clause-below : goal.play_turn-requires-clause-below
play_turn-requires-clause-below g c =
    let i = c.loop-turn.invariant in
    let at = books_turn (setup_in c.args.board.now) c.args.market.now.economy.now (state_in c.loop-turn.board) c.loop-turn.stocks c.loop-turn.turn i.books in
    let last = ap (λ (s : Setup). s.turns) i.same in
    let asked = ap (λ (s : Setup). s.turns) (c.setup-setup.ensures ∙ c.in_ok-start.ensures.setup) in
    omega (arith, at, last, asked, c.loop-turn-test.true)

pub play_turn-requires-clause-number : goal.play_turn-requires-clause-number
play_turn-requires-clause-number g c =
    let at = books_turn (setup_in c.args.board.now) c.args.market.now.economy.now (state_in c.loop-turn.board) c.loop-turn.stocks c.loop-turn.turn
    c.loop-turn.invariant.books in
    omega (arith, at)

pub play_turn-requires-clause-economy : goal.play_turn-requires-clause-economy
play_turn-requires-clause-economy g c = subst (λ (s : Setup). IsEconomy s c.args.market.now.economy.now) (sym c.loop-turn.invariant.same) c.requires.economy

pub play_turn-requires-clause-total : goal.play_turn-requires-clause-total
play_turn-requires-clause-total g c =
    let asked = ap (λ (s : Setup). s.turns) (c.setup-setup.ensures ∙ c.in_ok-start.ensures.setup) in
    omega (arith, c.loop-turn.invariant.total_is, asked, c.requires.begins.limits.turns, c.loop-turn-test.true)

pub loop-turn-preserved : goal.loop-turn-preserved
loop-turn-preserved g c =
    let setup = setup_in c.args.board.now in
    let economy = c.args.market.now.economy.now in
    let i = c.loop-turn.invariant in
    let t = c.loop-turn.turn in
    let played = c.in_ok-play_turn.ensures in
    let old = state_in c.loop-turn.board in
    let new = state_in c.play_turn.new.board in
    let had = c.loop-turn.stocks in
    let have = c.play_turn.new.stocks in
    let text = string_bytes c.loop-turn.out in
    let number : t + 1 ≡ suc t = omega arith in
    let made : books_of new have ≡ paid_turn setup economy (books_of old had) (orders_at (suc t) setup.commands) =
    played.books ∙ ap (λ (s : Setup). paid_turn s economy (books_of old had) (orders_at (t + 1) s.commands)) i.same
    ∙ ap (λ (k : ℕ). paid_turn setup economy (books_of old had) (orders_at k setup.commands)) number in
    let books = books_more setup economy old had t i.books new have made in
    let shown = c.scene-in-loop-turn.result.state.now in
    let written : string_bytes c.push_line-in-loop-turn.new.out ≡ text ++ turn_line (codes "turn") (suc t) (digest setup new) =
    c.in_ok-push_line-2.ensures
    ∙ ap (λ (s : Setup). text ++ turn_line (codes "turn") shown.turn (digest s shown)) (c.setup-setup.ensures ∙ c.in_ok-start.ensures.setup)
    ∙ ap (λ (s : State). text ++ turn_line (codes "turn") s.turn (digest setup s)) c.scene-in-loop-turn.ensures.state
    ∙ ap (λ (k : ℕ). text ++ turn_line (codes "turn") k (digest setup new)) (books_turn setup economy new have (suc t) books) in
    let line = paid_lines_more setup economy (suc t) (string_bytes c.args.out.now) text (string_bytes c.push_line-in-loop-turn.new.out) (digest setup new)
    i.text written
    (ap (digest setup) (books_state setup economy new have (suc t) books)) in
    record {
      books = books ∙ ap (books_after setup economy) (sym number);
      total_is = omega (arith, i.total_is, played.total);
      text = line ∙ ap (λ (k : ℕ). string_bytes c.args.out.now ++ paid_lines setup economy (suc k)) (sym number);
      valid = subst (λ (s : Setup). IsValid s new) i.same played.valid;
      same = played.setup ∙ i.same;
      whole = played.whole;
      kinds = played.kept.kinds;
      most = most_kept _ _ _ i.most played.kept;
    }

pub returns-clause-ends : goal.returns-clause-ends
returns-clause-ends g c =
    let setup = setup_in c.args.board.now in
    let economy = c.args.market.now.economy.now in
    let i = c.loop-turn.invariant in
    let asked = ap (λ (s : Setup). s.turns) (c.setup-setup.ensures ∙ c.in_ok-start.ensures.setup) in
    let last : c.loop-turn.turn ≡ setup.turns = search rules in
    record {
      state = books_state setup economy (state_in c.loop-turn.board) c.loop-turn.stocks c.loop-turn.turn i.books ∙ ap (paid_state setup economy) last;
      whole = i.whole;
      kinds = i.kinds;
      most = i.most;
      setup = i.same;
    }

pub returns-clause-stocks : goal.returns-clause-stocks
returns-clause-stocks g c =
    let setup = setup_in c.args.board.now in
    let economy = c.args.market.now.economy.now in
    let i = c.loop-turn.invariant in
    let asked = ap (λ (s : Setup). s.turns) (c.setup-setup.ensures ∙ c.in_ok-start.ensures.setup) in
    let last : c.loop-turn.turn ≡ setup.turns = search rules in
    books_stocks setup economy (state_in c.loop-turn.board) c.loop-turn.stocks c.loop-turn.turn i.books ∙ ap (paid_stocks setup economy) last
