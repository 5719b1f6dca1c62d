-- The deeds of the turn are done by players of the match, the commands are no turn, and all parts together make a paid turn.
use Rattle.{sim_base.proofs.Lists.on_ok, sim_board.proofs.Keeping.kept_on}
use Rattle.sim_stock.proofs.Common.{All, ap, arith, Books, books_of, DatedDeed, deeds_at, IsDatedDeed, IsEconomy, IsNonDecreasingBy, refl, Setup, setup_in}
use Rattle.sim_stock.proofs.{Common.{State, state_in, subst, sym, ◌+◌, ◌∙◌}, Paying.{few_dealers, joined, joined_state, joined_valid, obeyed_keep_turn}}
use Rattle.sim_stock.proofs.market.Market.paid_turn.Goals as goal

pub overflow_add-turn : goal.overflow_add-turn
overflow_add-turn g c =
    let turn = ap (λ (s : State). s.turn) c.scene.ensures.state in omega (arith, turn, c.requires.below, c.requires.whole.standing.limits.turns)

pub due_at-due-requires-clause-rising : goal.due_at-due-requires-clause-rising
due_at-due-requires-clause-rising g c = subst (IsNonDecreasingBy (λ (dated : DatedDeed). dated.turn)) (sym c.as_slice-dated.ensures) c.requires.economy.rising

pub due_at-due-requires-clause-turn : goal.due_at-due-requires-clause-turn
due_at-due-requires-clause-turn g c =
    let turn = ap (λ (s : State). s.turn) c.scene.ensures.state in omega (arith, turn, c.requires.below, c.requires.whole.standing.limits.turns)

pub deal-requires-clause-deeds : goal.deal-requires-clause-deeds
deal-requires-clause-deeds g c =
    let due = c.due_at-due.ensures ∙ ap (deeds_at (c.scene.result.state.now.turn + 1)) c.as_slice-dated.ensures in
    subst (All IsDatedDeed) (sym due) (few_dealers (setup_in c.args.board.now) c.args.self.now.economy.now (c.scene.result.state.now.turn + 1)
    c.requires.whole.standing.limits c.requires.economy)

pub settle-requires : goal.settle-requires
settle-requires g c =
    let served = c.in_ok-serve_all.ensures in
    let turn = ap (λ (books : Books). books.state.turn) served.books
    ∙ obeyed_keep_turn (setup_in c.args.board.now) c.args.self.now.economy.now.prices (books_of (state_in c.args.board.now) c.deal.new.stocks)
    c.args.commands.now in
    let turns = ap (λ (s : Setup). s.turns) served.setup in
    record {
      whole = served.whole;
      below = omega (arith, turn, turns, c.requires.below);
      economy = subst (λ (s : Setup). IsEconomy s c.args.self.now.economy.now) (sym served.setup) c.requires.economy;
      total = omega (arith, served.total, c.deal.ensures.total, c.requires.total);
    }

pub returns-clause-pays : goal.returns-clause-pays
returns-clause-pays g c =
    let setup = setup_in c.args.board.now in
    let economy = c.args.self.now.economy.now in
    let state = state_in c.args.board.now in
    let served = c.in_ok-serve_all.ensures in
    let settles = c.settle.ensures in
    let due = c.due_at-due.ensures ∙ ap (deeds_at (c.scene.result.state.now.turn + 1)) c.as_slice-dated.ensures ∙
    ap (λ (s : State). deeds_at (s.turn + 1) economy.deeds) c.scene.ensures.state in
    let books = joined c.settle.result setup (setup_in c.serve_all.new.board) economy state (state_in c.serve_all.new.board) (state_in c.settle.new.board)
    c.args.stocks.now c.deal.new.stocks c.serve_all.new.stocks c.settle.new.stocks c.due_at-due.result.now economy.prices c.args.commands.now
    served.setup due c.deal.ensures.stocks refl served.books settles.books in
    record {
      books = books;
      total = on_ok c.settle.result _ _ (λ le. omega (arith, le, served.total, c.deal.ensures.total)) settles.total;
      valid = joined_valid c.settle.result setup economy state (state_in c.settle.new.board) c.args.stocks.now c.settle.new.stocks c.args.commands.now
          c.requires.whole.standing.limits c.requires.players c.requires.valid c.requires.below books;
      whole = settles.whole;
      kept = kept_on _ _ _ served.kept settles.kept;
      setup = settles.setup ∙ served.setup;
    }

pub returns-clause-state : goal.returns-clause-state
returns-clause-state g c =
    joined_state c.settle.result (setup_in c.args.board.now) c.args.self.now.economy.now (state_in c.args.board.now) (state_in c.settle.new.board)
    c.args.stocks.now c.settle.new.stocks c.args.commands.now (returns-clause-pays g c).books
