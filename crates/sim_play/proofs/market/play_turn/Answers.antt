-- The commands are those of the match's own turn.
use Rattle.{sim_play.proofs.Common.◌∙◌, sim_turn.proofs.Counting.players_at}
use Rattle.sim_play.proofs.Common.{◌≡◌, ℕ, List, OnOk, All, ap, books_of, IsOrderOf, orders_at, paid_turn, PlayerCommand, Setup, setup_in, state_in, subst, sym}

pub paid_turn-requires : Rattle.sim_play.proofs.market.play_turn.Goals.paid_turn-requires
paid_turn-requires g c =
    let setup = setup_in c.args.board.now in
    let orders : c.deref.result.now ≡ orders_at c.args.number setup.commands =
    c.deref.ensures.value ∙ c.in_ok-commands.ensures ∙ c.due_at-due.ensures ∙
    ap (orders_at c.args.number) (c.as_slice.ensures ∙ ap (λ (s : Setup). s.commands) c.setup-setup.ensures) in
    record {
      whole = c.requires.goes_on.whole;
      valid = c.requires.goes_on.valid;
      below = c.requires.below;
      players = subst (All (IsOrderOf setup)) (sym orders)
          (subst (λ (k : ℕ). All (IsOrderOf setup) (orders_at k setup.commands)) (sym c.requires.number)
          (players_at setup (state_in c.args.board.now).turn c.requires.goes_on.whole.standing.limits));
      economy = c.requires.economy;
      total = c.requires.total;
    }

pub returns : Rattle.sim_play.proofs.market.play_turn.Goals.returns
returns g c =
    let setup = setup_in c.args.board.now in
    let economy = c.args.market.now.economy.now in
    let orders : c.deref.result.now ≡ orders_at c.args.number setup.commands =
    c.deref.ensures.value ∙ c.in_ok-commands.ensures ∙ c.due_at-due.ensures ∙
    ap (orders_at c.args.number) (c.as_slice.ensures ∙ ap (λ (s : Setup). s.commands) c.setup-setup.ensures) in
    let pays = c.paid_turn.ensures.pays in
    record {
      books = subst (λ (commands : List PlayerCommand). OnOk c.paid_turn.result (books_of (state_in c.paid_turn.new.board) c.paid_turn.new.stocks
          ≡ paid_turn setup economy (books_of (state_in c.args.board.now) c.args.stocks.now) commands)) orders pays.books;
      total = pays.total;
      valid = pays.valid;
      whole = pays.whole;
      kept = pays.kept;
      setup = pays.setup;
    }
