-- One paid turn more of a match: its books, its number and its line.
use Rattle.sim_play.proofs.Common.{append_assoc, Books, books_after, books_of, digest, Economy, kept_past, orders_at, paid_lines, paid_state}
use Rattle.sim_play.proofs.Common.{paid_turn, Setup, State, states_are_after, Stocks, sym, turn_line, turns_in, ◌∙◌, ◌≡◌, ℕ, zero, suc}
use Rattle.sim_play.proofs.Common.{List, ◌++◌, codes, refl, after_counts_turns, ap, append-nil}

module _ (setup : Setup) (economy : Economy) where
  kept_turns : (n : ℕ) → turns_in (kept_past setup economy n) ≡ n
  kept_turns zero = refl
  kept_turns (suc n) = ap suc (kept_turns n)

  module _ (state : State) (stocks : Stocks) (n : ℕ) (so_far : books_of state stocks ≡ books_after setup economy n) where
    -- the state of the books is that after the commands that were not left out
    pub books_state : state ≡ paid_state setup economy n
    books_state = ap (λ (books : Books). books.state) so_far ∙ states_are_after setup economy n

    pub books_stocks : stocks ≡ (books_after setup economy n).stocks
    books_stocks = ap (λ (books : Books). books.stocks) so_far

    -- and stands at that turn
    pub books_turn : state.turn ≡ n
    books_turn = ap (λ (s : State). s.turn) books_state ∙ after_counts_turns setup (kept_past setup economy n) ∙ kept_turns n

    -- one turn more
    pub books_more : (new : State) (left : Stocks) → books_of new left ≡ paid_turn setup economy (books_of state stocks) (orders_at (suc n) setup.commands)
        → books_of new left ≡ books_after setup economy (suc n)
    books_more new left made = made ∙ ap (λ (books : Books). paid_turn setup economy books (orders_at (suc n) setup.commands)) so_far

  -- the lines so far, and the line of one turn more
  pub paid_lines_more : (n : ℕ) (old text more hash : List ℕ) → text ≡ old ++ paid_lines setup economy n → more ≡ text ++ turn_line (codes "turn") n hash
      → hash ≡ digest setup (paid_state setup economy n) → more ≡ old ++ paid_lines setup economy (suc n)
  paid_lines_more n old text more hash so_far written is =
      let lines = paid_lines setup economy n in
      written
      ∙ ap (λ (xs : List ℕ). xs ++ turn_line (codes "turn") n hash) so_far
      ∙ append_assoc old lines (turn_line (codes "turn") n hash)
      ∙ ap (λ (d : List ℕ). old ++ (lines ++ turn_line (codes "turn") n d)) is

  -- the line of turn 0
  pub first_line : (old more hash : List ℕ) → more ≡ old ++ turn_line (codes "turn") 0 hash → hash ≡ digest setup (paid_state setup economy 0)
      → more ≡ old ++ paid_lines setup economy 1
  first_line old more hash written is = paid_lines_more 0 old old more hash (sym (append-nil old)) written is
