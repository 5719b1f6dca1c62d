-- One turn more of a match: its line.
use Rattle.sim_play.proofs.Common.{◌≡◌, ℕ, suc, ◌+◌, List, ◌++◌, codes, ap, append_assoc, digest, from, own_turns, Setup, State, turn_line, turn_lines, ◌∙◌}

-- the lines so far, and the line of one turn more
pub lines_more : (setup : Setup) (state : State) (start n turn : ℕ) (old text more hash : List ℕ) → text ≡ old ++ turn_lines setup state start (suc n)
    → more ≡ text ++ turn_line (codes "turn") turn hash →
    turn ≡ start + suc n → hash ≡ digest setup (from setup state (own_turns setup start (suc n))) → more ≡ old ++ turn_lines setup state start (suc (suc n))
lines_more setup state start n turn old text more hash so_far written number is =
    let lines = turn_lines setup state start (suc n) in
    written
    ∙ ap (λ (xs : List ℕ). xs ++ turn_line (codes "turn") turn hash) so_far
    ∙ append_assoc old lines (turn_line (codes "turn") turn hash)
    ∙ ap (λ (k : ℕ). old ++ (lines ++ turn_line (codes "turn") k hash)) number
    ∙ ap (λ (d : List ℕ). old ++ (lines ++ turn_line (codes "turn") (start + suc n) d)) is
