-- What stands behind the old bytes once a line more is appended.
use Rattle.std.proofs.{Common.get_or, lemmas.List.Concat.flat_map-append, lemmas.List.take_more}
use Rattle.sim_replay.proofs.Common.{◌≡◌, ℕ, ◌+◌, ◌<◌, List, [], ◌∷◌, ◌++◌, map, length, take, flat_map, ap, append-nil, append_assoc, digest_line, ended}
use Rattle.sim_replay.proofs.Common.{lines_from, map-append, order_line, PlayerCommand, sym, turn_lines, ◌∙◌}

-- the line of one command more
pub next_order : (turn : ℕ) (orders : List PlayerCommand) (i : ℕ) (order : PlayerCommand) (old mid new : List ℕ) → i < length orders
    → order ≡ get_or orders i order → mid ≡ old ++ flat_map ended (map (order_line turn) (take i orders)) → new ≡ mid ++ ended (order_line turn order)
    → new ≡ old ++ flat_map ended (map (order_line turn) (take (i + 1) orders))
next_order turn orders i order old mid new below is so_far more =
    let lines = flat_map ended (map (order_line turn) (take i orders)) in
    let line = ended (order_line turn order) in
    let whole : flat_map ended (map (order_line turn) (take (i + 1) orders)) ≡ lines ++ line
    = ap (λ (os : List PlayerCommand). flat_map ended (map (order_line turn) os))
    (take_more orders i order below ∙ ap (λ (o : PlayerCommand). take i orders ++ o ∷ []) (sym is))
    ∙ ap (flat_map ended) (map-append (order_line turn) (take i orders) (order ∷ []))
    ∙ flat_map-append ended (map (order_line turn) (take i orders)) (order_line turn order ∷ []) ∙ ap (λ (xs : List ℕ). lines ++ xs) (append-nil line) in
    more ∙ ap (λ (xs : List ℕ). xs ++ line) so_far ∙ append_assoc old lines line ∙ ap (λ (xs : List ℕ). old ++ xs) (sym whole)

-- the lines of one turn more
pub next_turn : (turn : ℕ) (orders : List PlayerCommand) (digest : List ℕ) (turns : List (List PlayerCommand)) (digests : List (List ℕ)) (old mid new : List ℕ)
    → mid ≡ old ++ flat_map ended (map (order_line turn) orders) → new ≡ mid ++ ended (digest_line turn digest)
    → new ++ flat_map ended (lines_from (turn + 1) turns digests) ≡ old ++ flat_map ended (lines_from turn (orders ∷ turns) (digest ∷ digests))
next_turn turn orders digest turns digests old mid new so_far more =
    let lines = flat_map ended (map (order_line turn) orders) in
    let line = ended (digest_line turn digest) in
    let rest = flat_map ended (lines_from (turn + 1) turns digests) in
    let whole : flat_map ended (turn_lines turn orders digest ++ lines_from (turn + 1) turns digests) ≡ (lines ++ line) ++ rest
    = flat_map-append ended (turn_lines turn orders digest) (lines_from (turn + 1) turns digests) ∙ ap (λ (xs : List ℕ). xs ++ rest)
    (flat_map-append ended (map (order_line turn) orders) (digest_line turn digest ∷ []) ∙ ap (λ (xs : List ℕ). lines ++ xs) (append-nil line)) in
    ap (λ (xs : List ℕ). xs ++ rest) (more ∙ ap (λ (xs : List ℕ). xs ++ line) so_far) ∙ append_assoc (old ++ lines) line rest ∙ append_assoc old lines (line ++ rest)
    ∙ ap (λ (xs : List ℕ). old ++ xs) (sym (append_assoc lines line rest) ∙ sym whole)
