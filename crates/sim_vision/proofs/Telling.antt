-- What is told of a sight is told of the states that it followed.
use Rattle.sim_vision.proofs.{After.{counts_last, counts_later, explored_all, explored_start, setup_stays, with_all}, Common.all_counts}
use Rattle.sim_vision.proofs.Common.{all_seen, ap, append-nil, append_assoc, arith, blind, Bool, Cell, cells_in, cells_of, cells_where, cond, count_at}
use Rattle.sim_vision.proofs.Common.{count_by, drop, drop-append-add, explored_with, extent_in, false, flag_in, flat_map, is_set, is_visible, joined_at}
use Rattle.sim_vision.proofs.Common.{last_of, length, length-map, List, ltb, map, part_of, players_of, range_with_len, refl, Row, sees, Setup, sight_line}
use Rattle.sim_vision.proofs.Common.{sight_lines, sight_text, size_of, State, suc, sum_by-cons, sym, take, take-append_seam, Vision, vision_after, was_visible}
use Rattle.sim_vision.proofs.{Common.{zero, ℕ, [], ◌*◌, ◌++◌, ◌+◌, ◌-◌, ◌<◌, ◌||◌, ◌∙◌, ◌∷◌, ◌≡◌, ◌≤◌}, Flat.{by_players, cells_long}, Seeing.any_counted}

-- ---- the part of a player in a list of all cells of all players

-- one of the pieces that make a list
piece_at : {X : Type 0} (g : ℕ → List X) (m : ℕ) → ((p : ℕ) → length (g p) ≡ m) → (from n i : ℕ) → i < n →
    take m (drop (i * m) (flat_map g (range_with_len from n))) ≡ g (from + i)
piece_at g m sizes from zero i lt = absurd (omega arith)
piece_at g m sizes from (suc n) zero lt =
    ap (λ (k : ℕ). take m (drop k (g from ++ flat_map g (range_with_len (from + 1) n)))) (none m)
    ∙ ap (λ (k : ℕ). take k (g from ++ flat_map g (range_with_len (from + 1) n))) (sym (sizes from))
    ∙ take-append_seam (g from) (flat_map g (range_with_len (from + 1) n))
    ∙ ap g (start from)
  where
    none : (m : ℕ) → 0 * m ≡ 0
    none m = omega arith

    start : (from : ℕ) → from ≡ from + 0
    start from = omega arith
piece_at g m sizes from (suc n) (suc i) lt =
    ap (λ (k : ℕ). take m (drop k (g from ++ flat_map g (range_with_len (from + 1) n)))) (let long = sizes from in further (length (g from)) i m long)
    ∙ ap (take m) (drop-append-add (g from) (flat_map g (range_with_len (from + 1) n)) (i * m))
    ∙ piece_at g m sizes (from + 1) n i (omega arith)
    ∙ ap g (moved from i)
  where
    further : (long i m : ℕ) → long ≡ m → suc i * m ≡ long + i * m
    further long i m e = omega (arith, e)

    moved : (from i : ℕ) → from + 1 + i ≡ from + suc i
    moved from i = omega arith

pub part_is : {X : Type 0} (d : X) (setup : Setup) (f : ℕ → Cell → X) (player : ℕ) → 1 ≤ player → player ≤ setup.players →
    part_of setup player (flat_map (λ p. map (f p) (cells_of (size_of setup.land))) (players_of setup)) ≡ map (f player) (cells_of (size_of setup.land))
part_is d setup f player first last =
    let area = cells_in setup in
    let xs = flat_map (λ p. map (f p) (cells_of (size_of setup.land))) (players_of setup) in
    ap (λ (k : ℕ). take k (drop ((player - 1) * area) xs)) (width player area first)
    ∙ piece_at (λ p. map (f p) (cells_of (size_of setup.land))) area (λ p. cells_long d (size_of setup.land) (f p)) 1 setup.players (player - 1) (omega arith)
    ∙ ap (λ (p : ℕ). map (f p) (cells_of (size_of setup.land))) (back player first)
  where
    back : (player : ℕ) → 1 ≤ player → 1 + (player - 1) ≡ player
    back player first = omega arith

    width : (player area : ℕ) → 1 ≤ player → player * area - (player - 1) * area ≡ area
    width player area first = let same = ap (λ (n : ℕ). n * area) (back player first) in omega (arith, same)

-- ---- how many cells pass a test

count_mapped : {X Y : Type 0} (test : Y → Bool) (g : X → Y) (xs : List X) → count_by test (map g xs) ≡ count_by (λ x. test (g x)) xs
count_mapped test g [] = refl
count_mapped test g (x ∷ xs) =
    sum_by-cons (λ y. cond (test y) 1 0) (g x) (map g xs)
    ∙ ap (λ (n : ℕ). cond (test (g x)) 1 0 + n) (count_mapped test g xs)
    ∙ sym (sum_by-cons (λ x. cond (test (g x)) 1 0) x xs)

visible_cells : (setup : Setup) (rows : List Row) (player : ℕ) (cells : List Cell) →
    count_by (ltb 0) (map (count_at setup rows player) cells) ≡ count_by (is_visible setup rows player) cells
visible_cells setup rows player cells =
    count_mapped (ltb 0) (count_at setup rows player) cells
    ∙ (λ i. count_by (λ c. any_counted (sees setup player c) rows i) cells)

-- ---- the lines of all players

flat_more : (line : ℕ → List ℕ) (from n : ℕ) → flat_map line (range_with_len from (suc n)) ≡ flat_map line (range_with_len from n) ++ line (from + n)
flat_more line from zero = append-nil (line from) ∙ ap line (start from)
  where
    start : (from : ℕ) → from ≡ from + 0
    start from = omega arith
flat_more line from (suc n) =
    ap (λ (xs : List ℕ). line from ++ xs) (flat_more line (from + 1) n)
    ∙ sym (append_assoc (line from) (flat_map line (range_with_len (from + 1) n)) (line (from + 1 + n)))
    ∙ ap (λ (k : ℕ). (line from ++ flat_map line (range_with_len (from + 1) n)) ++ line k) (moved from n)
  where
    moved : (from n : ℕ) → from + 1 + n ≡ from + suc n
    moved from n = omega arith

-- the lines so far, and that of one player more
pub lines_more : (line : ℕ → List ℕ) (player : ℕ) (old text more : List ℕ) → 1 ≤ player → text ≡ old ++ flat_map line (range_with_len 1 (player - 1)) →
    more ≡ text ++ line player →
    more ≡ old ++ flat_map line (range_with_len 1 (player + 1 - 1))
lines_more line player old text more first so_far written =
    let here : 1 + (player - 1) ≡ player = omega (arith, first) in
    let next : suc (player - 1) ≡ player + 1 - 1 = omega (arith, first) in
    written
    ∙ ap (λ (xs : List ℕ). xs ++ line player) so_far
    ∙ append_assoc old (flat_map line (range_with_len 1 (player - 1))) (line player)
    ∙ ap (λ (k : ℕ). old ++ (flat_map line (range_with_len 1 (player - 1)) ++ line k)) (sym here)
    ∙ ap (λ (xs : List ℕ). old ++ xs) (sym (flat_more line 1 (player - 1)))
    ∙ ap (λ (k : ℕ). old ++ flat_map line (range_with_len 1 k)) next

same_lines : (g h : ℕ → List ℕ) (from n : ℕ) → ((p : ℕ) → from ≤ p → p < from + n → g p ≡ h p) →
    flat_map g (range_with_len from n) ≡ flat_map h (range_with_len from n)
same_lines g h from zero same = refl
same_lines g h from (suc n) same = λ i. same from (omega arith) (omega arith) i ++ same_lines g h (from + 1) n
    (λ p low high. same p (omega arith) (omega arith)) i

-- a sight whose lists are those of a state and of a test
pub told : (vision : Vision) (setup : Setup) (rows : List Row) (explored : ℕ → Cell → Bool) → vision.setup ≡ setup → vision.counts ≡ all_counts setup rows →
    vision.explored ≡ flat_map (λ p. map (explored p) (cells_of (size_of setup.land))) (players_of setup) →
    sight_text vision ≡ sight_lines setup (is_visible setup rows) explored
told vision setup rows explored e counts flags =
    (λ i. sight_text (record { setup = e i; counts = counts i; explored = flags i }))
    ∙ same_lines _ _ 1 setup.players (λ p low high i.
    sight_line p (seen p low (omega arith) i) (known p low (omega arith) i))
  where
    cells : List Cell
    cells = cells_of (size_of setup.land)

    seen : (p : ℕ) → 1 ≤ p → p ≤ setup.players → count_by (ltb 0) (part_of setup p (all_counts setup rows)) ≡ cells_where setup (is_visible setup rows p)
    seen p first last = ap (count_by (ltb 0)) (part_is 0 setup (count_at setup rows) p first last) ∙ visible_cells setup rows p (cells_of (size_of setup.land))

    known : (p : ℕ) → 1 ≤ p → p ≤ setup.players → count_by (λ (b : Bool). b)
        (part_of setup p (flat_map (λ p. map (explored p) (cells_of (size_of setup.land))) (players_of setup))) ≡ cells_where setup (explored p)
    known p first last = ap (count_by (λ (b : Bool). b)) (part_is false setup explored p first last)
        ∙ count_mapped (λ (b : Bool). b) (explored p) (cells_of (size_of setup.land))

pub told_from_the_start : (setup : Setup) (first : State) (later : List State) →
    sight_text (vision_after (blind setup) (first ∷ later)) ≡ sight_lines setup (is_visible setup (last_of first later).rows)
    (was_visible setup (first ∷ later))
told_from_the_start setup first later =
    told (vision_after (blind setup) (first ∷ later)) setup (last_of first later).rows (was_visible setup (first ∷ later))
    (setup_stays (blind setup) (first ∷ later)) (counts_last (blind setup) first later) (explored_start setup (first ∷ later))

-- a list of all cells of all players, by its flags
flags_are : (setup : Setup) (flags : List Bool) → length flags ≡ setup.players * cells_in setup →
    flags ≡ flat_map (λ p. map (flag_in (extent_in setup) flags p) (cells_of (size_of setup.land))) (players_of setup)
flags_are setup flags full = by_players false (extent_in setup) (flag_in (extent_in setup) flags) flags full (λ player c at. refl)

pub told_from_a_file : (setup : Setup) (first : State) (bytes : List ℕ) (later : List State) → length bytes ≡ setup.players * cells_in setup →
    sight_text (vision_after (joined_at setup first bytes) later) ≡ sight_lines setup (is_visible setup (last_of first later).rows)
    (λ player c. flag_in (extent_in setup) (map is_set bytes) player c || was_visible setup later player c)
told_from_a_file setup first bytes later full =
    let flags = map is_set bytes in
    let long = length-map bytes is_set ∙ full in
    told (vision_after (joined_at setup first bytes) later) setup (last_of first later).rows
    (λ player c. flag_in (extent_in setup) flags player c || was_visible setup later player c)
    (setup_stays (joined_at setup first bytes) later) (counts_later (joined_at setup first bytes) first later refl)
    (explored_all (joined_at setup first bytes) later long
    ∙ ap (λ (xs : List Bool). explored_with xs (all_seen setup later)) (flags_are setup flags long)
    ∙ with_all (flag_in (extent_in setup) flags) (was_visible setup later) (cells_of (size_of setup.land)) (players_of setup))
