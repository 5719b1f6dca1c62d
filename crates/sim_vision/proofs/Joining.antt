-- Explored cells of a file: why they are refused, and that a fog which takes them over is kept.
use Rattle.sim_vision.proofs.Common.{all_counts, all_visible, and_parts, ap, area_of, arith, Bool, cases_lt, cells_in, cells_of, cond, count_at, count_in}
use Rattle.sim_vision.proofs.Common.{counts_of, eq-eqb, eqb, Err, Extent, extent_in, extent_of, false, flat_map, Fog, get_or, get_or-map, get_or_past, Global}
use Rattle.sim_vision.proofs.Common.{IfOk, is_bit, is_missed, is_set, is_unseen, Keeps, leb, leb-true, Length, length, length-map, List, list_all, list_any}
use Rattle.sim_vision.proofs.Common.{lt-ltb, ltb, map, Mark, ne_eqb, None, not, NotBit, Ok, one_if, Option, or_parts, OutOfMemory, place_of, players_of, refl}
use Rattle.sim_vision.proofs.Common.{refusal_of, Result, Row, sees, Setup, SightFault, size_of, Some, subst, suc, sym, true, true≢false, Unseen, Vec}
use Rattle.sim_vision.proofs.Common.{visible_of, Vision, zero, zip, ℕ, ⊎_elim, [], ◌&&◌, ◌*◌, ◌<◌, ◌||◌, ◌∙◌, ◌∷◌, ◌≡◌, ◌≤◌}
use Rattle.{sim_vision.proofs.{Flat.{map_flat, place_at}, Places.place_below, Seeing.any_counted}, std.proofs.lemmas.Simd.map-map}

-- the cause by the three tests
abbrev pub verdict : Bool → Bool → Bool → Option SightFault
verdict long bits unseen = cond (not long) (Some Length) (cond (not bits) (Some NotBit) (cond unseen (Some Unseen) None))

pub refused_as : (setup : Setup) (rows : List Row) (bytes : List ℕ) (long bits unseen : Bool) →
    eqb (length bytes) (setup.players * cells_in setup) ≡ long → list_all is_bit bytes ≡ bits →
    list_any is_unseen (zip (all_visible setup rows) bytes) ≡ unseen →
    refusal_of setup rows bytes ≡ verdict long bits unseen
refused_as setup rows bytes long bits unseen e f g = λ i. verdict (e i) (f i) (g i)

-- what is counted is visible
pub any_unseen : (counts bytes : List ℕ) → list_any is_unseen (zip (map (ltb 0) counts) bytes) ≡ list_any is_missed (zip counts bytes)
any_unseen [] bytes = refl
any_unseen (n ∷ counts) [] = refl
any_unseen (n ∷ counts) (b ∷ bytes) = ap (λ (t : Bool). (ltb 0 n && eqb b 0) || t) (any_unseen counts bytes)

set_there : (n b : ℕ) → (ltb 0 n && eqb b 0) ≡ false → leb b 1 ≡ true → 0 < n → eqb b 1 ≡ true
set_there n zero missed bit some = absurd (true≢false (sym (lt-ltb 0 n some) ∙ and_one (ltb 0 n) ∙ missed))
  where
    and_one : (b : Bool) → b ≡ (b && true)
    and_one true = refl
    and_one false = refl
set_there n (suc b) missed bit some = let le = leb-true (suc b) 1 bit in eq-eqb (suc b) 1 (omega arith)

pub covered_at : (counts bytes : List ℕ) → list_any is_missed (zip counts bytes) ≡ false → list_all is_bit bytes ≡ true → (k : ℕ) → k < length bytes →
    0 < get_or counts k 0 → eqb (get_or bytes k 0) 1 ≡ true
covered_at [] bytes none bits k lt some = absurd (omega arith)
covered_at (n ∷ counts) [] none bits k lt some = absurd (omega arith)
covered_at (n ∷ counts) (b ∷ bytes) none bits zero lt some =
    set_there n b (or_parts (ltb 0 n && eqb b 0) (list_any is_missed (zip counts bytes)) none).0 (and_parts (leb b 1) (list_all is_bit bytes) bits).0 some
covered_at (n ∷ counts) (b ∷ bytes) none bits (suc k) lt some =
    covered_at counts bytes (or_parts (ltb 0 n && eqb b 0) (list_any is_missed (zip counts bytes)) none).1
    (and_parts (leb b 1) (list_all is_bit bytes) bits).1 k (omega arith) some

pub keeps_joined : (setup : Setup) (marks : List Mark) (discs : List ℕ) (fog fog' : Fog) (bytes : List ℕ) → Keeps setup marks discs fog →
    extent_of fog' ≡ extent_of fog → fog'.counts.items ≡ fog.counts.items → fog'.flags.items ≡ map is_set bytes →
    length bytes ≡ length fog.flags.items → list_any is_missed (zip fog.counts.items bytes) ≡ false → list_all is_bit bytes ≡ true →
    Keeps setup marks discs fog'
keeps_joined setup marks discs fog fog' bytes keeps extent counts flags long none bits = record {
  limits = keeps.limits;
  reaches = keeps.reaches;
  extent = extent ∙ keeps.extent;
  few = keeps.few;
  known = keeps.known;
  counts = λ player c at. ap (λ (xs : List ℕ). count_in (extent_in setup) xs player c) counts ∙ keeps.counts player c at;
  lit = λ player c at some.
      let place = place_of (extent_in setup).size player c in
      let full = ap (λ (e : Extent). e.players * (e.size.width * e.size.depth)) keeps.extent in
      let below : place < length bytes = omega (arith, place_below (extent_in setup) player c at, long, fog.flagged, fog.flags.ok.0, full) in
      let counted : 0 < get_or fog.counts.items place 0 = subst (λ (xs : List ℕ). 0 < get_or xs place 0) counts some in
      ap (λ (xs : List Bool). get_or xs place false) flags ∙ get_or-map is_set bytes place 0 false below
      ∙ covered_at fog.counts.items bytes none bits place below counted;
}

-- ---- why bytes are refused

-- what is counted is visible, over all cells of all players
visible_counts : (setup : Setup) (rows : List Row) → map (ltb 0) (all_counts setup rows) ≡ all_visible setup rows
visible_counts setup rows =
    map_flat (ltb 0) (counts_of setup rows) (players_of setup)
    ∙ (λ i. flat_map (λ player. cells player i) (players_of setup))
  where
    cells : (player : ℕ) → map (ltb 0) (counts_of setup rows player) ≡ visible_of setup rows player
    cells player =
        map-map (ltb 0) (count_at setup rows player) (cells_of (size_of setup.land))
        ∙ (λ i. map (λ c. any_counted (sees setup player c) rows i) (cells_of (size_of setup.land)))

pub unseen_is_missed : (setup : Setup) (rows : List Row) (bytes : List ℕ) →
    list_any is_unseen (zip (all_visible setup rows) bytes) ≡ list_any is_missed (zip (all_counts setup rows) bytes)
unseen_is_missed setup rows bytes =
    ap (λ (visible : List Bool). list_any is_unseen (zip visible bytes)) (sym (visible_counts setup rows))
    ∙ any_unseen (all_counts setup rows) bytes

module _ (setup : Setup) (rows : List Row) (bytes : List ℕ) where
  pub by_length : (length bytes ≡ setup.players * cells_in setup → ⊥) → refusal_of setup rows bytes ≡ Some Length
  by_length other =
      refused_as setup rows bytes false (list_all is_bit bytes) (list_any is_unseen (zip (all_visible setup rows) bytes))
      (ne_eqb (length bytes) (setup.players * cells_in setup) other) refl refl

  pub by_bits : length bytes ≡ setup.players * cells_in setup → list_all is_bit bytes ≡ false → refusal_of setup rows bytes ≡ Some NotBit
  by_bits full other =
      refused_as setup rows bytes true false (list_any is_unseen (zip (all_visible setup rows) bytes))
      (eq-eqb (length bytes) (setup.players * cells_in setup) full) other refl

  -- a file of the match is refused for a cell that is counted alone
  pub by_cells : length bytes ≡ setup.players * cells_in setup → list_all is_bit bytes ≡ true → (missed : Bool) →
      list_any is_missed (zip (all_counts setup rows) bytes) ≡ missed →
      refusal_of setup rows bytes ≡ cond missed (Some Unseen) None
  by_cells full bits missed is =
      refused_as setup rows bytes true true missed
      (eq-eqb (length bytes) (setup.players * cells_in setup) full) bits (unseen_is_missed setup rows bytes ∙ is)

-- ---- a file that was written

bits_back : (flags : List Bool) → map is_set (map one_if flags) ≡ flags
bits_back [] = refl
bits_back (flag ∷ flags) = λ i. here flag i ∷ bits_back flags i
  where
    here : (b : Bool) → is_set (one_if b) ≡ b
    here true = refl
    here false = refl

all_bits : (flags : List Bool) → list_all is_bit (map one_if flags) ≡ true
all_bits [] = refl
all_bits (flag ∷ flags) = λ i. here flag i && all_bits flags i
  where
    here : (b : Bool) → is_bit (one_if b) ≡ true
    here true = refl
    here false = refl

none_missed : (counts : List ℕ) (flags : List Bool) → ((k : ℕ) → 0 < get_or counts k 0 → get_or flags k false ≡ true) →
    list_any is_missed (zip counts (map one_if flags)) ≡ false
none_missed [] flags lit = refl
none_missed (n ∷ counts) [] lit = refl
none_missed (n ∷ counts) (flag ∷ flags) lit = λ i. here n flag (lit 0) i || none_missed counts flags (λ k. lit (suc k)) i
  where
    and_none : (b : Bool) → (b && false) ≡ false
    and_none true = refl
    and_none false = refl

    here : (n : ℕ) (b : Bool) → (0 < n → b ≡ true) → (ltb 0 n && eqb (one_if b) 0) ≡ false
    here n true h = and_none (ltb 0 n)
    here zero false h = refl
    here (suc n) false h = absurd (true≢false (sym (h (omega arith))))

-- there is a flag for each cell of each player
pub kept_long : (setup : Setup) (marks : List Mark) (discs : List ℕ) (fog : Fog) → Keeps setup marks discs fog →
    length fog.flags.items ≡ setup.players * cells_in setup
kept_long setup marks discs fog keeps =
    let full = ap (λ (e : Extent). e.players * (e.size.width * e.size.depth)) keeps.extent in
    omega (arith, fog.flagged, fog.flags.ok.0, full)

-- what is counted is explored, at each place of the lists
lit_at : (setup : Setup) (marks : List Mark) (discs : List ℕ) (fog : Fog) → Keeps setup marks discs fog → (k : ℕ) → 0 < get_or fog.counts.items k 0 →
    get_or fog.flags.items k false ≡ true
lit_at setup marks discs fog keeps k some = ⊎_elim
    (λ (lt : k < setup.players * area_of (size_of setup.land)).
    let s = place_at (extent_in setup) k lt in
    let seen : 0 < get_or fog.counts.items (place_of (extent_in setup).size s.player s.cell) 0 =
    subst (λ (n : ℕ). 0 < get_or fog.counts.items n 0) (sym s.is) some in
    ap (λ (n : ℕ). get_or fog.flags.items n false) (sym s.is) ∙ keeps.lit s.player s.cell s.at seen)
    (λ (le : setup.players * area_of (size_of setup.land) ≤ k).
    let full = ap (λ (e : Extent). e.players * (e.size.width * e.size.depth)) keeps.extent in
    let past : get_or fog.counts.items k 0 ≡ 0 = get_or_past fog.counts.items k 0 (omega (arith, fog.counted, fog.counts.ok.0, full, le)) in
    absurd (omega (arith, past, some)))
    (cases_lt k (setup.players * area_of (size_of setup.land)))

-- what a fog gives as a file is taken over, and gives it back
module _ (setup : Setup) (marks : List Mark) (discs : List ℕ) (fog : Fog) (keeps : Keeps setup marks discs fog) where
  pub taken : (rows : List Row) → fog.counts.items ≡ all_counts setup rows → refusal_of setup rows (map one_if fog.flags.items) ≡ None
  taken rows counts =
      by_cells setup rows (map one_if fog.flags.items)
      (length-map fog.flags.items one_if ∙ kept_long setup marks discs fog keeps) (all_bits fog.flags.items) false
      (ap (λ (ns : List ℕ). list_any is_missed (zip ns (map one_if fog.flags.items))) (sym counts)
      ∙ none_missed fog.counts.items fog.flags.items (lit_at setup marks discs fog keeps))

pub bytes_back : (bytes : Result (Vec ℕ Global) OutOfMemory) (flags explored : List Bool) → flags ≡ explored →
    IfOk bytes (λ made. made.items ≡ map one_if flags) → IfOk bytes (λ made. map is_set made.items ≡ explored)
bytes_back (Ok made) flags explored e is = ap (map is_set) is ∙ bits_back flags ∙ e
bytes_back (Err fault) flags explored e is = tt

pub bytes_taken : (bytes : Result (Vec ℕ Global) OutOfMemory) (vision : Vision) (marks : List Mark) (discs : List ℕ) (fog : Fog) →
    record { setup = vision.setup; counts = fog.counts.items; explored = fog.flags.items } ≡ vision →
    Keeps vision.setup marks discs fog → IfOk bytes (λ made. made.items ≡ map one_if fog.flags.items) →
    IfOk bytes (λ made. (rows : List Row) → vision.counts ≡ all_counts vision.setup rows → refusal_of vision.setup rows made.items ≡ None)
bytes_taken (Ok made) vision marks discs fog view keeps is = λ rows counts.
    ap (refusal_of vision.setup rows) is ∙ taken vision.setup marks discs fog keeps rows (ap (λ (v : Vision). v.counts) view ∙ counts)
bytes_taken (Err fault) vision marks discs fog view keeps is = tt
