-- What a realm keeps, from one state to the next.
use Rattle.sim_territory.proofs.Common.{All, All-cons, All-get_or, All-head, All-map, All-nil, All-tail, All-weaker, and_from, and_parts, ap, AreHolders}
use Rattle.sim_territory.proofs.Common.{AreInfluences, AreShifted, arith, Base, base_of, Bool, Born, Building, Cell, cells_of, cond, cond-false, div-add-mod'}
use Rattle.sim_territory.proofs.Common.{div-lt_iff_lt-mul, drop, false, FitShifts, flat_map, flat_map-cons, get_or, get_or-drop, get_or-flat_map, get_or-map}
use Rattle.sim_territory.proofs.Common.{get_or-map-range_with_len, get_or-range_with_len, get_or-replicate, get_or-set_other, get_or-set_same, get_or-take}
use Rattle.sim_territory.proofs.Common.{get_or_default, GivesNothing, Gone, HasShapeOf, holder, holder_at, holder_by, IfSome, influence, inl, inr}
use Rattle.sim_territory.proofs.Common.{inside-on_ground, IsAscending, IsBuildingOf, IsFrom, IsKnownRow, IsMarkIn, IsOnGround, IsPlaceIn, IsSetup, IsSummed}
use Rattle.sim_territory.proofs.Common.{IsTemplate, IsValid, IsValidRow, le-leb, leb-true, length, length-append, length-drop, length-map}
use Rattle.sim_territory.proofs.Common.{length-map-range_with_len, length-range_with_len, length-replicate, length-take, length-take-le, List, lt-ltb, ltb-true}
use Rattle.sim_territory.proofs.Common.{map, Mark, mark_in, mark_of, marks_ascend, marks_of, mod-lt, mul-add-lt, mul-le-mul_right, mul_comm, nat_le, nat_lt}
use Rattle.sim_territory.proofs.Common.{ne_eqb, None, octile, Option, option_and_then, option_map, place-below, place_of, places-apart, range_with_len}
use Rattle.sim_territory.proofs.Common.{reach_of, refl, replicate, Row, row_limit, same_from_place, same_lists, set, Setup, share, Shift, shifts_between, Size}
use Rattle.sim_territory.proofs.Common.{size_in, size_of, slice_get, slice_get_cases, slice_range, Some, State, strength, subst, sum_at, sum_by, sum_by-cons}
use Rattle.sim_territory.proofs.Common.{sum_follows, sum_place, SumFollows, Sums, sym, take, Template, template_of, true, unwrap_or, weight_born, weight_gone}
use Rattle.sim_territory.proofs.{Common.{zero-add, ℕ, [], ◌%◌, ◌&&◌, ◌*◌, ◌+◌, ◌-◌, ◌/◌, ◌<◌, ◌==◌, ◌∙◌, ◌∷◌, ◌≡◌, ◌≢◌, ◌≤◌, ◌⊎◌}, Following.mark_later}
use Rattle.{sim_territory.proofs.{Holding.{holder_by-is, holder_by-same}, Moving.{place-before, size-shape}}, sim_trail.proofs.PlacedRows.known_row}

-- Each influence has a place of its own in the list, and each cell's holder is told by the influences there.

pub sum_place-below : (sums : Sums) (player : ℕ) (c : Cell) → IsPlaceIn sums player c → sum_place (size_in sums) player c < sums.players *
    (sums.width * sums.depth)
sum_place-below sums player c at =
    let least = at.least in
    let most = at.most in
    let row : player - 1 < sums.players = omega arith in
    subst (λ (n : ℕ). sum_place (size_in sums) player c < n) (mul_comm (sums.width * sums.depth) sums.players)
    (mul-add-lt (player - 1) (sums.width * sums.depth) (place_of (size_in sums) c) sums.players row (place-below (size_in sums) c at.ground))

module _ (size : Size) (items : List ℕ) (player : ℕ) (cell : Cell) (influence : ℕ) (least : 1 ≤ player) (on : IsOnGround size cell) where
  pub set-beside : (other : ℕ) → 1 ≤ other → (other ≡ player → ⊥) → get_or (set items (sum_place size player cell) influence) (sum_place size other cell) 0 ≡
      get_or items (sum_place size other cell) 0
  set-beside other from ne =
      get_or-set_other items (sum_place size player cell) (sum_place size other cell) influence 0
      (λ e.
      let parts = same_from_place (other - 1) (place_of size cell) (player - 1) (place_of size cell) (size.width * size.depth) (place-below size cell on)
      (place-below size cell on) e in
      ne (omega (arith, parts.0)))

  pub set-elsewhere : (other : ℕ) (c : Cell) → IsOnGround size c → (c ≡ cell → ⊥) → get_or (set items (sum_place size player cell) influence)
      (sum_place size other c) 0 ≡ get_or items (sum_place size other c) 0
  set-elsewhere other c there ne =
      get_or-set_other items (sum_place size player cell) (sum_place size other c) influence 0
      (λ e.
      let parts = same_from_place (other - 1) (place_of size c) (player - 1) (place_of size cell) (size.width * size.depth) (place-below size c there)
      (place-below size cell on) e in
      places-apart size c cell there on ne parts.1)

-- the influences at a cell, by player
abbrev at_cell : Sums → Cell → ℕ → ℕ
at_cell sums c player = sum_at sums player c

-- a table in which the number at a player's place of a cell was set
pub set_summed : (old new : Sums) (player : ℕ) (cell : Cell) (influence place : ℕ) → IsPlaceIn old player cell → HasShapeOf old new
    → new.items.items ≡ set old.items.items place influence → place ≡ sum_place (size_in old) player cell →
    length old.items.items ≡ old.players * (old.width * old.depth) → IsSummed old new player cell influence
set_summed old new player cell influence place at shape items is full =
    record {
      shape = shape;
      here = sum_now player cell ∙ get_or-set_same old.items.items (sum_place (size_in old) player cell) influence 0
          (omega (arith, full, sum_place-below old player cell at));
      beside = λ other from ne. sum_now other cell ∙ set-beside (size_in old) old.items.items player cell influence at.least at.ground other from ne;
      elsewhere = λ other c there ne. sum_now other c ∙ set-elsewhere (size_in old) old.items.items player cell influence at.least at.ground other c there ne;
    }
  where
    items_are : new.items.items ≡ set old.items.items (sum_place (size_in old) player cell) influence
    items_are = items ∙ ap (λ (n : ℕ). set old.items.items n influence) is

    sum_now : (other : ℕ) (c : Cell) → sum_at new other c ≡ get_or (set old.items.items (sum_place (size_in old) player cell) influence)
        (sum_place (size_in old) other c) 0
    sum_now other c =
        ap (λ (s : Size). get_or new.items.items (sum_place s other c) 0) (size-shape old new shape)
        ∙ ap (λ (xs : List ℕ). get_or xs (sum_place (size_in old) other c) 0) items_are

-- where nobody has influence nobody holds a cell
pub nobody_holds : (sums : Sums) (holders : List ℕ) (width depth players : ℕ) → size_in sums ≡ record { width = width; depth = depth } → sums.players ≡ players
    → sums.items.items ≡ replicate (players * (width * depth)) 0 → holders ≡ replicate (width * depth) 0 → AreHolders sums holders
nobody_holds sums holders width depth players size_is players_is items_are holders_are =
    record {
      full = ap length holders_are ∙ length-replicate (width * depth) 0 ∙ ap (λ (s : Size). s.width * s.depth) (sym size_is);
      each = λ c on.
          ap (λ (xs : List ℕ). get_or xs (place_of (size_in sums) c) 0) holders_are
          ∙ get_or-replicate (width * depth) (place_of (size_in sums) c) 0 0 (subst (λ (s : Size). place_of (size_in sums) c < s.width * s.depth) size_is
          (place-below (size_in sums) c on))
          ∙ sym (holder_by-is sums.players (at_cell sums c) 0
          (inl (record { none = refl; all = λ player a b. none player c (record { least = a; most = b; ground = on }) })));
    }
  where
    whole : sums.players * (sums.width * sums.depth) ≡ players * (width * depth)
    whole = ap (λ (n : ℕ). n * (sums.width * sums.depth)) players_is ∙ ap (λ (s : Size). players * (s.width * s.depth)) size_is

    none : (player : ℕ) (c : Cell) → IsPlaceIn sums player c → sum_at sums player c ≡ 0
    none player c at =
        ap (λ (xs : List ℕ). get_or xs (sum_place (size_in sums) player c) 0) items_are
        ∙ get_or-replicate (players * (width * depth)) (sum_place (size_in sums) player c) 0 0
        (subst (λ (n : ℕ). sum_place (size_in sums) player c < n) whole (sum_place-below sums player c at))

-- Lists by z, then x: where a cell stands among the cells of a ground, and a list that has a function's value at each cell.

-- the cells of row z
abbrev row_of : ℕ → ℕ → List Cell
row_of width z = map (λ x. record { x = x; z = z }) (range_with_len 0 width)

length-row_of : (width z : ℕ) → length (row_of width z) ≡ width
length-row_of width z = length-map-range_with_len (λ (x : ℕ). let c : Cell = record { x = x; z = z } in c) 0 width

length-rows : (width : ℕ) (zs : List ℕ) → length (flat_map (row_of width) zs) ≡ length zs * width
length-rows width [] = omega arith
length-rows width (z ∷ zs) =
    omega (
      arith,
      ap length (flat_map-cons (row_of width) z zs),
      length-append (row_of width z) (flat_map (row_of width) zs),
      length-row_of width z,
      length-rows
          width zs,
    )

pub length-cells_of : (size : Size) → length (cells_of size) ≡ size.width * size.depth
length-cells_of size =
    let rows : length (range_with_len 0 size.depth) * size.width ≡ size.depth * size.width =
    ap (λ (n : ℕ). n * size.width) (length-range_with_len 0 size.depth) in
    omega (arith, length-rows size.width (range_with_len 0 size.depth), rows)

pub get_or-cells_of : (size : Size) (c d : Cell) → IsOnGround size c → get_or (cells_of size) (place_of size c) d ≡ c
get_or-cells_of size c d on =
    let zs = range_with_len 0 size.depth in
    let rows : c.z < length zs = omega (arith, length-range_with_len 0 size.depth, on.north) in
    let front : length (take c.z zs) ≡ c.z = omega (arith, length-take c.z zs) in
    let before : length (flat_map (row_of size.width) (take c.z zs)) ≡ c.z * size.width = length-rows size.width (take c.z zs) ∙
    ap (λ (n : ℕ). n * size.width) front in
    let here : get_or zs c.z 0 ≡ c.z = get_or-range_with_len 0 size.depth c.z 0 on.north ∙ zero-add c.z in
    let short : c.x < length (row_of size.width (get_or zs c.z 0)) = omega (arith, length-row_of size.width (get_or zs c.z 0), on.east) in
    ap (λ (n : ℕ). get_or (cells_of size) (n + c.x) d) (sym before) ∙ get_or-flat_map (row_of size.width) zs c.z c.x 0 d rows short
    ∙ ap (λ (z : ℕ). get_or (row_of size.width z) c.x d) here
    ∙ get_or-map-range_with_len (λ (x : ℕ). let v : Cell = record { x = x; z = c.z } in v) 0 size.width c.x c.x d on.east (omega arith)

-- the cell at a place
abbrev cell_in : Size → ℕ → Cell
cell_in size k = record { x = k % size.width; z = k / size.width }

cell_in-place : (size : Size) (k : ℕ) → 0 < size.width → place_of size (cell_in size k) ≡ k
cell_in-place size k wide = div-add-mod' k size.width

cell_in-on : (size : Size) (k : ℕ) → 0 < size.width → k < size.width * size.depth → IsOnGround size (cell_in size k)
cell_in-on size k wide lt =
    let turned : k < size.depth * size.width = omega arith in
    record { east = mod-lt k wide; north = (div-lt_iff_lt-mul {k = size.width} {x = k} {y = size.depth} wide).1 turned }

pub mapped : {X : Type 0} (f : Cell → X) (size : Size) (xs : List X) (e : X) → 0 < size.width → length xs ≡ size.width * size.depth
    → ((c : Cell) → IsOnGround size c → get_or xs (place_of size c) e ≡ f c) → xs ≡ map f (cells_of size)
mapped {X = X} f size xs e wide full each =
    same_lists xs (map f (cells_of size)) (omega (arith, full, length-cells_of size, length-map (cells_of size) f)) (λ k d lt. at k d (omega (arith, full, lt)))
  where
    at : (k : ℕ) (d : X) → k < size.width * size.depth → get_or xs k d ≡ get_or (map f (cells_of size)) k d
    at k d lt =
        let c = cell_in size k in
        let on = cell_in-on size k wide lt in
        let is = cell_in-place size k wide in
        get_or_default xs k d e (omega (arith, full, lt)) ∙ ap (λ (n : ℕ). get_or xs n e) (sym is) ∙ each c on
        ∙ sym (get_or-map f (cells_of size) k c d (omega (arith, length-cells_of size, lt)) ∙
        ap f (ap (λ (n : ℕ). get_or (cells_of size) n c) (sym is) ∙ get_or-cells_of size c c on))

-- the value at a cell stands at its place
pub mapped_at : {X : Type 0} (f : Cell → X) (size : Size) (c : Cell) (d : X) → IsOnGround size c → get_or (map f (cells_of size)) (place_of size c) d ≡ f c
mapped_at f size c d on = get_or-map f (cells_of size) (place_of size c) c d (omega (arith, length-cells_of size, place-below size c on)) ∙
    ap f (get_or-cells_of size c c on)

pub length-mapped : {X : Type 0} (f : Cell → X) (size : Size) → length (map f (cells_of size)) ≡ size.width * size.depth
length-mapped f size = length-map (cells_of size) f ∙ length-cells_of size

-- What entities give, by the obstructions of their templates.

-- both sides of an obstruction are short
abbrev IsShort : Base → Type 0
IsShort base = IsFrom 1 16 base.width × IsFrom 1 16 base.depth

base-short : (setup : Setup) (mark : Mark) (base : Base) → IsSetup setup → base_of setup mark ≡ Some base → IsShort base
base-short setup mark base limits e = by (slice_get_cases setup.templates mark.template).1
  where
    by : ((t : Template) × (mark.template < length setup.templates) × (slice_get setup.templates mark.template ≡ Some t)
        × (get_or setup.templates mark.template t ≡ t)) ⊎ ((length setup.templates ≤ mark.template) × (slice_get setup.templates mark.template ≡ None))
        → IsShort base
    by (inl (t, lt, found, is)) =
        let known : IsTemplate (length setup.templates) t = subst (IsTemplate (length setup.templates)) is
        (All-get_or (IsTemplate (length setup.templates)) setup.templates mark.template t lt limits.templates) in
        let built : t.obstruct ≡ Some base = sym (ap (option_and_then (λ (t : Template). t.obstruct)) found) ∙ e in
        let short : IfSome (Some base) IsShort = subst (λ (o : Option Base). IfSome o IsShort) built known.obstruct in
        short
    by (inr (le, none)) =
        let both : None ≡ Some base = sym (ap (option_and_then (λ (t : Template). t.obstruct)) none) ∙ e in
        let never : ⊥ = cc in
        absurd never

cond_none : (t : Bool) (n : ℕ) → n ≡ 0 → cond t n 0 ≡ 0
cond_none true n e = e
cond_none false n e = refl

pub none_gives : (setup : Setup) (mark : Mark) → base_of setup mark ≡ None → GivesNothing setup mark
none_gives setup mark e player c from = cond_none (mark.owner == player) (strength setup mark c)
    (ap (λ (o : Option Base). unwrap_or (option_map (λ base. reach_of base - octile mark.cell c) o) 0) e)

pub gaia_gives : (setup : Setup) (mark : Mark) → mark.owner ≡ 0 → GivesNothing setup mark
gaia_gives setup mark e player c from = cond-false (mark.owner == player) (strength setup mark c) 0 (ne_eqb mark.owner player (λ same. omega arith))

pub built_gives : (setup : Setup) (mark : Mark) (base : Base) (b : Building) → IsSetup setup → base_of setup mark ≡ Some base → mark.owner ≢ 0
    → b.owner ≡ mark.owner → b.cell ≡ mark.cell → b.reach ≡ reach_of base → IsBuildingOf setup mark b
built_gives setup mark base b limits e player owner cell reach =
    record {
      owner = owner;
      cell = cell;
      player = omega arith;
      near = let (w, d) = base-short setup mark base limits e in omega (arith, w.1, d.1, reach);
      shares = λ p c.
          ap (λ (o : Option Base). cond (mark.owner == p) (unwrap_or (option_map (λ base. reach_of base - octile mark.cell c) o) 0) 0) e
          ∙ ap (λ (n : ℕ). cond (n == p) (reach_of base - octile mark.cell c) 0) (sym owner)
          ∙ ap (λ (n : ℕ). cond (b.owner == p) (n - octile mark.cell c) 0) (sym reach)
          ∙ ap (λ (v : Cell). cond (b.owner == p) (b.reach - octile v c) 0) (sym cell);
    }

-- ---- no influence is large

share-small : (setup : Setup) (player : ℕ) (c : Cell) (mark : Mark) → IsSetup setup → share setup player c mark ≤ 1280
share-small setup player c mark limits = given (mark.owner == player)
  where
    strong : (o : Option Base) → base_of setup mark ≡ o → unwrap_or (option_map (λ base. reach_of base - octile mark.cell c) o) 0 ≤ 1280
    strong None e = omega arith
    strong (Some base) e = let (w, d) = base-short setup mark base limits e in less base.width base.depth (octile mark.cell c) w d
      where
        less : (w d o : ℕ) → IsFrom 1 16 w → IsFrom 1 16 d → 40 * (w + d) - o ≤ 1280
        less w d o f g = omega (arith, f.1, g.1)

    given : (t : Bool) → cond t (strength setup mark c) 0 ≤ 1280
    given true = strong (base_of setup mark) refl
    given false = omega arith

sums-small : {X : Type 0} (f : X → ℕ) (most : ℕ) → ((x : X) → f x ≤ most) → (xs : List X) → sum_by f xs ≤ length xs * most
sums-small f most each [] = omega arith
sums-small f most each (x ∷ xs) = omega (arith, sum_by-cons f x xs, each x, sums-small f most each xs)

pub influence-small : (setup : Setup) (marks : List Mark) (player : ℕ) (c : Cell) → IsSetup setup → length marks ≤ 4096 → influence setup marks player c ≤
    5242880
influence-small setup marks player c limits few =
    omega (arith, sums-small (share setup player c) 1280 (λ mark. share-small setup player c mark limits) marks, few)

-- ---- the marks of a valid state

module _ (setup : Setup) (sums : Sums) (size : size_in sums ≡ size_of setup.land) (players : sums.players ≡ setup.players) where
  row_in : (rows : List Row) (row : Row) → IsKnownRow 1 setup rows row → IsMarkIn sums (mark_of row)
  row_in rows row known =
      let (t, valid) = known_row {P = IsValidRow 1 setup rows row} (template_of setup row) known in
      record {
        owner = let owner = valid.owner in omega arith;
        ground = subst (λ (s : Size). IsOnGround s (mark_of row).cell) (sym size) (inside-on_ground (size_of setup.land) row.at valid.at);
      }

  marks_in : (state : State) → IsValid setup state → All (IsMarkIn sums) (marks_of state)
  marks_in state valid = All-map (IsMarkIn sums) mark_of state.rows (All-weaker (IsKnownRow 1 setup state.rows) (λ (row : Row). IsMarkIn sums (mark_of row))
      (row_in state.rows) state.rows valid.rows)

-- ---- the marks of shifts are those of the two lists

abbrev one_unless : Bool → ℕ
one_unless true = 0
one_unless false = 1

module _ (sums : Sums) where
  -- one for a mark that is not of the table
  abbrev stray : Mark → ℕ
  stray mark = one_unless (nat_le mark.owner sums.players && (nat_lt mark.cell.x sums.width && nat_lt mark.cell.z sums.depth))

  in_stray : (mark : Mark) → IsMarkIn sums mark → stray mark ≡ 0
  in_stray mark h =
      ap one_unless
      (and_from (nat_le mark.owner sums.players) (nat_lt mark.cell.x sums.width && nat_lt mark.cell.z sums.depth) (le-leb mark.owner sums.players h.owner)
      (and_from (nat_lt mark.cell.x sums.width) (nat_lt mark.cell.z sums.depth) (lt-ltb mark.cell.x sums.width h.ground.east)
      (lt-ltb mark.cell.z sums.depth h.ground.north)))

  stray_in : (mark : Mark) → stray mark ≡ 0 → IsMarkIn sums mark
  stray_in mark e = by (nat_le mark.owner sums.players && (nat_lt mark.cell.x sums.width && nat_lt mark.cell.z sums.depth)) refl e
    where
      by : (t : Bool) → (nat_le mark.owner sums.players && (nat_lt mark.cell.x sums.width && nat_lt mark.cell.z sums.depth)) ≡ t → one_unless t ≡ 0
          → IsMarkIn sums mark
      by true h f =
          let (owner, ground) = and_parts (nat_le mark.owner sums.players) (nat_lt mark.cell.x sums.width && nat_lt mark.cell.z sums.depth) h in
          let (x, z) = and_parts (nat_lt mark.cell.x sums.width) (nat_lt mark.cell.z sums.depth) ground in
          record {
            owner = leb-true mark.owner sums.players owner;
            ground = record { east = ltb-true mark.cell.x sums.width x; north = ltb-true mark.cell.z sums.depth z };
          }
      by false h f = absurd (cc)

  none_stray : (marks : List Mark) → All (IsMarkIn sums) marks → sum_by stray marks ≡ 0
  none_stray [] all = refl
  none_stray (mark ∷ marks) all =
      omega (
        arith,
        sum_by-cons stray mark marks,
        in_stray mark (All-head (IsMarkIn sums) mark marks all),
        none_stray marks
            (All-tail (IsMarkIn sums) mark marks all),
      )

  shifts_in : (shifts : List Shift) → sum_by (weight_gone stray) shifts ≡ 0 → sum_by (weight_born stray) shifts ≡ 0
      → All (λ shift. IsMarkIn sums (mark_in shift)) shifts
  shifts_in [] gone born = All-nil (λ shift. IsMarkIn sums (mark_in shift))
  shifts_in (shift ∷ shifts) gone born =
      let gone_is = sum_by-cons (weight_gone stray) shift shifts in
      let born_is = sum_by-cons (weight_born stray) shift shifts in
      All-cons (λ (s : Shift). IsMarkIn sums (mark_in s)) shift shifts (here shift (omega arith) (omega arith)) (shifts_in shifts (omega arith) (omega arith))
    where
      here : (s : Shift) → weight_gone stray s ≡ 0 → weight_born stray s ≡ 0 → IsMarkIn sums (mark_in s)
      here (Gone mark) g b = stray_in mark g
      here (Born mark) g b = stray_in mark b

-- ---- no state yet

pub nothing_kept : (setup : Setup) (sums : Sums) → IsSetup setup → size_in sums ≡ size_of setup.land → sums.players ≡ setup.players
    → sums.items.items ≡ replicate (sums.players * (sums.width * sums.depth)) 0 → AreInfluences setup [] sums
nothing_kept setup sums limits size players zeros =
    record {
      limits = limits;
      size = size;
      players = players;
      few = omega arith;
      within = All-nil (IsMarkIn sums);
      each = λ player c at.
          ap (λ (xs : List ℕ). get_or xs (sum_place (size_in sums) player c) 0) zeros
          ∙ get_or-replicate (sums.players * (sums.width * sums.depth)) (sum_place (size_in sums) player c) 0 0 (sum_place-below sums player c at);
    }

-- ---- the next state

module _ (setup : Setup) (old : List Mark) (state : State) (sums : Sums) (ascending : IsAscending old) (valid : IsValid setup state)
    (kept : AreInfluences setup old sums) where
  follows : (weight : Mark → ℕ) → SumFollows weight old (marks_of state) (shifts_between old (marks_of state))
  follows weight = sum_follows weight old (marks_of state) ascending (marks_ascend state valid.ascending)

  few_marks : length (marks_of state) ≤ row_limit
  few_marks = let few = valid.few in omega (arith, length-map state.rows mark_of)

  news_in : All (IsMarkIn sums) (marks_of state)
  news_in = marks_in setup sums kept.size kept.players state valid

  pub realm_fits : FitShifts setup (shifts_between old (marks_of state)) sums
  realm_fits =
      record {
        limits = kept.limits;
        marks =
            let law = follows (stray sums) in
            let olds = none_stray sums old kept.within in
            let news = none_stray sums (marks_of state) news_in in
            shifts_in sums (shifts_between old (marks_of state)) (omega (arith, law.gone)) (omega (arith, law.born));
        there = λ player c at. let law = follows (share setup player c) in let sum = kept.each player c at in omega (arith, law.gone);
        room = λ player c at.
            let law = follows (share setup player c) in
            let sum = kept.each player c at in
            omega (
              arith,
              law.born,
              influence-small setup old player c kept.limits kept.few,
              influence-small setup (marks_of state) player c kept.limits
                  few_marks,
            );
      }

  pub realm_follows : (new : Sums) → AreShifted setup (shifts_between old (marks_of state)) sums new → AreInfluences setup (marks_of state) new
  realm_follows new shifted =
      record {
        limits = kept.limits;
        size = size-shape sums new shifted.shape ∙ kept.size;
        players = shifted.shape.players ∙ kept.players;
        few = few_marks;
        within = All-weaker (IsMarkIn sums) (IsMarkIn new) (λ mark h. mark_later sums new mark shifted.shape h) (marks_of state) news_in;
        each = λ player c at.
            let before = place-before sums new player c shifted.shape at in
            let law = follows (share setup player c) in
            let sum = kept.each player c before in
            let step = shifted.each player c before in
            omega (arith, law.balance);
      }

-- ---- what is lent

module _ (setup : Setup) (marks : List Mark) (sums : Sums) (kept : AreInfluences setup marks sums) where
  -- the holder that the table tells is the one of the definition
  pub holder-kept : (c : Cell) → IsOnGround (size_in sums) c → holder_by sums.players (λ player. sum_at sums player c) ≡ holder setup marks c
  holder-kept c on =
      holder_by-same sums.players (λ player. sum_at sums player c) (λ player. influence setup marks player c)
      (λ player a b. kept.each player c (record { least = a; most = b; ground = on }))
      ∙ ap (λ (n : ℕ). holder_by n (λ player. influence setup marks player c)) kept.players

  wide : 0 < setup.land.width
  wide = let least = kept.limits.land.width.0 in omega arith

  on_table : (c : Cell) → IsOnGround (size_of setup.land) c → IsOnGround (size_in sums) c
  on_table c on = subst (λ (s : Size). IsOnGround s c) (sym kept.size) on

  pub holders_listed : (holders : List ℕ) → AreHolders sums holders → holders ≡ map (holder setup marks) (cells_of (size_of setup.land))
  holders_listed holders are =
      mapped (holder setup marks) (size_of setup.land) holders 0 wide (are.full ∙ ap (λ (s : Size). s.width * s.depth) kept.size)
      (λ c on. ap (λ (s : Size). holder_at s holders c) (sym kept.size) ∙ are.each c (on_table c on) ∙ holder-kept c (on_table c on))

-- the part of a list that begins at a and has n items
part_length : (xs : List ℕ) (a n b : ℕ) → a + n ≡ b → b ≤ length xs → length (slice_range xs a b) ≡ n
part_length xs a n b e le = length-take-le (b - a) (drop a xs) (omega (arith, length-drop a xs)) ∙ omega arith

part_at : (xs : List ℕ) (a n b k : ℕ) → a + n ≡ b → k < n → get_or (slice_range xs a b) k 0 ≡ get_or xs (a + k) 0
part_at xs a n b k e lt = get_or-take (b - a) (drop a xs) k 0 (omega arith) ∙ get_or-drop a xs k 0

next_row : (player n : ℕ) → 1 ≤ player → (player - 1) * n + n ≡ player * n
next_row player n least = by (player - 1) player (omega arith)
  where
    by : (p q : ℕ) → p + 1 ≡ q → p * n + n ≡ q * n
    by p q e = add_one p ∙ ap (λ (m : ℕ). m * n) e
      where
        add_one : (m : ℕ) → m * n + n ≡ (m + 1) * n
        add_one m = omega arith

module _ (setup : Setup) (marks : List Mark) (sums : Sums) (kept : AreInfluences setup marks sums) (player : ℕ) (least : 1 ≤ player)
    (most : player ≤ sums.players) (full : length sums.items.items ≡ sums.players * (sums.width * sums.depth)) where
  layer_end : player * (sums.width * sums.depth) ≤ length sums.items.items
  layer_end = let le : player * (sums.width * sums.depth) ≤ sums.players * (sums.width * sums.depth) = mul-le-mul_right (sums.width * sums.depth) most in
      omega arith

  -- the influences of a player are lent as a list over the cells
  pub layer_listed : slice_range sums.items.items ((player - 1) * (sums.width * sums.depth)) (player * (sums.width * sums.depth)) ≡
      map (influence setup marks player) (cells_of (size_of setup.land))
  layer_listed =
      mapped (influence setup marks player) (size_of setup.land) (slice_range sums.items.items ((player - 1) * (sums.width * sums.depth))
      (player * (sums.width * sums.depth))) 0 (wide setup marks sums kept)
      (part_length sums.items.items ((player - 1) * (sums.width * sums.depth)) (sums.width * sums.depth) (player * (sums.width * sums.depth))
      (next_row player (sums.width * sums.depth) least) layer_end
      ∙ ap (λ (s : Size). s.width * s.depth) kept.size)
      (λ c on.
      let here = on_table setup marks sums kept c on in
      ap (λ (s : Size). get_or (slice_range sums.items.items ((player - 1) * (sums.width * sums.depth)) (player * (sums.width * sums.depth))) (place_of s c) 0)
      (sym kept.size)
      ∙ part_at sums.items.items ((player - 1) * (sums.width * sums.depth)) (sums.width * sums.depth) (player * (sums.width * sums.depth))
      (place_of (size_in sums) c) (next_row player (sums.width * sums.depth) least)
      (place-below (size_in sums) c here)
      ∙ kept.each player c (record { least = least; most = most; ground = here }))
