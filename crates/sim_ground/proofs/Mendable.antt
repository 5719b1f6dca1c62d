-- What may be mended: the labels of a grid are those of the cells with labels, and these are the cells that were open.
use Rattle.sim_ground.proofs.Common.{IsAshore, IsCost-from_costs, IsJoined, IsKept, IsLabel, IsOnGround, IsOver, IsShore, IsStep, itself, joined-chain}
use Rattle.sim_ground.proofs.Common.{OpenCells, Opened, Option, option_map, place_of, props, refl, same_by_parts, same_from_place, Size, size_of, Some, stay}
use Rattle.sim_ground.proofs.Common.{[], alone, ap, AreLabels, AreLayers, AreOpenWhereNone, AreRegions, arith, ashore, beside, Bool, Cell, costs, costs-le}
use Rattle.sim_ground.proofs.Common.{entry, Fact, false, Field, field_among, field_of_grid, from-on, from-open, inl, inr, is_open_among, is_open_at, is_some}
use Rattle.sim_ground.proofs.Common.{joined-on, joined-reached, label_in, Land, layers_at, LayersTurn, List, nat_tests, neighbour-on, None, not, on, one_if}
use Rattle.sim_ground.proofs.Common.{subst, sym, true, Walk, ℕ, ∥∥₁_elim, ∥∥₁_prop, ◌%◌, ◌&&◌, ◌*◌, ◌+◌, ◌/◌, ◌<◌, ◌==◌, ◌∙◌, ◌≡◌, ◌⊎◌}
use Rattle.{sim_ground.proofs.Turning.over_is, sim_ground.specs.Mending.AreTurned, sim_ground.specs.Mending.Closes, sim_search.specs.Floods.labelled}

-- Labels that some proof shows to be right are right: which cells are joined is found out by the least costs of walks.

module _ (field : Field) where
  module _ (a : Cell) (on_a : IsOnGround field.size a) (open_a : field.is_open a ≡ true) where
    from_shore : {s : Cell} → IsShore field a s → field.is_open s ≡ true → IsJoined field a s
    from_shore itself e = alone on_a open_a
    from_shore (beside which lt f) e = on (alone on_a open_a) (record { which = which; straight = lt; leads = f; free = e })

    joined_by_walk : (c : Cell) (n : ℕ) → Walk (IsStep field a) a c n → IsJoined field a c
    joined_by_walk c n w = by (ashore field a on_a w)
      where
        by : (c ≡ a) ⊎ IsAshore field a on_a c → IsJoined field a c
        by (inl e) = subst (IsJoined field a) (sym e) (alone on_a open_a)
        by (inr s) = joined-chain field (from_shore s.is_shore (from-open field s.joined)) s.joined

    has_cost : (c : Cell) → IsJoined field a c → is_some (entry None (costs field a) c) ≡ true
    has_cost c h =
        let r = joined-reached field a on_a (record { cost = 0; walk = stay }) h in
        let (d, e, le) = costs-le field a on_a c r.cost r.walk in
        ap is_some e

    joined_again : (c : Cell) → IsOnGround field.size c → ∥ IsJoined field a c ∥₁ → IsJoined field a c
    joined_again c on_c j = by (entry None (costs field a) c) refl (∥∥₁_elim j (hlevel props) (has_cost c))
      where
        by : (o : Option ℕ) → entry None (costs field a) c ≡ o → is_some o ≡ true → IsJoined field a c
        by None e s = absurd (cc)
        by (Some d) e s = joined_by_walk c d (IsCost-from_costs field a on_a c d on_c e).walk

  -- ---- one label

  module _ (c : Cell) (l : ℕ) (known : ∥ IsLabel field c l ∥₁) where
    on_c : IsOnGround field.size c
    on_c = ∥∥₁_elim known (hlevel props) (λ h. from-on field h.joined)

    open_c : field.is_open c ≡ true
    open_c = ∥∥₁_elim known (hlevel props) (λ h. from-open field h.joined)

    wide : 0 < field.size.width
    wide = let east : c.x < field.size.width = on_c.east in omega arith

    abbrev first : Cell
    first = record { x = l % field.size.width; z = l / field.size.width }

    first_is : (h : IsLabel field c l) → first ≡ h.first
    first_is h =
        let on_h : IsOnGround field.size h.first = joined-on field h.joined in
        let is : h.first.z * field.size.width + h.first.x ≡ l = h.place in
        let w : ℕ = field.size.width in
        let least : l % w < w = omega (arith, wide) in
        let parts = same_from_place (l / w) (l % w) h.first.z h.first.x w least on_h.east (omega (arith, wide)) in
        same_by_parts first h.first parts.1 parts.0

    label_again : IsLabel field c l
    label_again = record {
      first = first;
      joined = joined_again c on_c open_c first
          (∥∥₁_elim known (hlevel props) (λ h. subst (IsOnGround field.size) (sym (first_is h)) (joined-on field h.joined)))
          (∥∥₁_elim known ∥∥₁_prop (λ h. ∣ subst (IsJoined field c) (sym (first_is h)) h.joined ∣₁));
      place = ∥∥₁_elim known (hlevel props) (λ h. ap (place_of field.size) (first_is h) ∙ h.place);
      least = λ e j. ∥∥₁_elim known (hlevel props) (λ h. h.least e j);
    }

pub labels_again : (field : Field) (label : Cell → Option ℕ) → ∥ AreLabels field label ∥₁ → AreLabels field label
labels_again field label known = record {
  sound = λ c l e. label_again field c l (∥∥₁_elim known ∥∥₁_prop (λ a. ∣ a.sound c l e ∣₁));
  all = λ c on_c open_c. some_of (label c) (∥∥₁_elim known (hlevel props) (λ a. let (l, e) = a.all c on_c open_c in ap is_some e));
}
  where
    some_of : (o : Option ℕ) → is_some o ≡ true → (l : ℕ) × (o ≡ Some l)
    some_of None e = absurd (cc)
    some_of (Some l) e = (l, refl)

-- The labels of the grid are those of the open cells among the facts.

abbrev pub over : Size → (Cell → Bool) → Field
over size p = record { size = size; is_open = p }

joined_over : (size : Size) (p q : Cell → Bool) → ((c : Cell) → IsOnGround size c → p c ≡ q c) → {a c : Cell} → IsJoined (over size p) a c
    → IsJoined (over size q) a c
joined_over size p q agree {a} {c} (alone h e) = alone h (sym (agree a h) ∙ e)
joined_over size p q agree (on {b = b} {c = c} j s) =
    on (joined_over size p q agree j)
    (record { which = s.which; straight = s.straight; leads = s.leads; free = sym (agree c (neighbour-on size b c s.which s.leads)) ∙ s.free })

pub labels_over : (size : Size) (p q : Cell → Bool) (label : Cell → Option ℕ) → ((c : Cell) → IsOnGround size c → p c ≡ q c) → AreLabels (over size p) label
    → AreLabels (over size q) label
labels_over size p q label agree h = record {
  sound = λ c l e.
      let known = h.sound c l e in
      record {
        first = known.first;
        joined = joined_over size p q agree known.joined;
        place = known.place;
        least =
            λ d j. known.least d (joined_over size q p (λ x on_x. sym (agree x on_x)) j);
      };
  all = λ c on_c open_c. h.all c on_c (agree c on_c ∙ open_c);
}

pub labels_among : (land : Land) (facts : List Fact) (g : OpenCells) (label : Cell → Option ℕ) → IsOver land facts g → AreLabels (field_of_grid g) label
    → AreLabels (field_among land facts) label
labels_among land facts g label h known =
    labels_over (size_of land) (is_open_at g) (is_open_among land facts) label h.opens
    (subst (λ (s : Size). AreLabels (over s (is_open_at g)) label) h.size known)

-- a cell is open just where it has a label
open_with_label : (g : OpenCells) (label : Cell → Option ℕ) → AreLabels (field_of_grid g) label → (c : Cell) → IsOnGround g.size c
    → is_open_at g c ≡ is_some (label c)
open_with_label g label known c is_on = by (is_open_at g c) (label c) refl refl
  where
    by : (b : Bool) (o : Option ℕ) → is_open_at g c ≡ b → label c ≡ o → is_open_at g c ≡ is_some (label c)
    by true o e f = let (l, is) = known.all c is_on e in e ∙ sym (ap is_some is)
    by false None e f = e ∙ sym (ap is_some f)
    by false (Some l) e f = absurd (let is_open : is_open_at g c ≡ true = from-open (field_of_grid g) (known.sound c l f).joined in cc)

pub own_labels : (g h : OpenCells) (label : Cell → Option ℕ) → h.size ≡ g.size → ∥ AreLabels (field_of_grid g) label ∥₁
    → AreLabels (labelled h.size label) label
own_labels g h label same known =
    let a = labels_again (field_of_grid g) label known in
    subst (λ (s : Size). AreLabels (labelled s label) label) (sym same)
    (labels_over g.size (is_open_at g) (λ (c : Cell). is_some (label c)) label (open_with_label g label a) a)

fewer : (m n : ℕ) (b : Bool) → n ≡ m + one_if b → (n == 0) ≡ ((m == 0) && not b)
fewer m n true e = let some : (n == 0) ≡ false = grind (arith, nat_tests) in some ∙ sym (none (m == 0))
  where
    none : (b : Bool) → (b && false) ≡ false
    none true = refl
    none false = refl
fewer m n false e = let same : n ≡ m = omega (arith, e) in ap (λ (k : ℕ). k == 0) same ∙ all (m == 0)
  where
    all : (b : Bool) → b ≡ (b && true)
    all true = refl
    all false = refl

pub are_turned : (g h : OpenCells) (xs ys : List ℕ) (before after : Cell → Bool) (label : Cell → Option ℕ) → AreOpenWhereNone g xs → AreOpenWhereNone h ys
    → h.size ≡ g.size → LayersTurn before after g.size xs ys → ∥ AreLabels (field_of_grid g) label ∥₁
    → AreTurned h.size (λ c. is_some (label c)) (is_open_at h) before after
are_turned g h xs ys before after label old new same turned known = record { came = came; went = went }
  where
    there : (c : Cell) → IsOnGround h.size c → IsOnGround g.size c
    there c is_on = subst (λ (s : Size). IsOnGround s c) same is_on

    was : (c : Cell) → IsOnGround h.size c → is_some (label c) ≡ (layers_at g.size xs c == 0)
    was c is_on = sym (open_with_label g label (labels_again (field_of_grid g) label known) c (there c is_on)) ∙ old.each c (there c is_on)

    is : (c : Cell) → IsOnGround h.size c → is_open_at h c ≡ (layers_at g.size ys c == 0)
    is c is_on = new.each c is_on ∙ ap (λ (s : Size). layers_at s ys c == 0) same

    came : ((c : Cell) → before c ≡ false) → Closes h.size (λ c. is_some (label c)) (is_open_at h) after
    came none c is_on =
        is c is_on ∙ fewer (layers_at g.size xs c) (layers_at g.size ys c) (after c) (omega (arith, turned c (there c is_on), ap one_if (none c))) ∙
        ap (λ (b : Bool). b && not (after c)) (sym (was c is_on))

    went : ((c : Cell) → after c ≡ false) → Closes h.size (is_open_at h) (λ c. is_some (label c)) before
    went none c is_on =
        was c is_on ∙ fewer (layers_at g.size ys c) (layers_at g.size xs c) (before c) (omega (arith, turned c (there c is_on), ap one_if (none c))) ∙
        ap (λ (b : Bool). b && not (before c)) (sym (is c is_on))

-- What is taken and put down again leaves the same cells open.

same_labels : (g h : OpenCells) (label : Cell → Option ℕ) → h.size ≡ g.size → ((c : Cell) → IsOnGround g.size c → is_open_at g c ≡ is_open_at h c)
    → ∥ AreLabels (field_of_grid g) label ∥₁ → ∥ AreLabels (field_of_grid h) label ∥₁
same_labels g h label e same known =
    ∥∥₁_elim known ∥∥₁_prop (λ a. ∣ subst (λ (s : Size). AreLabels (record { size = s; is_open = is_open_at h }) label) (sym e)
    (labels_over g.size (is_open_at g) (is_open_at h) label same a) ∣₁)

pub labels_undone : (g mid h : OpenCells) (xs ys zs : List ℕ) (before after : Cell → Bool) (label : Cell → Option ℕ) → AreOpenWhereNone g xs
    → AreOpenWhereNone h zs → mid.size ≡ g.size → h.size ≡ mid.size →
    LayersTurn before after g.size xs ys → LayersTurn after before mid.size ys zs → ∥ AreLabels (field_of_grid g) label ∥₁
    → ∥ AreLabels (field_of_grid h) label ∥₁
labels_undone g mid h xs ys zs before after label old new first second turned undone = same_labels g h label (second ∙ first) same
  where
    same : (c : Cell) → IsOnGround g.size c → is_open_at g c ≡ is_open_at h c
    same c is_on =
        let back = subst (λ (s : Size). LayersTurn after before s ys zs) first undone c is_on in
        let layers : layers_at g.size zs c ≡ layers_at g.size xs c = omega (arith, back, turned c is_on) in
        old.each c is_on ∙ ap (λ (n : ℕ). n == 0) (sym layers) ∙ ap (λ (s : Size). layers_at s zs c == 0) (sym (second ∙ first)) ∙
        sym (new.each c (subst (λ (s : Size). IsOnGround s c) (sym (second ∙ first)) is_on))

-- What a ground lends of what it keeps.

pub regions_are : (land : Option Land) (facts : List Fact) (opened : Option Opened) → IsKept land facts opened
    → AreRegions land facts (option_map (λ (o : Opened). o.labels) opened)
regions_are None facts None h = refl
regions_are None facts (Some o) h = absurd (let e = h.same in cc)
regions_are (Some l) facts None h = absurd (let e = h.same in cc)
regions_are (Some l) facts (Some o) h = let known = h.each l o refl refl in labels_among l facts o.cover.grid (label_in o.labels) (over_is l facts o known)
    (labels_again (field_of_grid o.cover.grid) (label_in o.labels) o.labelled)

-- the layers of what is kept, if anything
abbrev pub layers_of : Option Opened → List ℕ
layers_of None = []
layers_of (Some o) = o.cover.layers.items

pub layers_are : (land : Option Land) (facts : List Fact) (opened : Option Opened) → IsKept land facts opened → AreLayers land facts (layers_of opened)
layers_are None facts None h = refl
layers_are None facts (Some o) h = absurd (let e = h.same in cc)
layers_are (Some l) facts None h = absurd (let e = h.same in cc)
layers_are (Some l) facts (Some o) h = let known = h.each l o refl refl in (o.cover.agree.full ∙ ap (λ (s : Size). s.width * s.depth) known.size, known.layers)
