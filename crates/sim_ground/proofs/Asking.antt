-- Each ask of a ground over its grid is that over its land and facts.
use Rattle.{sim_base.proofs.GroundPoints.placed_on, sim_ground.proofs.Common.{answer, ap, AreLabels, Ask, AskFits, Bool, Cell, cells_of, Fact, field_of_grid}}
use Rattle.sim_ground.proofs.Common.{filter, Found, Ground, HoldsIfAny, is_inside, is_open_at, IsKept, IsOnGround, IsOpened, IsOver, IsPlaced, IsTrue, kind_for}
use Rattle.sim_ground.proofs.{Common.{List, MatchOption, Option, Some, way_told, ◌∙◌, ◌≡◌}, Over.{same_way, spot_is}, Turning.over_is}
use Rattle.sim_ground.proofs.Common.{label_in, Land, least_of, Opened, Place, Point, Size, spot_key, subst, sym, Truth, Way as WayAnswer, way_in, way_of}
use Rattle.sim_system.specs.declared.ask.Ask.TheVariants as ask

-- an ask of the ground that fits, where there is a land
abbrev pub MayAsk : Option Land → List Fact → Ask → Type 0
MayAsk land facts a = MatchOption land ⊥ (λ (l : Land). (kind_for a ≡ Ground) × AskFits l facts a)

fits_on : (land : Option Land) (l : Land) (facts : List Fact) (a b : Ask) → MayAsk land facts a → land ≡ Some l → a ≡ b → AskFits l facts b
fits_on land l facts a b may is e = let known = subst (λ (m : Option Land). MayAsk m facts a) is may in subst (AskFits l facts) e known.1

given_on : (land : Option Land) (l : Land) (P : Land → Type 0) → land ≡ Some l → P l → MatchOption land ⊥ P
given_on land l P is h = subst (λ (m : Option Land). MatchOption m ⊥ P) (sym is) h

module _ (land : Option Land) (l : Land) (facts : List Fact) (opened : Option Opened) (o : Opened) (a : Ask) (may : MayAsk land facts a) (is : land ≡ Some l)
    (has : opened ≡ Some o) (kept : IsKept land facts opened) where
  known : IsOpened l facts o
  known = kept.each l o is has

  over : IsOver l facts o.cover.grid
  over = over_is l facts o known

  pub open_fits : (cell : Cell) → a ≡ ask.Open cell → IsOnGround o.cover.grid.size cell
  open_fits cell e = subst (λ (s : Size). IsOnGround s cell) (sym over.size) (fits_on land l facts a (ask.Open cell) may is e)

  pub open_given : (cell : Cell) (b : Bool) → a ≡ ask.Open cell → b ≡ is_open_at o.cover.grid cell
      → MatchOption land ⊥ (λ (k : Land). Truth b ≡ answer k facts a)
  open_given cell b e r = given_on land l (λ (k : Land). Truth b ≡ answer k facts a) is
      (ap Truth (r ∙ over.opens cell (fits_on land l facts a (ask.Open cell) may is e)) ∙ ap (answer l facts) (sym e))

  pub spot_fits : (at : Point) → HoldsIfAny land facts → a ≡ ask.Spot at → IsPlaced at
  spot_fits at h e = placed_on l at (h l is).limits (fits_on land l facts a (ask.Spot at) may is e)

  pub spot_given : (at : Point) (cell : Option Cell) → a ≡ ask.Spot at → cell ≡ least_of (spot_key at)
      (filter (is_open_at o.cover.grid) (cells_of o.cover.grid.size)) → MatchOption land ⊥ (λ (k : Land). Place cell ≡ answer k facts a)
  spot_given at cell e r = given_on land l (λ (k : Land). Place cell ≡ answer k facts a) is (ap Place (r ∙ spot_is l facts o.cover.grid over at) ∙
      ap (answer l facts) (sym e))

  pub start_fits : (start goal : Point) → a ≡ ask.Way start goal → IsTrue (is_inside o.cover.grid.size start)
  start_fits start goal e = let both = fits_on land l facts a (ask.Way start goal) may is e in subst (λ (s : Size). IsTrue (is_inside s start)) (sym over.size)
      both.0

  pub goal_fits : (start goal : Point) → a ≡ ask.Way start goal → IsTrue (is_inside o.cover.grid.size goal)
  goal_fits start goal e = let both = fits_on land l facts a (ask.Way start goal) may is e in subst (λ (s : Size). IsTrue (is_inside s goal)) (sym over.size)
      both.1

  pub way_given : (start goal : Point) (w : WayAnswer) → a ≡ ask.Way start goal → way_in w ≡ way_of (field_of_grid o.cover.grid) start goal
      → MatchOption land ⊥ (λ (k : Land). Found w ≡ answer k facts a)
  way_given start goal w e r = given_on land l (λ (k : Land). Found w ≡ answer k facts a) is
      (ap (λ v. Found (way_told v)) (r ∙ same_way l facts o.cover.grid over start goal) ∙ ap (answer l facts) (sym e))

  pub labels_known : ∥ AreLabels (field_of_grid o.cover.grid) (label_in o.labels) ∥₁
  labels_known = o.labelled
