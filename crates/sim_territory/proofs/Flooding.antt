-- Why the flood comes to just the cells that are reached.
use Rattle.sim_territory.proofs.Common.{Contains-append_left, Contains-push, Contains-push_cases, count_by, eq-or-lt_of_le, false, Fills, filter, filter_more}
use Rattle.sim_territory.proofs.Common.{IsWetted, length, length-append, List, map, map-append, Mark, neighbour, neighbour-on, not, on, refl, roots_among}
use Rattle.sim_territory.proofs.Common.{Waits, Wets, work_left, ℕ, ⊎_elim, ◌*◌, ◌++◌, ◌+◌, ◌<◌, ◌∙◌, ◌∷◌, ◌≡◌, ◌≢◌, ◌≤◌, ◌⊎◌}
use Rattle.sim_territory.proofs.Common.{[], AllWait, ap, append-nil, AreHolders, AreInfluences, AreRooted, arith, Bool, Cell, cond, Contains}
use Rattle.sim_territory.proofs.Common.{first, flag_at, Flood, get_or, ground_of, ground_size, held_ground, HeldGround, holder, holder_at, holder_by, inl, inr}
use Rattle.sim_territory.proofs.Common.{is_root, is_root_under, IsHeldStep, IsMarkIn, IsOnGround, IsReachedFrom, IsRooted, IsStayed, IsStepped, IsWet, IsWetAt}
use Rattle.sim_territory.proofs.Common.{roots_of, same_or_not, Setup, Size, size_in, size_of, Some, Spreads, StepsOn, subst, suc, sum_at, Sums, sym, take, true}
use Rattle.{sim_base.proofs.Lists.nothing_in, sim_territory.proofs.Keeping.holder-kept}

-- ---- one cell

wet-at : (flood : Flood) (size : Size) (c : Cell) → ground_size flood ≡ size → flag_at size flood.flags.items c ≡ true → IsWet flood c
wet-at flood size c e h = ap (λ (s : Size). flag_at s flood.flags.items c) e ∙ h

at-wet : (flood : Flood) (size : Size) (c : Cell) → ground_size flood ≡ size → IsWet flood c → flag_at size flood.flags.items c ≡ true
at-wet flood size c e h = ap (λ (s : Size). flag_at s flood.flags.items c) (sym e) ∙ h

pub wets-size : (old new : Flood) (cell : Cell) → Wets old new cell → ground_size new ≡ ground_size old
wets-size old new cell (inl p) = ap ground_size p.same
wets-size old new cell (inr w) = w.size

wets-here : (old new : Flood) (cell : Cell) → Wets old new cell → IsWet new cell
wets-here old new cell (inl p) = subst (λ (f : Flood). IsWet f cell) (sym p.same) p.was
wets-here old new cell (inr w) = w.here

wets-less : (old new : Flood) (cell : Cell) → Wets old new cell → work_left new ≤ work_left old
wets-less old new cell (inl p) = omega (arith, ap work_left p.same)
wets-less old new cell (inr w) = omega (arith, w.less)

wets-still : (old new : Flood) (cell c : Cell) → Wets old new cell → Waits old c → Waits new c
wets-still old new cell c (inl p) h = subst (λ (f : Flood). Waits f c) (sym p.same) h
wets-still old new cell c (inr w) h = subst (λ (xs : List Cell). Contains xs c) (sym w.waits) (Contains-append_left old.waiting.items (cell ∷ []) c h)

wets-keeps : (old new : Flood) (cell c : Cell) → Wets old new cell → IsOnGround (ground_size old) c → IsWet old c → IsWet new c
wets-keeps old new cell c (inl p) there h = subst (λ (f : Flood). IsWet f c) (sym p.same) h
wets-keeps old new cell c (inr w) there h =
    ⊎_elim
    (λ (e : c ≡ cell). subst (λ (v : Cell). IsWet new v) (sym e) w.here)
    (λ (ne : c ≢ cell). wet-at new (ground_size old) c w.size (w.elsewhere c there ne ∙ h))
    (same_or_not c cell)

-- the last cell that waits is the one that was wetted
wetted-waits : (old new : Flood) (cell : Cell) → IsWetted old new cell → Waits new cell
wetted-waits old new cell w = subst (λ (xs : List Cell). Contains xs cell) (sym w.waits) (Contains-push old.waiting.items cell)

wets-comes : (old new : Flood) (cell c : Cell) → Wets old new cell → IsOnGround (ground_size old) c → IsWet new c → IsWet old c ⊎ ((c ≡ cell) × Waits new c)
wets-comes old new cell c (inl p) there h = inl (subst (λ (f : Flood). IsWet f c) p.same h)
wets-comes old new cell c (inr w) there h =
    ⊎_elim
    (λ (e : c ≡ cell). inr (e, subst (λ (v : Cell). Waits new v) (sym e) (wetted-waits old new cell w)))
    (λ (ne : c ≢ cell). inl (sym (w.elsewhere c there ne) ∙ at-wet new (ground_size old) c w.size h))
    (same_or_not c cell)

wets-waits : (old new : Flood) (cell c : Cell) → Wets old new cell → Waits new c → Waits old c ⊎ (cell ≡ c)
wets-waits old new cell c (inl p) h = inl (subst (λ (f : Flood). Waits f c) p.same h)
wets-waits old new cell c (inr w) h = Contains-push_cases old.waiting.items cell c (subst (λ (xs : List Cell). Contains xs c) w.waits h)

-- ---- the neighbours of a cell

pub ground-same : (old new : Flood) (holders : List ℕ) → ground_size new ≡ ground_size old → ground_of new holders ≡ ground_of old holders
ground-same old new holders e = ap (λ (s : Size). let g : HeldGround = record { size = s; holder = holder_at s holders } in g) e

pub spread_begins : (ground : HeldGround) (flood : Flood) (from : Cell) → Spreads ground flood flood from 0
spread_begins ground flood from =
    record {
      size = refl;
      less = omega arith;
      keeps = λ c there h. h;
      still = λ c h. h;
      comes = λ c there h. inl h;
      waits = λ c h. inl h;
      all = λ e step lt. absurd (omega arith);
    }

module _ (ground : HeldGround) (old mid new : Flood) (from : Cell) (which : ℕ) (straight : which < 4) (size_is : ground_size old ≡ ground.size)
    (before : Spreads ground old mid from which) where
  stayed : IsStayed ground mid new from which → Spreads ground old new from (which + 1)
  stayed s =
      subst (λ (f : Flood). Spreads ground old f from (which + 1)) (sym s.same)
      (record {
        size = before.size;
        less = before.less;
        keeps = before.keeps;
        still = before.still;
        comes = before.comes;
        waits = before.waits;
        all = λ e step lt. all e step (eq-or-lt_of_le lt);
      })
    where
      all : (e : Cell) (step : IsHeldStep ground from e) → (suc step.which ≡ which + 1) ⊎ (suc step.which < which + 1) → IsWet mid e
      all e step (inl same) =
          let which_is : step.which ≡ which = omega arith in
          absurd (s.none e (ap (neighbour ground.size from) (sym which_is) ∙ step.leads) step.same)
      all e step (inr less) = before.all e step (omega arith)

  stepped : IsStepped ground mid new from which → Spreads ground old new from (which + 1)
  stepped s =
      record {
        size = wets-size mid new s.to s.wets ∙ before.size;
        less = omega (arith, wets-less mid new s.to s.wets, before.less);
        keeps = λ c there h. keeps c there (before.keeps c there h);
        still = λ c h. wets-still mid new s.to c s.wets (before.still c h);
        comes = λ c there h. comes c there (wets-comes mid new s.to c s.wets (in_mid c there) h);
        waits = λ c h. waits c (wets-waits mid new s.to c s.wets h);
        all = λ e step lt. all e step (eq-or-lt_of_le lt);
      }
    where
      mid_size : ground_size mid ≡ ground.size
      mid_size = before.size ∙ size_is

      in_mid : (c : Cell) → IsOnGround ground.size c → IsOnGround (ground_size mid) c
      in_mid c there = subst (λ (t : Size). IsOnGround t c) (sym mid_size) there

      to_on : IsOnGround ground.size s.to
      to_on = neighbour-on ground.size from s.to which s.leads

      step_to : IsHeldStep ground from s.to
      step_to = record { which = which; straight = straight; leads = s.leads; same = s.same }

      keeps : (c : Cell) → IsOnGround ground.size c → IsWet mid c → IsWet new c
      keeps c there h = wets-keeps mid new s.to c s.wets (in_mid c there) h

      comes : (c : Cell) → IsOnGround ground.size c → IsWet mid c ⊎ ((c ≡ s.to) × Waits new c) → IsWet old c ⊎ (Waits new c × IsHeldStep ground from c)
      comes c there (inr (e, h)) = inr (h, subst (λ (v : Cell). IsHeldStep ground from v) (sym e) step_to)
      comes c there (inl h) = by (before.comes c there h)
        where
          by : IsWet old c ⊎ (Waits mid c × IsHeldStep ground from c) → IsWet old c ⊎ (Waits new c × IsHeldStep ground from c)
          by (inl g) = inl g
          by (inr (g, step)) = inr (wets-still mid new s.to c s.wets g, step)

      waits : (c : Cell) → Waits mid c ⊎ (s.to ≡ c) → Waits old c ⊎ (IsOnGround ground.size c × IsWet new c)
      waits c (inr e) = inr (subst (λ (v : Cell). IsOnGround ground.size v) e to_on, subst (λ (v : Cell). IsWet new v) e (wets-here mid new s.to s.wets))
      waits c (inl h) = by (before.waits c h)
        where
          by : Waits old c ⊎ (IsOnGround ground.size c × IsWet mid c) → Waits old c ⊎ (IsOnGround ground.size c × IsWet new c)
          by (inl g) = inl g
          by (inr (there, g)) = inr (there, keeps c there g)

      all : (e : Cell) (step : IsHeldStep ground from e) → (suc step.which ≡ which + 1) ⊎ (suc step.which < which + 1) → IsWet new e
      all e step (inl same) =
          let which_is : step.which ≡ which = omega arith in
          let both : Some s.to ≡ Some e = sym s.leads ∙ ap (neighbour ground.size from) (sym which_is) ∙ step.leads in
          let to_is : s.to ≡ e = cc in
          subst (λ (v : Cell). IsWet new v) to_is (wets-here mid new s.to s.wets)
      all e step (inr less) = keeps e (neighbour-on ground.size from e step.which step.leads) (before.all e step (omega arith))

  pub spread_more : StepsOn ground mid new from which → Spreads ground old new from (which + 1)
  spread_more (inl s) = stayed s
  spread_more (inr s) = stepped s

pub spread_ends : (ground : HeldGround) (old new : Flood) (from : Cell) (which : ℕ) → 4 ≤ which → Spreads ground old new from which
    → Spreads ground old new from 4
spread_ends ground old new from which all s =
    record {
      size = s.size;
      less = s.less;
      keeps = s.keeps;
      still = s.still;
      comes = s.comes;
      waits = s.waits;
      all = λ e step lt. s.all e step (omega arith);
    }

-- ---- the cells that wait are taken one by one

-- Each wet cell is reached, those that wait are wet, and the held steps from a wet cell lead to wet ones unless it waits.
pub record Filling (ground : HeldGround) (begun flood : Flood) : Type 0 where
  pub size : ground_size flood ≡ ground.size
  pub sound : (c : Cell) → IsOnGround ground.size c → IsWet flood c → IsReachedFrom ground (Waits begun) c
  pub on_ground : (c : Cell) → Waits flood c → IsOnGround ground.size c
  pub wet : (c : Cell) → Waits flood c → IsWet flood c
  pub keeps : (c : Cell) → Waits begun c → IsWet flood c
  pub begun_on : (c : Cell) → Waits begun c → IsOnGround ground.size c
  pub closed : (c : Cell) → IsOnGround ground.size c → IsWet flood c → Waits flood c ⊎ ((e : Cell) → IsHeldStep ground c e → IsWet flood e)

pub filling_begins : (ground : HeldGround) (flood : Flood) → ground_size flood ≡ ground.size → AllWait flood → Filling ground flood flood
filling_begins ground flood size_is all =
    record {
      size = size_is;
      sound = λ c there h. first (all.waits c (back c there) h);
      on_ground = λ c h. forth c (all.on c h);
      wet = all.wet;
      keeps = all.wet;
      begun_on = λ c h. forth c (all.on c h);
      closed = λ c there h. inl (all.waits c (back c there) h);
    }
  where
    back : (c : Cell) → IsOnGround ground.size c → IsOnGround (ground_size flood) c
    back c there = subst (λ (s : Size). IsOnGround s c) (sym size_is) there

    forth : (c : Cell) → IsOnGround (ground_size flood) c → IsOnGround ground.size c
    forth c there = subst (λ (s : Size). IsOnGround s c) size_is there

-- the last cell that waits is taken
pub record IsTaken (old mid : Flood) (from : Cell) : Type 0 where
  pub width : mid.width ≡ old.width
  pub depth : mid.depth ≡ old.depth
  pub flags : mid.flags.items ≡ old.flags.items
  pub waiting : old.waiting.items ≡ mid.waiting.items ++ from ∷ []

module _ (old mid : Flood) (from : Cell) (taken : IsTaken old mid from) where
  pub taken-size : ground_size mid ≡ ground_size old
  taken-size =
      ap (λ (w : ℕ). let s : Size = record { width = w; depth = mid.depth } in s) taken.width
      ∙ ap (λ (d : ℕ). let s : Size = record { width = old.width; depth = d } in s) taken.depth

  taken-wet : (c : Cell) → IsWet mid c → IsWet old c
  taken-wet c h = ap (λ (xs : List Bool). flag_at (ground_size old) xs c) (sym taken.flags) ∙ at-wet mid (ground_size old) c taken-size h

  wet-taken : (c : Cell) → IsWet old c → IsWet mid c
  wet-taken c h = wet-at mid (ground_size old) c taken-size (ap (λ (xs : List Bool). flag_at (ground_size old) xs c) taken.flags ∙ h)

  taken-waits : (c : Cell) → Waits mid c → Waits old c
  taken-waits c h = subst (λ (xs : List Cell). Contains xs c) (sym taken.waiting) (Contains-append_left mid.waiting.items (from ∷ []) c h)

  pub taken-waited : Waits old from
  taken-waited = subst (λ (xs : List Cell). Contains xs from) (sym taken.waiting) (Contains-push mid.waiting.items from)

  waits-taken : (c : Cell) → Waits old c → Waits mid c ⊎ (from ≡ c)
  waits-taken c h = Contains-push_cases mid.waiting.items from c (subst (λ (xs : List Cell). Contains xs c) taken.waiting h)

  pub filling_more : (ground : HeldGround) (begun new : Flood) → Filling ground begun old → Spreads ground mid new from 4 → Filling ground begun new
  filling_more ground begun new f s =
      record {
        size = s.size ∙ taken-size ∙ f.size;
        sound = λ c there h. sound c there (s.comes c there h);
        on_ground = λ c h. on_ground c (s.waits c h);
        wet = λ c h. wet c (s.waits c h);
        keeps = λ c h. s.keeps c (f.begun_on c h) (wet-taken c (f.keeps c h));
        begun_on = f.begun_on;
        closed = λ c there h. closed c there (s.comes c there h);
      }
    where
      from_on : IsOnGround ground.size from
      from_on = f.on_ground from taken-waited

      sound : (c : Cell) → IsOnGround ground.size c → IsWet mid c ⊎ (Waits new c × IsHeldStep ground from c) → IsReachedFrom ground (Waits begun) c
      sound c there (inl h) = f.sound c there (taken-wet c h)
      sound c there (inr (h, step)) = on (f.sound from from_on (f.wet from taken-waited)) step

      on_ground : (c : Cell) → Waits mid c ⊎ (IsOnGround ground.size c × IsWet new c) → IsOnGround ground.size c
      on_ground c (inl h) = f.on_ground c (taken-waits c h)
      on_ground c (inr (there, h)) = there

      wet : (c : Cell) → Waits mid c ⊎ (IsOnGround ground.size c × IsWet new c) → IsWet new c
      wet c (inl h) = let before = taken-waits c h in s.keeps c (f.on_ground c before) (wet-taken c (f.wet c before))
      wet c (inr (there, h)) = h

      closed : (c : Cell) → IsOnGround ground.size c → IsWet mid c ⊎ (Waits new c × IsHeldStep ground from c) → Waits new c
          ⊎ ((e : Cell) → IsHeldStep ground c e → IsWet new e)
      closed c there (inr (h, step)) = inl h
      closed c there (inl h) = by (f.closed c there (taken-wet c h))
        where
          waited : Waits mid c ⊎ (from ≡ c) → Waits new c ⊎ ((e : Cell) → IsHeldStep ground c e → IsWet new e)
          waited (inl g) = inl (s.still c g)
          waited (inr e) = inr (subst (λ (v : Cell). (e : Cell) → IsHeldStep ground v e → IsWet new e) e (λ v step. s.all v step step.straight))

          by : Waits old c ⊎ ((e : Cell) → IsHeldStep ground c e → IsWet old e) → Waits new c ⊎ ((e : Cell) → IsHeldStep ground c e → IsWet new e)
          by (inl g) = waited (waits-taken c g)
          by (inr g) = inr (λ e step. s.keeps e (neighbour-on ground.size c e step.which step.leads) (wet-taken e (g e step)))

-- the next step of the flood
pub filling_next : {mid : Flood} (begun old new : Flood) (from : Cell) (holders : List ℕ) → Spreads (ground_of mid holders) mid new from 4
    → IsTaken old mid from → Filling (ground_of begun holders) begun old → Filling (ground_of begun holders) begun new
filling_next {mid = mid} begun old new from holders s taken f =
    let same : ground_of mid holders ≡ ground_of begun holders = ground-same begun mid holders (taken-size old mid from taken ∙ f.size) in
    filling_more old mid from taken (ground_of begun holders) begun new f (subst (λ (g : HeldGround). Spreads g mid new from 4) same s)

pub taken_less : {mid : Flood} {ground : HeldGround} (old new : Flood) (from : Cell) → Spreads ground mid new from 4 → IsTaken old mid from
    → work_left new < work_left old
taken_less {mid = mid} old new from s taken =
    omega (arith, s.less, ap (count_by not) taken.flags, ap length taken.waiting, length-append mid.waiting.items (from ∷ []))

-- where no cell waits, all that are reached are wet
module _ (ground : HeldGround) (begun flood : Flood) (none : flood.waiting.items ≡ []) (f : Filling ground begun flood) where
  follow : (b c : Cell) → IsOnGround ground.size b × IsWet flood b → IsHeldStep ground b c → Waits flood b
      ⊎ ((e : Cell) → IsHeldStep ground b e → IsWet flood e) → IsWet flood c
  follow b c h step (inl w) = absurd (nothing_in b (subst (λ (xs : List Cell). Contains xs b) none w))
  follow b c h step (inr g) = g c step

  reached-wet : {c : Cell} → IsReachedFrom ground (Waits begun) c → IsOnGround ground.size c × IsWet flood c
  reached-wet (first {c = c} w) = (f.begun_on c w, f.keeps c w)
  reached-wet (on {b = b} {c = c} r step) =
      let h = reached-wet r in
      (neighbour-on ground.size b c step.which step.leads, follow b c h step (f.closed b h.0 h.1))

  pub filling_ends : ground_size begun ≡ ground.size → Fills ground begun flood
  filling_ends size_is = record { size = f.size ∙ sym size_is; sound = f.sound; all = λ c r. (reached-wet r).1 }

-- ---- two grounds with the same holders

module _ (ground other : HeldGround) (F G : Cell → Type 0) (size_is : ground.size ≡ other.size) (holders : (c : Cell) → IsOnGround ground.size c
    → ground.holder c ≡ other.holder c) (on_ground : (c : Cell) → F c → IsOnGround ground.size c) (turn : (c : Cell) → F c → G c) where
  reached-on : {c : Cell} → IsReachedFrom ground F c → IsOnGround ground.size c
  reached-on (first {c = c} h) = on_ground c h
  reached-on (on {b = b} {c = c} r step) = neighbour-on ground.size b c step.which step.leads

  pub reached-turned : {c : Cell} → IsReachedFrom ground F c → IsReachedFrom other G c
  reached-turned (first {c = c} h) = first (turn c h)
  reached-turned (on {b = b} {c = c} r step) =
      on (reached-turned r)
      (record {
        which = step.which;
        straight = step.straight;
        leads = ap (λ (s : Size). neighbour s b step.which) (sym size_is) ∙ step.leads;
        same = sym (holders c (neighbour-on ground.size b c step.which step.leads)) ∙ step.same ∙ holders b (reached-on r);
      })

-- ---- the roots

pub wet_none : (flood : Flood) → flood.waiting.items ≡ [] → ((c : Cell) → IsOnGround (ground_size flood) c → IsWet flood c → ⊥) → IsWetAt [] flood
wet_none flood none dry =
    record {
      wait = record {
        on = λ c h. absurd (never c h);
        wet = λ c h. absurd (never c h);
        waits = λ c there h. absurd (dry c there h);
      };
      sound = λ c h. absurd (never c h);
      all = λ c h. absurd (nothing_in c h);
    }
  where
    never : (c : Cell) → Waits flood c → ⊥
    never c h = nothing_in c (subst (λ (xs : List Cell). Contains xs c) none h)

pub wet_more : (cells : List Cell) (old new : Flood) (cell : Cell) → IsOnGround (ground_size old) cell → IsWetAt cells old → Wets old new cell
    → IsWetAt (cells ++ cell ∷ []) new
wet_more cells old new cell cell_on at wets =
    record {
      wait = record {
        on = λ c h. subst (λ (s : Size). IsOnGround s c) (sym (wets-size old new cell wets)) (on_old c (wets-waits old new cell c wets h));
        wet = λ c h. wet c (wets-waits old new cell c wets h);
        waits = λ c there h. let back = subst (λ (s : Size). IsOnGround s c) (wets-size old new cell wets) there in
            waits c back (wets-comes old new cell c wets back h);
      };
      sound = λ c h. sound c (wets-waits old new cell c wets h);
      all = λ c h. all c (Contains-push_cases cells cell c h);
    }
  where
    on_old : (c : Cell) → Waits old c ⊎ (cell ≡ c) → IsOnGround (ground_size old) c
    on_old c (inl h) = at.wait.on c h
    on_old c (inr e) = subst (λ (v : Cell). IsOnGround (ground_size old) v) e cell_on

    wet : (c : Cell) → Waits old c ⊎ (cell ≡ c) → IsWet new c
    wet c (inl h) = wets-keeps old new cell c wets (at.wait.on c h) (at.wait.wet c h)
    wet c (inr e) = subst (λ (v : Cell). IsWet new v) e (wets-here old new cell wets)

    waits : (c : Cell) → IsOnGround (ground_size old) c → IsWet old c ⊎ ((c ≡ cell) × Waits new c) → Waits new c
    waits c there (inl h) = wets-still old new cell c wets (at.wait.waits c there h)
    waits c there (inr (e, h)) = h

    sound : (c : Cell) → Waits old c ⊎ (cell ≡ c) → Contains (cells ++ cell ∷ []) c
    sound c (inl h) = Contains-append_left cells (cell ∷ []) c (at.sound c h)
    sound c (inr e) = subst (λ (v : Cell). Contains (cells ++ cell ∷ []) v) e (Contains-push cells cell)

    here : Wets old new cell → Waits new cell
    here (inl p) = wets-still old new cell cell (inl p) (at.wait.waits cell cell_on p.was)
    here (inr w) = wetted-waits old new cell w

    all : (c : Cell) → Contains cells c ⊎ (cell ≡ c) → Waits new c
    all c (inl h) = wets-still old new cell c wets (at.all c h)
    all c (inr e) = subst (λ (v : Cell). Waits new v) e (here wets)

-- The flood begins at the roots, and comes to the rooted cells.

-- the flood is at the roots among the marks before one
pub record AtRoots (setup : Setup) (marks before : List Mark) (begun flood : Flood) : Type 0 where
  pub size : ground_size flood ≡ ground_size begun
  pub wet : IsWetAt (roots_among setup marks before) flood

-- ---- one mark more

module _ (setup : Setup) (marks : List Mark) (i : ℕ) (d : Mark) (below : i < length marks) where
  abbrev cell_in : Mark → Cell
  cell_in mark = mark.cell

  roots_more : roots_among setup marks (take (i + 1) marks) ≡ roots_among setup marks (take i marks) ++
      map cell_in (cond (is_root setup marks (get_or marks i d)) (get_or marks i d ∷ []) [])
  roots_more =
      ap (map cell_in) (filter_more (is_root setup marks) marks i d below)
      ∙ map-append cell_in (filter (is_root setup marks) (take i marks)) (cond (is_root setup marks (get_or marks i d)) (get_or marks i d ∷ []) [])

  pub root_added : is_root setup marks (get_or marks i d) ≡ true → roots_among setup marks (take (i + 1) marks) ≡ roots_among setup marks (take i marks) ++
      (get_or marks i d).cell ∷ []
  root_added e = roots_more ∙ ap (λ (t : Bool). roots_among setup marks (take i marks) ++ map cell_in (cond t (get_or marks i d ∷ []) [])) e

  pub none_added : is_root setup marks (get_or marks i d) ≡ false → roots_among setup marks (take (i + 1) marks) ≡ roots_among setup marks (take i marks)
  none_added e =
      roots_more ∙ ap (λ (t : Bool). roots_among setup marks (take i marks) ++ map cell_in (cond t (get_or marks i d ∷ []) [])) e ∙
      append-nil (roots_among setup marks (take i marks))

  pub roots_step : (begun old new : Flood) → IsOnGround (ground_size old) (get_or marks i d).cell → is_root setup marks (get_or marks i d) ≡ true
      → Wets old new (get_or marks i d).cell → AtRoots setup marks (take i marks) begun old → AtRoots setup marks (take (i + 1) marks) begun new
  roots_step begun old new is_on e wets at =
      record {
        size = wets-size old new (get_or marks i d).cell wets ∙ at.size;
        wet = subst (λ (cells : List Cell). IsWetAt cells new) (sym (root_added e))
            (wet_more (roots_among setup marks (take i marks)) old new (get_or marks i d).cell is_on at.wet wets);
      }

  pub roots_pass : (begun old : Flood) → is_root setup marks (get_or marks i d) ≡ false → AtRoots setup marks (take i marks) begun old
      → AtRoots setup marks (take (i + 1) marks) begun old
  roots_pass begun old e at = record { size = at.size; wet = subst (λ (cells : List Cell). IsWetAt cells old) (sym (none_added e)) at.wet }

pub root_is : (setup : Setup) (marks : List Mark) (sums : Sums) (mark : Mark) → AreInfluences setup marks sums → IsMarkIn sums mark
    → is_root_under setup (holder_by sums.players (λ player. sum_at sums player mark.cell)) mark ≡ is_root setup marks mark
root_is setup marks sums mark kept within = ap (λ (n : ℕ). is_root_under setup n mark) (holder-kept setup marks sums kept mark.cell within.ground)

-- ---- the rooted cells

pub rooted_found : (setup : Setup) (marks : List Mark) (sums : Sums) (holders : List ℕ) (begun last : Flood) → AreInfluences setup marks sums
    → AreHolders sums holders → ground_size begun ≡ size_in sums → length last.flags.items ≡ last.width * last.depth →
    IsWetAt (roots_of setup marks) begun → Fills (ground_of begun holders) begun last → AreRooted setup marks last.flags.items
rooted_found setup marks sums holders begun last kept are begun_is full at fills =
    record {
      full = full ∙ ap (λ (s : Size). s.width * s.depth) last_land;
      each = λ c is_on. (
        (λ wet. forth c (fills.sound c (back c is_on) (flag_last c wet))),
        (λ rooted. last_flag c (fills.all c (turned c rooted))),
      );
    }
  where
    begun_land : ground_size begun ≡ size_of setup.land
    begun_land = begun_is ∙ kept.size

    last_land : ground_size last ≡ size_of setup.land
    last_land = fills.size ∙ begun_land

    back : (c : Cell) → IsOnGround (size_of setup.land) c → IsOnGround (ground_size begun) c
    back c is_on = subst (λ (s : Size). IsOnGround s c) (sym begun_land) is_on

    on_sums : (c : Cell) → IsOnGround (size_of setup.land) c → IsOnGround (size_in sums) c
    on_sums c is_on = subst (λ (s : Size). IsOnGround s c) (sym kept.size) is_on

    flag_last : (c : Cell) → flag_at (size_of setup.land) last.flags.items c ≡ true → IsWet last c
    flag_last c h = ap (λ (s : Size). flag_at s last.flags.items c) last_land ∙ h

    last_flag : (c : Cell) → IsWet last c → flag_at (size_of setup.land) last.flags.items c ≡ true
    last_flag c h = ap (λ (s : Size). flag_at s last.flags.items c) (sym last_land) ∙ h

    holders_are : (c : Cell) → IsOnGround (size_of setup.land) c → holder setup marks c ≡ holder_at (ground_size begun) holders c
    holders_are c is_on =
        sym (holder-kept setup marks sums kept c (on_sums c is_on)) ∙ sym (are.each c (on_sums c is_on)) ∙ ap (λ (s : Size). holder_at s holders c) (sym begun_is)

    forth : (c : Cell) → IsReachedFrom (ground_of begun holders) (Waits begun) c → IsRooted setup marks c
    forth c r =
        reached-turned (ground_of begun holders) (held_ground setup marks) (Waits begun) (Contains (roots_of setup marks)) begun_land
        (λ v is_on. sym (holders_are v (subst (λ (s : Size). IsOnGround s v) begun_land is_on))) (λ v h. at.wait.on v h) at.sound r

    turned : (c : Cell) → IsRooted setup marks c → IsReachedFrom (ground_of begun holders) (Waits begun) c
    turned c r =
        reached-turned (held_ground setup marks) (ground_of begun holders) (Contains (roots_of setup marks)) (Waits begun) (sym begun_land) holders_are
        (λ v h. subst (λ (s : Size). IsOnGround s v) begun_land (at.wait.on v (at.all v h))) at.all r
