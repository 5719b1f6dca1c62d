-- The grid and the layers that are kept are those of the facts, also after a note.
use Rattle.sim_ground.proofs.Common.{Aimed, arith, covers, Ground, is_some, IsKept, IsOver, no_part, one_if, Opened, Option, part_is, passes, Result, rising, ℕ}
use Rattle.sim_ground.proofs.Common.{AreAtMost, HoldsIfAny, IsOnGround, LayersTurn, most_layers, noted_only, part_covers, part_noted, rect_covers, sum_by-cons}
use Rattle.sim_ground.proofs.Common.{AreLayersOf, Bool, count_after, count_by-le-length, holds_where, is_open_among, layers_among, MatchOption, missing_without}
use Rattle.sim_ground.proofs.Common.{Born, Cell, cond, Fact, false, Gone, Holds, id_in, IsOk, kept, Land, List, Moved, None, Note, noted, OnErr, Owned, subst}
use Rattle.sim_ground.proofs.Common.{[], ap, Err, not, Ok, OnOk, Rect, refl, Size, Some, sym, true, ◌&&◌, ◌+◌, ◌<◌, ◌==◌, ◌||◌, ◌∙◌, ◌∷◌, ◌≡◌}
use Rattle.sim_ground.proofs.Common.{builds, count_by, fact_with, IsOpened, layers_at, list_any, MayChange, nat_tests, not_found, NoteFits, part_for, with_kept}

-- ---- no layer, no cover

no_count : {X : Type 0} (p : X → Bool) (xs : List X) → not (list_any p xs) ≡ (count_by p xs == 0)
no_count p [] = refl
no_count p (x ∷ xs) = by (p x) (no_count p xs) ∙ sym (ap (λ (n : ℕ). n == 0) (sum_by-cons (λ y. one_if (p y)) x xs))
  where
    by : (b : Bool) → not (list_any p xs) ≡ (count_by p xs == 0) → not (b || list_any p xs) ≡ ((one_if b + count_by p xs) == 0)
    by true h = let some : (one_if true + count_by p xs == 0) ≡ false = grind (arith, nat_tests) in sym some
    by false h = let same : count_by p xs ≡ 0 + count_by p xs = omega arith in h ∙ ap (λ (n : ℕ). n == 0) same

both_none : (m n : ℕ) → ((m == 0) && (n == 0)) ≡ ((m + n) == 0)
both_none m n = grind (arith, nat_tests)

none_covers : (land : Land) (facts : List Fact) (c : Cell) → (layers_among land facts c == 0) ≡ is_open_among land facts c
none_covers land facts c =
    sym (ap (λ (b : Bool). b && not (list_any (λ (fact : Fact). rect_covers fact.rect c) facts)) (no_count (λ (r : Rect). covers r c) land.closed)
    ∙ ap (λ (b : Bool). (count_by (λ (r : Rect). covers r c) land.closed == 0) && b) (no_count (λ (fact : Fact). rect_covers fact.rect c) facts)
    ∙ both_none (count_by (λ (r : Rect). covers r c) land.closed) (count_by (λ (fact : Fact). rect_covers fact.rect c) facts))

pub over_is : (land : Land) (facts : List Fact) (o : Opened) → IsOpened land facts o → IsOver land facts o.cover.grid
over_is land facts o h = record {
  size = h.size;
  opens = λ c on.
      o.cover.agree.each c (subst (λ (s : Size). IsOnGround s c) (sym h.size) on) ∙ ap (λ (s : Size). layers_at s o.cover.layers.items c == 0) h.size ∙
      ap (λ (n : ℕ). n == 0) (h.layers c on) ∙ none_covers land facts c;
}

-- ---- an obstruction comes or goes

one_at_least : (p : Fact → Bool) (facts : List Fact) (id : ℕ) (o : Option Fact) → o ≡ fact_with facts id → passes p o ≡ true → 0 < count_by p facts
one_at_least p [] id o e h = absurd (let none : passes p o ≡ false = ap (passes p) e in cc)
one_at_least p (g ∷ facts) id o e h = by (g.id == id) e (one_at_least p facts id o)
  where
    more : count_by p (g ∷ facts) ≡ one_if (p g) + count_by p facts
    more = sum_by-cons (λ (f : Fact). one_if (p f)) g facts

    by : (b : Bool) → o ≡ cond b (Some g) (fact_with facts id) → (o ≡ fact_with facts id → passes p o ≡ true → 0 < count_by p facts)
        → 0 < count_by p (g ∷ facts)
    by true s rest = let here : one_if (p g) ≡ one_if true = ap one_if (sym (ap (passes p) s) ∙ h) in omega (arith, more, here)
    by false s rest = omega (arith, more, rest s h)

module _ (l : Land) (facts : List Fact) (holds : Holds l facts) (o : Opened) (h : IsOpened l facts o) where
  layers_are : (c : Cell) → IsOnGround o.cover.grid.size c → layers_at o.cover.grid.size o.cover.layers.items c ≡ layers_among l facts c
  layers_are c on = ap (λ (s : Size). layers_at s o.cover.layers.items c) h.size ∙ h.layers c (subst (λ (s : Size). IsOnGround s c) h.size on)

  pub few_layers : AreAtMost most_layers o.cover.grid.size o.cover.layers.items
  few_layers c on =
      omega (
        arith,
        layers_are c on,
        count_by-le-length (λ (r : Rect). covers r c) l.closed,
        count_by-le-length (λ (fact : Fact). rect_covers fact.rect c) facts,
        holds.limits.few_closed,
        holds.held.few,
      )

  pub may_go : (id : ℕ) (before : Option Fact) → before ≡ fact_with facts id → MayChange false (part_covers before) o.cover.grid.size o.cover.layers.items
  may_go id before e c on covered = omega (arith, layers_are c on, one_at_least (λ (fact : Fact). rect_covers fact.rect c) facts id before e covered)

  -- after a note that was not taken up
  pub still_opened : (k : Opened) → k.cover.grid.size ≡ o.cover.grid.size → LayersTurn no_part no_part o.cover.grid.size o.cover.layers.items
      k.cover.layers.items → IsOpened l facts k
  still_opened k e turn = record {
    size = e ∙ h.size;
    layers = λ c on. omega (
      arith,
      h.layers c on,
      subst (λ (s : Size). LayersTurn no_part no_part s o.cover.layers.items k.cover.layers.items) h.size turn c on,
    );
  }

  -- after one that was
  pub turned_opened : (note : Note) (id : ℕ) (before part : Option Fact) (after : List Fact) (k : Opened) → NoteFits Ground l facts note → id ≡ id_in note
      → before ≡ fact_with facts id → part ≡ part_noted Ground before note → after ≡ noted Ground facts note →
      k.cover.grid.size ≡ o.cover.grid.size → LayersTurn (part_covers before) (part_covers part) o.cover.grid.size o.cover.layers.items k.cover.layers.items
      → IsOpened l after k
  turned_opened note id before part after k fits is found made new e turn = record { size = e ∙ h.size; layers = layers }
    where
      old : before ≡ fact_with facts (id_in note)
      old = found ∙ ap (fact_with facts) is

      now : part ≡ fact_with (noted Ground facts note) (id_in note)
      now = made ∙ ap (λ (p : Option Fact). part_noted Ground p note) old ∙ sym (part_is Ground l facts note fits)

      layers : AreLayersOf l after k.cover.layers.items
      layers c on =
          let covered : Fact → Bool = λ (fact : Fact). rect_covers fact.rect c in
          let count = count_after covered (id_in note) facts (noted Ground facts note)
          (noted_only Ground l facts note (rising facts holds.held.ascending) fits) in
          let fewer = ap (λ (p : Option Fact). one_if (passes covered p)) old in
          let more = ap (λ (p : Option Fact). one_if (passes covered p)) now in
          let same = ap (count_by covered) new in
          omega (
            arith,
            count,
            fewer,
            more,
            same,
            h.layers c on,
            subst (λ (s : Size). LayersTurn (part_covers before) (part_covers part) s o.cover.layers.items
                k.cover.layers.items) h.size turn c on,
          )

-- What is kept is kept where there is a land, also after a note.

-- ---- notes

nothing_built : (land : Land) (facts : List Fact) (note : Note) → NoteFits Ground land facts note → builds note ≡ false → noted Ground facts note ≡ facts
nothing_built land facts (Born fact) fits e = ap (λ (b : Bool). with_kept (cond b (Some (part_for Ground fact)) None) facts) e
nothing_built land facts (Gone fact) fits e =
    let none : kept Ground fact ≡ None = ap (λ (b : Bool). cond b (Some (part_for Ground fact)) None) e in
    missing_without fact.id facts (not_found fact.id facts (fits.agrees ∙ none))
nothing_built land facts (Moved id from to) fits e = refl
nothing_built land facts (Owned id from to) fits e = refl
nothing_built land facts (Aimed id from to) fits e = refl

-- what is kept stays right after a note by which no obstruction comes or goes
pub still_kept : {E : Type 0} (r : Result (Unit {0}) E) (land : Option Land) (facts after : List Fact) (opened : Option Opened) (note : Note)
    → MatchOption land ⊥ (λ (l : Land). NoteFits Ground l facts note) → builds note ≡ false →
    OnOk r (after ≡ noted Ground facts note) → OnErr r (after ≡ facts) → IsKept land facts opened → IsKept land after opened
still_kept r None facts after opened note fits e ok err h = absurd fits
still_kept (Ok u) (Some l) facts after opened note fits e is err h = subst (λ (fs : List Fact). IsKept (Some l) fs opened)
    (sym (is ∙ nothing_built l facts note fits e)) h
still_kept (Err x) (Some l) facts after opened note fits e ok is h = subst (λ (fs : List Fact). IsKept (Some l) fs opened) (sym is) h

pub same_kept : (land later : Option Land) (facts after : List Fact) (opened : Option Opened) → later ≡ land → after ≡ facts → IsKept land facts opened
    → IsKept later after opened
same_kept land later facts after opened e f h = subst (λ (m : Option Land). IsKept m after opened) (sym e)
    (subst (λ (fs : List Fact). IsKept land fs opened) (sym f) h)

pub none_kept : (land : Option Land) (facts : List Fact) → land ≡ None → IsKept land facts None
none_kept None facts e = record { same = refl; each = λ l o f. absurd (cc) }
none_kept (Some l) facts e = absurd (cc)

pub newly_kept : (land : Option Land) (l : Land) (facts : List Fact) (o : Opened) → land ≡ Some l → IsOpened l facts o → IsKept land facts (Some o)
newly_kept None l facts o e h = absurd (cc)
newly_kept (Some m) l facts o e h = record {
  same = refl;
  each = λ k p f g. let one : l ≡ k = cc in let two : o ≡ p = cc in subst (λ (q : Opened). IsOpened k facts q) two
      (subst (λ (n : Land). IsOpened n facts o) one h);
}

-- both are there, or neither
pub kept_there : (land : Option Land) (P : Land → Type 0) (facts : List Fact) (opened : Option Opened) → MatchOption land ⊥ P → IsKept land facts opened
    → opened ≡ None → ⊥
kept_there None P facts opened fits h e = fits
kept_there (Some l) P facts opened fits h e = let no : is_some opened ≡ false = ap is_some e in let yes = h.same in absurd (cc)

pub still_kept_on : {E : Type 0} (r : Result (Unit {0}) E) (land later : Option Land) (facts after : List Fact) (opened : Option Opened) (note : Note)
    → MatchOption land ⊥ (λ (l : Land). NoteFits Ground l facts note) → builds note ≡ false →
    OnOk r (after ≡ noted Ground facts note) → OnErr r (after ≡ facts) → later ≡ land → IsKept land facts opened → IsKept later after opened
still_kept_on r land later facts after opened note fits e ok err same h =
    subst (λ (m : Option Land). IsKept m after opened) (sym same) (still_kept r land facts after opened note fits e ok err h)

-- after a rebuild
pub opened_anew : (land : Option Land) (l : Land) (facts lent : List Fact) (o : Opened) → land ≡ Some l → lent ≡ facts → IsOpened l lent o
    → IsKept land facts (Some o)
opened_anew land l facts lent o is lends opens = newly_kept land l facts o is (subst (λ (fs : List Fact). IsOpened l fs o) lends opens)

-- What is kept when a note by which an obstruction comes or goes is taken up, and when it is not.

pub ok_holds : {E : Type 0} (r : Result (Unit {0}) E) (P : Type 0) → IsOk r → OnOk r P → P
ok_holds (Ok u) P ok h = h
ok_holds (Err e) P ok h = absurd (cc)

module _ (land : Option Land) (facts : List Fact) (opened : Option Opened) (o : Opened) (note : Note)
    (fits : MatchOption land ⊥ (λ (l : Land). NoteFits Ground l facts note)) (h : HoldsIfAny land facts) (has : opened ≡ Some o)
    (kept : IsKept land facts opened) where
  known : (l : Land) × (land ≡ Some l) × Holds l facts × NoteFits Ground l facts note
  known = holds_where land facts (λ (l : Land). NoteFits Ground l facts note) h fits

  pub may_turn : (id : ℕ) (before : Option Fact) (lent : List Fact) → lent ≡ facts → before ≡ fact_with lent id
      → MayChange false (part_covers before) o.cover.grid.size o.cover.layers.items
  may_turn id before lent same found = let (l, e, holds, _) = known in may_go l facts holds o (kept.each l o e has) id before
      (found ∙ ap (λ (fs : List Fact). fact_with fs id) same)

  pub few_to_turn : AreAtMost most_layers o.cover.grid.size o.cover.layers.items
  few_to_turn = let (l, e, holds, _) = known in few_layers l facts holds o (kept.each l o e has)

  pub kept_same : (later : Option Land) (lent : List Fact) (k : Opened) → later ≡ land → lent ≡ facts → k.cover.grid.size ≡ o.cover.grid.size
      → LayersTurn no_part no_part o.cover.grid.size o.cover.layers.items k.cover.layers.items → IsKept later lent (Some k)
  kept_same later lent k same_land same size turn =
      let (l, e, holds, _) = known in
      newly_kept later l lent k (same_land ∙ e)
      (subst (λ (fs : List Fact). IsOpened l fs k) (sym same) (still_opened l facts holds o (kept.each l o e has) k size turn))

  pub kept_turned : (later : Option Land) (lent after : List Fact) (id : ℕ) (before part : Option Fact) (k : Opened) → later ≡ land → lent ≡ facts
      → id ≡ id_in note → before ≡ fact_with lent id → part ≡ part_noted Ground before note → after ≡ noted Ground lent note →
      k.cover.grid.size ≡ o.cover.grid.size → LayersTurn (part_covers before) (part_covers part) o.cover.grid.size o.cover.layers.items k.cover.layers.items
      → IsKept later after (Some k)
  kept_turned later lent after id before part k same_land same is found made new size turn =
      let (l, e, holds, f) = known in
      newly_kept later l after k (same_land ∙ e)
      (turned_opened l facts holds o (kept.each l o e has) note id before part after k f is (found ∙ ap (λ (fs : List Fact). fact_with fs id) same) made
      (new ∙ ap (λ (fs : List Fact). noted Ground fs note) same) size turn)
