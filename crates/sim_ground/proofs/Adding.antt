-- Cells that were closed or opened are listed, and are all by which the grid differs from its labels.
use Rattle.sim_ground.proofs.Common.{ap, arith, Bool, Cell, cond, false, inl, inr, is_open_at, is_some, IsOnGround, List, not, OpenCells, Option, refl}
use Rattle.sim_ground.proofs.Common.{same_cell, same_cell-true, subst, sym, true, ℕ, [], ◌&&◌, ◌++◌, ◌||◌, ◌∙◌, ◌∷◌, ◌≡◌, ◌⊎◌}
use Rattle.{sim_ground.specs.Mending.{AddsTurned, Closes, is_turned}, sim_search.{proofs.Regions.over, specs.Floods.{IsMore, labelled}}}
use Rattle.std.proofs.{Common.Contains, lemmas.List.Elements.{Contains-append_left, Contains-push, Contains-push_cases}}

module _ (g : OpenCells) (label : Cell → Option ℕ) where
  pub adds_nothing : (among : Cell → Bool) (xs : List Cell) → ((c : Cell) → among c ≡ false) → AddsTurned g label among xs xs
  adds_nothing among xs none = record { each = λ c h. inl h; keeps = λ c h. h; all = λ c on e. absurd (let f = none c in cc) }

  pub adds_more : (p q r : Cell → Bool) (old mid new : List Cell) → ((c : Cell) → r c ≡ (p c || q c)) → AddsTurned g label p old mid
      → AddsTurned g label q mid new → AddsTurned g label r old new
  adds_more p q r old mid new split first second = record {
    each = λ c h. by c (second.each c h);
    keeps = λ c h. second.keeps c (first.keeps c h);
    all = λ c on e t. all c on t (p c) refl (sym (split c) ∙ e);
  }
    where
      by : (c : Cell) → Contains mid c ⊎ (IsOnGround g.size c × (is_turned g label c ≡ true)) → Contains old c
          ⊎ (IsOnGround g.size c × (is_turned g label c ≡ true))
      by c (inl h) = first.each c h
      by c (inr h) = inr h

      all : (c : Cell) → IsOnGround g.size c → is_turned g label c ≡ true → (b : Bool) → p c ≡ b → (p c || q c) ≡ true → Contains new c
      all c on t true e h = second.keeps c (first.all c on e t)
      all c on t false e h = second.all c on (ap (λ (b : Bool). b || q c) (sym e) ∙ h) t

  pub adds_same : (p q : Cell → Bool) (old new : List Cell) → ((c : Cell) → IsOnGround g.size c → p c ≡ q c) → AddsTurned g label p old new
      → AddsTurned g label q old new
  adds_same p q old new same h = record { each = h.each; keeps = h.keeps; all = λ c on e t. h.all c on (same c on ∙ e) t }

  pub adds_cell : (cell : Cell) (xs : List Cell) → IsOnGround g.size cell → is_turned g label cell ≡ true
      → AddsTurned g label (λ c. same_cell c cell) xs (xs ++ cell ∷ [])
  adds_cell cell xs on t = record {
    each = λ c h. by c (Contains-push_cases xs cell c h);
    keeps = λ c h. Contains-append_left xs (cell ∷ []) c h;
    all = λ c _ e _. subst (Contains (xs ++ cell ∷ [])) (sym (same_cell-true c cell e)) (Contains-push xs cell);
  }
    where
      by : (c : Cell) → Contains xs c ⊎ (cell ≡ c) → Contains xs c ⊎ (IsOnGround g.size c × (is_turned g label c ≡ true))
      by c (inl h) = inl h
      by c (inr same) = inr (subst (IsOnGround g.size) same on, subst (λ (v : Cell). is_turned g label v ≡ true) same t)

  pub adds_none : (cell : Cell) (xs : List Cell) → is_turned g label cell ≡ false → AddsTurned g label (λ c. same_cell c cell) xs xs
  adds_none cell xs t = record {
    each = λ c h. inl h;
    keeps = λ c h. h;
    all = λ c _ e f. absurd (let other = ap (is_turned g label) (sym (same_cell-true c cell e)) in cc);
  }

  -- ---- truth values

  had : (p q r : Bool) → q ≡ (p && not r) → q ≡ true → p ≡ true
  had true q r e h = refl
  had false q r e h = absurd (cc)

  covered : (p q r : Bool) → q ≡ (p && not r) → p ≡ true → q ≡ false → r ≡ true
  covered p q true e h k = refl
  covered true q false e h k = absurd (cc)
  covered false q false e h k = absurd (cc)

  -- the first is open and the second is not, where one of them alone is
  apart : (p q r : Bool) → q ≡ (p && not r) → cond p (not q) q ≡ true → (p ≡ true) × (q ≡ false)
  apart true true r e h = absurd (cc)
  apart true false r e h = (refl, refl)
  apart false true r e h = absurd (cc)
  apart false false r e h = absurd (cc)

  apart_turned : (p q r : Bool) → p ≡ (q && not r) → cond p (not q) q ≡ true → (q ≡ true) × (p ≡ false)
  apart_turned true true r e h = absurd (cc)
  apart_turned true false r e h = absurd (cc)
  apart_turned false true r e h = (refl, refl)
  apart_turned false false r e h = absurd (cc)

  turned_if : (p q : Bool) → p ≡ true → q ≡ false → cond p (not q) q ≡ true
  turned_if true false e f = refl
  turned_if true true e f = absurd (cc)
  turned_if false q e f = absurd (cc)

  turned_back : (p q : Bool) → p ≡ false → q ≡ true → cond p (not q) q ≡ true
  turned_back false true e f = refl
  turned_back false false e f = absurd (cc)
  turned_back true q e f = absurd (cc)

  listed_one : (c : Cell) → Contains [] c ⊎ (IsOnGround g.size c × (is_turned g label c ≡ true)) → IsOnGround g.size c × (is_turned g label c ≡ true)
  listed_one c (inl (k, lt, _)) = absurd (omega arith)
  listed_one c (inr h) = h

  module _ (covers : Cell → Bool) (cells : List Cell) (adds : AddsTurned g label covers [] cells) where
    pub closed_cells : Closes g.size (λ c. is_some (label c)) (is_open_at g) covers
        → IsMore (labelled g.size label) (over g.size (is_open_at g)) cells
    closed_cells closes = record {
      size = refl;
      keeps = λ c on e. had (is_some (label c)) (is_open_at g c) (covers c) (closes c on) e;
      listed = λ c on e f. adds.all c on (covered (is_some (label c)) (is_open_at g c) (covers c) (closes c on) e f)
          (turned_if (is_some (label c)) (is_open_at g c) e f);
      on = λ c h. (listed_one c (adds.each c h)).0;
      opens = λ c h. let (on, t) = listed_one c (adds.each c h) in (apart (is_some (label c)) (is_open_at g c) (covers c) (closes c on) t).0;
      closed = λ c h. let (on, t) = listed_one c (adds.each c h) in (apart (is_some (label c)) (is_open_at g c) (covers c) (closes c on) t).1;
    }

    pub opened_cells : Closes g.size (is_open_at g) (λ c. is_some (label c)) covers
        → IsMore (over g.size (is_open_at g)) (labelled g.size label) cells
    opened_cells opens = record {
      size = refl;
      keeps = λ c on e. had (is_open_at g c) (is_some (label c)) (covers c) (opens c on) e;
      listed = λ c on e f. adds.all c on (covered (is_open_at g c) (is_some (label c)) (covers c) (opens c on) e f)
          (turned_back (is_some (label c)) (is_open_at g c) f e);
      on = λ c h. (listed_one c (adds.each c h)).0;
      opens = λ c h. let (on, t) = listed_one c (adds.each c h) in (apart_turned (is_some (label c)) (is_open_at g c) (covers c) (opens c on) t).0;
      closed = λ c h. let (on, t) = listed_one c (adds.each c h) in (apart_turned (is_some (label c)) (is_open_at g c) (covers c) (opens c on) t).1;
    }
