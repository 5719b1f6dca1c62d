-- What is answered over the facts of a state is what is answered over its rows.
use Rattle.sim_system.specs.declared.ask.Ask.TheVariants as ask
use Rattle.sim_base.specs.{Commands.{is_near, is_open, rect_covers, within}, declared.{place.{Cell.Cell, Rect.Rect}, setup.Land.Land}}
use Rattle.sim_base.specs.{Places.{cells_of, centre_of, covers, is_rect_inside, square}, Rows.{in_mask, rect_of_row, size_of}, Ways.{least_of, way_of}}
use Rattle.sim_plans.proofs.FactLists.{ap, apart, arith, Arms, arms_of, Bool, Census, cond, cons_option, eqb-true, Fact, fact_of, fact_with-facts, facts}
use Rattle.sim_plans.proofs.FactLists.{facts_of, false, filter, Ground, id_of, id_of_fact, is_some, IsLooselyValid, IsSome, Kind, List, map, MatchOption, None}
use Rattle.sim_plans.proofs.FactLists.{not, Option, option_and_then, option_map, part, part-id, part_for, Point, Range, refl, Row, row_of, Setup, Some, State}
use Rattle.sim_plans.{proofs.FactLists.{subst, sym, target_of, true, Watch, ℕ, ℤ, [], ◌&&◌, ◌==◌, ◌||◌, ◌∙◌, ◌∷◌, ◌≡◌}, specs.FactLaws.AnswersAgree}
use Rattle.sim_system.specs.{declared.ask.{Answer.{Answer, TheVariants.{Found, Many, Number, Place, Truth}}, Ask.Ask}, Meanings.{answer, answer_over, AskFits}}
use Rattle.sim_system.specs.Meanings.{is_open_among, IsAnswer, IsFed, kind_for, MayAnswer, MayAsk, Meaning, seen_among, seen_from, seen_with, way_told}
use Rattle.{sim_system.specs.{Meanings.within_among, Notes.{origin, vision_of}}, std.proofs.lemmas.{Bool.eqb-false, List.Sums.sum_by-cons}}
use Rattle.std.specs.{List.{list_all, list_any}, Prelude.{count_by, Err, IfOk, Ok, Result, slice_index}}

-- ---- one test of facts and of rows

module _ (kind : Kind) (setup : Setup) (of_fact : Fact → Bool) (of_row : Row → Bool) where
  -- a fact passes where its row does, and a row of which nothing is kept does not
  abbrev pub SameTest : Type 0
  SameTest = (row : Row) → MatchOption (part kind setup row) (of_row row ≡ false) (λ (f : Fact). of_fact f ≡ of_row row)

  module _ (same : SameTest) where
    pub any_same : (rows : List Row) → list_any of_fact (facts kind setup rows) ≡ list_any of_row rows
    any_same [] = refl
    any_same (row ∷ rows) = by (part kind setup row) (same row) (any_same rows)
      where
        by : (o : Option Fact) → MatchOption o (of_row row ≡ false) (λ (f : Fact). of_fact f ≡ of_row row) → list_any of_fact (facts kind setup rows) ≡
            list_any of_row rows → list_any of_fact (cons_option o (facts kind setup rows)) ≡ (of_row row || list_any of_row rows)
        by None h rest = rw h rest
        by (Some f) h rest = rw (h, rest) refl

    pub ids_same : (rows : List Row) → map id_of_fact (filter of_fact (facts kind setup rows)) ≡ map id_of (filter of_row rows)
    ids_same [] = refl
    ids_same (row ∷ rows) = by (part kind setup row) refl (same row) (of_row row) refl (ids_same rows)
      where
        by : (o : Option Fact) → part kind setup row ≡ o → MatchOption o (of_row row ≡ false) (λ (f : Fact). of_fact f ≡ of_row row) → (b : Bool)
            → of_row row ≡ b → map id_of_fact (filter of_fact (facts kind setup rows)) ≡ map id_of (filter of_row rows) →
            map id_of_fact (filter of_fact (cons_option o (facts kind setup rows))) ≡ map id_of
            (cond (of_row row) (row ∷ filter of_row rows) (filter of_row rows))
        by None k h b e rest = rw h rest
        by (Some f) k h true e rest = rw (h, e, part-id kind setup row f k) (ap (λ (ids : List ℕ). row.id ∷ ids) rest)
        by (Some f) k h false e rest = rw (h, e) rest

    pub count_same : (rows : List Row) → count_by of_fact (facts kind setup rows) ≡ count_by of_row rows
    count_same [] = refl
    count_same (row ∷ rows) = by (part kind setup row) (same row) (count_same rows)
      where
        by : (o : Option Fact) → MatchOption o (of_row row ≡ false) (λ (f : Fact). of_fact f ≡ of_row row) → count_by of_fact (facts kind setup rows) ≡
            count_by of_row rows → count_by of_fact (cons_option o (facts kind setup rows)) ≡ count_by of_row (row ∷ rows)
        by None h rest = rest ∙ simp (h) refl
        by (Some f) h rest = simp (sum_by-cons, h, rest) refl

-- ---- the tests of the asks

module _ (setup : Setup) where
  covers_same : (c : Cell) → SameTest Ground setup (λ (f : Fact). rect_covers f.rect c) (λ (row : Row). rect_covers (rect_of_row setup row) c)
  covers_same c row =
      elim (rect_of_row setup row) as
      (λ r. MatchOption (cond (is_some r) (Some (record { id = row.id; at = origin; owner = 0; health = false; vision = None; rect = r; target = 0 })) None)
      (rect_covers r c ≡ false) (λ (f : Fact). rect_covers f.rect c ≡ rect_covers r c)) [
        | None ↦ refl
        | Some r ↦ refl
      ]

  within_same : (p : Point) (radius : ℤ) (mask : ℕ) → SameTest Range setup (λ (f : Fact). f.health && in_mask mask f.owner && is_near f.at p radius)
      (λ (row : Row). is_some row.health && in_mask mask row.owner && is_near row.at p radius)
  within_same p radius mask row = by (is_some row.health) (is_some (vision_of setup row))
    where
      by : (b c : Bool) → MatchOption
          (cond (b || c) (Some (record { id = row.id; at = row.at; owner = row.owner; health = b; vision = vision_of setup row; rect = None; target = 0 }))
          None)
          ((b && in_mask mask row.owner && is_near row.at p radius) ≡ false) (λ (f : Fact). (f.health && in_mask mask f.owner && is_near f.at p radius) ≡
          (b && in_mask mask row.owner && is_near row.at p radius))
      by true c = refl
      by false true = refl
      by false false = refl

  no_target : (id : ℕ) → (not (id == 0) && 0 == id) ≡ false
  no_target id = by (id == 0) refl
    where
      by : (b : Bool) → (id == 0) ≡ b → (not b && 0 == id) ≡ false
      by true e = refl
      by false e = grind (arith, eqb-false id 0 e)

  watchers_same : (id : ℕ) → SameTest Watch setup (λ (f : Fact). not (id == 0) && f.target == id) (λ (row : Row). not (id == 0) && target_of row == id)
  watchers_same id row = by (target_of row == 0) refl
    where
      by : (b : Bool) → (target_of row == 0) ≡ b → MatchOption (cond (not b) (Some (part_for Watch (fact_of setup row))) None)
          ((not (id == 0) && target_of row == id) ≡ false) (λ (f : Fact). (not (id == 0) && f.target == id) ≡ (not (id == 0) && target_of row == id))
      by true e = ap (λ (t : ℕ). not (id == 0) && t == id) (eqb-true (target_of row) 0 e) ∙ no_target id
      by false e = refl

  owner_same : (owner : ℕ) → SameTest Census setup (λ (f : Fact). f.owner == owner) (λ (row : Row). row.owner == owner)
  owner_same owner row = refl

  module _ (state : State) where
    open_same : is_open_among setup.land (facts_of Ground setup state) ≡ is_open setup state
    open_same = λ i c. ap (λ (b : Bool). not (list_any (λ (r : Rect). covers r c) setup.land.closed) && not b)
        (any_same Ground setup (λ (f : Fact). rect_covers f.rect c) (λ (row : Row). rect_covers (rect_of_row setup row) c) (covers_same c) state.rows) i

    ids_within : (p : Point) (radius : ℤ) (mask : ℕ) → within_among (facts_of Range setup state) p radius mask ≡ within state p radius mask
    ids_within p radius mask = ids_same Range setup _ _ (within_same p radius mask) state.rows

    -- whom a row sees
    seen_by_row : (row : Row) → seen_among setup.land (facts_of Range setup state) (part Range setup row) ≡ seen_with setup state row (arms_of setup row)
    seen_by_row row = by (is_some row.health) (arms_of setup row)
      where
        by : (b : Bool) (a : Option Arms) →
            seen_among setup.land (facts_of Range setup state) (cond (b || is_some (option_map (λ (arms : Arms). arms.vision) a))
            (Some (record {
              id = row.id;
              at = row.at;
              owner = row.owner;
              health = b;
              vision = option_map (λ (arms : Arms). arms.vision) a;
              rect = None;
              target = 0;
            }))
            None)
            ≡ seen_with setup state row a
        by true None = refl
        by false None = refl
        by true (Some arms) = ap (filter (λ (id : ℕ). not (id == row.id))) (ids_within row.at arms.vision (slice_index setup.land.masks row.owner))
        by false (Some arms) = ap (filter (λ (id : ℕ). not (id == row.id))) (ids_within row.at arms.vision (slice_index setup.land.masks row.owner))

    seen_same : (o : Option Row) → seen_among setup.land (facts_of Range setup state) (option_and_then (part Range setup) o) ≡ seen_from setup state o
    seen_same None = refl
    seen_same (Some row) = seen_by_row row

pub answers_agree : AnswersAgree
answers_agree setup state (ask.Open cell) up = ap (λ (f : Cell → Bool). Truth (f cell)) (open_same setup state)
answers_agree setup state (ask.Free rect) up =
    ap (λ (f : Cell → Bool). Truth (is_rect_inside (size_of setup.land) rect && list_all (λ (c : Cell). not (covers rect c) || f c)
    (cells_of (size_of setup.land)))) (open_same setup state)
answers_agree setup state (ask.Way start goal) up =
    ap (λ (f : Cell → Bool). Found (way_told (way_of (record { size = size_of setup.land; is_open = f }) start goal))) (open_same setup state)
answers_agree setup state (ask.Spot at) up =
    ap (λ (f : Cell → Bool). Place (least_of (λ (c : Cell). square (centre_of c) at ∷ c.z ∷ c.x ∷ []) (filter f (cells_of (size_of setup.land)))))
    (open_same setup state)
answers_agree setup state (ask.Within at radius mask) up = ap Many (ids_within setup state at radius mask)
answers_agree setup state (ask.Seen id) up =
    ap (λ (o : Option Fact). Many (seen_among setup.land (facts_of Range setup state) o)) (fact_with-facts Range setup id state.rows (apart state.rows up)) ∙
    ap Many (seen_same setup state (row_of state id))
answers_agree setup state (ask.Watchers id) up = ap Many (ids_same Watch setup _ _ (watchers_same setup id) state.rows)
answers_agree setup state (ask.Count owner) up = ap Number (count_same Census setup _ _ (owner_same setup owner) state.rows)

-- What is asked of a scene that stands may be asked of the right system, and its answer is that over the rows.

-- a row that can attack is kept with a vision
seen_kept : (setup : Setup) (row : Row) → IsSome (arms_of setup row) → MatchOption (part Range setup row) ⊥ (λ (fact : Fact). IsSome fact.vision)
seen_kept setup row = by (is_some row.health) (arms_of setup row)
  where
    by : (b : Bool) (a : Option Arms) → IsSome a →
        MatchOption (cond (b || is_some (option_map (λ (arms : Arms). arms.vision) a))
        (Some (record {
          id = row.id;
          at = row.at;
          owner = row.owner;
          health = b;
          vision = option_map (λ (arms : Arms). arms.vision) a;
          rect = None;
          target = 0;
        })) None)
        ⊥ (λ (fact : Fact). IsSome fact.vision)
    by b None h = absurd (cc)
    by true (Some arms) h = refl
    by false (Some arms) h = refl

seen_fits : (setup : Setup) (o : Option Row) → MatchOption o ⊥ (λ (row : Row). IsSome (arms_of setup row)) → MatchOption (option_and_then (part Range setup) o)
    ⊥ (λ (fact : Fact). IsSome fact.vision)
seen_fits setup None h = absurd h
seen_fits setup (Some row) h = seen_kept setup row h

ask_fits : (setup : Setup) (state : State) (a : Ask) → IsLooselyValid setup state → MayAsk setup state a
    → AskFits setup.land (facts_of (kind_for a) setup state) a
ask_fits setup state (ask.Open cell) valid may = may
ask_fits setup state (ask.Free rect) valid may = may
ask_fits setup state (ask.Way start goal) valid may = may
ask_fits setup state (ask.Spot at) valid may = may
ask_fits setup state (ask.Within at radius mask) valid may = may
ask_fits setup state (ask.Seen id) valid may =
    subst (λ (o : Option Fact). MatchOption o ⊥ (λ (fact : Fact). IsSome fact.vision))
    (sym (fact_with-facts Range setup id state.rows (apart state.rows valid.ascending))) (seen_fits setup (row_of state id) may)
ask_fits setup state (ask.Watchers id) valid may = may
ask_fits setup state (ask.Count owner) valid may = may

module _ (setup : Setup) (state : State) (a : Ask) (m : Meaning) (k : Kind) (of_kind : kind_for a ≡ k) (told : IsFed k setup state m) where
  fed : IsFed (kind_for a) setup state m
  fed = subst (λ (kind : Kind). IsFed kind setup state m) (sym of_kind) told

  pub may_answer : IsLooselyValid setup state → MayAsk setup state a → MayAnswer m a
  may_answer valid may =
      subst (λ (o : Option Land). MatchOption o ⊥ (λ (land : Land). (kind_for a ≡ m.kind) × AskFits land m.facts a)) (sym fed.land)
      (sym fed.kinds, subst (λ (fs : List Fact). AskFits setup.land fs a) (sym fed.facts) (ask_fits setup state a valid may))

  answer_is : (given : Answer) → IsLooselyValid setup state → IsAnswer m a given → given ≡ answer_over setup state a
  answer_is given valid says =
      let over_land : given ≡ answer setup.land m.facts a = subst (λ (o : Option Land). MatchOption o ⊥ (λ (land : Land). given ≡ answer land m.facts a))
      fed.land says in
      over_land ∙ ap (λ (fs : List Fact). answer setup.land fs a) fed.facts ∙ answers_agree setup state a valid.ascending

  pub answered : {E : Type 0} (r : Result Answer E) → IsLooselyValid setup state → IfOk r (IsAnswer m a) → IfOk r (λ given. given ≡ answer_over setup state a)
  answered (Ok given) valid says = answer_is given valid says
  answered (Err e) valid says = tt
