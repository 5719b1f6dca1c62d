-- A system that was told of a note keeps what the changed state says.
use Rattle.sim_board.proofs.Common.{AreTold, AreWatching, arith, Born, Census, Change, change_told, Fact, fact_of, facts-unchanged, facts_of, first_told, Fits}
use Rattle.sim_board.proofs.Common.{Some, None, fold, filter, Option, option_map, refl, Aim, Aimed, all_told, AllMayHear, ap, apart, applied, AreFed}
use Rattle.sim_board.proofs.Common.{found_row, Gone, Ground, Has, hears, id_is_some, IsFed, IsLooselyValid, IsSetup, IsStanding, IsTold, Kind, Land}
use Rattle.sim_board.proofs.Common.{left_told, let_go_state, MayHear, Meaning, Moved, new_row, Note, noted, NoteFits, OfRow, Owned, part-aimed_watch, Point}
use Rattle.sim_board.proofs.Common.{posts, posts_born, posts_on, Range, release_all, released, released_is_state, removed, removed_is_left, Row, row_of}
use Rattle.sim_board.proofs.Common.{same_row, Setup, slice_get_cases, State, subst, sym, Systems, target_of, Template, then_watching, told, unheard, Watch}
use Rattle.sim_board.proofs.Common.{watchers, watchers_are_watching, with_new, with_row, ⊎_elim, ◌∙◌}
use Rattle.sim_board.proofs.Common.{◌≡◌, ℕ, zero, suc, ◌+◌, ◌<◌, false, not, List, [], ◌∷◌, length, get_or, take, drop, IsSome, ◌==◌, slice_get, MatchOption}
use Rattle.sim_base.specs.declared.change.Change.TheVariants as change

pub may_hear : (kind : Kind) (setup : Setup) (state : State) (m : Meaning) (note : Note) → IsFed kind setup state m
    → NoteFits kind setup.land (facts_of kind setup state) note → MayHear m note
may_hear kind setup state m note fed fits =
    subst (λ (o : Option Land). MatchOption o ⊥ (λ (land : Land). NoteFits m.kind land m.facts note)) (sym fed.land)
    (subst (λ (k : Kind). NoteFits k setup.land m.facts note) (sym fed.kinds) (subst (λ (fs : List Fact). NoteFits kind setup.land fs note) (sym fed.facts)
    fits))

pub fed_told : (kind : Kind) (setup : Setup) (state after : State) (m new : Meaning) (note : Note) → IsFed kind setup state m → new ≡ told m note
    → facts_of kind setup after ≡ noted kind (facts_of kind setup state) note → IsFed kind setup after new
fed_told kind setup state after m new note fed is gives = record {
  kinds = ap (λ (x : Meaning). x.kind) is ∙ fed.kinds;
  land = ap (λ (x : Meaning). x.land) is ∙ fed.land;
  facts = ap (λ (x : Meaning). x.facts) is ∙ ap (λ (k : Kind). noted k m.facts note) fed.kinds ∙ ap (λ (fs : List Fact). noted kind fs note) fed.facts ∙
      sym gives;
}

pub fed_same : (kind : Kind) (setup : Setup) (state after : State) (m : Meaning) → IsFed kind setup state m → facts_of kind setup after ≡ facts_of kind setup
    state → IsFed kind setup after m
fed_same kind setup state after m fed same = record { kinds = fed.kinds; land = fed.land; facts = fed.facts ∙ sym same }

pub fed_unheard : (kind : Kind) (setup : Setup) (state after : State) (m : Meaning) (note : Note) → IsFed kind setup state m
    → IsTold kind setup state after note → hears kind note ≡ false → IsFed kind setup after m
fed_unheard kind setup state after m note fed is_told deaf = fed_same kind setup state after m fed
    (is_told.gives ∙ unheard kind (facts_of kind setup state) note deaf)

-- a change that names a row which is alive, and posts one note on it
pub one_note : (kind : Kind) (setup : Setup) (state after : State) (id : ℕ) (row : Row) (note : Row → Note) → row_of state id ≡ Some row
    → AreTold kind setup state after (posts_on (row_of state id) (λ (r : Row). note r ∷ [])) → IsTold kind setup state after (note row)
one_note kind setup state after id row note found all =
    let these = subst (λ (o : Option Row). AreTold kind setup state after (posts_on o (λ (r : Row). note r ∷ []))) found all in
    record { fits = these.fit.0; gives = these.gives }

pub alive : (state : State) (id : ℕ) (P : Row → Type 0) → OfRow state id P → IsSome (row_of state id)
alive state id P h = by (row_of state id) h
  where
    by : (o : Option Row) → MatchOption o ⊥ P → IsSome o
    by None h = absurd h
    by (Some row) h = refl

-- ---- the one note of a change

module _ (kind : Kind) (setup : Setup) (state : State) (limits : IsSetup setup) (valid : IsLooselyValid setup state) where
  pub move_is_told : (id : ℕ) (p : Point) (row : Row) → row_of state id ≡ Some row → Fits setup state (change.Move id p)
      → IsTold kind setup state (applied setup state (change.Move id p)) (Moved id row.at p)
  move_is_told id p row found fit = one_note kind setup state _ id row (λ (r : Row). Moved id r.at p) found
      (change_told setup state kind limits valid (change.Move id p) fit)

  pub aim_is_told : (id : ℕ) (aim : Aim) (row : Row) → row_of state id ≡ Some row → Fits setup state (change.Attack id aim) → (from : ℕ) → from ≡ target_of row
      → IsTold kind setup state (applied setup state (change.Attack id aim)) (Aimed id from aim.target)
  aim_is_told id aim row found fit from is =
      subst (λ (n : ℕ). IsTold kind setup state (applied setup state (change.Attack id aim)) (Aimed id n aim.target)) (sym is)
      (one_note kind setup state _ id row (λ (r : Row). Aimed id (target_of r) aim.target) found
      (change_told setup state kind limits valid (change.Attack id aim) fit))

  pub owner_is_told : (id owner : ℕ) (row : Row) → row_of state id ≡ Some row → Fits setup state (change.Owner id owner)
      → IsTold kind setup state (applied setup state (change.Owner id owner)) (Owned id row.owner owner)
  owner_is_told id owner row found fit = one_note kind setup state _ id row (λ (r : Row). Owned id r.owner owner) found
      (change_told setup state kind limits valid (change.Owner id owner) fit)

  -- a birth
  pub birth_is_told : (number : ℕ) (p : Point) (owner : ℕ) (fact : Fact) → Fits setup state (change.Create number p owner)
      → ((t : Template) → slice_get setup.templates number ≡ Some t → fact ≡ fact_of setup (new_row state.next number p owner t)) →
      IsTold kind setup state (applied setup state (change.Create number p owner)) (Born fact)
  birth_is_told number p owner fact fit is = by (slice_get setup.templates number) refl
      (change_told setup state kind limits valid (change.Create number p owner) fit)
    where
      by : (o : Option Template) → slice_get setup.templates number ≡ o → AreTold kind setup state (with_new number p owner o state)
          (posts_born setup (option_map (λ (t : Template). new_row state.next number p owner t) o))
          → IsTold kind setup state (with_new number p owner (slice_get setup.templates number) state) (Born fact)
      by None e all = absurd (missing e)
        where
          missing : slice_get setup.templates number ≡ None → ⊥
          missing none = ⊎_elim (λ (inside : (t : Template) × (number < length setup.templates) × (slice_get setup.templates number ≡ Some t) × (_)). absurd
              (some_none inside.0 (sym inside.2 ∙ none))) (λ past. absurd (omega (arith, fit.0, past.0))) ((slice_get_cases setup.templates number).1)
            where
              some_none : (t : Template) → Some t ≡ None → ⊥
              some_none t same = absurd (cc)
      by (Some t) e all =
          subst (λ (o : Option Template). IsTold kind setup state (with_new number p owner o state) (Born fact)) (sym e)
          (subst (λ (f : Fact). IsTold kind setup state (with_new number p owner (Some t) state) (Born f)) (sym (is t e))
          (record { fits = all.fit.0; gives = all.gives }))

  -- a row that takes the target that it had
  pub same_aim : (id : ℕ) (aim : Aim) (row : Row) → row_of state id ≡ Some row → (from : ℕ) → from ≡ target_of row → from ≡ aim.target
      → facts_of kind setup (applied setup state (change.Attack id aim)) ≡ facts_of kind setup state
  same_aim id aim row found from is same = by kind
    where
      target : (r : Row) → Has state.rows r → r.id ≡ id → target_of r ≡ aim.target
      target r h e =
          let (m, is_id) = found_row state id row found in
          ap target_of (same_row state.rows r row (apart state.rows valid.ascending) h m (e ∙ sym is_id)) ∙ sym is ∙ same

      by : (k : Kind) → facts_of k setup (applied setup state (change.Attack id aim)) ≡ facts_of k setup state
      by Ground = facts-unchanged Ground setup id (λ (r : Row). record r { attack = Some aim }) state.rows (λ r h e. refl)
      by Range = facts-unchanged Range setup id (λ (r : Row). record r { attack = Some aim }) state.rows (λ r h e. refl)
      by Watch =
          facts-unchanged Watch setup id (λ (r : Row). record r { attack = Some aim }) state.rows
          (λ r h e. part-aimed_watch setup r.id aim.target (record r { attack = Some aim }) refl refl ∙
          sym (part-aimed_watch setup r.id aim.target r refl (target r h e)))
      by Census = facts-unchanged Census setup id (λ (r : Row). record r { attack = Some aim }) state.rows (λ r h e. refl)

-- ---- all four

-- where no facts change, nobody need be told
pub all_fed_same : (setup : Setup) (state after : State) (s : Systems) → AreFed setup state s
    → ((kind : Kind) → facts_of kind setup after ≡ facts_of kind setup state) → AreFed setup after s
all_fed_same setup state after s fed same = record {
  ground = fed_same Ground setup state after s.ground fed.ground (same Ground);
  range = fed_same Range setup state after s.range fed.range (same Range);
  watch = fed_same Watch setup state after s.watch fed.watch (same Watch);
  census = fed_same Census setup state after s.census fed.census (same Census);
}

pub all_may_hear : (setup : Setup) (state after : State) (s : Systems) (note : Note) → AreFed setup state s
    → ((kind : Kind) → IsTold kind setup state after note) → AllMayHear s note
all_may_hear setup state after s note fed each = record {
  first = may_hear Ground setup state s.ground note fed.ground (each Ground).fits;
  second = may_hear Range setup state s.range note fed.range (each Range).fits;
  third = may_hear Watch setup state s.watch note fed.watch (each Watch).fits;
  fourth = may_hear Census setup state s.census note fed.census (each Census).fits;
}

pub all_fed : (setup : Setup) (state after : State) (s t : Systems) (note : Note) → AreFed setup state s → ((kind : Kind) → IsTold kind setup state after note)
    → t ≡ all_told s note → AreFed setup after t
all_fed setup state after s t note fed each is = record {
  ground = fed_told Ground setup state after s.ground t.ground note fed.ground (ap (λ (x : Systems). x.ground) is) (each Ground).gives;
  range = fed_told Range setup state after s.range t.range note fed.range (ap (λ (x : Systems). x.range) is) (each Range).gives;
  watch = fed_told Watch setup state after s.watch t.watch note fed.watch (ap (λ (x : Systems). x.watch) is) (each Watch).gives;
  census = fed_told Census setup state after s.census t.census note fed.census (ap (λ (x : Systems). x.census) is) (each Census).gives;
}

-- ---- those who are let go

-- after the first of them
module _ (setup : Setup) (state : State) (id w : ℕ) (ids : List ℕ) (valid : IsLooselyValid setup state) (watching : AreWatching state id (w ∷ ids)) where
  pub release_is_told : (kind : Kind) → IsTold kind setup state (with_row w released state) (Aimed w id 0)
  release_is_told kind = first_told kind setup state id w ids valid watching

  pub release_fed : (s t : Systems) → AreFed setup state s → t.ground ≡ s.ground → t.range ≡ s.range → t.watch ≡ told s.watch (Aimed w id 0)
      → t.census ≡ s.census → AreFed setup (with_row w released state) t
  release_fed s t fed first second third fourth = record {
    ground = subst (IsFed Ground setup (with_row w released state)) (sym first) (fed_unheard Ground setup state (with_row w released state) s.ground
        (Aimed w id 0) fed.ground (release_is_told Ground) refl);
    range = subst (IsFed Range setup (with_row w released state)) (sym second) (fed_unheard Range setup state (with_row w released state) s.range (Aimed w id 0)
        fed.range (release_is_told Range) refl);
    watch = fed_told Watch setup state (with_row w released state) s.watch t.watch (Aimed w id 0) fed.watch third (release_is_told Watch).gives;
    census = subst (IsFed Census setup (with_row w released state)) (sym fourth) (fed_unheard Census setup state (with_row w released state) s.census
        (Aimed w id 0) fed.census (release_is_told Census) refl);
  }

-- so far: the first of the ids are let go, and the others still watch
pub record AreLetGo (setup : Setup) (state : State) (id : ℕ) (ids : List ℕ) (n : ℕ) (s : Systems) : Type 0 where
  pub fed : AreFed setup (release_all (take n ids) state) s
  pub valid : IsLooselyValid setup (release_all (take n ids) state)
  pub watching : AreWatching (release_all (take n ids) state) id (drop n ids)

next_id : (ids : List ℕ) (n w : ℕ) → n < length ids → w ≡ get_or ids n 0 → drop n ids ≡ w ∷ drop (suc n) ids
next_id [] n w below is = absurd (omega arith)
next_id (v ∷ ids) zero w below is = ap (λ (u : ℕ). u ∷ ids) (sym is)
next_id (v ∷ ids) (suc n) w below is = next_id ids n w (omega arith) is

one_more : (ids : List ℕ) (state : State) (n w : ℕ) → n < length ids → w ≡ get_or ids n 0 → release_all (take (suc n) ids) state ≡ with_row w released
    (release_all (take n ids) state)
one_more [] state n w below is = absurd (omega arith)
one_more (v ∷ ids) state zero w below is = ap (λ (u : ℕ). with_row u released state) (sym is)
one_more (v ∷ ids) state (suc n) w below is = one_more ids (with_row v released state) n w (omega arith) is

module _ (setup : Setup) (state : State) (id : ℕ) (ids : List ℕ) (n w : ℕ) (s : Systems) (far : AreLetGo setup state id ids n s) (below : n < length ids)
    (is : w ≡ get_or ids n 0) where
  watching_here : AreWatching (release_all (take n ids) state) id (w ∷ drop (suc n) ids)
  watching_here = subst (AreWatching (release_all (take n ids) state) id) (next_id ids n w below is) far.watching

  pub release_may_hear : MayHear s.watch (Aimed w id 0)
  release_may_hear = may_hear Watch setup _ s.watch (Aimed w id 0) far.fed.watch (release_is_told setup _ id w (drop (suc n) ids) far.valid watching_here
      Watch).fits

  pub let_go_more : (t : Systems) → t.ground ≡ s.ground → t.range ≡ s.range → t.watch ≡ told s.watch (Aimed w id 0) → t.census ≡ s.census
      → AreLetGo setup state id ids (n + 1) t
  let_go_more t first second third fourth =
      let more : release_all (take (suc n) ids) state ≡ with_row w released (release_all (take n ids) state) = one_more ids state n w below is in
      let next : suc n ≡ n + 1 = omega arith in
      subst (λ (k : ℕ). AreLetGo setup state id ids k t) next (record {
        fed = subst (λ (st : State). AreFed setup st t) (sym more) (release_fed setup _ id w (drop (suc n) ids) far.valid watching_here s t far.fed first second
            third fourth);
        valid = subst (IsLooselyValid setup) (sym more) (released_is_state setup (release_all (take n ids) state) w far.valid);
        watching = subst (λ (st : State). AreWatching st id (drop (suc n) ids)) (sym more)
            (then_watching (release_all (take n ids) state) id w (drop (suc n) ids) watching_here);
      })

-- ---- a removal

module _ (setup : Setup) (state : State) (id : ℕ) (row : Row) (valid : IsLooselyValid setup state) (found : row_of state id ≡ Some row) where
  pub all_watch : (ids : List ℕ) → ids ≡ watchers state id → AreWatching state id ids
  all_watch ids are = subst (AreWatching state id) (sym are) (watchers_are_watching setup state id (id_is_some setup state id row valid found) valid)

  module _ (ids : List ℕ) (s : Systems) (fact : Fact) (are : ids ≡ watchers state id) (fed : AreFed setup (release_all ids state) s)
      (is : fact ≡ fact_of setup row) where
    abbrev left : State
    left = record (let_go_state setup state id row valid found)
        { rows = filter (λ (r : Row). not (r.id == id)) (let_go_state setup state id row valid found).rows }

    leaving : (kind : Kind) → IsTold kind setup (let_go_state setup state id row valid found) left (Gone fact)
    leaving kind = subst (λ (f : Fact). IsTold kind setup (let_go_state setup state id row valid found) left (Gone f)) (sym is)
        (left_told setup state id row valid found kind)

    let_go_fed : AreFed setup (let_go_state setup state id row valid found) s
    let_go_fed = subst (λ (ws : List ℕ). AreFed setup (release_all ws state) s) are fed

    pub removal_may_hear : AllMayHear s (Gone fact)
    removal_may_hear = all_may_hear setup (let_go_state setup state id row valid found) left s (Gone fact) let_go_fed leaving

    pub removal_fed : (t : Systems) → t ≡ all_told s (Gone fact) → AreFed setup (removed id state) t
    removal_fed t told_is = subst (λ (st : State). AreFed setup st t) (sym (removed_is_left setup state id row valid found))
        (all_fed setup (let_go_state setup state id row valid found) left s t (Gone fact) let_go_fed leaving told_is)

-- ---- a change of which no system is told

pub silent_fed : (setup : Setup) (state : State) (s : Systems) (c : Change) → IsStanding setup state s → Fits setup state c → posts setup state c ≡ []
    → AreFed setup (applied setup state c) s
silent_fed setup state s c stands fit none = record {
  ground = fed_same Ground setup state (applied setup state c) s.ground stands.fed.ground (same Ground);
  range = fed_same Range setup state (applied setup state c) s.range stands.fed.range (same Range);
  watch = fed_same Watch setup state (applied setup state c) s.watch stands.fed.watch (same Watch);
  census = fed_same Census setup state (applied setup state c) s.census stands.fed.census (same Census);
}
  where
    same : (kind : Kind) → facts_of kind setup (applied setup state c) ≡ facts_of kind setup state
    same kind = (change_told setup state kind stands.limits stands.valid c fit).gives ∙ ap (fold (noted kind) (facts_of kind setup state)) none
