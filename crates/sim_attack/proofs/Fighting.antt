-- The loop over the rows that fight.
use Rattle.{sim_attack.specs.Fights.{AreTaken, fought_first, fought_on}, sim_base.specs.Commands.is_near}
use Rattle.sim_base.specs.declared.{change.Change.{Change, TheVariants.Word}, setup.Setup.Setup, state.{Aim.Aim, Row.Row, State.State}, template.Arms.Arms}
use Rattle.sim_base.specs.{Rows.{arms_of, row_of}, Turn.{fights, Hit, Hitting, hitting, rests, strikes, strikes_near, taken_from, with_cooldown}}
use Rattle.sim_plans.specs.Plans.{hurt_changes_by, hurt_changes_of}
use Rattle.std.proofs.Common.{ap, append_assoc, arith, Bool, cond, false, flat_map, fold, get_or, length, List, None, Option, refl, replicate, Some, subst, sym}
use Rattle.std.proofs.{Common.{take, true, ℕ, [], ◌++◌, ◌+◌, ◌-◌, ◌<◌, ◌∙◌, ◌∷◌, ◌≡◌, ◌≤◌}, lemmas.List.{append-nil, Concat.flat_map-append, get_or-replicate}}
use Rattle.std.{proofs.lemmas.List.{get_or_default, length-replicate, Sums.fold-append, take_all, take_more}, specs.Prelude.◌==◌}

-- the word and the hits after a fight do not depend on the rows so far
record IsSameFight (a b : Hitting) : Type 0 where
  word : a.word ≡ b.word
  hits : a.hits ≡ b.hits

near_same : (setup : Setup) (so_far : Hitting) (rows : List Row) (row : Row) (aim : Aim) (arms : Arms) (o : Option Row) →
    IsSameFight (strikes_near setup so_far row aim arms o) (strikes_near setup (record so_far { rows = rows }) row aim arms o)
near_same setup so_far rows row aim arms None = record { word = refl; hits = refl }
near_same setup so_far rows row aim arms (Some target) = by (is_near target.at row.at arms.range)
  where
    by : (b : Bool) → IsSameFight (cond b (strikes setup so_far row aim arms target) (rests so_far row))
        (cond b (strikes setup (record so_far { rows = rows }) row aim arms target) (rests (record so_far { rows = rows }) row))
    by true = record { word = refl; hits = refl }
    by false = record { word = refl; hits = refl }

fight_same : (setup : Setup) (state : State) (so_far : Hitting) (rows : List Row) (row : Row) (a : Option Aim) (b : Option Arms) →
    IsSameFight (fights setup state so_far row a b) (fights setup state (record so_far { rows = rows }) row a b)
fight_same setup state so_far rows row (Some aim) (Some arms) = by (aim.cooldown == 0)
  where
    by : (b : Bool) → IsSameFight (cond b (strikes_near setup so_far row aim arms (row_of state aim.target))
        (rests so_far (with_cooldown row aim (aim.cooldown - 1))))
        (cond b (strikes_near setup (record so_far { rows = rows }) row aim arms (row_of state aim.target))
        (rests (record so_far { rows = rows }) (with_cooldown row aim (aim.cooldown - 1))))
    by true = near_same setup so_far rows row aim arms (row_of state aim.target)
    by false = record { word = refl; hits = refl }
fight_same setup state so_far rows row (Some aim) None = record { word = refl; hits = refl }
fight_same setup state so_far rows row None b = record { word = refl; hits = refl }

module _ (setup : Setup) (state : State) where
  abbrev step : Hitting → Row → Hitting
  step so_far row = fights setup state so_far row row.attack (arms_of setup row)

  first_more : (n : ℕ) (row : Row) → n < length state.rows → row ≡ get_or state.rows n row → fought_first setup state (n + 1) ≡ step
      (fought_first setup state n) row
  first_more n row lt is =
      ap (λ (rs : List Row). fold step (record { rows = []; word = state.word; hits = [] }) rs) (take_more state.rows n row lt ∙
      ap (λ (r : Row). take n state.rows ++ r ∷ []) (sym is)) ∙
      fold-append step (record { rows = []; word = state.word; hits = [] }) (take n state.rows) (row ∷ [])

  -- how far the loop has come
  pub record IsFar (n word : ℕ) (damage : List ℕ) : Type 0 where
    pub word_is : word ≡ (fought_first setup state n).word
    pub taken : AreTaken state.rows (fought_first setup state n).hits damage

  pub far_more : (n : ℕ) (row : Row) (word next : ℕ) (damage more : List ℕ) → n < length state.rows → row ≡ get_or state.rows n row → IsFar n word damage →
      ((hits : List Hit) → next ≡ (fought_on setup state word hits row).word) →
      ((hits : List Hit) → AreTaken state.rows hits damage → AreTaken state.rows (fought_on setup state word hits row).hits more) → IsFar (n + 1) next more
  far_more n row word next damage more lt is far next_is more_is =
      let before = fought_first setup state n in
      let same = fight_same setup state before [] row row.attack (arms_of setup row) in
      let after = first_more n row lt is in
      let word_at : fought_on setup state word before.hits row ≡ fought_on setup state before.word before.hits row =
      ap (λ (w : ℕ). fought_on setup state w before.hits row) far.word_is in
      record {
        word_is = next_is before.hits ∙ ap (λ (h : Hitting). h.word) word_at ∙ sym same.word ∙ ap (λ (h : Hitting). h.word) (sym after);
        taken = subst (λ (hs : List Hit). AreTaken state.rows hs more) (ap (λ (h : Hitting). h.hits) word_at ∙ sym same.hits ∙
            ap (λ (h : Hitting). h.hits) (sym after)) (more_is before.hits far.taken);
      }

  pub far_none : (damage : List ℕ) → damage ≡ replicate (length state.rows) 0 → IsFar 0 state.word damage
  far_none damage e =
      record {
        word_is = refl;
        taken = subst (AreTaken state.rows []) (sym e)
            (record { long = length-replicate (length state.rows) 0; each = λ i d within. get_or-replicate (length state.rows) i 0 0 within });
      }

  pub far_all : (n word : ℕ) (damage : List ℕ) → length state.rows ≤ n → IsFar n word damage → (word ≡ (hitting setup state).word)
      × AreTaken state.rows (hitting setup state).hits damage
  far_all n word damage le far =
      let all : fought_first setup state n ≡ hitting setup state = ap (λ (rs : List Row). fold step (record { rows = []; word = state.word; hits = [] }) rs)
      (take_all n state.rows le) in
      (far.word_is ∙ ap (λ (h : Hitting). h.word) all, subst (λ (h : Hitting). AreTaken state.rows h.hits damage) all far.taken)

-- what a row's hits take stands at its place
pub hurt_at : (rows : List Row) (hits : List Hit) (damage : List ℕ) (at : ℕ) (row : Row) (x : ℕ) → at < length rows → row ≡ get_or rows at row
    → x ≡ get_or damage at x → AreTaken rows hits damage →
    hurt_changes_by row.id x row.health ≡ hurt_changes_of hits row
hurt_at rows hits damage at row x lt is x_is taken =
    let inside : at < length damage = omega (arith, lt, taken.long) in
    let value : x ≡ taken_from row.id hits = x_is ∙ get_or_default damage at x 0 inside ∙ taken.each at row lt ∙ ap (λ (r : Row). taken_from r.id hits)
    (sym is) in
    ap (λ (n : ℕ). hurt_changes_by row.id n row.health) value

pub behind_word : (front : List Change) (word : ℕ) (back more : List Change) → (front ++ Word word ∷ back) ++ more ≡ front ++ Word word ∷ (back ++ more)
behind_word front word back more = append_assoc front (Word word ∷ back) more

-- A step of a loop over rows that adds the changes of one row.

-- what was listed for the first rows, and what is listed for the next one
pub listed_more : {X Y : Type 0} (f : X → List Y) (xs : List X) (i : ℕ) (x : X) (old new : List Y) → i < length xs → x ≡ get_or xs i x
    → old ≡ flat_map f (take i xs) → new ≡ old ++ f x → new ≡ flat_map f (take (i + 1) xs)
listed_more f xs i x old new lt is before after =
    after ∙ ap (λ (ys : List _). ys ++ f x) before ∙ ap (λ (ys : List _). flat_map f (take i xs) ++ ys) (sym (append-nil (f x))) ∙
    sym (flat_map-append f (take i xs) (x ∷ [])) ∙ ap (λ (y : _). flat_map f (take i xs ++ y ∷ [])) is ∙ ap (flat_map f) (sym (take_more xs i x lt))
