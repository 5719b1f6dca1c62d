-- The phase in which fighters hit keeps a state loosely valid. Which rows come out of it does not hang on the word.
use Rattle.sim_base.specs.Turn.{fights, Hit, Hitting, hitting, hurt, rests, strikes, strikes_near, taken_from, with_cooldown}
use Rattle.sim_laws.proofs.Common.{IsState, IsValidAim, IsValidRow, List, map, None, Option, option_and_then, option_map, pos, refl, Row, row_of, Setup, Some}
use Rattle.sim_laws.proofs.Common.{State, Template, subst, sym, template_of, true, ℕ, ℤ, ◌*◌, ◌++◌, ◌+◌, ◌-ℤ◌, ◌-◌, ◌<◌, ◌==◌, ◌∙◌, ◌∷◌, ◌≡◌, ◌≤ℤ◌, ◌≤◌}
use Rattle.sim_laws.proofs.Common.{[], Aim, ap, append-nil, arith, Arms, arms_of, Bool, Both, cond, cond_both, false, fold, hit, ints, is_near, IsLooselyValid}
use Rattle.sim_laws.proofs.{Removing.same_stays, Validity.Stays, Validity.map-map, Validity.mapped_is_state}
use Rattle.std.{proofs.Common.append_assoc, proofs.Common.◌^◌, proofs.lemmas.Int.clamps, proofs.lemmas.Nat.mod_below, specs.Int.int_max}

-- ---- what the phase makes of a row before it is hurt

-- a row that may hit must wait where its target is in range
abbrev pub struck : Row → Aim → Arms → Option Row → Row
struck row aim arms None = row
struck row aim arms (Some target) = cond (is_near target.at row.at arms.range) (with_cooldown row aim arms.repeat) row

-- the row after it has fought
abbrev pub fought_by : State → Row → Option Aim → Option Arms → Row
fought_by state row (Some aim) (Some arms) = cond (aim.cooldown == 0) (struck row aim arms (row_of state aim.target)) (with_cooldown row aim (aim.cooldown - 1))
fought_by state row (Some aim) None = row
fought_by state row None arms = row

abbrev pub fought : Setup → State → Row → Row
fought setup state row = fought_by state row row.attack (arms_of setup row)

-- a step of the phase adds the row, and the word stays a word
record IsStep (before after : Hitting) (row : Row) : Type 0 where
  rows : after.rows ≡ before.rows ++ row ∷ []
  word : before.word < 2 ^ 48 → after.word < 2 ^ 48

rests_is_step : (so_far : Hitting) (row : Row) → IsStep so_far (rests so_far row) row
rests_is_step so_far row = record { rows = refl; word = λ h. h }

near_is_step : (setup : Setup) (so_far : Hitting) (row : Row) (aim : Aim) (arms : Arms) (o : Option Row)
    → IsStep so_far (strikes_near setup so_far row aim arms o) (struck row aim arms o)
near_is_step setup so_far row aim arms None = rests_is_step so_far row
near_is_step setup so_far row aim arms (Some target) = by (is_near target.at row.at arms.range)
  where
    by : (b : Bool)
        → IsStep so_far (cond b (strikes setup so_far row aim arms target) (rests so_far row)) (cond b (with_cooldown row aim arms.repeat) row)
    by true = record { rows = refl; word = λ h. mod_below (so_far.word * 0x5DEECE66D + 0xB) (2 ^ 48) (omega arith) }
    by false = rests_is_step so_far row

fights_is_step : (setup : Setup) (state : State) (so_far : Hitting) (row : Row) (a : Option Aim) (b : Option Arms)
    → IsStep so_far (fights setup state so_far row a b) (fought_by state row a b)
fights_is_step setup state so_far row (Some aim) (Some arms) = by (aim.cooldown == 0)
  where
    by : (b : Bool)
        → IsStep so_far (cond b (strikes_near setup so_far row aim arms (row_of state aim.target)) (rests so_far (with_cooldown row aim (aim.cooldown - 1))))
        (cond b (struck row aim arms (row_of state aim.target)) (with_cooldown row aim (aim.cooldown - 1)))
    by true = near_is_step setup so_far row aim arms (row_of state aim.target)
    by false = rests_is_step so_far (with_cooldown row aim (aim.cooldown - 1))
fights_is_step setup state so_far row (Some aim) None = rests_is_step so_far row
fights_is_step setup state so_far row None b = rests_is_step so_far row

module _ (setup : Setup) (state : State) where
  abbrev pub fight : Hitting → Row → Hitting
  fight so_far row = fights setup state so_far row row.attack (arms_of setup row)

  -- after some rows
  record IsFought (so_far : Hitting) (rows : List Row) (after : Hitting) : Type 0 where
    rows_are : after.rows ≡ so_far.rows ++ map (fought setup state) rows
    word_is : so_far.word < 2 ^ 48 → after.word < 2 ^ 48

  fought_rows : (rows : List Row) (so_far : Hitting) → IsFought so_far rows (fold fight so_far rows)
  fought_rows [] so_far = record { rows_are = sym (append-nil so_far.rows); word_is = λ h. h }
  fought_rows (row ∷ rows) so_far =
      let once = fights_is_step setup state so_far row row.attack (arms_of setup row) in
      let rest = fought_rows rows (fight so_far row) in
      record {
        rows_are = rest.rows_are ∙ ap (λ (rs : List Row). rs ++ map (fought setup state) rows) once.rows ∙
            append_assoc so_far.rows (fought setup state row ∷ []) (map (fought setup state) rows);
        word_is = λ h. rest.word_is (once.word h);
      }

  -- the rows of the phase are what each row comes to by itself
  pub hitting-rows : (hitting setup state).rows ≡ map (fought setup state) state.rows
  hitting-rows = (fought_rows state.rows (record { rows = []; word = state.word; hits = [] })).rows_are

  pub hitting-word : state.word < 2 ^ 48 → (hitting setup state).word < 2 ^ 48
  hitting-word = (fought_rows state.rows (record { rows = []; word = state.word; hits = [] })).word_is

  pub hit-is_map : hit setup state ≡
      record state { word = (hitting setup state).word; rows = map (λ row. hurt (hitting setup state).hits (fought setup state row)) state.rows }
  hit-is_map =
      ap (λ (rs : List Row). record state { word = (hitting setup state).word; rows = rs })
      (ap (map (hurt (hitting setup state).hits)) hitting-rows ∙ map-map (fought setup state) (hurt (hitting setup state).hits) state.rows)

-- ---- the rows stay valid

module _ (least : ℕ) (setup : Setup) (rows : List Row) (row : Row) (t : Template) where
  with_cooldown_is_valid : (aim : Aim) (arms : Arms) (cooldown : ℕ) → row.attack ≡ Some aim → t.arms ≡ Some arms → cooldown ≤ arms.repeat
      → IsValidRow least setup rows row t → IsValidRow least setup rows (with_cooldown row aim cooldown) t
  with_cooldown_is_valid aim arms cooldown is_aim is_arms within v =
      record {
        at = v.at;
        owner = v.owner;
        health = v.health;
        motion = v.motion;
        attack =
            subst (λ (o : Option Arms). Both (Some (record aim { cooldown = cooldown })) o (IsValidAim rows row.id)) (sym is_arms) ok;
      }
    where
      both : (a : Option Aim) (b : Option Arms) → a ≡ Some aim → b ≡ Some arms → Both a b (IsValidAim rows row.id) → IsValidAim rows row.id aim arms
      both a b e f h = subst (λ (o : Option Aim). Both o (Some arms) (IsValidAim rows row.id)) e
          (subst (λ (o : Option Arms). Both a o (IsValidAim rows row.id)) f h)

      ok : IsValidAim rows row.id (record aim { cooldown = cooldown }) arms
      ok = let h = both row.attack t.arms is_aim is_arms v.attack in record { target = h.target; cooldown = within }

  pub waits : (aim : Aim) (arms : Arms) → row.attack ≡ Some aim → t.arms ≡ Some arms → IsValidRow least setup rows row t
      → IsValidAim rows row.id aim arms
  waits aim arms e f v = subst (λ (o : Option Aim). Both o (Some arms) (IsValidAim rows row.id)) e
      (subst (λ (o : Option Arms). Both row.attack o (IsValidAim rows row.id)) f v.attack)

pub fought_stays : (least : ℕ) (setup : Setup) (state : State) (row : Row) (t : Template) → template_of setup row ≡ Some t
    → IsValidRow least setup state.rows row t → Stays least setup state.rows row (fought setup state row) t
fought_stays least setup state row t e v = by row.attack (arms_of setup row) refl arms_are
  where
    arms_are : arms_of setup row ≡ t.arms
    arms_are = ap (λ (o : Option Template). option_and_then (λ (u : Template). u.arms) o) e

    waiting : (aim : Aim) (arms : Arms) (cooldown : ℕ) → row.attack ≡ Some aim → t.arms ≡ Some arms → cooldown ≤ arms.repeat
        → Stays least setup state.rows row (with_cooldown row aim cooldown) t
    waiting aim arms cooldown f g within =
        record { id = refl; template = refl; valid = with_cooldown_is_valid least setup state.rows row t aim arms cooldown f g within v }

    struck_stays : (aim : Aim) (arms : Arms) → row.attack ≡ Some aim → t.arms ≡ Some arms → (o : Option Row)
        → Stays least setup state.rows row (struck row aim arms o) t
    struck_stays aim arms f g None = same_stays least setup state.rows row t v
    struck_stays aim arms f g (Some target) =
        cond_both (is_near target.at row.at arms.range) (with_cooldown row aim arms.repeat) row (λ (new : Row). Stays least setup state.rows row new t)
        (λ near. waiting aim arms arms.repeat f g (omega arith)) (λ far. same_stays least setup state.rows row t v)

    by : (a : Option Aim) (b : Option Arms) → row.attack ≡ a → b ≡ t.arms → Stays least setup state.rows row (fought_by state row a b) t
    by (Some aim) (Some arms) f g =
        cond_both (aim.cooldown == 0) (struck row aim arms (row_of state aim.target)) (with_cooldown row aim (aim.cooldown - 1))
        (λ (new : Row). Stays least setup state.rows row new t)
        (λ ready. struck_stays aim arms f (sym g) (row_of state aim.target))
        (λ waiting_on. let h = waits least setup state.rows row t aim arms f (sym g) v in waiting aim arms (aim.cooldown - 1) f (sym g)
        (omega (arith, h.cooldown)))
    by (Some aim) None f g = same_stays least setup state.rows row t v
    by None b f g = same_stays least setup state.rows row t v

pub hurt_stays : (setup : Setup) (rows : List Row) (row new : Row) (t : Template) (hits : List Hit) → Stays 0 setup rows row new t
    → Stays 0 setup rows row (hurt hits new) t
hurt_stays setup rows row new t hits s =
    record {
      id = s.id;
      template = s.template;
      valid = record {
        at = s.valid.at;
        owner = s.valid.owner;
        health = by new.health t.health s.valid.health;
        motion = s.valid.motion;
        attack = s.valid.attack;
      };
    }
  where
    by : (a b : Option ℤ) → Both a b (λ h m. (pos 0 ≤ℤ h) × (h ≤ℤ m))
        → Both (option_map (λ (health : ℤ). int_max (health -ℤ pos (taken_from new.id hits)) (pos 0)) a) b (λ h m. (pos 0 ≤ℤ h) × (h ≤ℤ m))
    by None None h = tt
    by None (Some most) h = absurd h
    by (Some health) None h = absurd h
    by (Some health) (Some most) h = (omega (arith, ints, clamps, h.0, h.1), omega (arith, ints, clamps, h.0, h.1))

pub with_word : (least : ℕ) (setup : Setup) (state : State) (word : ℕ) → word < 2 ^ 48 → IsState least setup state
    → IsState least setup (record state { word = word })
with_word least setup state word h v = record { turn = v.turn; next = v.next; word = h; few = v.few; ascending = v.ascending; ids = v.ids; rows = v.rows }

pub hit_is_state : (setup : Setup) (state : State) → IsLooselyValid setup state → IsLooselyValid setup (hit setup state)
hit_is_state setup state valid =
    let hits = (hitting setup state).hits in
    subst (IsState 0 setup) (sym (hit-is_map setup state))
    (mapped_is_state 0 0 setup (record state { word = (hitting setup state).word }) (λ (row : Row). hurt hits (fought setup state row))
    (with_word 0 setup state (hitting setup state).word (hitting-word setup state valid.word) valid)
    (λ row t h e v. hurt_stays setup state.rows row (fought setup state row) t hits (fought_stays 0 setup state row t e v)))
