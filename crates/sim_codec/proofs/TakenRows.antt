-- Rows that are taken one after the other from where they stand.
pub use Rattle.sim_codec.specs.TakenLaws.{bind_some, inject, is_some-if}
use Rattle.sim_codec.proofs.Common.{Aim, All-from_recursion, AllByRecursion, ap, arith, attack_at, Bool, byte_len, cond, cons_option, count_by, drop, drop-drop}
use Rattle.sim_codec.proofs.Common.{drop-take, entity_at, false, filter_map, first_chunks, from_le_bytes, has_health, has_stances, HasParts, health_at, holds}
use Rattle.sim_codec.proofs.Common.{HoldsNone, id_in, id_of, is_holding, is_some, is_some-map, IsLike, length, length-drop, List, list_any, lives_as, ltb}
use Rattle.sim_codec.proofs.Common.{ltb-false, map, moving_at, None, number_at, One, Option, option_map, owner_at, Parts, parts_at, passes, Point, position_at}
use Rattle.sim_codec.proofs.Common.{Reader, refl, Row, row_at, row_if, row_of, rows_at, rows_in, section_at, sections_at, Setup, slice_get, Some, stance_at}
use Rattle.sim_codec.proofs.Common.{stances_at, State, state_at, subst, suc, sum_by-cons, sym, take, Template, template_in, true, unwrap_or, Version, w16, w32}
use Rattle.sim_codec.{proofs.Common.{w64, Walk, Width, zero, ℕ, ℤ, [], ◌&&◌, ◌*◌, ◌+◌, ◌-◌, ◌<◌, ◌>>=◌, ◌∙◌, ◌∷◌, ◌≡◌, ◌≤◌}, specs.Taken.{next_in, parts_in}}

-- a row in front of others that are read
abbrev before : Row → Option (List Row × Walk) → Option (List Row × Walk)
before row read = read >>= λ rs. Some (row ∷ rs.0, rs.1)

one : (ts : List Template) (w : Walk) (p : Parts) (after : Walk) → parts_at ts w ≡ Some (p, after) → row_at ts w ≡ Some (row_of p, after)
unfolding row_at
one ts w p after h = rw h refl

none : (ts : List Template) (w : Walk) → parts_at ts w ≡ None → row_at ts w ≡ None
unfolding row_at
none ts w h = rw h refl

pub goes_on : (ts : List Template) (n : ℕ) (w : Walk) (p : Parts) (after : Walk) → parts_at ts w ≡ Some (p, after) → rows_at ts (suc n) w ≡ before (row_of p)
    (rows_at ts n after)
unfolding rows_at
goes_on ts n w p after h = rw (one ts w p after h) refl

pub ends : (ts : List Template) (n : ℕ) (w : Walk) → parts_at ts w ≡ None → rows_at ts (suc n) w ≡ None
unfolding rows_at
ends ts n w h = rw (none ts w h) refl

pub no_more : (ts : List Template) (w : Walk) → rows_at ts 0 w ≡ Some ([], w)
unfolding rows_at
no_more ts w = refl

-- ---- whether they can be taken

some_before : (row : Row) (read : Option (List Row × Walk)) → is_some (before row read) ≡ is_some read
some_before row None = refl
some_before row (Some rs) = refl

rows_before : (row : Row) (read : Option (List Row × Walk)) → is_some (before row read) ≡ true → rows_in (before row read) ≡ row ∷ rows_in read
rows_before row None h = absurd cc
rows_before row (Some rs) h = refl

pub can_more : (ts : List Template) (count i : ℕ) (w : Walk) (p : Parts) (after : Walk) (wanted : Bool) → i < count → parts_at ts w ≡ Some (p, after)
    → is_some (rows_at ts (count - i) w) ≡ wanted → is_some (rows_at ts (count - (i + 1)) after) ≡ wanted
can_more ts count i w p after wanted lt h so_far =
    let k : count - i ≡ suc (count - (i + 1)) = omega arith in
    sym (some_before (row_of p) (rows_at ts (count - (i + 1)) after)) ∙ ap is_some (sym (goes_on ts (count - (i + 1)) w p after h)) ∙
    ap (λ n. is_some (rows_at ts n w)) (sym k) ∙ so_far

pub can_not : (ts : List Template) (count i : ℕ) (w : Walk) (wanted : Bool) → i < count → parts_at ts w ≡ None → is_some (rows_at ts (count - i) w) ≡ wanted
    → false ≡ wanted
can_not ts count i w wanted lt h so_far =
    let k : count - i ≡ suc (count - (i + 1)) = omega arith in
    ap is_some (sym (ends ts (count - (i + 1)) w h)) ∙ ap (λ n. is_some (rows_at ts n w)) (sym k) ∙ so_far

pub can_all : (ts : List Template) (count i : ℕ) (w : Walk) (wanted : Bool) → count ≤ i → is_some (rows_at ts (count - i) w) ≡ wanted → true ≡ wanted
can_all ts count i w wanted le so_far =
    let k : count - i ≡ 0 = omega arith in
    ap is_some (sym (no_more ts w)) ∙ ap (λ n. is_some (rows_at ts n w)) (sym k) ∙ so_far

-- what was read, where it can be
pub is_read : (read : Option (List Row × Walk)) → is_some read ≡ true → Some (rows_in read) ≡ option_map (λ (r : List Row × Walk). r.0) read
is_read None h = absurd cc
is_read (Some r) h = refl

pub is_not_read : (read : Option (List Row × Walk)) → is_some read ≡ false → None ≡ option_map (λ (r : List Row × Walk). r.0) read
is_not_read None h = refl
is_not_read (Some r) h = absurd cc

-- ---- the next row

pub no_row_left : (ts : List Template) (n : ℕ) (w : Walk) → n ≡ 0 → rows_in (rows_at ts n w) ≡ []
no_row_left ts n w e = rw (e, no_more ts w) refl

pub next_row : (ts : List Template) (n m : ℕ) (w : Walk) (p : Parts) (after : Walk) → n ≡ suc m → parts_at ts w ≡ Some (p, after)
    → is_some (rows_at ts n w) ≡ true → rows_in (rows_at ts n w) ≡ row_of p ∷ rows_in (rows_at ts m after)
next_row ts n m w p after e h some =
    let is : rows_at ts n w ≡ before (row_of p) (rows_at ts m after) = ap (λ k. rows_at ts k w) e ∙ goes_on ts m w p after h in
    ap rows_in is ∙ rows_before (row_of p) (rows_at ts m after) (ap is_some (sym is) ∙ some)

pub can_next : (ts : List Template) (n m : ℕ) (w : Walk) (p : Parts) (after : Walk) → n ≡ suc m → parts_at ts w ≡ Some (p, after)
    → is_some (rows_at ts n w) ≡ true → is_some (rows_at ts m after) ≡ true
can_next ts n m w p after e h some =
    let is : rows_at ts n w ≡ before (row_of p) (rows_at ts m after) = ap (λ k. rows_at ts k w) e ∙ goes_on ts m w p after h in
    sym (some_before (row_of p) (rows_at ts m after)) ∙ ap is_some (sym is) ∙ some

pub must_go_on : (ts : List Template) (n m : ℕ) (w : Walk) → n ≡ suc m → parts_at ts w ≡ None → is_some (rows_at ts n w) ≡ true → ⊥
must_go_on ts n m w e h some =
    let is : rows_at ts n w ≡ None = ap (λ k. rows_at ts k w) e ∙ ends ts m w h in
    let f : false ≡ true = ap is_some (sym is) ∙ some in
    cc

-- ---- how many

pub length_read : (ts : List Template) (n : ℕ) (w : Walk) → is_some (rows_at ts n w) ≡ true → length (rows_in (rows_at ts n w)) ≡ n
length_read ts zero w some = ap (λ (r : Option (List Row × Walk)). length (rows_in r)) (no_more ts w)
length_read ts (suc n) w some = by (parts_at ts w) refl (λ after. length_read ts n after)
  where
    by : (o : Option (Parts × Walk)) → parts_at ts w ≡ o → ((after : Walk) → is_some (rows_at ts n after) ≡ true → length (rows_in (rows_at ts n after)) ≡ n)
        → length (rows_in (rows_at ts (suc n) w)) ≡ suc n
    by None h others = absurd (must_go_on ts (suc n) n w refl h some)
    by (Some p) h others = rw (next_row ts (suc n) n w p.0 p.1 refl h some) (ap suc (others p.1 (can_next ts (suc n) n w p.0 p.1 refl h some)))

pub few_read : (ts : List Template) (n : ℕ) (w : Walk) (rows : List Row) → Some rows ≡ option_map (λ (r : List Row × Walk). r.0) (rows_at ts n w)
    → length rows ≡ n
few_read ts n w rows e = by (rows_at ts n w) refl e (length_read ts n w)
  where
    by : (o : Option (List Row × Walk)) → rows_at ts n w ≡ o → Some rows ≡ option_map (λ (r : List Row × Walk). r.0) o
        → (is_some (rows_at ts n w) ≡ true → length (rows_in (rows_at ts n w)) ≡ n) → length rows ≡ n
    by None h f all = absurd cc
    by (Some r) h f all = ap (λ (o : Option (List Row)). length (unwrap_or o [])) f ∙ ap (λ (o : Option (List Row × Walk)). length (rows_in o)) (sym h) ∙
        all (ap is_some h)

-- ---- what a row is read from

-- what is read first: the row of the first section, and the parts of its template
pub record IsFirst (ts : List Template) (w : Walk) (p : Parts) (after : Walk) : Type 0 where
  pub entity : entity_at w.entity ≡ Some (p.entity, after.entity)
  pub has : HasParts ts (row_of p)
  pub by : w.version ≡ after.version
  pub stance : has_stances w.version ≡ false → is_some p.stance ≡ false

-- what the last three sections leave of what was read before them, and of the version
pub record Ended (w : Walk) (t : Template) (e : (ℕ × ℕ) × List ℕ) (h : Option (ℕ × ℤ)) (p : Parts) (after : Walk) : Type 0 where
  pub entity : e ≡ (p.entity, after.entity)
  pub health : h ≡ p.health
  pub motion : is_some p.motion ≡ is_some t.speed
  pub attack : is_some p.attack ≡ is_some t.arms
  pub by : w.version ≡ after.version
  pub stance : is_some p.stance ≡ (has_stances w.version && is_some t.arms)

-- the last three sections, behind what was read before them
abbrev read_last : (w : Walk) (t : Template) (e : (ℕ × ℕ) × List ℕ) (place : (ℕ × Point) × List ℕ) (owner : (ℕ × ℕ) × List ℕ) (h : Option (ℕ × ℤ) × List ℕ)
    → Option (Parts × Walk)
read_last w t e place owner h =
    row_if moving_at (is_some t.speed) w.motion >>= λ m. row_if attack_at (is_some t.arms) w.attack >>= λ a. row_if stance_at
    (has_stances w.version && is_some t.arms) w.stance >>= λ s.
    Some (
      record { entity = e.0; position = place.0; owner = owner.0; health = h.0; motion = m.0; attack = a.0; stance = s.0 },
      record { version = w.version; entity = e.1; position = place.1; owner = owner.1; health = h.1; motion = m.1; attack = a.1; stance = s.1 },
    )

ended : (w : Walk) (t : Template) (e : (ℕ × ℕ) × List ℕ) (place : (ℕ × Point) × List ℕ) (owner : (ℕ × ℕ) × List ℕ) (h : Option (ℕ × ℤ) × List ℕ) (p : Parts)
    (after : Walk)
    → read_last w t e place owner h ≡ Some (p, after) → Ended w t e h.0 p after
ended w t e place owner h p after read =
    let motion = bind_some (row_if moving_at (is_some t.speed) w.motion) _ (p, after) read in
    let attack = bind_some (row_if attack_at (is_some t.arms) w.attack) _ (p, after) motion.2 in
    let stance = bind_some (row_if stance_at (has_stances w.version && is_some t.arms) w.stance) _ (p, after) attack.2 in
    let same = inject _ (p, after) stance.2 in
    record {
      entity = ap (λ (x : Parts × Walk). (x.0.entity, x.1.entity)) same;
      health = ap (λ (x : Parts × Walk). x.0.health) same;
      motion = ap (λ (x : Parts × Walk). is_some x.0.motion) (sym same) ∙ is_some-if moving_at (is_some t.speed) w.motion motion.0 motion.1;
      attack = ap (λ (x : Parts × Walk). is_some x.0.attack) (sym same) ∙ is_some-if attack_at (is_some t.arms) w.attack attack.0 attack.1;
      by = ap (λ (x : Parts × Walk). x.1.version) same;
      stance = ap (λ (x : Parts × Walk). is_some x.0.stance) (sym same) ∙ is_some-if stance_at (has_stances w.version && is_some t.arms) w.stance stance.0
          stance.1;
    }

pub first_of : (ts : List Template) (w : Walk) (p : Parts) (after : Walk) → parts_at ts w ≡ Some (p, after) → IsFirst ts w p after
unfolding parts_at
first_of ts w p after read =
    let e = bind_some (entity_at w.entity) _ (p, after) read in
    let t = bind_some (slice_get ts e.0.0.1) _ (p, after) e.2 in
    let place = bind_some (position_at w.position) _ (p, after) t.2 in
    let owner = bind_some (owner_at w.owner) _ (p, after) place.2 in
    let health = bind_some (row_if health_at (is_some t.0.health) w.health) _ (p, after) owner.2 in
    let last = ended w t.0 e.0 place.0 owner.0 health.0 p after health.2 in
    record {
      entity = e.1 ∙ ap Some last.entity;
      has = record {
        template = t.0;
        known = ap (λ (x : (ℕ × ℕ) × List ℕ). slice_get ts x.0.1) (sym last.entity) ∙ t.1;
        like = record {
          health = is_some-map _ p.health ∙ ap is_some (sym last.health) ∙ is_some-if health_at (is_some t.0.health) w.health health.0 health.1;
          motion = is_some-map _ p.motion ∙ last.motion;
          attack = is_some-map _ p.attack ∙ last.attack;
        };
      };
      by = last.by;
      stance = λ none. last.stance ∙ ap (λ (b : Bool). b && is_some t.0.arms) none;
    }

-- Of what is read by version 1 no row holds its place.

-- of whom nothing is said, he does not hold his place
unsaid : (p : Parts) → is_some p.stance ≡ false → is_holding (row_of p) ≡ false
unsaid p none = by p.stance p.attack none
  where
    by : (stance : Option (ℕ × Bool)) (attack : Option (ℕ × (ℕ × ℕ))) → is_some stance ≡ false
        → unwrap_or (option_map (λ (aim : Aim). aim.hold) (option_map (λ (r : ℕ × (ℕ × ℕ)). record { target = r.1.0; cooldown = r.1.1; hold = holds stance })
        attack)) false ≡ false
    by (Some r) attack h = absurd cc
    by None None h = refl
    by None (Some a) h = refl

rows_hold_none : (ts : List Template) (n : ℕ) (w : Walk) → w.version ≡ One → is_some (rows_at ts n w) ≡ true
    → AllByRecursion (λ (row : Row). is_holding row ≡ false) (rows_in (rows_at ts n w))
rows_hold_none ts zero w old some = rw (no_more ts w) tt
rows_hold_none ts (suc n) w old some = by (parts_at ts w) refl (λ after. rows_hold_none ts n after)
  where
    by : (o : Option (Parts × Walk)) → parts_at ts w ≡ o
        → ((after : Walk) → after.version ≡ One → is_some (rows_at ts n after) ≡ true → AllByRecursion (λ (row : Row). is_holding row ≡ false)
        (rows_in (rows_at ts n after)))
        → AllByRecursion (λ (row : Row). is_holding row ≡ false) (rows_in (rows_at ts (suc n) w))
    by None h all = absurd (must_go_on ts (suc n) n w refl h some)
    by (Some p) h all =
        let first = first_of ts w p.0 p.1 h in
        let others = all p.1 (sym first.by ∙ old) (can_next ts (suc n) n w p.0 p.1 refl h some) in
        rw (next_row ts (suc n) n w p.0 p.1 refl h some) (unsaid p.0 (first.stance (ap has_stances old)), others)

walk_by : (version : Version) (bytes : List ℕ) (x : (ℕ × Walk) × List ℕ) → sections_at version bytes ≡ Some x → x.0.1.version ≡ version
unfolding sections_at
walk_by version bytes x h =
    let e = bind_some (section_at 1 entity_at bytes) _ x h in
    let p = bind_some (section_at 2 position_at e.0.1) _ x e.2 in
    let o = bind_some (section_at 3 owner_at p.0.1) _ x p.2 in
    let v = bind_some (section_at 4 health_at o.0.1) _ x o.2 in
    let m = bind_some (section_at 5 moving_at v.0.1) _ x v.2 in
    let a = bind_some (section_at 6 attack_at m.0.1) _ x m.2 in
    let s = bind_some (stances_at version a.0.1) _ x a.2 in
    sym (inject_version s.2)
  where
    inject_version : {y : (ℕ × Walk) × List ℕ} → Some y ≡ Some x → y.0.1.version ≡ x.0.1.version
    inject_version {y = y} e = ap (λ (o : Option ((ℕ × Walk) × List ℕ)). (unwrap_or o y).0.1.version) e

pub old_holds_none : (setup : Setup) (bytes : List ℕ) (s : State) → state_at One setup bytes ≡ Some s → HoldsNone s.rows
unfolding state_at
old_holds_none setup bytes s h =
    let turn = bind_some (number_at w32 bytes) _ s h in
    let next = bind_some (number_at w32 turn.0.1) _ s turn.2 in
    let word = bind_some (number_at w64 next.0.1) _ s next.2 in
    let found = bind_some (sections_at One word.0.1) _ s word.2 in
    let n = found.0.0.0 in
    let w = found.0.0.1 in
    let old = walk_by One word.0.1 found.0 found.1 in
    by (ltb 4096 n) n w (turn.0.0, next.0.0, word.0.0) old found.2
  where
    read : (n : ℕ) (w : Walk) (rs : List Row × Walk) → w.version ≡ One → rows_at setup.templates n w ≡ Some rs
        → AllByRecursion (λ (row : Row). is_holding row ≡ false) rs.0
    read n w rs old e =
        subst (λ (o : Option (List Row × Walk)). AllByRecursion (λ (row : Row). is_holding row ≡ false) (rows_in o)) e
        (rows_hold_none setup.templates n w old (ap is_some e))

    by : (b : Bool) (n : ℕ) (w : Walk) (clock : ℕ × ℕ × ℕ) → w.version ≡ One
        → cond b None (rows_at setup.templates n w >>= λ rs. Some (record { turn = clock.0; next = clock.1; word = clock.2; rows = rs.0 })) ≡ Some s
        → HoldsNone s.rows
    by true n w clock old e = absurd cc
    by false n w clock old e =
        let rs = bind_some (rows_at setup.templates n w) _ s e in
        let same : rs.0.0 ≡ s.rows = ap (λ (o : Option State). (unwrap_or o s).rows) rs.2 in
        All-from_recursion (λ (row : Row). is_holding row ≡ false) s.rows (subst (AllByRecursion (λ (row : Row). is_holding row ≡ false)) same
        (read n w rs.0 old rs.1))

-- What the first section says of ids and templates is what the rows say that are read.

-- ---- six bytes

number_is : (w : Width) (bytes : List ℕ) (x : ℕ × List ℕ) → number_at w bytes ≡ Some x → (byte_len w ≤ length bytes)
    × ((from_le_bytes w (take (byte_len w) bytes), drop (byte_len w) bytes) ≡ x)
number_is w bytes x h = by (ltb (length bytes) (byte_len w)) refl
  where
    value : ℕ × List ℕ
    value = (from_le_bytes w (take (byte_len w) bytes), drop (byte_len w) bytes)

    by : (b : Bool) → ltb (length bytes) (byte_len w) ≡ b → (byte_len w ≤ length bytes) × (value ≡ x)
    by true short = absurd (let f : cond true None (Some value) ≡ Some x = ap (λ b. cond b None (Some value)) (sym short) ∙ h in cc)
    by false long = (ltb-false (length bytes) (byte_len w) long, inject value x (ap (λ b. cond b None (Some value)) (sym long) ∙ h))

-- a row of the first section has six bytes
pub record IsEntityOf (bytes : List ℕ) (e : ℕ × ℕ) (after : List ℕ) : Type 0 where
  pub id : id_in (take 6 bytes) ≡ e.0
  pub template : template_in (take 6 bytes) ≡ e.1
  pub behind : drop 6 bytes ≡ after
  pub long : 6 ≤ length bytes

pub entity_is : (bytes : List ℕ) (e : ℕ × ℕ) (after : List ℕ) → entity_at bytes ≡ Some (e, after) → IsEntityOf bytes e after
unfolding entity_at
entity_is bytes e after h =
    let id = bind_some (number_at w32 bytes) _ (e, after) h in
    let template = bind_some (number_at w16 id.0.1) _ (e, after) id.2 in
    let same : ◌≡◌ {A = (ℕ × ℕ) × List ℕ} ((id.0.0, template.0.0), template.0.1) (e, after) = inject _ (e, after) template.2 in
    let first = number_is w32 bytes id.0 id.1 in
    let second = number_is w16 id.0.1 template.0 template.1 in
    let rest : drop 4 bytes ≡ id.0.1 = ap (λ (x : ℕ × List ℕ). x.1) first.1 in
    record {
      id = ap (from_le_bytes w32) (take-take bytes) ∙ ap (λ (x : ℕ × List ℕ). x.0) first.1 ∙ ap (λ (x : (ℕ × ℕ) × List ℕ). x.0.0) same;
      template = ap (λ (b : List ℕ). from_le_bytes w16 (take 2 b)) (drop-take 4 2 bytes) ∙ ap (from_le_bytes w16) (take_two (drop 4 bytes)) ∙
          ap (λ (b : List ℕ). from_le_bytes w16 (take 2 b)) rest
          ∙ ap (λ (x : ℕ × List ℕ). x.0) second.1 ∙ ap (λ (x : (ℕ × ℕ) × List ℕ). x.0.1) same;
      behind = sym (drop-drop 2 4 bytes) ∙ ap (drop 2) rest ∙ ap (λ (x : ℕ × List ℕ). x.1) second.1 ∙ ap (λ (x : (ℕ × ℕ) × List ℕ). x.1) same;
      long = omega (arith, first.0, second.0, ap length rest, length-drop 4 bytes);
    }
  where
    take-take : (b : List ℕ) → take 4 (take 6 b) ≡ take 4 b
    take-take (b0 ∷ b1 ∷ b2 ∷ b3 ∷ b) = refl
    take-take (b0 ∷ b1 ∷ b2 ∷ []) = refl
    take-take (b0 ∷ b1 ∷ []) = refl
    take-take (b0 ∷ []) = refl
    take-take [] = refl

    take_two : (b : List ℕ) → take 2 (take 2 b) ≡ take 2 b
    take_two (b0 ∷ b1 ∷ b) = refl
    take_two (b0 ∷ []) = refl
    take_two [] = refl

-- six bytes say the id and the template of a row, which has the parts of that
pub record IsEntryOf (ts : List Template) (bytes : List ℕ) (row : Row) : Type 0 where
  pub id : id_in bytes ≡ row.id
  pub template : template_in bytes ≡ row.template
  pub has : HasParts ts row

-- each says so of the row at its place
abbrev pub AreEntriesOf : List Template → List (List ℕ) → List Row → Type 0
AreEntriesOf ts [] [] = Unit {0}
AreEntriesOf ts [] (row ∷ rows) = ⊥
AreEntriesOf ts (bytes ∷ entries) [] = ⊥
AreEntriesOf ts (bytes ∷ entries) (row ∷ rows) = IsEntryOf ts bytes row × AreEntriesOf ts entries rows

-- ---- the rows that are read

entries_read : (ts : List Template) (n : ℕ) (w : Walk) → is_some (rows_at ts n w) ≡ true → AreEntriesOf ts (first_chunks 6 n w.entity)
    (rows_in (rows_at ts n w))
entries_read ts zero w some = rw (no_more ts w) tt
entries_read ts (suc n) w some = by (parts_at ts w) refl (λ after. entries_read ts n after)
  where
    by : (o : Option (Parts × Walk)) → parts_at ts w ≡ o
        → ((after : Walk) → is_some (rows_at ts n after) ≡ true → AreEntriesOf ts (first_chunks 6 n after.entity) (rows_in (rows_at ts n after)))
        → AreEntriesOf ts (first_chunks 6 (suc n) w.entity) (rows_in (rows_at ts (suc n) w))
    by None h all = absurd (must_go_on ts (suc n) n w refl h some)
    by (Some p) h all =
        let first = first_of ts w p.0 p.1 h in
        let is = entity_is w.entity p.0.entity p.1.entity first.entity in
        let others = all p.1 (can_next ts (suc n) n w p.0 p.1 refl h some) in
        rw (next_row ts (suc n) n w p.0 p.1 refl h some, is.behind) (record { id = is.id; template = is.template; has = first.has }, others)

-- there are bytes for all of them
chunks_fit : (ts : List Template) (n : ℕ) (w : Walk) → is_some (rows_at ts n w) ≡ true → n * 6 ≤ length w.entity
chunks_fit ts zero w some = omega arith
chunks_fit ts (suc n) w some = by (parts_at ts w) refl (λ after. chunks_fit ts n after)
  where
    by : (o : Option (Parts × Walk)) → parts_at ts w ≡ o → ((after : Walk) → is_some (rows_at ts n after) ≡ true → n * 6 ≤ length after.entity)
        → suc n * 6 ≤ length w.entity
    by None h all = absurd (must_go_on ts (suc n) n w refl h some)
    by (Some p) h all =
        let is = entity_is w.entity p.0.entity p.1.entity (first_of ts w p.0 p.1 h).entity in
        let others = all p.1 (can_next ts (suc n) n w p.0 p.1 refl h some) in
        omega (arith, others, is.long, ap length is.behind, length-drop 6 w.entity)

-- the entries that are found where the section begins
pub entries_of : (ts : List Template) (n : ℕ) (w : Walk) (bytes : List ℕ) (entries : List (List ℕ)) (rows : List Row) → is_some (rows_at ts n w) ≡ true
    → bytes ≡ w.entity → entries ≡ first_chunks 6 n bytes → rows_in (rows_at ts n w) ≡ rows
    → AreEntriesOf ts entries rows
entries_of ts n w bytes entries rows some from is view = subst (λ e. AreEntriesOf ts e rows) (sym (is ∙ ap (first_chunks 6 n) from))
    (subst (AreEntriesOf ts (first_chunks 6 n w.entity)) view (entries_read ts n w some))

pub entries_fit : (ts : List Template) (n : ℕ) (w : Walk) (bytes : List ℕ) → is_some (rows_at ts n w) ≡ true → bytes ≡ w.entity → n * 6 ≤ length bytes
entries_fit ts n w bytes some from = subst (λ b. n * 6 ≤ length b) (sym from) (chunks_fit ts n w some)

-- ---- what is asked of all

pub same_ids : (ts : List Template) (entries : List (List ℕ)) (rows : List Row) → AreEntriesOf ts entries rows → map id_in entries ≡ map id_of rows
same_ids ts [] [] are = refl
same_ids ts [] (row ∷ rows) are = absurd are
same_ids ts (bytes ∷ entries) [] are = absurd are
same_ids ts (bytes ∷ entries) (row ∷ rows) are = rw (are.0.id, same_ids ts entries rows are.1) refl

pub same_length : (ts : List Template) (entries : List (List ℕ)) (rows : List Row) → AreEntriesOf ts entries rows → length entries ≡ length rows
same_length ts [] [] are = refl
same_length ts [] (row ∷ rows) are = absurd are
same_length ts (bytes ∷ entries) [] are = absurd are
same_length ts (bytes ∷ entries) (row ∷ rows) are = ap suc (same_length ts entries rows are.1)

-- a part that a row has just where its template says so
module _ {X : Type 0} (part : Row → Option X) (test : Template → Bool) (by : (row : Row) (t : Template) → IsLike row t → is_some (part row) ≡ test t) where
  by_template : (ts : List Template) (bytes : List ℕ) (row : Row) → IsEntryOf ts bytes row → passes test ts (template_in bytes) ≡ is_some (part row)
  by_template ts bytes row is = rw (is.template, is.has.known) (sym (by row is.has.template is.has.like))

  length-cons_option : (o : Option X) (xs : List X) → length (cons_option o xs) ≡ cond (is_some o) 1 0 + length xs
  length-cons_option None xs = omega arith
  length-cons_option (Some x) xs = omega arith

  pub same_count : (ts : List Template) (entries : List (List ℕ)) (rows : List Row) → AreEntriesOf ts entries rows
      → count_by (λ bytes. passes test ts (template_in bytes)) entries ≡ length (filter_map part rows)
  same_count ts [] [] are = refl
  same_count ts [] (row ∷ rows) are = absurd are
  same_count ts (bytes ∷ entries) [] are = absurd are
  same_count ts (bytes ∷ entries) (row ∷ rows) are =
      sum_by-cons (λ b. cond (passes test ts (template_in b)) 1 0) bytes entries ∙ ap (λ b. cond b 1 0 + count_by (λ c. passes test ts (template_in c)) entries)
      (by_template ts bytes row are.0)
      ∙ ap (λ n. cond (is_some (part row)) 1 0 + n) (same_count ts entries rows are.1) ∙ sym (length-cons_option (part row) (filter_map part rows))

-- one of them has an id and a template with health just where one of the rows has it and health
pub same_lives : (ts : List Template) (id : ℕ) (entries : List (List ℕ)) (rows : List Row) → AreEntriesOf ts entries rows → list_any (lives_as ts id) entries ≡
    has_health rows id
same_lives ts id [] [] are = refl
same_lives ts id [] (row ∷ rows) are = absurd are
same_lives ts id (bytes ∷ entries) [] are = absurd are
same_lives ts id (bytes ∷ entries) (row ∷ rows) are =
    let health = by_template (λ (r : Row). r.health) (λ (t : Template). is_some t.health) (λ r t like. like.health) ts bytes row are.0 in
    rw (are.0.id, health, same_lives ts id entries rows are.1) refl

-- the first chunks among more of them
pub chunks_among : (n k m : ℕ) (xs : List ℕ) → k ≤ m → take k (first_chunks n m xs) ≡ first_chunks n k xs
chunks_among n zero m xs le = refl
chunks_among n (suc k) zero xs le = absurd (omega arith)
chunks_among n (suc k) (suc m) xs le = ap (λ (rest : List (List ℕ)). take n xs ∷ rest) (chunks_among n k m (drop n xs) (omega (arith, le)))

-- What the rows have in a section is what is read there, entity by entity of the first section.

module _ {X : Type 0} (part : Row → Option X) (at : Version → Template → ℕ → Reader (Option X)) (bytes_in : Walk → List ℕ)
    (takes : (ts : List Template) (w after : Walk) (p : Parts) (t : Template) → parts_at ts w ≡ Some (p, after) → slice_get ts p.entity.1 ≡ Some t
    → at w.version t p.entity.0 (bytes_in w) ≡ Some (part (row_of p), bytes_in after)) where
  pub parts_read : (ts : List Template) (n : ℕ) (w : Walk) → is_some (rows_at ts n w) ≡ true
      → parts_in at w.version ts (first_chunks 6 n w.entity) (bytes_in w) ≡ filter_map part (rows_in (rows_at ts n w))
  parts_read ts zero w some = rw (no_more ts w) refl
  parts_read ts (suc n) w some = by (parts_at ts w) refl (λ after. parts_read ts n after)
    where
      by : (o : Option (Parts × Walk)) → parts_at ts w ≡ o
          → ((after : Walk) → is_some (rows_at ts n after) ≡ true
          → parts_in at after.version ts (first_chunks 6 n after.entity) (bytes_in after) ≡ filter_map part (rows_in (rows_at ts n after)))
          → parts_in at w.version ts (first_chunks 6 (suc n) w.entity) (bytes_in w) ≡ filter_map part (rows_in (rows_at ts (suc n) w))
      by None h others = absurd (must_go_on ts (suc n) n w refl h some)
      by (Some p) h others =
          let first = first_of ts w p.0 p.1 h in
          let is = entity_is w.entity p.0.entity p.1.entity first.entity in
          let next : next_in at w.version ts (take 6 w.entity) (bytes_in w) ≡ Some (part (row_of p.0), bytes_in p.1) =
          rw (is.template, is.id, first.has.known) (takes ts w p.1 p.0 first.has.template h first.has.known) in
          let rest = others p.1 (can_next ts (suc n) n w p.0 p.1 refl h some) in
          rw (next_row ts (suc n) n w p.0 p.1 refl h some, next, is.behind)
          (subst (λ v. cons_option (part (row_of p.0)) (parts_in at v ts (first_chunks 6 n p.1.entity) (bytes_in p.1))
          ≡ cons_option (part (row_of p.0)) (filter_map part (rows_in (rows_at ts n p.1)))) (sym first.by) (ap (cons_option (part (row_of p.0))) rest))
