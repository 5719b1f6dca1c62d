-- Where the parts of an entity are taken from all sections at once, each section is read as that part.
use Rattle.{sim_base.specs.declared.state.Aim.Aim, sim_bytes.specs.Reading.Reader, sim_bytes.specs.Reading.◌>>=◌}
use Rattle.std.proofs.Common.{◌≡◌, ℕ, Bool, true, false, cond, List, Some, None, Option, ℤ, refl, ap, subst, sym, ◌∙◌}
use Rattle.std.specs.Prelude.{◌&&◌, is_some, option_and_then, option_map, slice_get}
use Rattle.sim_codec.specs.Common.{attack_at, attack_part, entity_at, entity_part, has_stances, health_at, health_part, holds, Motion, motion_part, moving_at}
use Rattle.sim_codec.specs.Common.{owner_at, owner_part, Parts, parts_at, Point, position_at, position_part, row_if, row_of, stance_at, stance_part, Template}
use Rattle.sim_codec.specs.Common.{Walk, with_id}
use Rattle.sim_codec.specs.Taken.{attack_part_at, entity_part_at, health_part_at, motion_part_at, named_if, owner_part_at, position_part_at, stance_part_at}

pub bind_some : {A B : Type 0} (o : Option A) (f : A → Option B) (b : B) → o >>= f ≡ Some b → (a : A) × (o ≡ Some a) × (f a ≡ Some b)
bind_some (Some a) f b h = (a, refl, h)
bind_some None f b h = absurd cc

pub inject : {A : Type 0} (x y : A) → Some x ≡ Some y → x ≡ y
inject x y e = cc

pub is_some-if : {X : Type 0} (at : Reader X) (wanted : Bool) (bytes : List ℕ) (x : Option X × List ℕ) → row_if at wanted bytes ≡ Some x → is_some x.0 ≡ wanted
unfolding row_if
is_some-if {X = X} at false bytes x h = sym (ap (λ (o : Option (Option X × List ℕ)). is_some (option_and_then (λ (z : Option X × List ℕ). z.0) o)) h)
is_some-if {X = X} at true bytes x h =
    let f = bind_some (at bytes) (λ (y : X × List ℕ). Some (Some y.0, y.1)) x h in
    sym (ap (λ (o : Option (Option X × List ℕ)). is_some (option_and_then (λ (z : Option X × List ℕ). z.0) o)) f.2)

-- what each section is read as
pub record IsTaken (ts : List Template) (t : Template) (w : Walk) (p : Parts) (after : Walk) : Type 0 where
  pub entity : entity_at w.entity ≡ Some (p.entity, after.entity)
  pub known : slice_get ts p.entity.1 ≡ Some t
  pub position : position_at w.position ≡ Some (p.position, after.position)
  pub owner : owner_at w.owner ≡ Some (p.owner, after.owner)
  pub health : row_if health_at (is_some t.health) w.health ≡ Some (p.health, after.health)
  pub motion : row_if moving_at (is_some t.speed) w.motion ≡ Some (p.motion, after.motion)
  pub attack : row_if attack_at (is_some t.arms) w.attack ≡ Some (p.attack, after.attack)
  pub stance : row_if stance_at (has_stances w.version && is_some t.arms) w.stance ≡ Some (p.stance, after.stance)

-- what the last three sections are read as, and what was read before them
pub record IsLast (w : Walk) (t : Template) (e : (ℕ × ℕ) × List ℕ) (place : (ℕ × Point) × List ℕ) (o : (ℕ × ℕ) × List ℕ) (h : Option (ℕ × ℤ) × List ℕ)
    (p : Parts) (after : Walk) : Type 0 where
  pub entity : e ≡ (p.entity, after.entity)
  pub position : place ≡ (p.position, after.position)
  pub owner : o ≡ (p.owner, after.owner)
  pub health : h ≡ (p.health, after.health)
  pub motion : row_if moving_at (is_some t.speed) w.motion ≡ Some (p.motion, after.motion)
  pub attack : row_if attack_at (is_some t.arms) w.attack ≡ Some (p.attack, after.attack)
  pub stance : row_if stance_at (has_stances w.version && is_some t.arms) w.stance ≡ Some (p.stance, after.stance)

abbrev read_last : (w : Walk) (t : Template) (e : (ℕ × ℕ) × List ℕ) (place : (ℕ × Point) × List ℕ) (owner : (ℕ × ℕ) × List ℕ) (h : Option (ℕ × ℤ) × List ℕ)
    → Option (Parts × Walk)
read_last w t e place owner h =
    row_if moving_at (is_some t.speed) w.motion >>= λ m. row_if attack_at (is_some t.arms) w.attack >>= λ a. row_if stance_at
    (has_stances w.version && is_some t.arms) w.stance >>= λ s.
    Some (
      record { entity = e.0; position = place.0; owner = owner.0; health = h.0; motion = m.0; attack = a.0; stance = s.0 },
      record { version = w.version; entity = e.1; position = place.1; owner = owner.1; health = h.1; motion = m.1; attack = a.1; stance = s.1 },
    )

last : (w : Walk) (t : Template) (e : (ℕ × ℕ) × List ℕ) (place : (ℕ × Point) × List ℕ) (owner : (ℕ × ℕ) × List ℕ) (h : Option (ℕ × ℤ) × List ℕ) (p : Parts)
    (after : Walk)
    → read_last w t e place owner h ≡ Some (p, after) → IsLast w t e place owner h p after
last w t e place owner h p after read =
    let motion = bind_some (row_if moving_at (is_some t.speed) w.motion) _ (p, after) read in
    let attack = bind_some (row_if attack_at (is_some t.arms) w.attack) _ (p, after) motion.2 in
    let stance = bind_some (row_if stance_at (has_stances w.version && is_some t.arms) w.stance) _ (p, after) attack.2 in
    let same = inject _ (p, after) stance.2 in
    record {
      entity = ap (λ (x : Parts × Walk). (x.0.entity, x.1.entity)) same;
      position = ap (λ (x : Parts × Walk). (x.0.position, x.1.position)) same;
      owner = ap (λ (x : Parts × Walk). (x.0.owner, x.1.owner)) same;
      health = ap (λ (x : Parts × Walk). (x.0.health, x.1.health)) same;
      motion = motion.1 ∙ ap (λ (x : Parts × Walk). Some (x.0.motion, x.1.motion)) same;
      attack = attack.1 ∙ ap (λ (x : Parts × Walk). Some (x.0.attack, x.1.attack)) same;
      stance = stance.1 ∙ ap (λ (x : Parts × Walk). Some (x.0.stance, x.1.stance)) same;
    }

taken : (ts : List Template) (w after : Walk) (p : Parts) → parts_at ts w ≡ Some (p, after) → (t : Template) × IsTaken ts t w p after
unfolding parts_at
taken ts w after p read =
    let e = bind_some (entity_at w.entity) _ (p, after) read in
    let t = bind_some (slice_get ts e.0.0.1) _ (p, after) e.2 in
    let place = bind_some (position_at w.position) _ (p, after) t.2 in
    let owner = bind_some (owner_at w.owner) _ (p, after) place.2 in
    let health = bind_some (row_if health_at (is_some t.0.health) w.health) _ (p, after) owner.2 in
    let is = last w t.0 e.0 place.0 owner.0 health.0 p after health.2 in (
      t.0,
      record {
        entity = e.1 ∙ ap Some is.entity;
        known = ap (λ (x : (ℕ × ℕ) × List ℕ). slice_get ts x.0.1) (sym is.entity) ∙ t.1;
        position = place.1 ∙ ap Some is.position;
        owner = owner.1 ∙ ap Some is.owner;
        health = health.1 ∙ ap Some is.health;
        motion = is.motion;
        attack = is.attack;
        stance = is.stance;
      },
    )

-- the template is the one that is known
pub taken_of : (ts : List Template) (w after : Walk) (p : Parts) (t : Template) → parts_at ts w ≡ Some (p, after) → slice_get ts p.entity.1 ≡ Some t
    → IsTaken ts t w p after
taken_of ts w after p t read known =
    let is = taken ts w after p read in
    subst (λ (u : Template). IsTaken ts u w p after) (inject is.0 t (sym is.1.known ∙ known)) is.1

-- a row that is wanted, under the id of the entity
named : {X : Type 0} (at : Reader (ℕ × X)) (wanted : Bool) (id : ℕ) (bytes after : List ℕ) (o : Option (ℕ × X)) → row_if at wanted bytes ≡ Some (o, after)
    → named_if at wanted id bytes ≡ Some (option_map {U = ℕ × X} (λ (x : ℕ × X). (id, x.1)) o, after)
named at wanted id bytes after o h = rw h refl

always : {X : Type 0} (at : Reader (ℕ × X)) (bytes after : List ℕ) (x : ℕ × X) → at bytes ≡ Some (x, after) → row_if at true bytes ≡ Some (Some x, after)
unfolding row_if
always at bytes after x h = rw h refl

-- the id before what is read is the id before the part
with_part : {X : Type 0} (id : ℕ) (o : Option (ℕ × X))
    → option_map {U = ℕ × X} (λ (x : ℕ × X). (id, x.1)) o ≡ option_map {U = ℕ × X} (λ (x : X). (id, x)) (option_map (λ (r : ℕ × X). r.1) o)
with_part id None = refl
with_part id (Some x) = refl

-- an entity with the numbers of an attack
abbrev aimed : Bool → Option (ℕ × (ℕ × ℕ)) → Option Aim
aimed hold attack = option_map (λ r. record { target = r.1.0; cooldown = r.1.1; hold = hold }) attack

attacks : (id : ℕ) (hold : Bool) (o : Option (ℕ × (ℕ × ℕ))) → option_map {U = ℕ × (ℕ × ℕ)} (λ (x : ℕ × (ℕ × ℕ)). (id, x.1)) o ≡
    option_map {U = ℕ × (ℕ × ℕ)} (λ (x : ℕ × ℕ). (id, x)) (option_map {U = ℕ × ℕ} (λ (aim : Aim). (aim.target, aim.cooldown)) (aimed hold o))
attacks id hold None = refl
attacks id hold (Some x) = refl

said : (arms : Bool) (read : Option (Option (ℕ × Bool) × List ℕ)) (id : ℕ) (x : Option (ℕ × Bool) × List ℕ) → read ≡ Some x
    → ◌>>=◌ {B = Option (ℕ × Bool) × List ℕ} read (λ r. Some (cond arms (Some (id, holds r.0)) None, r.1)) ≡ Some (cond arms (Some (id, holds x.0)) None, x.1)
said arms read id x h = rw h refl

stances : (id : ℕ) (hold : Bool) (o : Option (ℕ × (ℕ × ℕ))) (arms : Bool) → is_some o ≡ arms → cond {A = Option (ℕ × Bool)} arms (Some (id, hold)) None ≡
    option_map {U = ℕ × Bool} (λ (x : Bool). (id, x)) (option_map (λ (aim : Aim). aim.hold) (aimed hold o))
stances id hold None true h = absurd cc
stances id hold None false h = refl
stances id hold (Some x) true h = refl
stances id hold (Some x) false h = absurd cc

module _ (ts : List Template) (w after : Walk) (p : Parts) (t : Template) (read : parts_at ts w ≡ Some (p, after))
    (known : slice_get ts p.entity.1 ≡ Some t) where
  is : IsTaken ts t w p after
  is = taken_of ts w after p t read known

  pub entity_taken : entity_part_at w.version t p.entity.0 w.entity ≡ Some (with_id entity_part (row_of p), after.entity)
  entity_taken = named entity_at true p.entity.0 w.entity after.entity (Some p.entity) (always entity_at w.entity after.entity p.entity is.entity)

  pub position_taken : position_part_at w.version t p.entity.0 w.position ≡ Some (with_id position_part (row_of p), after.position)
  position_taken = named position_at true p.entity.0 w.position after.position (Some p.position)
      (always position_at w.position after.position p.position is.position)

  pub owner_taken : owner_part_at w.version t p.entity.0 w.owner ≡ Some (with_id owner_part (row_of p), after.owner)
  owner_taken = named owner_at true p.entity.0 w.owner after.owner (Some p.owner) (always owner_at w.owner after.owner p.owner is.owner)

  pub health_taken : health_part_at w.version t p.entity.0 w.health ≡ Some (with_id health_part (row_of p), after.health)
  health_taken = named health_at (is_some t.health) p.entity.0 w.health after.health p.health is.health ∙
      ap (λ (o : Option (ℕ × ℤ)). Some (o, after.health)) (with_part p.entity.0 p.health)

  pub motion_taken : motion_part_at w.version t p.entity.0 w.motion ≡ Some (with_id motion_part (row_of p), after.motion)
  motion_taken = named moving_at (is_some t.speed) p.entity.0 w.motion after.motion p.motion is.motion ∙
      ap (λ (o : Option (ℕ × Motion)). Some (o, after.motion)) (with_part p.entity.0 p.motion)

  pub attack_taken : attack_part_at w.version t p.entity.0 w.attack ≡ Some (with_id attack_part (row_of p), after.attack)
  attack_taken = named attack_at (is_some t.arms) p.entity.0 w.attack after.attack p.attack is.attack ∙
      ap (λ (o : Option (ℕ × (ℕ × ℕ))). Some (o, after.attack)) (attacks p.entity.0 (holds p.stance) p.attack)

  pub stance_taken : stance_part_at w.version t p.entity.0 w.stance ≡ Some (with_id stance_part (row_of p), after.stance)
  stance_taken = said (is_some t.arms) (row_if stance_at (has_stances w.version && is_some t.arms) w.stance) p.entity.0 (p.stance, after.stance) is.stance ∙
      ap (λ (o : Option (ℕ × Bool)). Some (o, after.stance))
      (stances p.entity.0 (holds p.stance) p.attack (is_some t.arms) (is_some-if attack_at (is_some t.arms) w.attack (p.attack, after.attack) is.attack))
