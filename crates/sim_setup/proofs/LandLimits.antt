-- What holds of the land of a match file.
use Rattle.{md5.specs.Md5.{digest_bytes, md5}, sim_base.specs.declared.{place.{Point.Point, Rect.Rect}, setup.Setup.Setup}}
use Rattle.sim_base.specs.{Limits.{IsClosed, IsFirst, IsMask, IsSetup, IsTimed}, Places.is_inside, Rows.size_of}
use Rattle.sim_json.{proofs.Readers.{else_some, natural_at-within}, specs.Values.{natural, natural_at, value_of}}
use Rattle.sim_setup.proofs.{CommandLimits.{in_order-IsNonDecreasing, timed_of-is, timeds-not_crowded}, Common.{after, All, and_parts, and_then_some, ap}}
use Rattle.sim_setup.proofs.Common.{are_distinct, arith, as_str, bytes_eq, codes, Data, eq-eqb, Err, falls_at, First, first_of, four, if_some, inl, inr, IsFrom}
use Rattle.sim_setup.proofs.Common.{IsLand, IsTemplate, Land, land_in, leb-true, length, length-map, length_push, List, list_at, list_of, mask_from, mask_of}
use Rattle.sim_setup.proofs.Common.{Meets, name_in, names_in, nat_le, nat_lt, natural_in, natural_in-within, next_some, next_template, Node, None, numbered}
use Rattle.sim_setup.proofs.Common.{numbered-All, numbered-keeps, numbered-length, numbered_from_records, Ok, Option, option_and_then, Origin, records, rect_of}
use Rattle.sim_setup.proofs.Common.{refl, Result, roots_of, setup_of, slice_index, Some, subst, sym, templates_from, then_some, Timed, timed_of, true}
use Rattle.sim_setup.proofs.{Common.{true≢false, two, ℕ, [], ◌&&◌, ◌++◌, ◌+◌, ◌<◌, ◌==◌, ◌^◌, ◌∙◌, ◌∷◌, ◌≡◌, ◌≢◌, ◌≤◌, ◌⊎◌}, TemplateLimits.names-differ}
use Rattle.sim_setup.specs.{declared.{fault.SetupFault.SetupFault, ground.Size.Size, reading.Lists.Lists, rules.Rules.Rules}, Refusals.{coded, need, Refusal}}
use Rattle.sim_setup.specs.{Refusals.{sources_in, unless_at}, Setups.{closed_in, commands_in, enemy_in, entities_in, entities_within, few_sources, first_from}}
use Rattle.sim_setup.specs.Setups.{firsts_from, if_inside, in_order, items_in, limits_in, lists_in, masks_from, masks_in, misplaced, number_of, players_of}
use Rattle.sim_setup.specs.Setups.{point_of, rect_from, rect_on, rects_from, rules_in, setup_in, setup_with, size_from, size_in, timeds_from}
use Rattle.std.proofs.{Common.{bit_or, EachIndex, IfOk, IsTrue, length-append, max, ◌-◌}, lemmas.{Bool.{and_from, cases_lt}, Int.ints, List.get_or_append_left}}
use Rattle.std.proofs.lemmas.{List.Quantifiers.position-Some, Nat.{Bits.{bit_at-pow_other, bit_at-zero, bit_at_or}, or_lt, pow_pos}, Option.same_Some}
use Rattle.std.{proofs.Math.{Dec.leb-zero, Pow.pow-lt, Seq.get_or-append_seam}, specs.Int.bit_at}

-- What is known where a pass refuses nothing: no step of it has refused.

pub need_ok : {X Y : Type 0} (code index : ℕ) (o : Option X) (next : X → Result Y Refusal) (y : Y) → need code index o next ≡ Ok y → (x : X) × (o ≡ Some x)
    × (next x ≡ Ok y)
need_ok code index None next y e = absurd cc
need_ok code index (Some x) next y e = (x, refl, e)

pub after_ok : {X Y : Type 0} (r : Result X Refusal) (next : X → Result Y Refusal) (y : Y) → after r next ≡ Ok y → (x : X) × (r ≡ Ok x) × (next x ≡ Ok y)
after_ok (Err refused) next y e = absurd cc
after_ok (Ok x) next y e = (x, refl, e)

pub unless_ok : {X : Type 0} (code : ℕ) (o : Option ℕ) (wanted : Result X Refusal) (x : X) → unless_at code o wanted ≡ Ok x → (o ≡ None) × (wanted ≡ Ok x)
unless_ok code None wanted x e = (refl, e)
unless_ok code (Some index) wanted x e = absurd cc

pub coded_ok : {X : Type 0} (code : ℕ) (r : Result X ℕ) (x : X) → coded code r ≡ Ok x → r ≡ Ok x
coded_ok code (Ok y) x e = let same : y ≡ x = cc in ap Ok same
coded_ok code (Err index) x e = absurd cc

pub ok_same : {X : Type 0} (x y : X) → ◌≡◌ {A = Result X Refusal} (Ok x) (Ok y) → x ≡ y
ok_same x y e = cc

-- ---- the size

size_from-limits : (p : Data × Data) (size : Size) → size_from p ≡ Some size → IsFrom 1 256 size.width × IsFrom 1 256 size.depth
size_from-limits p size e =
    let w = next_some (natural_in 1 256 p.0) _ size e in
    let d = next_some (natural_in 1 256 p.1) _ size w.2 in
    let same : record { width = w.0; depth = d.0 } ≡ size = cc in
    subst (λ (s : Size). IsFrom 1 256 s.width × IsFrom 1 256 s.depth) same (natural_in-within 1 256 p.0 w.0 w.1, natural_in-within 1 256 p.1 d.0 d.1)

pub size_in-limits : (d : Data) (size : Size) → size_in d ≡ Some size → IsFrom 1 256 size.width × IsFrom 1 256 size.depth
size_in-limits d size e =
    let p = and_then_some (option_and_then two (list_at (codes "size") d)) size_from size e in
    size_from-limits p.0 size p.2

-- ---- closed rectangles

abbrev land_with : Size → List Rect → List ℕ → Land
land_with size closed masks = record { width = size.width; depth = size.depth; closed = closed; masks = masks }

module _ (size : Size) (closed : List Rect) (masks : List ℕ) where
  rect_on-limits : (x0 z0 x1 z1 : ℕ) (r : Rect) → rect_on size x0 z0 x1 z1 ≡ Some r → IsClosed (land_with size closed masks) r
  rect_on-limits x0 z0 x1 z1 r e =
      let kept = if_some (nat_le x0 x1 && nat_lt x1 size.width && nat_le z0 z1 && nat_lt z1 size.depth) _ r e in
      let first = and_parts (nat_le x0 x1 && nat_lt x1 size.width && nat_le z0 z1) (nat_lt z1 size.depth) kept.0 in
      let second = and_parts (nat_le x0 x1 && nat_lt x1 size.width) (nat_le z0 z1) first.0 in
      let third = and_parts (nat_le x0 x1) (nat_lt x1 size.width) second.0 in
      let in_x : x0 ≤ x1 = leb-true x0 x1 third.0 in
      let in_z : z0 ≤ z1 = leb-true z0 z1 second.1 in
      subst (λ (s : Rect). IsClosed (land_with size closed masks) s) kept.1 (record {
        ordered_x = omega (arith, ints);
        ordered_z = omega (arith, ints);
        inside = and_from _ _ (and_from _ _ (and_from _ _ (leb-zero x0) third.1) (leb-zero z0)) first.1;
      })

  rect_from-limits : (p : Data × Data × Data × Data) (r : Rect) → rect_from size p ≡ Some r → IsClosed (land_with size closed masks) r
  rect_from-limits p r e =
      let x0 = next_some (natural p.0) _ r e in
      let z0 = next_some (natural p.1) _ r x0.2 in
      let x1 = next_some (natural p.2) _ r z0.2 in
      let z1 = next_some (natural p.3) _ r x1.2 in
      rect_on-limits x0.0 z0.0 x1.0 z1.0 r z1.2

  rect_of-limits : (d : Data) (r : Rect) → rect_of size d ≡ Some r → IsClosed (land_with size closed masks) r
  rect_of-limits d r e =
      let p = and_then_some (option_and_then four (list_of d)) (rect_from size) r e in
      rect_from-limits p.0 r p.2

pub record AreClosed (land : Land) : Type 0 where
  pub few : length land.closed ≤ 4096
  pub each : All (IsClosed land) land.closed

pub closed_in-limits : (size : Size) (masks : List ℕ) (d : Data) (closed : List Rect) → closed_in size d ≡ Some closed → AreClosed (land_with size closed masks)
closed_in-limits size masks d closed e =
    let ds = and_then_some (list_at (codes "closed") d) (rects_from size) closed e in
    let kept = then_some (nat_le (length ds.0) 4096) (records (λ done. rect_of size) [] ds.0) closed ds.2 in
    let read = numbered_from_records (λ done. rect_of size) [] ds.0 closed kept.1 in
    let few : length ds.0 ≤ 4096 = leb-true (length ds.0) 4096 kept.0 in
    record {
      few = omega (arith, few, numbered-length (λ done. rect_of size) [] ds.0 closed read);
      each = numbered-All (λ done. rect_of size) (IsClosed (land_with size closed masks)) (λ done d r is. rect_of-limits size closed masks d r is) ds.0 closed
          read;
    }

-- ---- masks

max-zero : (n : ℕ) → max n 0 ≡ n
max-zero n = omega arith

-- a mask with one more enemy
with_enemy : (players player mask enemy : ℕ) → enemy ≤ players → enemy ≢ player → IsMask (players + 1) player mask
    → IsMask (players + 1) player (bit_or mask (2 ^ enemy))
with_enemy players player mask enemy known other is = record {
  owners_alone = or_lt (players + 1) mask (2 ^ enemy) is.owners_alone (pow-lt (omega arith));
  not_itself = ap (λ n. n == 1) (bit_at_or mask (2 ^ enemy) player ∙ rw (bit_at-pow_other enemy player (λ h. other (sym h))) (max-zero (bit_at mask player))) ∙
      is.not_itself;
}

enemy_in-other : (players player : ℕ) (d : Data) (enemy : ℕ) → enemy_in players player d ≡ Some enemy → (enemy ≤ players) × (enemy ≢ player)
enemy_in-other players player d enemy e =
    let read = and_then_some (natural_in 0 players d) _ enemy e in
    let kept = else_some (read.0 == player) (Some read.0) enemy read.2 in
    subst (λ n. (n ≤ players) × (n ≢ player)) (same_Some read.0 enemy kept.1)
    ((natural_in-within 0 players d read.0 read.1).1, λ h. true≢false (sym (eq-eqb read.0 player h) ∙ kept.0))

mask_from-limits : (players player mask : ℕ) (ds : List Data) (result : ℕ) → mask_from players player mask ds ≡ Some result → IsMask (players + 1) player mask
    → IsMask (players + 1) player result
mask_from-limits players player mask [] result e is = let same : mask ≡ result = cc in subst (IsMask (players + 1) player) same is
mask_from-limits players player mask (d ∷ ds) result e is =
    let enemy = next_some (enemy_in players player d) _ result e in
    let other = enemy_in-other players player d enemy.0 enemy.1 in
    mask_from-limits players player (bit_or mask (2 ^ enemy.0)) ds result enemy.2 (with_enemy players player mask enemy.0 other.0 other.1 is)

-- the masks so far: one for each owner so far, none for Gaia
pub record AreMasks (owners : ℕ) (masks : List ℕ) : Type 0 where
  pub some : 0 < length masks
  pub gaia : slice_index masks 0 ≡ 0
  pub each : EachIndex masks (λ owner. IsMask owners owner (slice_index masks owner))

no_enemies : (players player : ℕ) → IsMask (players + 1) player 0
no_enemies players player = record { owners_alone = pow_pos (players + 1); not_itself = ap (λ n. n == 1) (bit_at-zero player) }

gaia_alone : (players : ℕ) → AreMasks (players + 1) (0 ∷ [])
gaia_alone players = record {
  some = omega arith;
  gaia = refl;
  each = λ owner within. let same : owner ≡ 0 = omega arith in subst (λ n. IsMask (players + 1) n (slice_index (0 ∷ []) n)) (sym same) (no_enemies players 0);
}

module _ (players : ℕ) where
  mask_of-limits : (done : List ℕ) (d : Data) (mask : ℕ) → mask_of players done d ≡ Some mask → IsMask (players + 1) (length done) mask
  mask_of-limits done d mask e =
      let ds = and_then_some (list_of d) (mask_from players (length done) 0) mask e in
      mask_from-limits players (length done) 0 ds.0 mask ds.2 (no_enemies players (length done))

  one_more : (done : List ℕ) (mask : ℕ) → IsMask (players + 1) (length done) mask → AreMasks (players + 1) done → AreMasks (players + 1) (done ++ mask ∷ [])
  one_more done mask is so_far = record {
    some = omega (arith, so_far.some, length_push done mask);
    gaia = get_or_append_left done (mask ∷ []) 0 0 so_far.some ∙ so_far.gaia;
    each = λ owner within. by owner within (cases_lt owner (length done));
  }
    where
      by : (owner : ℕ) → owner < length (done ++ mask ∷ []) → (owner < length done) ⊎ (length done ≤ owner)
          → IsMask (players + 1) owner (slice_index (done ++ mask ∷ []) owner)
      by owner within (inl before) = rw (get_or_append_left done (mask ∷ []) 0 owner before) (so_far.each owner before)
      by owner within (inr here) =
          let same : owner ≡ length done = omega (arith, length_push done mask) in
          rw (same, get_or-append_seam done mask [] 0) is

pub masks_in-limits : (d : Data) (masks : List ℕ) → masks_in d ≡ Some masks → IsFrom 2 9 (length masks) × AreMasks (length masks) masks
masks_in-limits d masks e =
    let ds = and_then_some (list_at (codes "players") d) masks_from masks e in
    let players = length ds.0 in
    let kept = then_some (nat_le 1 players && nat_le players 8) (records (mask_of players) (0 ∷ []) ds.0) masks ds.2 in
    let within = and_parts (nat_le 1 players) (nat_le players 8) kept.0 in
    let read = numbered_from_records (mask_of players) (0 ∷ []) ds.0 masks kept.1 in
    let count : length masks ≡ players + 1 = omega (arith, numbered-length (mask_of players) (0 ∷ []) ds.0 masks read) in
    let all = numbered-keeps (mask_of players) (λ front done. AreMasks (players + 1) done)
    (λ front done item mask is so_far. one_more players done mask (mask_of-limits players done item mask is) so_far) [] (0 ∷ []) ds.0 masks read
    (gaia_alone players) in
    let most : players ≤ 8 = leb-true players 8 within.1 in
    let least : 1 ≤ players = leb-true 1 players within.0 in
    ((omega arith, omega arith), subst (λ n. AreMasks n masks) (sym count) all)

-- ---- the land

pub land_in-limits : (d : Data) (land : Land) → land_in d ≡ Ok land → IsLand land
land_in-limits d land e =
    let size = need_ok 3 0 (size_in d) _ land e in
    let closed = need_ok 3 1 (closed_in size.0 d) _ land size.2 in
    let masks = need_ok 3 2 (masks_in d) _ land closed.2 in
    let ground = size_in-limits d size.0 size.1 in
    let shut = closed_in-limits size.0 masks.0 d closed.0 closed.1 in
    let players = masks_in-limits d masks.0 masks.1 in
    subst IsLand (ok_same (land_with size.0 closed.0 masks.0) land masks.2) (record {
      width = ground.0;
      depth = ground.1;
      few_closed = shut.few;
      closed = shut.each;
      players = players.0;
      gaia = players.1.gaia;
      masks = players.1.each;
    })

-- What holds of the entities of a match file.

-- an entity is of a known template and owner, and inside
pub record IsOn (names : List (List ℕ)) (land : Land) (players : ℕ) (first : First) : Type 0 where
  pub template : first.template < length names
  pub owner : first.owner ≤ players
  pub at : IsTrue (is_inside (size_of land) first.at)

first_same : (first second : First) → Some first ≡ Some second → first ≡ second
first_same first second e = cc

inside : (land : Land) (p : Point) (at : Point) → if_inside land p ≡ Some at → IsTrue (is_inside (size_of land) at)
inside land p at e =
    let kept = if_some (is_inside (size_of land) p) p at e in
    subst (λ q. IsTrue (is_inside (size_of land) q)) kept.1 kept.0

first_from-is : (names : List (List ℕ)) (land : Land) (players : ℕ) (p : Data × Data × Data × Data) (first : First) → first_from names land players p ≡
    Some first → IsOn names land players first
first_from-is names land players p first e =
    let template = next_some (option_and_then (number_of names) (as_str p.0)) _ first e in
    let owner = next_some (natural_in 0 players p.1) _ first template.2 in
    let at = next_some (option_and_then (if_inside land) (point_of p.2 p.3)) _ first owner.2 in
    let name = and_then_some (as_str p.0) (number_of names) template.0 template.1 in
    let found = and_then_some (point_of p.2 p.3) (if_inside land) at.0 at.1 in
    subst (IsOn names land players) (first_same (record { template = template.0; owner = owner.0; at = at.0 }) first at.2) (record {
      template = (position-Some (bytes_eq name.0) names template.0 [] name.2).0;
      owner = (natural_in-within 0 players p.1 owner.0 owner.1).1;
      at = inside land found.0 at.0 found.2;
    })

pub first_of-is : (names : List (List ℕ)) (land : Land) (players : ℕ) (d : Data) (first : First) → first_of names land players d ≡ Some first
    → IsOn names land players first
unfolding first_of
first_of-is names land players d first e =
    let p = and_then_some (option_and_then four (list_of d)) (first_from names land players) first e in
    first_from-is names land players p.0 first p.2

-- Every setup that is read meets the limits of a match.

-- ---- the rules

record AreRules (rules : Rules) : Type 0 where
  cap : rules.cap ≤ 4096
  delay : IsFrom 1 8 rules.delay
  turns : rules.turns ≤ 65535
  seed : rules.seed < 2 ^ 48

rules_in-limits : (d : Data) (rules : Rules) → rules_in d ≡ Ok rules → AreRules rules
rules_in-limits d rules e =
    let cap = need_ok 3 3 (natural_at 0 4096 (codes "cap") d) _ rules e in
    let delay = need_ok 3 4 (natural_at 1 8 (codes "delay") d) _ rules cap.2 in
    let turns = need_ok 3 5 (natural_at 0 65535 (codes "turns") d) _ rules delay.2 in
    let seed = need_ok 3 6 (natural_at 0 (2 ^ 48 - 1) (codes "seed") d) _ rules turns.2 in
    let below = (natural_at-within 0 (2 ^ 48 - 1) (codes "seed") d seed.0 seed.1).1 in
    subst AreRules (ok_same (record { cap = cap.0; delay = delay.0; turns = turns.0; seed = seed.0 }) rules seed.2) (record {
      cap = (natural_at-within 0 4096 (codes "cap") d cap.0 cap.1).1;
      delay = natural_at-within 1 8 (codes "delay") d delay.0 delay.1;
      turns = (natural_at-within 0 65535 (codes "turns") d turns.0 turns.1).1;
      seed = omega (arith, below);
    })

-- ---- the id

md5-length : (bytes : List ℕ) → length (md5 bytes) ≡ 16
unfolding md5 digest_bytes
md5-length bytes = simp length-append

-- ---- the lists

module _ (land : Land) (rules : Rules) where
  -- the commands that were read, and stand in order
  record AreRead (ds : List Data) (commands : List Timed) : Type 0 where
    each : numbered (timed_of rules.turns (players_of land)) [] ds ≡ Ok commands
    ordered : falls_at 0 0 commands ≡ None

  ordered-are : (ds : List Data) (timeds commands : List Timed) → timeds_from rules.turns (players_of land) ds ≡ Ok timeds → in_order timeds ≡ Ok commands
      → AreRead ds commands
  ordered-are ds timeds commands read e =
      let kept = unless_ok 10 (falls_at 0 0 timeds) (Ok timeds) commands e in
      subst (AreRead ds) (ok_same timeds commands kept.1)
      (record { each = coded_ok 9 (numbered (timed_of rules.turns (players_of land)) [] ds) timeds read; ordered = kept.0 })

  commands_in-are : (d : Data) (commands : List Timed) → commands_in land rules d ≡ Ok commands → (ds : List Data) × AreRead ds commands
  commands_in-are d commands e =
      let ds = need_ok 2 9 (list_at (codes "commands") d) _ commands e in
      let timeds = after_ok (timeds_from rules.turns (players_of land) ds.0) in_order commands ds.2 in
      (ds.0, ordered-are ds.0 timeds.0 commands timeds.1 timeds.2)

  -- the lists that were read
  record IsRead (lists : Lists) : Type 0 where
    origins : List Origin
    roots : List Node
    entities : List Data
    commands : List Data
    few_templates : length origins ≤ 256
    few_entities : length entities ≤ 4096
    distinct : are_distinct (names_in origins) ≡ true
    read : numbered (next_template (names_in origins) roots) [] origins ≡ Ok lists.templates
    firsts : numbered (λ done. first_of (names_in origins) land (players_of land)) [] entities ≡ Ok lists.first
    timeds : AreRead commands lists.commands

  items_in-is : (os : List Origin) (es : List Data) (d : Data) (lists : Lists) → length os ≤ 256 → length es ≤ 4096 → are_distinct (names_in os) ≡ true
      → items_in land rules os es d ≡ Ok lists → IsRead lists
  items_in-is os es d lists few_templates few_entities distinct e =
      let roots = after_ok (roots_of os) _ lists e in
      let templates = after_ok (templates_from os roots.0) _ lists roots.2 in
      let first = after_ok (firsts_from (names_in os) land (players_of land) es) _ lists templates.2 in
      let commands = after_ok (commands_in land rules d) _ lists first.2 in
      let ds = commands_in-are d commands.0 commands.1 in
      subst IsRead (ok_same (record { templates = templates.0; first = first.0; commands = commands.0 }) lists commands.2) (record {
        origins = os;
        roots = roots.0;
        entities = es;
        commands = ds.0;
        few_templates = few_templates;
        few_entities = few_entities;
        distinct = distinct;
        read = coded_ok 7 (numbered (next_template (names_in os) roots.0) [] os) templates.0 templates.1;
        firsts = coded_ok 8 (numbered (λ done. first_of (names_in os) land (players_of land)) [] es) first.0 first.1;
        timeds = ds.1;
      })

  lists_in-is : (origins : List Origin) (d : Data) (lists : Lists) → lists_in land rules origins d ≡ Ok lists → IsRead lists
  lists_in-is origins d lists e =
      let few = need_ok 3 7 (few_sources origins) _ lists e in
      let entities = need_ok 3 8 (entities_in d) _ lists few.2 in
      let kept = if_some (nat_le (length origins) 256 && are_distinct (names_in origins)) origins few.0 few.1 in
      let tests = and_parts (nat_le (length origins) 256) (are_distinct (names_in origins)) kept.0 in
      let es = and_then_some (list_at (codes "entities") d) entities_within entities.0 entities.1 in
      let short = if_some (nat_le (length es.0) 4096) es.0 entities.0 es.2 in
      items_in-is few.0 entities.0 d lists
      (subst (λ (os : List Origin). length os ≤ 256) kept.1 (leb-true (length origins) 256 tests.0))
      (subst (λ ds. length ds ≤ 4096) short.1 (leb-true (length es.0) 4096 short.0))
      (subst (λ (os : List Origin). are_distinct (names_in os) ≡ true) kept.1 tests.1)
      entities.2

  -- ---- all of it

  counted : (lists : Lists) (is : IsRead lists) → length lists.templates ≡ length is.origins
  counted lists is =
      let same = numbered-length (next_template (names_in is.origins) is.roots) [] is.origins lists.templates is.read in
      omega (arith, same)

  setup_with-limits : (id : List ℕ) (lists : Lists) → length id ≡ 16 → IsLand land → AreRules rules → IsRead lists
      → All (IsTemplate (length lists.templates)) lists.templates
      → IsSetup (setup_with id land rules lists)
  setup_with-limits id lists long ground limits is templates = record {
    id = long;
    land = ground;
    players = omega (arith, ground.players);
    cap = limits.cap;
    delay = limits.delay;
    turns = limits.turns;
    seed = limits.seed;
    few_templates = omega (arith, is.few_templates, counted lists is);
    templates = templates;
    names = names-differ (names_in is.origins) is.roots is.origins lists.templates is.distinct is.read;
    few_first = omega (
      arith,
      is.few_entities,
      numbered-length (λ done. first_of (names_in is.origins) land (players_of land)) [] is.entities lists.first is.firsts,
    );
    first = numbered-All (λ done. first_of (names_in is.origins) land (players_of land)) (IsFirst (setup_with id land rules lists)) entity is.entities
        lists.first is.firsts;
    commands = numbered-All (timed_of rules.turns (players_of land)) (IsTimed (setup_with id land rules lists)) command is.commands lists.commands
        is.timeds.each;
    in_order = in_order-IsNonDecreasing lists.commands is.timeds.ordered;
    not_crowded = timeds-not_crowded rules.turns (players_of land) is.commands lists.commands is.timeds.each;
  }
    where
      entity : (done : List First) (d : Data) (first : First) → first_of (names_in is.origins) land (players_of land) d ≡ Some first
          → IsFirst (setup_with id land rules lists) first
      entity done d first e =
          let on = first_of-is (names_in is.origins) land (players_of land) d first e in
          record { template = omega (arith, on.template, length-map is.origins name_in, counted lists is); owner = on.owner; at = on.at }

      command : (done : List Timed) (d : Data) (timed : Timed) → timed_of rules.turns (players_of land) done d ≡ Some timed
          → IsTimed (setup_with id land rules lists) timed
      command done d timed e =
          let read = timed_of-is rules.turns (players_of land) done d timed e in
          record { turn = read.turn; player = read.player; ids = read.ids }

abbrev HasTemplates : Setup → Type 0
HasTemplates setup = All (IsTemplate (length setup.templates)) setup.templates

record IsWhole (setup : Setup) : Type 0 where
  id : length setup.id ≡ 16
  limits : HasTemplates setup → IsSetup setup

limits_in-is : (id : List ℕ) (origins : List Origin) (d : Data) (setup : Setup) → length id ≡ 16 → limits_in id origins d ≡ Ok setup → IsWhole setup
limits_in-is id origins d setup long e =
    let land = after_ok (land_in d) _ setup e in
    let rules = after_ok (rules_in d) _ setup land.2 in
    let lists = after_ok (lists_in land.0 rules.0 origins d) _ setup rules.2 in
    let is = lists_in-is land.0 rules.0 origins d lists.0 lists.1 in
    subst IsWhole (ok_same (setup_with id land.0 rules.0 lists.0) setup lists.2) (record {
      id = long;
      limits = λ templates. setup_with-limits land.0 rules.0 id lists.0 long (land_in-limits d land.0 land.1) (rules_in-limits d rules.0 rules.1) is templates;
    })

setup_of-is : (bytes : List ℕ) (setup : Setup) → setup_of bytes ≡ Ok setup → IsWhole setup
setup_of-is bytes setup e =
    let d = need_ok 1 0 (value_of bytes) (setup_in (md5 bytes)) setup e in
    let shaped = unless_ok 2 (misplaced d.0) (after (sources_in d.0) (λ origins. limits_in (md5 bytes) origins d.0)) setup d.2 in
    let origins = after_ok (sources_in d.0) (λ origins. limits_in (md5 bytes) origins d.0) setup shaped.1 in
    limits_in-is (md5 bytes) origins.0 d.0 setup (md5-length bytes) origins.2

pub setup_of-id : (bytes : List ℕ) (setup : Setup) → setup_of bytes ≡ Ok setup → length setup.id ≡ 16
setup_of-id bytes setup e = (setup_of-is bytes setup e).id

pub meets-limits : (bytes : List ℕ) (result : Result Setup SetupFault) → Meets result (setup_of bytes) → IfOk result HasTemplates → IfOk result IsSetup
meets-limits bytes (Ok setup) e templates = (setup_of-is bytes setup e).limits templates
meets-limits bytes (Err fault) e templates = tt
