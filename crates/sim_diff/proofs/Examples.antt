-- Worked examples, computed from the definition: each place was worked out by hand.
use Rattle.sim_diff.proofs.Common.{Owner, Row, Stance, State, Still, u16_bytes, u32_bytes, u64_bytes}
use Rattle.sim_diff.proofs.Common.{◌≡◌, ℕ, ◌*◌, true, false, List, [], ◌∷◌, pos, Some, None, refl, Clock, difference_of, Entity, Health, i32_bytes, Motion}

-- a post of player 1 with health 50, at this many metres on both axes
abbrev post : ℕ → Row
post id = record {
  id = id;
  template = 0;
  at = record { x = pos (id * 65536); z = pos (id * 65536) };
  owner = 1;
  health = Some (pos 3276800);
  motion = None;
  attack = None;
}

abbrev state : ℕ → List Row → State
state word rows = record { turn = 0; next = 6; word = word; rows = rows }

abbrev four : List Row
four = post 2 ∷ post 3 ∷ post 4 ∷ post 5 ∷ []

no_difference : difference_of (state 7 four) (state 7 four) ≡ None
unfolding difference_of u16_bytes u32_bytes u64_bytes i32_bytes
no_difference = refl

-- an entity that the right state lacks
last_missing : difference_of (state 7 four) (state 7 (post 2 ∷ post 3 ∷ post 4 ∷ [])) ≡ Some
    (record { entity = 5; part = Entity; left = Some (5 ∷ 0 ∷ 0 ∷ 0 ∷ 0 ∷ 0 ∷ []); right = None })
unfolding difference_of u16_bytes u32_bytes u64_bytes i32_bytes
last_missing = refl

-- an entity that the left state lacks
first_missing : difference_of (state 7 (post 4 ∷ [])) (state 7 (post 3 ∷ post 4 ∷ [])) ≡ Some
    (record { entity = 3; part = Entity; left = None; right = Some (3 ∷ 0 ∷ 0 ∷ 0 ∷ 0 ∷ 0 ∷ []) })
unfolding difference_of u16_bytes u32_bytes u64_bytes i32_bytes
first_missing = refl

-- the clock comes before every entity
other_word : difference_of (record { turn = 0; next = 2; word = 0; rows = [] }) (record { turn = 0; next = 2; word = 11; rows = post 2 ∷ [] })
    ≡ Some (record {
      entity = 1;
      part = Clock;
      left = Some (0 ∷ 0 ∷ 0 ∷ 0 ∷ 2 ∷ 0 ∷ 0 ∷ 0 ∷ 0 ∷ 0 ∷ 0 ∷ 0 ∷ 0 ∷ 0 ∷ 0 ∷ 0 ∷ []);
      right = Some (0 ∷ 0 ∷ 0 ∷ 0 ∷ 2 ∷ 0 ∷ 0 ∷ 0 ∷ 11 ∷ 0 ∷ 0 ∷ 0 ∷ 0 ∷ 0 ∷ 0 ∷ 0 ∷ []);
    })
unfolding difference_of u16_bytes u32_bytes u64_bytes i32_bytes
other_word = refl

-- the health of entity 2 comes before the place of entity 3, though a stored state has all places before all healths
health_before_place :
    difference_of (state 7 (record (post 2) { health = Some (pos 1) } ∷ post 3 ∷ []))
    (state 7 (post 2 ∷ record (post 3) { at = record { x = pos 0; z = pos 0 } } ∷ []))
    ≡ Some (record { entity = 2; part = Health; left = Some (2 ∷ 0 ∷ 0 ∷ 0 ∷ 1 ∷ 0 ∷ 0 ∷ 0 ∷ []); right = Some (2 ∷ 0 ∷ 0 ∷ 0 ∷ 0 ∷ 0 ∷ 50 ∷ 0 ∷ []) })
unfolding difference_of u16_bytes u32_bytes u64_bytes i32_bytes
health_before_place = refl

-- the owner comes before the motion
owner_before_motion :
    difference_of (state 7 (record (post 2) { owner = 2; motion = Some Still } ∷ [])) (state 7 (post 2 ∷ []))
    ≡ Some (record { entity = 2; part = Owner; left = Some (2 ∷ 0 ∷ 0 ∷ 0 ∷ 2 ∷ []); right = Some (2 ∷ 0 ∷ 0 ∷ 0 ∷ 1 ∷ []) })
unfolding difference_of u16_bytes u32_bytes u64_bytes i32_bytes
owner_before_motion = refl

-- the motion, which one state has and the other has not, comes before the attack
motion_before_attack :
    difference_of (state 7 (record (post 2) { attack = Some (record { target = 3; cooldown = 258; hold = false }) } ∷ []))
    (state 7 (record (post 2) { motion = Some Still } ∷ []))
    ≡ Some (record { entity = 2; part = Motion; left = None; right = Some (2 ∷ 0 ∷ 0 ∷ 0 ∷ 0 ∷ 0 ∷ 0 ∷ 0 ∷ 0 ∷ 0 ∷ 0 ∷ 0 ∷ 0 ∷ 0 ∷ 0 ∷ []) })
unfolding difference_of u16_bytes u32_bytes u64_bytes i32_bytes
motion_before_attack = refl

-- whether it holds its place is told of the stance, and not of the attack
hold_of_stance :
    difference_of (state 7 (record (post 2) { attack = Some (record { target = 3; cooldown = 258; hold = true }) } ∷ []))
    (state 7 (record (post 2) { attack = Some (record { target = 3; cooldown = 258; hold = false }) } ∷ []))
    ≡ Some (record { entity = 2; part = Stance; left = Some (2 ∷ 0 ∷ 0 ∷ 0 ∷ 1 ∷ []); right = Some (2 ∷ 0 ∷ 0 ∷ 0 ∷ 0 ∷ []) })
unfolding difference_of u16_bytes u32_bytes u64_bytes i32_bytes
hold_of_stance = refl
