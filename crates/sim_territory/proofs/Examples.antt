-- Worked examples: who holds the cells of small grounds, and which cells are rooted. Each value was worked out by hand.
use Rattle.sim_territory.proofs.Common.{IsRooted, lit<, Mark, no_id, on, RealmOf, roots_of, Setup, strength, Template}
use Rattle.sim_territory.proofs.Common.{◌≡◌, ℕ, ◌+◌, List, [], ◌∷◌, ◌++◌, replicate, Some, codes, refl, Cell, first, holders_in, hut, influence, influences_in}

-- templates 0 to 2: a hall of one cell that trains itself, a hut of one cell, and a keep of two by two
abbrev hall : Template
hall = record (hut 1) { name = codes "hall"; train = Some (0 ∷ []) }

abbrev match_on : ℕ → ℕ → ℕ → Setup
match_on width depth players =
    record {
      id = no_id;
      land = record { width = width; depth = depth; closed = []; masks = replicate (players + 1) 0 };
      players = players;
      cap = 0;
      delay = 1;
      turns = 0;
      seed = 0;
      templates = hall ∷ hut 1 ∷ hut 2 ∷ [];
      first = [];
      commands = [];
    }

abbrev at : ℕ → ℕ → Cell
at x z = record { x = x; z = z }

abbrev mark : ℕ → ℕ → ℕ → Cell → Mark
mark id template owner cell = record { id = id; cell = cell; owner = owner; template = template }

abbrev realm : Setup → List Mark → RealmOf
realm setup marks = record { setup = setup; marks = marks }

-- ---- strength falls by 10 a straight step and by 14 a diagonal one, and is not below 0

abbrev square : Setup
square = match_on 9 9 2

strong_at_home : strength square (mark 2 0 1 (at 4 4)) (at 4 4) ≡ 80
strong_at_home = refl

weaker_by_knights_steps : strength square (mark 2 0 1 (at 4 4)) (at 6 5) ≡ 56
weaker_by_knights_steps = refl

none_at_a_corner : strength square (mark 2 0 1 (at 8 8)) (at 0 0) ≡ 0
none_at_a_corner = refl

two_by_two : strength square (mark 2 2 1 (at 8 8)) (at 0 0) ≡ 48
two_by_two = refl

-- the strengths of one player are added, those of others and of Gaia are not
added : influence square (mark 2 0 1 (at 4 4) ∷ mark 3 1 1 (at 4 5) ∷ mark 4 2 2 (at 4 4) ∷ mark 5 2 0 (at 4 4) ∷ []) 1 (at 4 4) ≡ 150
added = refl

-- ---- two halls on a strip, seven cells about each and a tie between them

abbrev strip : Setup
strip = match_on 32 1 2

abbrev halls : List Mark
halls = mark 2 0 1 (at 4 0) ∷ mark 3 0 2 (at 10 0) ∷ []

of_the_first : influences_in (realm strip halls) 1 ≡ 40 ∷ 50 ∷ 60 ∷ 70 ∷ 80 ∷ 70 ∷ 60 ∷ 50 ∷ 40 ∷ 30 ∷ 20 ∷ 10 ∷ replicate 20 0
of_the_first = refl

two_halls : holders_in (realm strip halls) ≡ replicate 8 1 ++ replicate 10 2 ++ replicate 14 0
two_halls = refl

roots_of_halls : roots_of strip halls ≡ at 4 0 ∷ at 10 0 ∷ []
roots_of_halls = refl

-- ---- with a hut that is cut off

abbrev cut_off : List Mark
cut_off = mark 2 0 1 (at 4 0) ∷ mark 3 0 2 (at 10 0) ∷ mark 4 1 1 (at 25 0) ∷ []

a_hut_apart : holders_in (realm strip cut_off) ≡ replicate 8 1 ++ replicate 10 2 ++ replicate 14 1
a_hut_apart = refl

no_root_of_a_hut : roots_of strip cut_off ≡ at 4 0 ∷ at 10 0 ∷ []
no_root_of_a_hut = refl

-- ---- three players at one tie, and one who is nobody

tie_of_three : holders_in (realm (match_on 3 1 3) (mark 2 0 3 (at 1 0) ∷ mark 3 0 2 (at 1 0) ∷ mark 4 0 1 (at 1 0) ∷ [])) ≡ 1 ∷ 1 ∷ 1 ∷ []
tie_of_three = refl

tie_of_the_last_two : holders_in (realm (match_on 3 1 3) (mark 2 0 3 (at 1 0) ∷ mark 3 0 2 (at 1 0) ∷ [])) ≡ 2 ∷ 2 ∷ 2 ∷ []
tie_of_the_last_two = refl

gaia_holds_nothing : holders_in (realm (match_on 3 1 3) (mark 2 0 0 (at 1 0) ∷ [])) ≡ 0 ∷ 0 ∷ 0 ∷ []
gaia_holds_nothing = refl

-- ---- a hall on ground that another holds is no root

abbrev overrun : List Mark
overrun = mark 2 0 1 (at 1 0) ∷ mark 3 2 2 (at 1 0) ∷ []

overrun_hall : roots_of (match_on 3 1 2) overrun ≡ []
overrun_hall = refl

-- ---- from a hall steps lead over the player's cells, and not by a corner

steps_west : IsRooted strip halls (at 2 0)
steps_west =
    on
    (on (first {c = at 4 0} (0, lit< tt, refl)) (record { which = 2; straight = lit< tt; leads = refl; same = refl }))
    (record { which = 2; straight = lit< tt; leads = refl; same = refl })
