-- A worked line of a state, computed from the definitions.
use Rattle.sim_report.proofs.Common.{◌≡◌, true, [], ◌∷◌, Some, None, codes, refl, digits, enemies, Going, mid, post, Row, row_line, Setup, walker}

-- a match of two templates, of which the second one walks
abbrev two_kinds : Setup
two_kinds = enemies (post ∷ walker ∷ []) []

-- on its way, with two waypoints ahead
abbrev going : Row
going = record {
  id = 2;
  template = 1;
  at = mid 4 2;
  owner = 1;
  health = None;
  motion = Some (Going (mid 6 2) (mid 5 2 ∷ mid 6 2 ∷ []) true);
  attack = None;
}

line_of_a_walker : row_line two_kinds going ≡ codes "entity 2 template walker owner 1 at 4.50000 2.50000 motion going 6.50000 2.50000 way 2 whole 1\n"
unfolding digits
line_of_a_walker = refl
