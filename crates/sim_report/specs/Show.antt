-- A state as text: a line of its clock, and a line of each row with the parts that the row has.
use Rattle.sim_base.specs.declared.{place.Point.Point, setup.Setup.Setup, state.{Aim.Aim, Motion.{Motion, TheVariants.{Going, Still}}, Row.Row, State.State}}
use Rattle.sim_base.specs.{declared.template.Template.Template, NumberText.text_of, Rows.template_of}
use Rattle.std.specs.Prelude.{Bool, codes, decimal, flat_map, if◌then◌else◌, length, List, None, Option, option_map, Some, unwrap_or, ℕ, ℤ, [], ◌++◌, ◌<◌, ◌∷◌}

-- the match has the row's template
abbrev pub HasTemplate : Setup → Row → Type 0
HasTemplate setup row = row.template < length setup.templates

-- the name of the row's template
abbrev pub name_of : Setup → Row → List ℕ
name_of setup row = unwrap_or (option_map (λ (template : Template). template.name) (template_of setup row)) []

-- the turns that were played, the id of the next new entity, the random word, and how many rows there are
abbrev pub clock_line : State → List ℕ
clock_line state =
    codes "turn " ++ (decimal state.turn ++
    (codes " next " ++ (decimal state.next ++
    (codes " word " ++ (decimal state.word ++
    (codes " rows " ++ (decimal (length state.rows) ++ codes "\n")))))))

-- both coordinates
abbrev pub point_text : Point → List ℕ
point_text point = text_of point.x ++ (codes " " ++ text_of point.z)

-- the health, if there is one
abbrev pub health_text : Option ℤ → List ℕ
health_text None = []
health_text (Some health) = codes " health " ++ text_of health

-- whether it moves, if it can; and then the goal, how many waypoints are ahead, and whether they lead to the way's end
abbrev pub motion_text : Option Motion → List ℕ
motion_text None = []
motion_text (Some Still) = codes " motion still"
motion_text (Some (Going goal way whole)) =
    codes " motion going " ++ (point_text goal ++
    (codes " way " ++ (decimal (length way) ++
    (codes " whole " ++ decimal (if whole then 1 else 0)))))

-- said of who holds its place
abbrev pub hold_text : Bool → List ℕ
hold_text hold = if hold then codes " hold" else []

-- whom it attacks, the turns until it may hit again, and whether it holds its place, if it can
abbrev pub attack_text : Option Aim → List ℕ
attack_text None = []
attack_text (Some aim) = codes " attack target " ++ (decimal aim.target ++ (codes " cooldown " ++ (decimal aim.cooldown ++ hold_text aim.hold)))

-- what each row has: its id, its template by name, its owner, and before its place
abbrev pub row_head : Setup → Row → List ℕ
row_head setup row =
    codes "entity " ++ (decimal row.id ++
    (codes " template " ++ (name_of setup row ++
    (codes " owner " ++ (decimal row.owner ++ codes " at ")))))

-- a row, with the parts that it has
abbrev pub row_line : Setup → Row → List ℕ
row_line setup row =
    row_head setup row ++ (point_text row.at ++
    (health_text row.health ++ (motion_text row.motion ++ (attack_text row.attack ++ codes "\n"))))

-- a state of a match
abbrev pub show_text : Setup → State → List ℕ
show_text setup state = clock_line state ++ flat_map (row_line setup) state.rows

-- The ways of the rows of a state as text: a line for each row that has waypoints ahead.

-- a waypoint behind a space
abbrev pub next_point : Point → List ℕ
next_point point = codes " " ++ point_text point

-- the waypoints that are still to be reached, in order
abbrev pub way_ahead : Option Motion → List Point
way_ahead (Some (Going goal way whole)) = way
way_ahead other = []

-- who goes and along which waypoints, or nothing for none
abbrev pub way_line : ℕ → List Point → List ℕ
way_line id [] = []
way_line id (point ∷ points) = codes "way " ++ (decimal id ++ (flat_map next_point (point ∷ points) ++ codes "\n"))

-- the line of a row
abbrev pub row_way : Row → List ℕ
row_way row = way_line row.id (way_ahead row.motion)

-- those of a state, its rows ascending by id
abbrev pub ways_text : State → List ℕ
ways_text state = flat_map row_way state.rows
