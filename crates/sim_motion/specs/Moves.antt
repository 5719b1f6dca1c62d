-- How the code speaks of rows that move.
use Rattle.sim_base.specs.Ways as ways
use Rattle.sim_base.specs.{declared.{place.Point.Point, setup.Setup.Setup, state.{Motion.{Motion, TheVariants.{Going, Still}}, Row.Row}}, Limits.IsInside}
use Rattle.{sim_base.specs.Turn.{along, along_found, walked}, sim_motion.specs.declared.chase.Chase.{Chase, TheVariants.{Go, Keep, Stay}}}
use Rattle.{sim_motion.specs.declared.{course.Course.Course, moves.Moved.Moved}, sim_system.specs.declared.Way.Way}
use Rattle.std.specs.Prelude.{Bool, false, List, None, Option, Some, true, ℕ, [], ◌≡◌, ◌⊎◌}

-- the way that an answer stands for
abbrev pub way_in : Way → ways.Way
way_in way = record { points = way.points; whole = way.whole }

-- the motion after a chase
abbrev pub chased : Motion → Chase → Motion
chased motion Stay = Still
chased motion Keep = motion
chased motion (Go p) = Going p [] false

-- the motion that is another one, or the one that was
abbrev pub motion_or : Option Motion → Option Motion → Option Motion
motion_or None before = before
motion_or (Some motion) before = Some motion

-- the row at its new place, with its new motion, if it is another one
abbrev pub row_moved : Row → Moved → Row
row_moved row new = record row { at = new.at; motion = motion_or new.motion row.motion }

-- the motion of a row that takes this course
abbrev pub going : Course → Motion
going course = Going course.goal.now course.way.now course.whole

-- a row that has walked along its course as far as its budget goes
abbrev pub along_course : Row → ℕ → Course → Row
along_course row budget course = along row budget course.goal.now course.way.now course.whole

-- a row goes along the way that it found
abbrev pub along_way : Row → ℕ → Point → ways.Way → Row
along_way row budget goal way = along_found row budget goal way.points way.whole

-- where a chase leads, if it leads to a point, lies inside
abbrev pub LeadsInside : Setup → Chase → Type 0
LeadsInside setup Stay = Unit {0}
LeadsInside setup Keep = Unit {0}
LeadsInside setup (Go p) = IsInside setup p

-- no list of waypoints is made of a way of which these are left: none of them was reached, or a whole way is at its end
abbrev pub MakesNoWay : Bool → List Point → List Point → Type 0
MakesNoWay whole way left = ((left ≡ way) × (way ≡ [] → ⊥)) ⊎ ((left ≡ []) × (whole ≡ true))

-- a row that moves so from this point takes no memory: it stands still, or goes along its way and makes none
abbrev pub NeedsNoMemory : Point → ℕ → Motion → Type 0
NeedsNoMemory p budget Still = Unit {0}
NeedsNoMemory p budget (Going goal way whole) = MakesNoWay whole way (walked p budget way).way
