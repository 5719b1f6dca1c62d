-- The templates of a match as text: a line for each, with the parts that it has.
use Rattle.{sim_base.specs.NumberText.text_of, sim_report.specs.Downs.ids_text, sim_report.specs.Show.health_text}
use Rattle.std.specs.Prelude.{ℕ, ◌+◌, List, [], ◌∷◌, ◌++◌, ℤ, Some, None, codes, decimal, Option}
use Rattle.sim_base.specs.declared.template.{Arms.Arms, Base.Base, Harm.Harm, Resist.Resist, Template.Template}

-- the levels of resistance against each kind of damage, which every template has
abbrev pub resist_text : Resist → List ℕ
resist_text resist = codes " resist " ++ (decimal resist.hack ++ (codes " " ++ (decimal resist.pierce ++ (codes " " ++ decimal resist.crush))))

-- how many metres it goes in a second, if it moves
abbrev pub speed_text : Option ℤ → List ℕ
speed_text None = []
speed_text (Some speed) = codes " speed " ++ text_of speed

-- how many cells it takes from west to east and from south to north, if it takes any
abbrev pub obstruct_text : Option Base → List ℕ
obstruct_text None = []
obstruct_text (Some base) = codes " obstruct " ++ (decimal base.width ++ (codes " " ++ decimal base.depth))

-- the damage of a hit, by kind
abbrev pub harm_text : Harm → List ℕ
harm_text harm = text_of harm.hack ++ (codes " " ++ (text_of harm.pierce ++ (codes " " ++ text_of harm.crush)))

-- how many metres it reaches, and sees
abbrev pub reach_text : Arms → List ℕ
reach_text arms = codes " range " ++ (text_of arms.range ++ (codes " vision " ++ text_of arms.vision))

-- the turns without a hit after a hit, and how many hits of a hundred land
abbrev pub pace_text : Arms → List ℕ
pace_text arms = codes " repeat " ++ (decimal arms.repeat ++ (codes " accuracy " ++ decimal arms.accuracy))

-- an attack
abbrev pub arms_text : Arms → List ℕ
arms_text arms = (codes " attack " ++ harm_text arms.harm) ++ (reach_text arms ++ pace_text arms)

-- the attack, if it has one
abbrev pub attack_text : Option Arms → List ℕ
attack_text None = []
attack_text (Some arms) = arms_text arms

-- the numbers of the templates that it trains, if it trains
abbrev pub train_text : Option (List ℕ) → List ℕ
train_text None = []
train_text (Some numbers) = codes " train " ++ ids_text numbers

-- what it is: its greatest health, if it has health, and so on
abbrev pub body_text : Template → List ℕ
body_text template =
    health_text template.health ++ (resist_text template.resist ++ (speed_text template.speed ++ obstruct_text template.obstruct))

-- what it does
abbrev pub deeds_text : Template → List ℕ
deeds_text template = attack_text template.arms ++ train_text template.train

-- its number and its name
abbrev pub heading_text : ℕ → Template → List ℕ
heading_text number template = codes "template " ++ (decimal number ++ (codes " " ++ template.name))

-- a template, with the parts that it has
abbrev pub template_line : ℕ → Template → List ℕ
template_line number template = heading_text number template ++ (body_text template ++ (deeds_text template ++ codes "\n"))

-- a line for each template, numbered from a number on
abbrev pub template_lines : ℕ → List Template → List ℕ
template_lines number [] = []
template_lines number (template ∷ templates) = template_line number template ++ template_lines (number + 1) templates

-- the templates of a match, of which the first has the number 0
abbrev pub parts_text : List Template → List ℕ
parts_text templates = template_lines 0 templates
