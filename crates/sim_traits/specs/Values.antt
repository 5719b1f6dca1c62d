-- What each part says, once its texts are there: None where one of them is not of its kind or within its limits.
use Rattle.sim_base.specs.{declared.template.{Arms.Arms, Base.Base, Harm.Harm, Resist.Resist, Template.Template}, NumberText.number_of, Places.unit}
use Rattle.{sim_json.specs.Keys.among, sim_traits.specs.declared.fault.TraitFault.{TheVariants.{Clash, Missing, OutOfRange, UnknownPart}, TraitFault}}
use Rattle.sim_tree.specs.{Tokens.{is_word, tokens_of}, Trees.{child, child_named, Children, no_children, Node, under, value_of}}
use Rattle.std.specs.List.{filter_map, list_all, list_any}
use Rattle.std.specs.Prelude.{Bool, codes, Err, false, find, if◌then◌else◌, is_none, is_some, length, List, nat_le, nat_lt, negsuc, None, not, Ok, Option}
use Rattle.std.specs.{Prelude.{option_and_then, pos, position, Result, Some, true, unwrap_or, ℕ, ℤ, [], ◌%◌, ◌&&◌, ◌++◌, ◌/◌, ◌==◌, ◌||◌, ◌∷◌}, Str.bytes_eq}

-- The list of templates that a template trains.

-- the number of a template, which is the place of its name
abbrev pub number_in : List (List ℕ) → List ℕ → Option ℕ
number_in names word = position (bytes_eq word) names

-- a template has this name
abbrev pub is_named : List (List ℕ) → List ℕ → Bool
is_named names word = is_some (number_in names word)

-- the numbers of at most 64 templates, in the order of their names in a list, each as often as it stands there
abbrev pub numbers_in : List (List ℕ) → List (List ℕ) → Option (List ℕ)
numbers_in names words = if nat_le (length words) 64 && list_all (is_named names) words then Some (filter_map (number_in names) words) else None

-- the same of a text, in which names stand between spaces
abbrev pub units_in : List (List ℕ) → List ℕ → Option (List ℕ)
units_in names text = numbers_in names (tokens_of text)

-- after so many numbers, a part of a text is no word, or it is a name and there is room for its number
abbrev pub is_admitted : List (List ℕ) → ℕ → List ℕ → Bool
is_admitted names count part = not (is_word part) || (nat_lt count 64 && is_named names part)

-- What the children of a part say: texts, numbers within their limits, and whole numbers.

-- the value of a node that is there, and else what stands for it, if something does
abbrev pub value_or : Option (List ℕ) → Option Node → Option (List ℕ)
value_or absent None = absent
value_or absent (Some n) = value_of n

-- the text of a child
abbrev pub text_at : List ℕ → Node → Option (List ℕ)
text_at name part = value_or None (child_named name (under part))

-- the text of a child that may be left out
abbrev pub text_or : List ℕ → List ℕ → Node → Option (List ℕ)
text_or absent name part = value_or (Some absent) (child_named name (under part))

-- a child that must be there is not, or a child is there without a value
abbrev pub lacks : List (List ℕ) → List (List ℕ) → Node → Bool
lacks needed optional part = list_any (λ name. is_none (text_at name part)) needed || list_any (λ name. is_none (text_or [] name part)) optional

-- a raw, where it is within the limits
abbrev pub raw_within : ℕ → ℕ → ℤ → Option ℤ
raw_within low high (pos raw) = if nat_le low raw && nat_le raw high then Some (pos raw) else None
raw_within low high (negsuc n) = None

-- the raw that a text spells, where it is within the limits
abbrev pub raw_in : ℕ → ℕ → List ℕ → Option ℤ
raw_in low high text = option_and_then (raw_within low high) (number_of text)

-- the whole number that a raw is, where it is one within the limits
abbrev pub whole_within : ℕ → ℕ → ℤ → Option ℕ
whole_within low high (pos raw) = if raw % unit == 0 && nat_le low (raw / unit) && nat_le (raw / unit) high then Some (raw / unit) else None
whole_within low high (negsuc n) = None

-- the whole number that a text spells, where it is one within the limits
abbrev pub whole_in : ℕ → ℕ → List ℕ → Option ℕ
whole_in low high text = option_and_then (whole_within low high) (number_of text)

-- what is read of a value, if there is one, goes into what follows
abbrev pub given : {X Y : Type 0} → Option X → (X → Option Y) → Option Y
given None next = None
given (Some x) next = next x

-- from the least health to 16,000
abbrev pub health_in : Node → Option ℤ
health_in part = given (text_at (codes "Max") part) (raw_in 1 1048576000)

-- a level of resistance, which is 0 where it is left out
abbrev pub level_in : List ℕ → Node → Option ℕ
level_in name part = given (text_or (codes "0") name part) (whole_in 0 40)

-- the three levels
abbrev pub resist_in : Node → Option Resist
resist_in part =
    given (level_in (codes "Hack") part) (λ hack. given (level_in (codes "Pierce") part) (λ pierce. given (level_in (codes "Crush") part) (λ crush.
    Some (record { hack = hack; pierce = pierce; crush = crush }))))

-- in metres for each second, at most 100
abbrev pub speed_in : Node → Option ℤ
speed_in part = given (text_at (codes "Speed") part) (raw_in 5 6553600)

-- a side of an obstruction
abbrev pub side_in : List ℕ → Node → Option ℕ
side_in name part = given (text_at name part) (whole_in 1 16)

-- both sides
abbrev pub base_in : Node → Option Base
base_in part =
    given (side_in (codes "Width") part) (λ width. given (side_in (codes "Depth") part) (λ depth.
    Some (record { width = width; depth = depth })))

-- a kind of damage, which is 0 where it is left out
abbrev pub damage_in : List ℕ → Node → Option ℤ
damage_in name part = given (text_or (codes "0") name part) (raw_in 0 65536000)

-- the three kinds of damage
abbrev pub harm_in : Node → Option Harm
harm_in part =
    given (damage_in (codes "Hack") part) (λ hack. given (damage_in (codes "Pierce") part) (λ pierce. given (damage_in (codes "Crush") part) (λ crush.
    Some (record { hack = hack; pierce = pierce; crush = crush }))))

-- a distance in metres
abbrev pub distance_in : List ℕ → Node → Option ℤ
distance_in name part = given (text_at name part) (raw_in 0 16777216)

-- how many turns it waits after a hit
abbrev pub repeat_in : Node → Option ℕ
repeat_in part = given (text_at (codes "Repeat") part) (whole_in 0 1000)

-- each hit lands where nothing is said
abbrev pub accuracy_in : Node → Option ℕ
accuracy_in part = given (text_or (codes "100") (codes "Accuracy") part) (whole_in 0 100)

-- the whole attack
abbrev pub arms_in : Node → Option Arms
arms_in part =
    given (harm_in part) (λ harm. given (distance_in (codes "Range") part) (λ range. given (distance_in (codes "Vision") part) (λ vision.
    given (repeat_in part) (λ repeat. given (accuracy_in part) (λ accuracy.
    Some (record { harm = harm; range = range; vision = vision; repeat = repeat; accuracy = accuracy }))))))

-- templates that are known
abbrev pub train_in : List (List ℕ) → Node → Option (List ℕ)
train_in names part = given (text_at (codes "Units") part) (units_in names)

-- The table of the parts of a template, and whether a tree has nothing beside it.

-- a part: its number, its name, the children that it must have, and those that it may have
pub record Part : Type 0 where
  pub number : ℕ
  pub name : List ℕ
  pub needed : List (List ℕ)
  pub optional : List (List ℕ)

-- how much it can take
abbrev pub health_part : Part
health_part = record { number = 1; name = codes "Health"; needed = codes "Max" ∷ []; optional = [] }

-- its levels of resistance
abbrev pub resist_part : Part
resist_part = record { number = 2; name = codes "Resist"; needed = []; optional = codes "Hack" ∷ codes "Pierce" ∷ codes "Crush" ∷ [] }

-- how fast it moves
abbrev pub motion_part : Part
motion_part = record { number = 3; name = codes "Motion"; needed = codes "Speed" ∷ []; optional = [] }

-- the rectangle that it closes
abbrev pub obstruct_part : Part
obstruct_part = record { number = 4; name = codes "Obstruct"; needed = codes "Width" ∷ codes "Depth" ∷ []; optional = [] }

-- how it hits
abbrev pub attack_part : Part
attack_part =
    record {
      number = 5;
      name = codes "Attack";
      needed = codes "Range" ∷ codes "Vision" ∷ codes "Repeat" ∷ [];
      optional = codes "Hack" ∷ codes "Pierce" ∷ codes "Crush" ∷ codes "Accuracy" ∷ [];
    }

-- what it makes
abbrev pub train_part : Part
train_part = record { number = 6; name = codes "Train"; needed = codes "Units" ∷ []; optional = [] }

-- all parts, in the order in which they are read
abbrev pub table : List Part
table = health_part ∷ resist_part ∷ motion_part ∷ obstruct_part ∷ attack_part ∷ train_part ∷ []

-- there is no child
abbrev pub are_none : Children → Bool
are_none no_children = true
are_none (child name n cs) = false

-- the children have these names alone, and no children of their own
abbrev pub are_leaves : List (List ℕ) → Children → Bool
are_leaves names no_children = true
are_leaves names (child name n cs) = among name names && are_none (under n) && are_leaves names cs

-- a node is a part with nothing beside what the table lists
abbrev pub is_known : Node → Option Part → Bool
is_known n None = false
is_known n (Some part) = is_none (value_of n) && are_leaves (part.needed ++ part.optional) (under n)

-- the part of a name
abbrev pub part_named : List ℕ → Option Part
part_named name = find (λ (part : Part). bytes_eq name part.name) table

-- each child is a part of the table
abbrev pub are_known : Children → Bool
are_known no_children = true
are_known (child name n cs) = is_known n (part_named name) && are_known cs

-- a root has no value, and nothing beside what the table lists
abbrev pub has_known_parts : Node → Bool
has_known_parts root = is_none (value_of root) && are_known (under root)

-- What a tree says of a template: its parts one after another, in the order of the table. The first refusal is the answer.

-- what is read of a part, or that it is out of range
abbrev pub in_range : {X : Type 0} → ℕ → Option X → Result (Option X) TraitFault
in_range number None = Err (OutOfRange number)
in_range number (Some x) = Ok (Some x)

-- What a node says of a part. One that is not there says nothing. One that lacks a text is refused, and else one with a
-- text that is out of range.
abbrev pub of_part : {X : Type 0} → Part → (Node → Option X) → Option Node → Result (Option X) TraitFault
of_part part read None = Ok None
of_part part read (Some n) = if lacks part.needed part.optional n then Err (Missing part.number) else in_range part.number (read n)

-- what a tree says of a part
abbrev pub part_of : {X : Type 0} → Part → (Node → Option X) → Node → Result (Option X) TraitFault
part_of part read root = of_part part read (child_named part.name (under root))

-- what is read goes on to the next part, or else there is a refusal
abbrev pub after : {X Y : Type 0} → Result X TraitFault → (X → Result Y TraitFault) → Result Y TraitFault
after (Err fault) next = Err fault
after (Ok x) next = next x

-- levels of resistance where nothing is said
abbrev pub unarmoured : Resist
unarmoured = record { hack = 0; pierce = 0; crush = 0 }

-- a mover does not obstruct
abbrev pub unless_clash : Template → Result Template TraitFault
unless_clash template = if is_some template.speed && is_some template.obstruct then Err Clash else Ok template

-- what is refused of a tree before any memory is taken: that is, before its list of templates is read
abbrev pub early_in : Node → Result (Unit {0}) TraitFault
early_in root =
    if has_known_parts root
    then after (part_of health_part health_in root) (λ most.
    after (part_of resist_part resist_in root) (λ levels.
    after (part_of motion_part speed_in root) (λ speed.
    after (part_of obstruct_part base_in root) (λ base.
    after (part_of attack_part arms_in root) (λ arms. Ok tt)))))
    else Err UnknownPart

-- the template of a tree with known parts
abbrev pub template_of_parts : List ℕ → Node → List (List ℕ) → Result Template TraitFault
template_of_parts name root names =
    after (part_of health_part health_in root) (λ most.
    after (part_of resist_part resist_in root) (λ levels.
    after (part_of motion_part speed_in root) (λ speed.
    after (part_of obstruct_part base_in root) (λ base.
    after (part_of attack_part arms_in root) (λ arms.
    after (part_of train_part (train_in names) root) (λ numbers.
    unless_clash
    (record {
      name = name;
      health = most;
      resist = unwrap_or levels unarmoured;
      speed = speed;
      obstruct = base;
      arms = arms;
      train = numbers;
    })))))))

-- the template of a name and a tree, among templates of these names
unfoldable pub template_in : List ℕ → Node → List (List ℕ) → Result Template TraitFault
template_in name root names = if has_known_parts root then template_of_parts name root names else Err UnknownPart
