-- Worked examples, computed from the definitions: each template was worked out by hand from the table of the parts.
use Rattle.sim_base.specs.declared.template.Template.{Template}
use Rattle.sim_traits.specs.{declared.fault.TraitFault.{TheVariants.{Clash, Missing, OutOfRange, UnknownPart}, TraitFault}, Values.{template_in, unarmoured}}
use Rattle.sim_tree.specs.Trees.{child, Children, no_children, Node, node}
use Rattle.std.{proofs.Common.{Err, List, None, Ok, pos, refl, Some, ℕ, [], ◌∷◌, ◌≡◌}, specs.Prelude.{codes, Result}}

-- a node with a text and no children
abbrev leaf : List ℕ → Node
leaf text = node (Some text) None no_children

-- a node with children and no value
abbrev part : Children → Node
part cs = node None None cs

-- the template of these parts, among two templates that call themselves walker and barracks
abbrev read : Children → Result Template TraitFault
read parts = template_in (codes "it") (part parts) (codes "walker" ∷ codes "barracks" ∷ [])

-- ---- templates

-- all that is left out has its default, or is absent
soldier :
    read
    (child (codes "Attack")
    (part
    (child (codes "Accuracy") (leaf (codes "90"))
    (child (codes "Hack") (leaf (codes "4.5"))
    (child (codes "Range") (leaf (codes "3")) (child (codes "Repeat") (leaf (codes "4")) (child (codes "Vision") (leaf (codes "20")) no_children))))))
    (child (codes "Health") (part (child (codes "Max") (leaf (codes "100")) no_children))
    (child (codes "Motion") (part (child (codes "Speed") (leaf (codes "9")) no_children))
    (child (codes "Resist") (part (child (codes "Hack") (leaf (codes "2")) (child (codes "Pierce") (leaf (codes "1")) no_children))) no_children))))
    ≡ Ok
    (record {
      name = codes "it";
      health = Some (pos 6553600);
      resist = record { hack = 2; pierce = 1; crush = 0 };
      speed = Some (pos 589824);
      obstruct = None;
      arms = Some (record {
        harm = record { hack = pos 294912; pierce = pos 0; crush = pos 0 };
        range = pos 196608;
        vision = pos 1310720;
        repeat = 4;
        accuracy = 90;
      });
      train = None;
    })
unfolding template_in
soldier = refl

-- names that come twice count twice, and spaces do not count
barracks :
    read
    (child (codes "Obstruct") (part (child (codes "Depth") (leaf (codes "2")) (child (codes "Width") (leaf (codes "3")) no_children)))
    (child (codes "Train") (part (child (codes "Units") (leaf (codes " walker  barracks walker")) no_children)) no_children))
    ≡ Ok
    (record {
      name = codes "it";
      health = None;
      resist = unarmoured;
      speed = None;
      obstruct = Some (record { width = 3; depth = 2 });
      arms = None;
      train = Some (0 ∷ 1 ∷ 0 ∷ []);
    })
unfolding template_in
barracks = refl

-- a number text is rounded before it is compared: this is level 40
rounded_level :
    read (child (codes "Resist") (part (child (codes "Crush") (leaf (codes "40.00001")) no_children)) no_children)
    ≡ Ok
    (record {
      name = codes "it";
      health = None;
      resist = record { hack = 0; pierce = 0; crush = 40 };
      speed = None;
      obstruct = None;
      arms = None;
      train = None;
    })
unfolding template_in
rounded_level = refl

-- ---- refusals

-- also where a default stands ready
level_without_text : read (child (codes "Resist") (part (child (codes "Hack") (part no_children) no_children)) no_children) ≡ Err (Missing 2)
unfolding template_in
level_without_text = refl

level_too_high : read (child (codes "Resist") (part (child (codes "Hack") (leaf (codes "41")) no_children)) no_children) ≡ Err (OutOfRange 2)
unfolding template_in
level_too_high = refl

-- what is missing comes before what is out of range
missing_first : read (child (codes "Obstruct") (part (child (codes "Depth") (leaf (codes "17")) no_children)) no_children) ≡ Err (Missing 4)
unfolding template_in
missing_first = refl

-- and what is unknown before everything
unknown_first : read (child (codes "Health") (part no_children) (child (codes "Heal") (part no_children) no_children)) ≡ Err UnknownPart
unfolding template_in
unknown_first = refl

unknown_unit : read (child (codes "Train") (part (child (codes "Units") (leaf (codes "walker archer")) no_children)) no_children) ≡ Err (OutOfRange 6)
unfolding template_in
unknown_unit = refl

moving_wall :
    read
    (child (codes "Motion") (part (child (codes "Speed") (leaf (codes "1")) no_children))
    (child (codes "Obstruct") (part (child (codes "Depth") (leaf (codes "1")) (child (codes "Width") (leaf (codes "1")) no_children))) no_children))
    ≡ Err Clash
unfolding template_in
moving_wall = refl
