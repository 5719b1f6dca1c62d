-- Worked examples, computed from the definitions.
use Rattle.sim_tree.proofs.Common.{is_sound, item, leaf_text, levels, member, Mul, no_children, no_items, no_members, node, null, number, number_at, object}
use Rattle.sim_tree.proofs.Common.{source_in, string, tokens_of, TooDeep, tree_in, unsigned, value_at, WrongKind}
use Rattle.sim_tree.proofs.Common.{◌≡◌, ℕ, zero, suc, true, false, [], ◌∷◌, pos, Some, None, Ok, Err, codes, refl, array, child, Data, digits, height, is_plain}

-- ---- words

words : tokens_of (codes "  x -y  x ") ≡ codes "x" ∷ codes "-y" ∷ codes "x" ∷ []
words = refl

no_words : tokens_of (codes "  ") ≡ []
no_words = refl

-- ---- nodes

fifty : leaf_text (number (unsigned 50)) ≡ Some (codes "50")
unfolding digits
fifty = refl

-- {"@op":"mul","_":"1.5"}
abbrev half_again : Data
half_again = object (member (codes "@op") (string (codes "mul")) (member (codes "_") (string (codes "1.5")) no_members))

half_again_is : tree_in half_again ≡ Ok (node (Some (codes "1.5")) (Some Mul) no_children)
half_again_is = refl

-- an operation without a value
no_value : tree_in (object (member (codes "@op") (string (codes "mul")) no_members)) ≡ Err WrongKind
no_value = refl

-- an operation with a child
with_child :
    tree_in (object (member (codes "@op") (string (codes "mul")) (member (codes "_") (string (codes "1.5")) (member (codes "a") (string []) no_members))))
    ≡ Err WrongKind
with_child = refl

-- {"@name":"big","@parent":"post","Health":{"Max":{"@op":"mul","_":"1.5"}}}
big : source_in
    (object (member (codes "@name") (string (codes "big")) (member (codes "@parent") (string (codes "post"))
    (member (codes "Health") (object (member (codes "Max") half_again no_members)) no_members))))
    ≡ Ok (record {
      name = codes "big";
      parent = Some (codes "post");
      root = node None None (child (codes "Health") (node None None (child (codes "Max") (node (Some (codes "1.5")) (Some Mul) no_children) no_children))
          no_children);
    })
unfolding source_in
big = refl

-- a root with a value of its own
root_with_value : source_in (object (member (codes "@name") (string (codes "a")) (member (codes "_") (string []) no_members))) ≡ Err WrongKind
unfolding source_in
root_with_value = refl

-- ---- levels

-- so many objects around a value, under the key `a`
within : ℕ → Data → Data
within zero d = d
within (suc n) d = object (member (codes "a") (within n d) no_members)

-- an empty object lies on level 32
thirty_two : height (within 31 (object no_members)) ≡ 32
unfolding within
thirty_two = refl

-- and a value in it on level 33, also where it is the value of that node
thirty_three : tree_in (within 31 (object (member (codes "_") (string (codes "5")) no_members))) ≡ Err TooDeep
unfolding within
thirty_three = refl

-- lists have levels, although they are no nodes
lists : height (array (item (array (item null no_items)) no_items)) ≡ 3
lists = refl

-- ---- paths

unit_tree : value_at (node None None (child (codes "Max") (node (Some (codes "1.5")) None no_children) no_children)) (codes "Max" ∷ []) ≡ Some (codes "1.5")
unit_tree = refl

number_there : number_at (node None None (child (codes "Max") (node (Some (codes "1.5")) None no_children) no_children)) (codes "Max" ∷ []) ≡ Some (pos 98304)
number_there = refl

nothing_there : value_at (node None None (child (codes "Max") (node None None no_children) no_children)) (codes "Max" ∷ []) ≡ None
nothing_there = refl

-- ---- soundness

falls : is_sound (node None None (child (codes "b") (node None None no_children) (child (codes "a") (node None None no_children) no_children))) ≡ false
falls = refl

ascends : is_sound (node None None (child (codes "B") (node None None no_children) (child (codes "a") (node None None no_children) no_children))) ≡ true
ascends = refl

marked : is_plain (node None None (child (codes "a") (node (Some []) (Some Mul) no_children) no_children)) ≡ false
marked = refl

two_levels : levels (node None None (child (codes "a") (node None None no_children) no_children)) ≡ 2
two_levels = refl
