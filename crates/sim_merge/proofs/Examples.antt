-- Worked overlays and chains, computed from the definitions.
use Rattle.sim_merge.proofs.Common.{Origin, Path, plain, range_with_len, refused, Replace, resolution_of, text_by, there, Tokens, TreeMark, words_over}
use Rattle.sim_merge.proofs.Common.{digits, Disable, Entry, is_endless, is_refused_at, laid, lay, members, Merge, Mul, no_children, Node, node, NoParent}
use Rattle.sim_merge.proofs.Common.{◌≡◌, ℕ, true, false, List, [], ◌∷◌, map, Some, None, Err, codes, Option, refl, Add, at, BadOp, bare, child, Children, Cycle}

abbrev leaf : List ℕ → Node
leaf text = node (Some text) None no_children

abbrev marked : TreeMark → List ℕ → Node
marked mark text = node (Some text) (Some mark) no_children

abbrev over : Option TreeMark → Children → Node
over mark cs = node None mark cs

-- ---- a worked overlay, by the recursion over nodes

lower : Node
lower = over None
    (child (codes "A") (over None (child (codes "X") (leaf (codes "1")) (child (codes "Y") (leaf (codes "2")) no_children)))
    (child (codes "B") (leaf (codes "10"))
    (child (codes "C") (leaf (codes "p x q"))
    (child (codes "D") (over None (child (codes "K") (leaf (codes "1")) no_children)) no_children))))

upper : Node
upper = over None
    (child (codes "A") (over (Some Replace) (child (codes "Z") (leaf (codes "3")) no_children))
    (child (codes "B") (marked Mul (codes "1.5"))
    (child (codes "C") (marked Tokens (codes "-x y p"))
    (child (codes "D") (over (Some Disable) no_children)
    (child (codes "E") (over (Some Disable) no_children)
    (child (codes "F") (over (Some Merge) (child (codes "V") (leaf (codes "9")) no_children)) no_children))))))

laid_over : laid (Some lower) upper ≡ there (over None
    (child (codes "A") (over None (child (codes "Z") (leaf (codes "3")) no_children))
    (child (codes "B") (leaf (codes "15"))
    (child (codes "C") (leaf (codes "p q y")) no_children))))
unfolding text_by words_over lower upper digits
laid_over = refl

-- a sum, whose children stay, and a merge where there is a lower node
sum_and_merge : laid (Some (over None
    (child (codes "A") (node (Some (codes "1.5")) None (child (codes "K") (leaf (codes "x")) no_children))
    (child (codes "B") (over None (child (codes "K") (leaf (codes "1")) no_children)) no_children))))
    (over None (child (codes "A") (marked Add (codes "2"))
    (child (codes "B") (over (Some Merge) (child (codes "L") (leaf (codes "2")) no_children)) no_children)))
    ≡ there (over None
    (child (codes "A") (node (Some (codes "3.50000")) None (child (codes "K") (leaf (codes "x")) no_children))
    (child (codes "B") (over None (child (codes "K") (leaf (codes "1")) (child (codes "L") (leaf (codes "2")) no_children))) no_children)))
unfolding text_by digits
sum_and_merge = refl

-- ---- the same overlay, by the map from paths

laid_at : Path → Option Entry
laid_at path = lay (Some (at lower)) (at upper) path

at_the_root : laid_at [] ≡ plain None
unfolding laid_at lower upper
at_the_root = refl

replaced : laid_at (codes "A" ∷ []) ≡ plain None
unfolding laid_at lower upper
replaced = refl

below_replace : laid_at (codes "A" ∷ codes "Z" ∷ []) ≡ plain (Some (codes "3"))
unfolding laid_at lower upper
below_replace = refl

lower_replaced : laid_at (codes "A" ∷ codes "X" ∷ []) ≡ None
unfolding laid_at lower upper
lower_replaced = refl

multiplied : laid_at (codes "B" ∷ []) ≡ plain (Some (codes "15"))
unfolding laid_at text_by lower upper digits
multiplied = refl

listed : laid_at (codes "C" ∷ []) ≡ plain (Some (codes "p q y"))
unfolding laid_at words_over lower upper
listed = refl

disabled : laid_at (codes "D" ∷ []) ≡ None
unfolding laid_at lower upper
disabled = refl

below_disable : laid_at (codes "D" ∷ codes "K" ∷ []) ≡ None
unfolding laid_at lower upper
below_disable = refl

disabled_upon_nothing : laid_at (codes "E" ∷ []) ≡ None
unfolding laid_at lower upper
disabled_upon_nothing = refl

merged_upon_nothing : laid_at (codes "F" ∷ []) ≡ None
unfolding laid_at lower upper
merged_upon_nothing = refl

below_merge_upon_nothing : laid_at (codes "F" ∷ codes "V" ∷ []) ≡ None
unfolding laid_at lower upper
below_merge_upon_nothing = refl

not_refused : is_refused_at (Some (at lower)) (at upper) (codes "B" ∷ []) ≡ false
unfolding text_by lower upper
not_refused = refl

-- ---- operations that are hidden or met

sum_upon_nothing : Node
sum_upon_nothing = over None (child (codes "A") (over (Some Disable) (child (codes "B") (marked Add (codes "1")) no_children)) no_children)

hidden_by_disable : laid (Some bare) sum_upon_nothing ≡ there bare
unfolding text_by sum_upon_nothing
hidden_by_disable = refl

met_below_replace : laid (Some (over None (child (codes "A") (over None (child (codes "B") (leaf (codes "1")) no_children)) no_children)))
    (over None (child (codes "A") (over (Some Replace) (child (codes "B") (marked Add (codes "1")) no_children)) no_children)) ≡ refused
unfolding text_by
met_below_replace = refl

-- ---- chains, by the numbers of parents

-- each template but the first inherits the one before it
abbrev line : ℕ → List (Option ℕ)
line n = None ∷ map Some (range_with_len 0 n)

sixteen_members : is_endless (members (line 16) 15) ≡ false
unfolding members
sixteen_members = refl

seventeen_members : is_endless (members (line 16) 16) ≡ true
unfolding members
seventeen_members = refl

abbrev source : List ℕ → Option (List ℕ) → Origin
source name parent = record { name = name; parent = parent; root = bare }

self_parent : resolution_of (source (codes "a") (Some (codes "a")) ∷ []) ≡ Err (Cycle 0)
unfolding members
self_parent = refl

no_parent : resolution_of (source (codes "a") (Some (codes "b")) ∷ []) ≡ Err (NoParent 0)
unfolding members
no_parent = refl

-- a child before its parent, whose operation has no result
child_of_refused : resolution_of (source (codes "a") (Some (codes "b")) ∷
    record { name = codes "b"; parent = None; root = over None (child (codes "A") (marked Add (codes "1")) no_children) } ∷ []) ≡ Err (BadOp 0)
unfolding text_by members
child_of_refused = refl
