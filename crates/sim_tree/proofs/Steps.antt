-- A path, one name after another.
use Rattle.sim_tree.proofs.Common.{ap, at, at_child, Bool, bytes_eq, child, child_named, Children, false, if◌then◌else◌, List, no_children, Node, node, None}
use Rattle.sim_tree.{proofs.Common.{Option, option_and_then, refl, Some, sym, true, under, value_at, value_of, ℕ, [], ◌∙◌, ◌∷◌, ◌≡◌}, specs.Trees.Entry}

pub at_end : (n : Node) → value_at n [] ≡ value_of n
at_end (node value mark cs) = refl

chosen : (b : Bool) (n : Node) (path : List (List ℕ)) (o : Option Node) (p : Option Entry) → p ≡ option_and_then (λ m. at m path) o
    → (if b then at n path else p) ≡ option_and_then (λ m. at m path) (if b then Some n else o)
chosen true n path o p e = refl
chosen false n path o p e = e

at_named : (cs : Children) (name : List ℕ) (path : List (List ℕ)) → at_child cs name path ≡ option_and_then (λ m. at m path) (child_named name cs)
at_named no_children name path = refl
at_named (child other n cs) name path = chosen (bytes_eq other name) n path (child_named name cs) (at_child cs name path) (at_named cs name path)

at_under : (n : Node) (name : List ℕ) (path : List (List ℕ)) → at n (name ∷ path) ≡ option_and_then (λ m. at m path) (child_named name (under n))
at_under (node value mark cs) name path = at_named cs name path

-- where there is a child of the next name, the path goes on in it
pub at_child_of : (n m : Node) (name : List ℕ) (path : List (List ℕ)) → Some m ≡ child_named name (under n) → value_at n (name ∷ path) ≡ value_at m path
at_child_of n m name path e =
    ap (option_and_then (λ (entry : Entry). entry.value)) (at_under n name path ∙ ap (option_and_then (λ m. at m path)) (sym e))

-- and else nothing stands there
pub at_no_child : (n : Node) (name : List ℕ) (path : List (List ℕ)) → None ≡ child_named name (under n) → value_at n (name ∷ path) ≡ None
at_no_child n name path e =
    ap (option_and_then (λ (entry : Entry). entry.value)) (at_under n name path ∙ ap (option_and_then (λ m. at m path)) (sym e))
