-- A code for nodes, which is a list of steps that build the node: so a proof can tell the values of a library apart.
use Rattle.sim_tree.specs.declared.tree.TreeMark.{TheVariants.{Add, Disable, Merge, Mul, Replace, Tokens}, TreeMark}
use Rattle.sim_tree.specs.Trees.{child, Children, no_children, Node, node}
use Rattle.std.{proofs.Common.{ap, inl, inr, ◌∙◌}, specs.Coded.{code_by, Coded, coded_list, coded_option, coded_ℕ, coded×, coded⊎}}
use Rattle.std.specs.Prelude.{List, None, Option, refl, slice_get, Some, suc, zero, ℕ, [], ◌∷◌, ◌≡◌, ◌⊎◌}

-- ---- a mark as a number

abbrev pub mark_number : Option TreeMark → ℕ
mark_number None = 0
mark_number (Some Disable) = 1
mark_number (Some Replace) = 2
mark_number (Some Merge) = 3
mark_number (Some Add) = 4
mark_number (Some Mul) = 5
mark_number (Some Tokens) = 6

abbrev pub mark_at : ℕ → Option TreeMark
mark_at n = slice_get (Disable ∷ Replace ∷ Merge ∷ Add ∷ Mul ∷ Tokens ∷ []) n

abbrev pub mark_numbered : ℕ → Option TreeMark
mark_numbered zero = None
mark_numbered (suc n) = mark_at n

abbrev pub mark_back : (mark : Option TreeMark) → mark_numbered (mark_number mark) ≡ mark
mark_back None = refl
mark_back (Some Disable) = refl
mark_back (Some Replace) = refl
mark_back (Some Merge) = refl
mark_back (Some Add) = refl
mark_back (Some Mul) = refl
mark_back (Some Tokens) = refl

-- ---- a node as steps

-- no children; or the last node put before the last children, by a name; or a node over the last children
abbrev pub Step : Type 0
Step = Option (List ℕ ⊎ (Option (List ℕ) × ℕ))

abbrev mutual
  pub node_steps : Node → List Step → List Step
  node_steps (node value mark cs) more = children_steps cs (Some (inr (value, mark_number mark)) ∷ more)

  pub children_steps : Children → List Step → List Step
  children_steps no_children more = None ∷ more
  children_steps (child name n cs) more = children_steps cs (node_steps n (Some (inl name) ∷ more))

abbrev pub bare : Node
bare = node None None no_children

-- the last node, once the steps are done over what was built so far
abbrev pub built : List Step → List Node → List Children → Node
built [] [] css = bare
built [] (n ∷ ns) css = n
built (None ∷ steps) ns css = built steps ns (no_children ∷ css)
built (Some (inl name) ∷ steps) [] css = bare
built (Some (inl name) ∷ steps) (n ∷ ns) [] = bare
built (Some (inl name) ∷ steps) (n ∷ ns) (cs ∷ css) = built steps ns (child name n cs ∷ css)
built (Some (inr parts) ∷ steps) ns [] = bare
built (Some (inr parts) ∷ steps) ns (cs ∷ css) = built steps (node parts.0 (mark_numbered parts.1) cs ∷ ns) css

abbrev mutual
  pub built_node : (n : Node) (more : List Step) (ns : List Node) (css : List Children) → built (node_steps n more) ns css ≡ built more (n ∷ ns) css
  built_node (node value mark cs) more ns css =
      built_children cs (Some (inr (value, mark_number mark)) ∷ more) ns css ∙ ap (λ m. built more (node value m cs ∷ ns) css) (mark_back mark)

  pub built_children : (cs : Children) (more : List Step) (ns : List Node) (css : List Children) → built (children_steps cs more) ns css ≡ built more ns
      (cs ∷ css)
  built_children no_children more ns css = refl
  built_children (child name n cs) more ns css =
      built_children cs (node_steps n (Some (inl name) ∷ more)) ns css ∙ built_node n (Some (inl name) ∷ more) ns (cs ∷ css)

abbrev pub node_code : Coded Node
node_code =
    code_by (List Step) (coded_list (coded_option (coded⊎ (coded_list coded_ℕ) (coded× (coded_option (coded_list coded_ℕ)) coded_ℕ))))
    (λ n. node_steps n []) (λ steps. built steps [] []) (λ n. built_node n [] [] [])
