-- The words that the proofs here name again and again, passed on from one place. Declares nothing.
pub use Rattle.serde_json.{proofs.Views.Entry, specs.Data.{array, boolean, Data, item, member, Members, no_items, no_members, null, number, object, string}}
pub use Rattle.serde_json.specs.{Data.unsigned, declared.value.Value.Value, Find.{as_object, get}, View.{items_view, members_view, view}}
pub use Rattle.{sim_json.proofs.Readers.next_some, sim_tree.specs.declared.fault.TreeFault.{TheVariants.{TooDeep, WrongKind}, TreeFault}}
pub use Rattle.sim_tree.specs.{declared.{source.Source.Source, tree.{Child.Child, Tree.Tree, TreeMark.TheVariants.{Add, Mul, Tokens}}}, Nodes.are_members}
pub use Rattle.sim_tree.specs.Nodes.{are_root_members, begin_root, begin_well, children_in, is_child_key, is_node, is_root_key, kind_of, leaf_text, mark_in}
pub use Rattle.sim_tree.specs.Nodes.{marks_in, name_in, named_in, node_in, of_kind, Origin, origin_in, origin_of, parent_in, root_in, SourceMeets, tree_in}
pub use Rattle.sim_tree.specs.{Nodes.TreeMeets, Tokens.{is_word, tokens_of}, Trees.{are_sound, at, at_child, bears, child, child_named, Children, children_of}}
pub use Rattle.sim_tree.specs.Trees.{is_before, is_least, is_plain, is_sound, levels, levels_under, mark_of, named_of, no_children, Node, node, node_of}
pub use Rattle.sim_tree.specs.{Trees.{nodes_of, under, value_of}, Walks.{height, items_float, items_height, members_float, members_height, number_at, value_at}}
pub use Rattle.std.proofs.Common.{ap, append-nil, append_assoc, arith, Bool, codes, drop, Err, false, filter, Global, IfOk, if◌then◌else◌, length, Less, List}
pub use Rattle.std.proofs.Common.{lit<, map, max, nat_lt, None, Ok, Option, option_and_then, pos, refl, Result, rules, Some, String, string_bytes, string_cmp}
pub use Rattle.std.proofs.{Common.{subst, suc, sym, true, zero, ℕ, [], ◌&&◌, ◌++◌, ◌+◌, ◌-◌, ◌<◌, ◌||◌, ◌∙◌, ◌∷◌, ◌≡◌, ◌≤◌}, lemmas.Bool.Decides.nat_tests}
pub use Rattle.std.proofs.lemmas.{Iterator.{Consumers.{YieldsList-at, YieldsList-end}, Splits.YieldsList-from_str_split}, List.{drop_more, map-append}}
pub use Rattle.std.{proofs.lemmas.Slice.Eq.bytes_eq-Decides, specs.{Borrow.Bor, List.{AllByRecursion, list_all}, Map.keys_of, Str.bytes_eq}}
unfoldable pub use Rattle.{sim_tree.specs.Nodes.source_in, std.specs.{Fmt.digits, List.Sorted.IsStrictlySortedBy}}
