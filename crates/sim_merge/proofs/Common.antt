-- The words that the proofs here name again and again, passed on from one place. Declares nothing.
pub use Rattle.{indexmap.specs.IndexSet.insert_key, sim_base.specs.{NumberText.{in_range, number_of, text_of}, Places.{is_raw, product}}}
pub use Rattle.sim_merge.specs.declared.fault.MergeFault.{MergeFault, TheVariants.{BadOp, ChainTooLong, Cycle, NoParent, OutOfMemory}}
pub use Rattle.sim_merge.specs.{declared.fault.OverlayFault.OverlayFault, Libraries.{Holding, is_layable, is_resolved}, Overlay.absent}
pub use Rattle.sim_merge.specs.Overlay.{AreChanges, at_if, before, behind, below, below_if, followed_by, function_of, HasLaid, IfBadOp, IfRefusal, including}
pub use Rattle.sim_merge.specs.Overlay.{is_bad, is_refused_at, is_removal, IsPast, IsRefused, IsTreeOf, laid, laid_under, laid_unmarked, lay, Laying, laying_at}
pub use Rattle.sim_merge.specs.Overlay.{laying_of, lower_at, lower_children, lower_value, node_if, number_by, over_children, Path, Paths, paths_if, plain}
pub use Rattle.sim_merge.specs.Overlay.{product_of, refusal_at, refused, removes, root_by, root_mark, root_value, root_with, sum_of, survivors, TellsLacking}
pub use Rattle.sim_merge.specs.Overlay.{TellsWords, there, unmarked_below, Value, value_over, with_added, with_laid, with_lower, with_value, with_word, without}
pub use Rattle.sim_merge.specs.Resolution.{are_distinct, AreResolved, AreWithin, bare, chain_fault, chain_from, chain_refusal, chain_root, Has, inherited}
pub use Rattle.sim_merge.specs.Resolution.{is_endless, is_missing, is_orphan, IsKept, KeepsAll, layings, name_in, names_in, origins_of, parent_among}
pub use Rattle.sim_merge.specs.Resolution.{parents_in, repeats, resolution_of, root_in, root_refusal, root_there, roots_in}
pub use Rattle.sim_tree.specs.declared.{source.Source.Source, tree.Child.{Child, TheFolds.{fold-roll-Child, fold-roll-Tree, fold_out-Child, fold_out-Tree}}}
pub use Rattle.sim_tree.specs.declared.tree.{Child.{TheOpen.{Child-F, Tree-F}, TheViews.{out-Child, out-Tree, roll-Child, roll-Tree}}, Tree.Tree}
pub use Rattle.sim_tree.specs.{declared.tree.TreeMark.{TheVariants.{Add, Disable, Merge, Mul, Replace, Tokens}, TreeMark}, Nodes.{Origin, origin_of}}
pub use Rattle.sim_tree.specs.{Tokens.tokens_in, Trees.{are_plain, are_sound, at, at_child, bears, child, child_named, child_step, Children, children_of}}
pub use Rattle.sim_tree.specs.Trees.{Entry, is_before, is_least, is_plain, is_sound, levels, levels_under, mark_of, named_of, no_children, Node, node, node_of}
pub use Rattle.{sim_tree.specs.Trees.{node_step, nodes_of, under, value_of}, std.proofs.Common.{ap, append-nil, append_assoc, arith, below_more, Bool, cond}}
pub use Rattle.std.proofs.Common.{drop, Err, false, filter, fold, get_or, Global, if◌then◌else◌, inl, inr, length, length-drop, length-take-le, List, map}
pub use Rattle.std.proofs.Common.{nat_eq, nat_le, nat_lt, negsuc, None, not, Option, pos, position, refl, replicate, Result, reverse, rules, set, Some, String}
pub use Rattle.std.proofs.Common.{string_bytes, subst, suc, sym, take, true, true≢false, zero, zero-add, ℕ, ℤ, ⊎_elim, [], ◌&&◌, ◌*◌, ◌++◌, ◌+ℤ◌, ◌+◌, ◌-◌, ◌<◌}
pub use Rattle.std.proofs.{Common.{◌==◌, ◌||◌, ◌∙◌, ◌∷◌, ◌≡◌, ◌≢◌, ◌≤◌, ◌⊎◌}, lemmas.Bool.{cond-false, cond-true, Decides.nat_tests, false_from_ne_true}}
pub use Rattle.std.proofs.lemmas.{Cmp.nat_list_cmp_total, Fn.filter_same, Int.ints, List.{at_drop_more, drop_all, Elements.{filter-append, filter_agree}}}
pub use Rattle.std.proofs.lemmas.List.{Elements.filter_map-append, Folds.{list_all_at, list_any-append}, FromFn.{get_or-range_with_len, length-range_with_len}}
pub use Rattle.std.proofs.lemmas.List.{get_or-map, get_or-set_other, get_or-set_same, get_or_default, length-map, length-replicate, length-set, map-append}
pub use Rattle.std.proofs.lemmas.{List.{Quantifiers.position-Some, Sums.position_or_len_is, take_all, take_more}, Map.Text.btree_set_updates_text}
pub use Rattle.std.{proofs.{lemmas.{Map.Text.is_eq-slice_cmp, Option.slice_get-get_or, Slice.Eq.bytes_eq-Decides}, Math.Path.fun_ext}, specs.BTreeSet.BTreeSet}
pub use Rattle.std.specs.{BTreeSet.{contains_text, UpdatesBy}, Cmp.Lexicographic.slice_cmp, declared.cmp.Ordering.{Ordering, TheVariants.{Equal, Greater}}}
pub use Rattle.std.specs.{declared.cmp.Ordering.TheVariants.Less, Int.w32, List.{cons_option, join_with_byte, list_all, list_any, position_or_len, prefix_len}}
pub use Rattle.std.specs.{List.range_with_len, Option.{option_copied, SomeIff}, Ordering.{is_eq, is_lt, nat_cmp, ordering_reverse}, Prelude.{codes, filter_map}}
pub use Rattle.std.specs.{Prelude.{FitsSigned, is_none, is_some, option_and_then, option_map, slice_get}, Str.bytes_eq, String.{string_cmp, string_eq}}
unfoldable pub use Rattle.{sim_merge.specs.{Overlay.{text_by, words_over}, Resolution.members}, std.specs.Fmt.digits}
