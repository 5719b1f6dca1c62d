-- What holds of the sources of a match file, in the words of the library.
use Rattle.{sim_merge.specs.{Libraries.is_layable, Resolution.{origins_of, roots_in}}, sim_setup.proofs.Common.{All, ap, IsReadySource, List, nat_le, Node}}
use Rattle.{sim_setup.{proofs.Common.{refl, Source, true, [], ◌∷◌, ◌≡◌}, specs.Refusals.IsReady}, sim_tree.specs.Trees.{is_sound, levels, mark_of, node_of}}
use Rattle.std.{proofs.{Common.is_none, lemmas.{Bool.{and_from, le-leb}, List.Elements.{All-head, All-tail}}}, specs.List.list_all}

ready_layable : (n : Node) → IsReady n → is_layable n ≡ true
ready_layable n ready =
    and_from (is_sound n) _ ready.sound (and_from (is_none (mark_of n)) (nat_le (levels n) 32) (ap is_none ready.unmarked) (le-leb (levels n) 32 ready.levels))

pub all_layable : (sources : List Source) → All IsReadySource sources → list_all is_layable (roots_in (origins_of sources)) ≡ true
all_layable [] ready = refl
all_layable (source ∷ sources) ready =
    and_from (is_layable (node_of source.tree)) _ (ready_layable (node_of source.tree) (All-head IsReadySource source sources ready))
    (all_layable sources (All-tail IsReadySource source sources ready))
