-- One command more, and in the end all of them.
use Rattle.sim_trial.proofs.Common.{ap, arith, div_ceil, ids_between, joined_after, List, map, nat_lt, range_with_len, string_bytes, sym, walk_text, ℕ, ◌*◌}
use Rattle.sim_trial.proofs.{Common.◌++◌, Common.◌||◌, Common.◌∙◌, Common.◌≡◌, OwnedSoldiers.group_walk, OwnedSoldiers.owned_by, OwnedSoldiers.pieces_more}
use Rattle.sim_trial.proofs.{OwnedSoldiers.walks_of-is, walks.push_walks.Goals.else-begun, walks.push_walks.Goals.then-begun}

pub loop-group-preserved : Rattle.sim_trial.proofs.walks.push_walks.Goals.loop-group-preserved
loop-group-preserved c =
    let group = c.loop-group.group in
    let piece = group_walk c.args.player (owned_by c.args.player c.args.units) in
    let counted : c.if-begun.push_comma ≡ (c.args.begun || nat_lt 0 group) =
    elim c.if-begun.branch [ then-begun w ↦ rw (w.push_comma-is, w.if-begun.true) | else-begun w ↦ rw (w.push_comma-is, w.if-begun.false) ] in
    let added : string_bytes c.push_walk.new.text ≡ string_bytes c.push_comma.new.text ++ piece group =
    c.in_ok-push_walk.ensures ∙ ap (λ (to : ℕ). string_bytes c.push_comma.new.text ++ walk_text c.args.player (ids_between c.args.player (group * 256) to))
    c.min.ensures in
    pieces_more c.args.begun piece 0 group group (omega arith) _ _ _ _ _ c.loop-group.invariant counted c.in_ok-push_comma.ensures added

pub returns : Rattle.sim_trial.proofs.walks.push_walks.Goals.returns
returns c =
    let owned = owned_by c.args.player c.args.units in
    let piece = group_walk c.args.player owned in
    let count : c.loop-group.group ≡ div_ceil owned 256 = omega (arith, c.div_ceil-group-end.ensures) in
    c.loop-group.invariant
    ∙ ap (λ (n : ℕ). string_bytes c.args.text.now ++ joined_after c.args.begun (map piece (range_with_len 0 n))) count
    ∙ ap (λ (walks : List (List ℕ)). string_bytes c.args.text.now ++ joined_after c.args.begun walks)
    (sym (walks_of-is c.args.player c.args.units c.requires.first c.requires.last))
