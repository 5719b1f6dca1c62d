-- A copy of none is none, and where no place was made yet all are filled with it.
use Rattle.{sim_attack.proofs.Sharing.filled_first, std.proofs.Common.arith, std.proofs.Common.rules, std.proofs.Common.sym, std.proofs.Common.◌∙◌}

pub returns-clause-ok : Rattle.sim_attack.proofs.finds.Finds.make_places.Goals.returns-clause-ok
returns-clause-ok c =
    let is = c.is_empty.ensures in
    let no = c.if-not-is_empty.false in
    c.in_ok-self.ensures.items_if_clones_equal (λ y e. search rules) ∙ sym (filled_first c.args.self.now.kept.items (grind arith))
