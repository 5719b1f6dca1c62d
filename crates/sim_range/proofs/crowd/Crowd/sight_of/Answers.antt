-- Those who are near ascend.
use Rattle.sim_range.proofs.{Common.{IsStrictlyIncreasing, rising, subst, sym, ◌∙◌}, Nearing.near_by, Seeing.chosen_ups, Turning.increasing}

pub turn-requires-clause-ascending : Rattle.sim_range.proofs.crowd.Crowd.sight_of.Goals.turn-requires-clause-ascending
turn-requires-clause-ascending c =
    subst IsStrictlyIncreasing (sym (c.into_items.ensures ∙ c.in_ok-near.ensures))
    (increasing _ (chosen_ups (near_by c.args.watcher.now.at c.in-Some.vision c.mask_of.result) c.args.self.now.held.facts.now
    (rising c.args.self.now.held.facts.now c.args.self.now.sorted.holds.held.ascending)))
