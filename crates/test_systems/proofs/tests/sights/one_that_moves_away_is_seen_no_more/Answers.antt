-- What stands there is in range, and the move fits it.
use Rattle.{sim_system.specs.declared.kind.Kind.TheVariants.Range as RangeKind, std.proofs.Common.refl, std.proofs.Common.◌∙◌}
use Rattle.test_systems.proofs.Rows.{in_range, land_by, land_is, may_hear, other_is, watcher_is}
use Rattle.test_systems.proofs.tests.sights.one_that_moves_away_is_seen_no_more.Goals as goal

pub rebuild-requires-clause-land : goal.rebuild-requires-clause-land
rebuild-requires-clause-land g c = land_is _ (land_by c.new.result c.from_items.result c.new.ensures (c.from_items.ensures ∙ c.in_ok-vec.ensures.items))

pub rebuild-requires-clause-facts : goal.rebuild-requires-clause-facts
rebuild-requires-clause-facts g c =
    in_range _ c.body.result c.body-2.result (land_by c.new.result c.from_items.result c.new.ensures (c.from_items.ensures ∙ c.in_ok-vec.ensures.items))
    (watcher_is c.body.result c.point.result c.from_raw.result c.body.ensures c.point.ensures c.from_raw.ensures)
    (other_is c.body-2.result c.point-near.result c.body-2.ensures c.point-near.ensures)

pub on-requires : goal.on-requires
on-requires g c =
    may_hear _ (record {
      kind = RangeKind;
      land = c.new-range.result.kept.land;
      facts = c.new-range.result.kept.facts.items;
      rebuilds = c.new-range.result.kept.rebuilds;
    }) _
    c.body.result c.body-2.result c.point-near.result c.point-far.result c.in_ok-rebuild.ensures.ok refl
    (land_by c.new.result c.from_items.result c.new.ensures (c.from_items.ensures ∙ c.in_ok-vec.ensures.items))
    (watcher_is c.body.result c.point.result c.from_raw.result c.body.ensures c.point.ensures c.from_raw.ensures)
    (other_is c.body-2.result c.point-near.result c.body-2.ensures c.point-near.ensures) c.point-near.ensures c.point-far.ensures

pub rebuild-requires-2-clause-land : goal.rebuild-requires-2-clause-land
rebuild-requires-2-clause-land g c = land_is _ (land_by c.new.result c.from_items.result c.new.ensures (c.from_items.ensures ∙ c.in_ok-vec.ensures.items))

pub rebuild-requires-2-clause-facts : goal.rebuild-requires-2-clause-facts
rebuild-requires-2-clause-facts g c =
    in_range _ c.body.result c.body-2.result (land_by c.new.result c.from_items.result c.new.ensures (c.from_items.ensures ∙ c.in_ok-vec.ensures.items))
    (watcher_is c.body.result c.point.result c.from_raw.result c.body.ensures c.point.ensures c.from_raw.ensures)
    (other_is c.body-2.result c.point-near.result c.body-2.ensures c.point-near.ensures)
