-- The buckets and the sights after the note are those of the facts after it.
use Rattle.sim_range.proofs.range.RangeSystem.on.Goals as goal
use Rattle.sim_range.proofs.Common.{ap, ArePlaced, arith, Fact, has_land, held_in, List, noted, put_is, put_named, Range as RangeKind, SeesFrom, SeesWithin}
use Rattle.sim_range.proofs.{Common.{subst, sym, with_only, ◌∙◌}, Lending.{found_for, found_held, found_is, kept_along, part_held, ready_along}}
use Rattle.sim_range.proofs.Nearing.{found_placed, noted_buckets, part_placed, placed_after, still_built}

pub make_ready-requires : goal.make_ready-requires
make_ready-requires c =
    let s = c.args.self.now in
    let facts = s.kept.facts.items in
    let id = c.id_of-id.result in
    let before = c.find-before.result in
    let part = c.part_after-after.result in
    let built = has_land s.kept.land _ c.requires in
    record {
      built = built;
      placed = s.placed;
      bucketed = s.bucketed;
      whole = s.whole built;
      kept = s.seen;
      found = found_for facts id before part c.find-before.ensures (put_named RangeKind facts c.args.note.now id before part c.id_of-id.ensures
          c.find-before.ensures c.part_after-after.ensures);
      parts = λ l is. record {
        from = found_held s.kept.land facts id before s.kept.held c.find-before.ensures l is;
        to = part_held RangeKind s.kept.land facts c.args.note.now id before part c.requires s.kept.held c.id_of-id.ensures c.find-before.ensures
            c.part_after-after.ensures l is;
      };
      near = λ keeps. found_is (SeesFrom s.sights.visions.near) facts id before (s.seen keeps).near c.find-before.ensures;
      far = λ keeps. found_is (SeesWithin s.sights.visions.far) facts id before (s.seen keeps).far c.find-before.ensures;
      ends = record {
        from = found_placed facts id before c.find-before.ensures s.placed;
        to = part_placed RangeKind s.kept.land facts c.args.note.now id before part c.requires s.kept.held c.id_of-id.ensures c.find-before.ensures
            c.part_after-after.ensures;
      };
    }

pub invariant_of-self : goal.invariant_of-self
invariant_of-self c =
    let s = c.args.self.now in
    let e = c.make_ready.ensures in
    let built = has_land s.kept.land _ c.requires in
    let many = s.whole built in
    record {
      placed = subst ArePlaced (sym e.facts) s.placed;
      bucketed = λ k d lt. e.buckets.each k d (omega (arith, lt, e.buckets.whole)) ∙ s.bucketed k d (omega (arith, lt, e.buckets.whole, many)) ∙ ap (held_in
          k) (sym e.facts);
      whole = λ some. e.buckets.whole;
      bare = λ none. still_built s.kept.land c.make_ready.new.kept.land built e.land none;
      seen = λ keeps. kept_along s.kept.land c.make_ready.new.kept.land s.kept.facts.items c.make_ready.new.kept.facts.items c.make_ready.new.sights e.land
          e.facts (e.kept (sym e.keeps ∙ keeps));
    }

pub take_up-requires-clause-named : goal.take_up-requires-clause-named
take_up-requires-clause-named c = put_named RangeKind c.args.self.now.kept.facts.items c.args.note.now c.id_of-id.result c.find-before.result
    c.part_after-after.result c.id_of-id.ensures c.find-before.ensures c.part_after-after.ensures

pub take_up-requires-clause-kept : goal.take_up-requires-clause-kept
take_up-requires-clause-kept c keeps =
    let s = c.args.self.now in
    let e = c.make_ready.ensures in
    kept_along s.kept.land c.make_ready.new.kept.land s.kept.facts.items c.make_ready.new.kept.facts.items c.make_ready.new.sights e.land e.facts
    (e.kept (sym e.keeps ∙ keeps))

pub take_up-requires-clause-after : goal.take_up-requires-clause-after
take_up-requires-clause-after c = λ l is.
    let s = c.args.self.now in
    part_held RangeKind s.kept.land s.kept.facts.items c.args.note.now c.id_of-id.result c.find-before.result c.part_after-after.result c.requires s.kept.held
    c.id_of-id.ensures c.find-before.ensures c.part_after-after.ensures l
    (sym c.make_ready.ensures.land ∙ is)

pub take_up-requires-clause-ready : goal.take_up-requires-clause-ready
take_up-requires-clause-ready c keeps =
    let s = c.args.self.now in
    let e = c.make_ready.ensures in
    ready_along s.kept.land c.make_ready.new.kept.land s.kept.facts.items c.make_ready.new.kept.facts.items c.id_of-id.result c.find-before.result
    c.part_after-after.result c.make_ready.new.sights e.land e.facts c.find-before.ensures
    (c.in_ok-make_ready.ensures.ready (sym e.keeps ∙ keeps))

pub change-requires-clause-moves : goal.change-requires-clause-moves
change-requires-clause-moves c =
    let s = c.args.self.now in
    record {
      whole = c.make_ready.ensures.buckets.whole;
      ends = record {
        from = found_placed s.kept.facts.items c.id_of-id.result c.find-before.result c.find-before.ensures s.placed;
        to = part_placed RangeKind s.kept.land s.kept.facts.items c.args.note.now c.id_of-id.result c.find-before.result c.part_after-after.result c.requires
            s.kept.held c.id_of-id.ensures c.find-before.ensures c.part_after-after.ensures;
      };
      room = c.in_ok-make_ready.ensures.buckets_room;
    }

pub change-requires-clause-named : goal.change-requires-clause-named
change-requires-clause-named c = put_named RangeKind c.args.self.now.kept.facts.items c.args.note.now c.id_of-id.result c.find-before.result
    c.part_after-after.result c.id_of-id.ensures c.find-before.ensures c.part_after-after.ensures

pub invariant_of-self-2 : goal.invariant_of-self-2
invariant_of-self-2 c =
    let s = c.args.self.now in
    let e = c.make_ready.ensures in
    let id = c.id_of-id.result in
    let before = c.find-before.result in
    let part = c.part_after-after.result in
    let built = has_land s.kept.land _ c.requires in
    let land = c.in_ok-on.ensures.land ∙ e.land in
    let told = c.in_ok-on.ensures.facts ∙ ap (λ (fs : List Fact). noted RangeKind fs c.args.note.now) e.facts in
    let put = ap (with_only id part) e.facts ∙ put_is RangeKind s.kept.land s.kept.facts.items c.args.note.now id before part c.requires s.kept.held
    c.id_of-id.ensures c.find-before.ensures c.part_after-after.ensures ∙ sym told in
    record {
      placed = placed_after s.kept.land c.on.new.self.land _ c.on.new.self.facts.items c.requires land c.on.new.self.held;
      bucketed = noted_buckets RangeKind s.kept.land c.args.note.now id before part s.kept.facts.items c.on.new.self.facts.items s.buckets.items
          c.make_ready.new.buckets.items c.change.new.buckets.items c.requires s.kept.held (s.whole built) c.change.ensures.whole s.bucketed c.id_of-id.ensures
          c.find-before.ensures c.part_after-after.ensures told e.buckets.each c.change.ensures.each;
      whole = λ some. c.change.ensures.whole;
      bare = λ none. still_built s.kept.land c.on.new.self.land built land none;
      seen = λ keeps. kept_along c.make_ready.new.kept.land c.on.new.self.land (with_only id part c.make_ready.new.kept.facts.items) c.on.new.self.facts.items
          c.take_up.new.self c.in_ok-on.ensures.land (sym put) (c.take_up.ensures.kept (sym c.take_up.ensures.keeps ∙ keeps));
    }
