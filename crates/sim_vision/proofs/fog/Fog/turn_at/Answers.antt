-- The cells of the row are those that the marks see there.
use Rattle.sim_vision.proofs.{Common.{ap, arith, extent_of, length, refl, ◌≡◌}, Written.{counted, room, same_turned, seen, turned, written_back}}
use Rattle.sim_vision.proofs.fog.Fog.turn_at.Goals as goal

pub turn_row-requires-clause-counted : goal.turn_row-requires-clause-counted
turn_row-requires-clause-counted c =
    counted (extent_of c.args.self.now) c.args.discs.now c.args.crossing.now c.args.owner c.args.z c.start-start.result c.span_of-old.result
    c.span_of-new.result
    (record {
      old_cells = c.span_of-old.ensures.cells;
      new_cells = c.span_of-new.ensures.cells;
      old_inside = c.span_of-old.ensures.within;
      new_inside =
          c.span_of-new.ensures.within;
      owned = c.requires.owner;
      first = c.requires.row.first;
      last = c.requires.row.last;
      row = c.requires.row.row;
    })
    c.start-start.ensures.start c.args.self.now.counts.items c.as_mut_slice.result.now c.as_mut_slice.ensures.value c.requires.can.counted

pub turn_row-requires-clause-old : goal.turn_row-requires-clause-old
turn_row-requires-clause-old c =
    let long = ap length c.as_mut_slice.ensures.value in
    record { within = omega (arith, long, c.start-start.ensures.within, c.span_of-old.ensures.within); ordered = c.span_of-old.ensures.ordered }

pub turn_row-requires-clause-new : goal.turn_row-requires-clause-new
turn_row-requires-clause-new c =
    let long = ap length c.as_mut_slice.ensures.value in
    record { within = omega (arith, long, c.start-start.ensures.within, c.span_of-new.ensures.within); ordered = c.span_of-new.ensures.ordered }

pub turn_row-requires-clause-can : goal.turn_row-requires-clause-can
turn_row-requires-clause-can c = record {
  paired =
      let fog = c.args.self.now in
      let counts = ap length c.as_mut_slice.ensures.value in
      let flags = ap length c.as_mut_slice-2.ensures.value in
      omega (arith, counts, flags, fog.counted, fog.flagged, fog.counts.ok.0, fog.flags.ok.0);
  room =
      room (extent_of c.args.self.now) c.args.discs.now c.args.crossing.now c.args.owner c.args.z c.start-start.result c.span_of-old.result
      c.span_of-new.result
      (record {
        old_cells = c.span_of-old.ensures.cells;
        new_cells = c.span_of-new.ensures.cells;
        old_inside = c.span_of-old.ensures.within;
        new_inside = c.span_of-new.ensures.within;
        owned = c.requires.owner;
        first = c.requires.row.first;
        last = c.requires.row.last;
        row = c.requires.row.row;
      })
      c.start-start.ensures.start c.args.self.now.counts.items c.as_mut_slice.result.now c.as_mut_slice.ensures.value c.requires.can.room;
}

pub turn_row-requires-clause-seen : goal.turn_row-requires-clause-seen
turn_row-requires-clause-seen c =
    seen (extent_of c.args.self.now) c.args.discs.now c.args.crossing.now c.args.owner c.args.z c.start-start.result c.span_of-old.result c.span_of-new.result
    (record {
      old_cells = c.span_of-old.ensures.cells;
      new_cells = c.span_of-new.ensures.cells;
      old_inside = c.span_of-old.ensures.within;
      new_inside =
          c.span_of-new.ensures.within;
      owned = c.requires.owner;
      first = c.requires.row.first;
      last = c.requires.row.last;
      row = c.requires.row.row;
    })
    c.start-start.ensures.start c.args.self.now.flags.items c.as_mut_slice-2.result.now c.as_mut_slice-2.ensures.value c.requires.can.seen

pub returns : goal.returns
returns c =
    let fog = c.args.self.now in
    let counts_long : length c.turn_row.new.counts ≡ fog.counts.len = omega
    (arith, c.turn_row.auto.counts, ap length c.as_mut_slice.ensures.value, fog.counts.ok.0) in
    let flags_long : length c.turn_row.new.flags ≡ fog.flags.len = omega
    (arith, c.turn_row.auto.flags, ap length c.as_mut_slice-2.ensures.value, fog.flags.ok.0) in
    let is = turned (extent_of c.args.self.now) c.args.discs.now c.args.crossing.now c.args.owner c.args.z c.start-start.result c.span_of-old.result
    c.span_of-new.result
    (record {
      old_cells = c.span_of-old.ensures.cells;
      new_cells = c.span_of-new.ensures.cells;
      old_inside = c.span_of-old.ensures.within;
      new_inside =
          c.span_of-new.ensures.within;
      owned = c.requires.owner;
      first = c.requires.row.first;
      last = c.requires.row.last;
      row = c.requires.row.row;
    })
    c.start-start.ensures.start fog.counts.items c.turn_row.new.counts c.as_mut_slice.result.now fog.flags.items c.turn_row.new.flags
    c.as_mut_slice-2.result.now
    c.as_mut_slice.ensures.value c.as_mut_slice-2.ensures.value c.turn_row.ensures in
    record {
      extent = refl;
      turned = same_turned (extent_of fog) c.args.discs.now c.args.crossing.now c.args.z fog.counts.items _ c.turn_row.new.counts fog.flags.items _
          c.turn_row.new.flags
          (written_back c.turn_row.new.counts fog.counts.items fog.counts.len counts_long)
          (written_back c.turn_row.new.flags fog.flags.items fog.flags.len flags_long) is;
    }
