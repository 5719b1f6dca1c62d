use Rattle.sim_path.{proofs.Common.arith, proofs.Remembering.stay_right, proofs.Remembering.with_right, specs.Atlases.ground_in}

pub invariant_of-self : Rattle.sim_path.proofs.remembered.Remembered.keep.Goals.invariant_of-self
invariant_of-self c = record {
  full = c.args.self.now.full;
  right = stay_right (ground_in c.args.self.now.over) c.args.self.now.cells.items c.args.trip.cells.now c.extend_from_slice.new.self.items
      c.args.self.now.places.items _ c.extend_from_slice.ensures.items c.args.self.now.right;
}

pub invariant_of-self-2 : Rattle.sim_path.proofs.remembered.Remembered.keep.Goals.invariant_of-self-2
invariant_of-self-2 c = record {
  full = c.args.self.now.full;
  right = with_right (ground_in c.args.self.now.over) c.args.self.now.cells.items c.args.trip.cells.now c.extend_from_slice.new.self.items
      c.args.self.now.places.items c.place_of.result _ c.in_ok-extend_from_slice.ensures.items c.args.self.now.right
      (omega (arith, c.len-begin.ensures, c.args.self.now.cells.ok.0)) (omega (arith, c.len.ensures, c.extend_from_slice.new.self.ok.0)) c.requires;
}
