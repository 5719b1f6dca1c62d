use Rattle.sim_search.{proofs.Common.known, proofs.Common.◌≡◌, proofs.Rows.AreSet, specs.Rows.size_by}

abbrev pub invariant-loop-place : Rattle.sim_search.proofs.landmarks.Landmarks.set.Given.invariant-loop-place
invariant-loop-place l = record {
  size : size_by l.self ≡ size_by l.fn.self;
  rows : AreSet l.which l.fn.self.items.items l.self.items.items (known l.costs) l.place;
}
