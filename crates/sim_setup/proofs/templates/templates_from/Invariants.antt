use Rattle.sim_setup.proofs.Common.{◌≡◌, [], map, length, drop, All, IsTemplate, next_template, numbered, origin_of}

abbrev pub invariant-loop-number : Rattle.sim_setup.proofs.templates.templates_from.Given.invariant-loop-number
invariant-loop-number l = record {
  same : numbered (next_template l.library.names l.library.roots) l.found.items (map origin_of (drop l.number l.sources))
      ≡ numbered (next_template l.library.names l.library.roots) [] (map origin_of l.sources);
  count : length l.found.items ≡ l.number;
  limits : All (IsTemplate (length l.sources)) l.found.items;
}
