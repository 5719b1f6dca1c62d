-- What a range is to its callers beside its meaning.
use Rattle.{sim_range.specs.declared.range.Range.Range, std.specs.Prelude.Bool}

-- whether it keeps whom each entity sees
abbrev pub keeps : Range → Bool
keeps range = range.sights.keeps
