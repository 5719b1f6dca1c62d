-- The bytes that were told and not written yet.
use Rattle.{sim_talk.specs.declared.kept.Kept.Kept, std.specs.Prelude.ℕ, std.specs.Prelude.List}

abbrev pub bytes_kept : Kept → List ℕ
bytes_kept kept = kept.bytes.items
