-- The bytes that were read and not heard yet.
use Rattle.{sim_talk.specs.declared.ahead.Ahead.Ahead, std.specs.Prelude.ℕ, std.specs.Prelude.List, std.specs.Prelude.drop}

-- those from the place on to which hearing has come
abbrev pub bytes_ahead : Ahead → List ℕ
bytes_ahead ahead = drop ahead.at ahead.bytes.items
