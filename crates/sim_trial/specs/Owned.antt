-- The soldiers of one player, counted from 0 among his own.
use Rattle.std.specs.{List.range_with_len, Prelude.ℕ, Prelude.◌+◌, Prelude.◌-◌, Prelude.◌*◌, Prelude.List, Prelude.map}

-- the id of one of them, since every other id is his, from 2 or 3 on
abbrev pub id_at : ℕ → ℕ → ℕ
id_at player place = 2 * place + player + 1

-- the ids of some that follow one another
abbrev pub ids_between : ℕ → ℕ → ℕ → List ℕ
ids_between player from to = map (id_at player) (range_with_len from (to - from))
