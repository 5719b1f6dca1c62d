-- Names: words of 1 to 64 bytes of printed ASCII.
use Rattle.std.specs.{List.list_all, Prelude.ℕ, Prelude.Bool, Prelude.◌&&◌, Prelude.List, Prelude.length, Prelude.nat_le}

-- printed, and no space
abbrev pub is_name_byte : ℕ → Bool
is_name_byte byte = nat_le 0x21 byte && nat_le byte 0x7E

-- 1 to 64 such bytes
abbrev pub is_name : List ℕ → Bool
is_name bytes = nat_le 1 (length bytes) && nat_le (length bytes) 64 && list_all is_name_byte bytes
