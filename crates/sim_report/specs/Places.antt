-- The text of a place at which two states differ.
use Rattle.{hex.specs.Hex.encode_lower, sim_codec.specs.declared.bits.Part.Part, sim_diff.specs.declared.place.Place.Place}
use Rattle.std.specs.Prelude.{ℕ, List, ◌++◌, Some, None, codes, decimal, Option}
use Rattle.sim_codec.specs.declared.bits.Part.TheVariants.{Attack, Clock, Entity, Health, Motion, Owner, Position, Stance}

-- how a part is printed
abbrev pub part_name : Part → List ℕ
part_name Clock = codes "Clock"
part_name Entity = codes "Entity"
part_name Position = codes "Position"
part_name Owner = codes "Owner"
part_name Health = codes "Health"
part_name Motion = codes "Motion"
part_name Attack = codes "Attack"
part_name Stance = codes "Stance"

-- a side, and the bytes that it has in hexadecimal, if it has any
abbrev pub bits_line : List ℕ → Option (List ℕ) → List ℕ
bits_line side None = side ++ codes " absent\n"
bits_line side (Some bytes) = side ++ (codes " " ++ (encode_lower bytes ++ codes "\n"))

-- which part of which entity it is
abbrev pub differ_line : Place → List ℕ
differ_line place = codes "differ entity " ++ (decimal place.entity ++ (codes " part " ++ (part_name place.part ++ codes "\n")))

-- the place, and what both sides have there
abbrev pub place_text : Place → List ℕ
place_text place = differ_line place ++ (bits_line (codes "left") place.left ++ bits_line (codes "right") place.right)
