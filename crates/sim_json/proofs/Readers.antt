-- What is known where a reader answers a value: each step of it has answered one.
use Rattle.sim_json.specs.{Commands.next_or, Values.if_within, Values.natural, Values.natural_at, Values.natural_in}
use Rattle.std.proofs.Common.{Bool, false, if◌then◌else◌, List, nat_le, None, Option, option_and_then, option_map, refl, Some, subst, true, ℕ, ◌&&◌, ◌≡◌, ◌≤◌}
use Rattle.{serde_json.specs.Data.Data, serde_json.specs.Find.get, std.proofs.lemmas.Bool.and_parts, std.proofs.lemmas.Bool.leb-true}

pub next_some : {X Y : Type 0} (o : Option X) (next : X → Option Y) (y : Y) → next_or o None next ≡ Some y → (x : X) × (o ≡ Some x) × (next x ≡ Some y)
next_some None next y e = absurd cc
next_some (Some x) next y e = (x, refl, e)

pub and_then_some : {X Y : Type 0} (o : Option X) (next : X → Option Y) (y : Y) → option_and_then next o ≡ Some y → (x : X) × (o ≡ Some x) × (next x ≡ Some y)
and_then_some None next y e = absurd cc
and_then_some (Some x) next y e = (x, refl, e)

pub map_some : {X Y : Type 0} (o : Option X) (f : X → Y) (y : Y) → option_map f o ≡ Some y → (x : X) × (o ≡ Some x) × (f x ≡ y)
map_some None f y e = absurd cc
map_some (Some x) f y e = (x, refl, cc)

-- a value that is kept where a test holds
pub if_some : {X : Type 0} (b : Bool) (x y : X) → (if b then Some x else None) ≡ Some y → (b ≡ true) × (x ≡ y)
if_some true x y e = (refl, cc)
if_some false x y e = absurd cc

-- a reader that goes on where a test holds, or where it does not
pub then_some : {X : Type 0} (b : Bool) (o : Option X) (y : X) → (if b then o else None) ≡ Some y → (b ≡ true) × (o ≡ Some y)
then_some true o y e = (refl, e)
then_some false o y e = absurd cc

pub else_some : {X : Type 0} (b : Bool) (o : Option X) (y : X) → (if b then None else o) ≡ Some y → (b ≡ false) × (o ≡ Some y)
else_some true o y e = absurd cc
else_some false o y e = (refl, e)

pub natural_in-within : (low high : ℕ) (d : Data) (n : ℕ) → natural_in low high d ≡ Some n → (low ≤ n) × (n ≤ high)
natural_in-within low high d n e =
    let read = and_then_some (natural d) (if_within low high) n e in
    let kept = if_some (nat_le low read.0 && nat_le read.0 high) read.0 n read.2 in
    let tests = and_parts (nat_le low read.0) (nat_le read.0 high) kept.0 in
    subst (λ m. (low ≤ m) × (m ≤ high)) kept.1 (leb-true low read.0 tests.0, leb-true read.0 high tests.1)

pub natural_at-within : (low high : ℕ) (key : List ℕ) (d : Data) (n : ℕ) → natural_at low high key d ≡ Some n → (low ≤ n) × (n ≤ high)
natural_at-within low high key d n e =
    let found = and_then_some (get key d) (natural_in low high) n e in
    natural_in-within low high found.0 n found.2
