-- What a digest was told of which the last bytes are still waiting.
use Rattle.{md5.specs.Md5.Holds, sim_bytes.specs.declared.digesting.Digesting.Digesting}
use Rattle.std.specs.Prelude.{◌≡◌, ℕ, List, ◌++◌}

-- the hash holds what was told before the bytes that are waiting
pub record Gathers (digesting : Digesting) (told : List ℕ) : Type 0 where
  pub hashed : List ℕ
  pub holds : Holds digesting.hasher hashed
  pub whole : told ≡ hashed ++ digesting.waiting
