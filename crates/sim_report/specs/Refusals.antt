-- The lines that say why something is refused.
use Rattle.std.specs.Prelude.{ℕ, List, ◌++◌, codes, decimal}
use Rattle.sim_report.specs.declared.refusal.Refusal.{Refusal}
use Rattle.sim_report.specs.declared.refusal.Refusal.TheVariants.{List as OfList, Economy, Log, Match, Sight, Stored, Turn}

-- a stored state, for a code, in the file of a name
abbrev pub stored_text : ℕ → List ℕ → List ℕ
stored_text code name = codes "state refused " ++ (decimal code ++ (codes " " ++ (name ++ codes "\n")))

-- what is refused, why, and where
abbrev pub refusal_text : Refusal → List ℕ
refusal_text (Match code index) = codes "match refused " ++ (decimal code ++ (codes " " ++ (decimal index ++ codes "\n")))
refusal_text (Stored code name) = stored_text code name.now
refusal_text (OfList index) = codes "list refused " ++ (decimal index ++ codes "\n")
refusal_text (Turn asked turns) = codes "no turn " ++ (decimal asked ++ (codes " of " ++ (decimal turns ++ codes "\n")))
refusal_text (Sight code) = codes "sight refused " ++ (decimal code ++ codes "\n")
refusal_text (Log line) = codes "log refused " ++ (decimal line ++ codes "\n")
refusal_text (Economy index) = codes "economy refused " ++ (decimal index ++ codes "\n")
