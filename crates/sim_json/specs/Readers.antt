-- What a reader of a command answers, by what the list spells and by whether it asks for memory.
use Rattle.std.specs.Prelude.{◌≡◌, Bool, IfErr, IfOk, IfSome, Option, Result, true}
use Rattle.sim_base.specs.{Limits.HasFewIds, declared.command.Command.Command, declared.memory.OutOfMemory.OutOfMemory}

-- the command that is spelled, or none, with few ids; memory is refused only where it is asked for
pub record Reads (result : Result (Option Command) OutOfMemory) (spelled : Option Command) (takes : Bool) : Type 0 where
  pub value : IfOk result (λ found. found ≡ spelled)
  pub few : IfOk result (λ found. IfSome found HasFewIds)
  pub memory : IfErr result (λ fault. takes ≡ true)

-- the same without memory
pub record ReadsLight (result : Option Command) (spelled : Option Command) : Type 0 where
  pub value : result ≡ spelled
  pub few : IfSome result HasFewIds
