-- What is kept of a state that was digested.
use Rattle.sim_base.specs.{Spelling.digest, Spelling.quick, declared.setup.Setup.Setup, declared.state.State.State}
use Rattle.{sim_client.specs.declared.digests.Both.Both, std.specs.Prelude.◌≡◌}

-- these are the whole digest of a state and the quick one
pub record AreDigests (setup : Setup) (state : State) (both : Both) : Type 0 where
  pub whole : both.whole ≡ digest setup state
  pub quick : both.quick ≡ quick state
