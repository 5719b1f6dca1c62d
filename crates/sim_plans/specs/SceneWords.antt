-- When a scene stands.
use Rattle.{sim_base.specs.{declared.{setup.Setup.Setup, state.State.State}, Limits.{IsLooselyValid, IsSetup}}, sim_plans.specs.declared.scene.Scene.Scene}
use Rattle.sim_system.specs.{declared.system.System.Ghosts, Meanings.{AreFed, Systems}, RigWords.systems_of}

-- the setup is within its limits, the state loosely valid, and the systems were told of it
pub record IsStanding (setup : Setup) (state : State) (s : Systems) : Type 0 where
  pub limits : IsSetup setup
  pub valid : IsLooselyValid setup state
  pub fed : AreFed setup state s

-- so it is with the setup, the state and the systems of a scene
abbrev pub Stands : {X : Type 0} {F : X → Type 0} → Scene X F → ((i : X) → Ghosts (F i)) → Type 0
Stands scene sys = IsStanding scene.setup.now scene.state.now (systems_of scene.rig.now sys)
