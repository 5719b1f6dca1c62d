-- What becomes of a state in each phase of a turn.
use Rattle.sim_base.specs.{Turn.aimed, Turn.gone, Turn.hit, Turn.moved, declared.setup.Setup.Setup, declared.state.State.State}
use Rattle.sim_turn.specs.declared.phase.Phase.{Phase, TheVariants.Aim, TheVariants.Hit, TheVariants.Leave, TheVariants.Walk}

-- fighters choose their targets, rows move, fighters hit, or those without health leave
abbrev pub phased : Phase → Setup → State → State
phased Aim setup state = aimed setup state
phased Walk setup state = moved setup state
phased Hit setup state = hit setup state
phased Leave setup state = gone state
