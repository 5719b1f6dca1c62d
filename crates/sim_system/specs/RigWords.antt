-- The meanings of the systems of a rig. A clause passes ⟦<dyn System as System>⟧ for `sys`.
use Rattle.sim_system.specs.{Meanings.four, Meanings.Meaning, Meanings.Systems, declared.rig.Rig.Rig, declared.system.System.Ghosts}

-- the meanings of its four systems
abbrev pub systems_by : {X : Type 0} {F : X → Type 0} → Rig X F → ((i : X) → F i → Meaning) → Systems
systems_by rig meaning =
    four (meaning rig.ground.vtable rig.ground.value) (meaning rig.range.vtable rig.range.value) (meaning rig.watch.vtable rig.watch.value)
    (meaning rig.census.vtable rig.census.value)

-- the same, as a clause has it
abbrev pub systems_of : {X : Type 0} {F : X → Type 0} → Rig X F → ((i : X) → Ghosts (F i)) → Systems
systems_of rig sys = systems_by rig (λ i v. (sys i).meaning v)
