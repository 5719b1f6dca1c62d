-- After a change whose notes were told, the scene stands.
use Rattle.sim_base.specs.declared.change.Change.TheVariants as change
use Rattle.sim_board.proofs.Common.{applied, AreFed, Change, Err, Fits, fitting_keeps_loose, IsStanding, Ok, OnOk, Result, Setup, State, subst, sym, Systems}
use Rattle.sim_board.{proofs.Common.◌≡◌, specs.Boards.IsNoCreation, specs.Boards.KeepsTarget, specs.Boards.NeedsNoMemory}

module _ (setup : Setup) (state after : State) (c : Change) (s t : Systems) (stands : IsStanding setup state s) (fits : Fits setup state c)
    (fed : AreFed setup (applied setup state c) t) where
  pub stands_by : after ≡ applied setup state c → IsStanding setup after t
  stands_by is = subst (λ (st : State). IsStanding setup st t) (sym is)
      (record { limits = stands.limits; valid = fitting_keeps_loose setup state c stands.limits stands.valid fits; fed = fed })

  pub stands_if : {V E : Type 0} (r : Result V E) → OnOk r (after ≡ applied setup state c) → OnOk r (IsStanding setup after t)
  stands_if (Ok v) is = stands_by is
  stands_if (Err e) is = tt

-- ---- changes that are made without memory, or of which no system is told, make no row

pub makes_none : (c : Change) → NeedsNoMemory c → IsNoCreation c
makes_none (change.Move id p) needs = tt
makes_none (change.Motion id motion) needs = tt
makes_none (change.Attack id aim) needs = tt
makes_none (change.Health id health) needs = tt
makes_none (change.Owner id owner) needs = tt
makes_none (change.Remove id) needs = tt
makes_none (change.Create number p owner) needs = needs
makes_none (change.Word word) needs = tt
makes_none change.Tick needs = tt

pub keeping_makes_none : (state : State) (c : Change) → KeepsTarget state c → IsNoCreation c
keeping_makes_none state (change.Move id p) keeps = tt
keeping_makes_none state (change.Motion id motion) keeps = tt
keeping_makes_none state (change.Attack id aim) keeps = tt
keeping_makes_none state (change.Health id health) keeps = tt
keeping_makes_none state (change.Owner id owner) keeps = tt
keeping_makes_none state (change.Remove id) keeps = tt
keeping_makes_none state (change.Create number p owner) keeps = keeps
keeping_makes_none state (change.Word word) keeps = tt
keeping_makes_none state change.Tick keeps = tt
