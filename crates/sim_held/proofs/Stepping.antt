-- What a step of a client comes to, in the words of its callers.
use Rattle.sim_held.specs.declared.stage.Went.TheVariants as went
use Rattle.sim_held.proofs.Common.{[], Act, Err, Goes, Life, List, None, Off, Ok, OnOk, Option, Result, Some, Steps, subst, sym, Takes, ℕ, ◌∙◌, ◌≡◌}
use Rattle.std.specs.Prelude.{OnErr}
use Rattle.{sim_base.specs.declared.memory.OutOfMemory.OutOfMemory, sim_held.specs.Clients.Heeds, sim_held.specs.declared.stage.Went.Went}

-- a call that was refused memory is cut off
pub goes_steps : (act : Option Act) (old mid new : Life) (out out1 out2 : List ℕ) (came result : Result Went OutOfMemory)
    → Goes act old out came mid out1 → result ≡ came → OnOk came ((new ≡ mid) × (out2 ≡ out1)) → OnErr came ((new ≡ Off) × (out2 ≡ []))
    → Steps act old out result new out2
goes_steps act old mid new out out1 out2 came result goes same ok err =
    subst (λ r. Steps act old out r new out2) (sym same) (by act came goes ok err)
  where
    by : (act : Option Act) (came : Result Went OutOfMemory) → Goes act old out came mid out1 → OnOk came ((new ≡ mid) × (out2 ≡ out1))
        → OnErr came ((new ≡ Off) × (out2 ≡ [])) → Steps act old out came new out2
    by None (Ok went.Refused) h ok err = absurd h
    by None (Ok went.Idle) h ok err = (ok.0 ∙ h.0, ok.1 ∙ h.1)
    by None (Ok went.Done) h ok err = absurd h
    by None (Err e) h ok err = err
    by (Some a) (Ok went.Refused) h ok err = absurd h
    by (Some a) (Ok went.Idle) h ok err = absurd h
    by (Some a) (Ok went.Done) h ok err = (ok.0 ∙ h.0, ok.1 ∙ h.1)
    by (Some a) (Err e) h ok err = err

-- the same of a call with bytes
pub heeds_takes : (act : Option (Option Act)) (old mid new : Life) (out out1 out2 : List ℕ) (came result : Result Went OutOfMemory)
    → Heeds act old out came mid out1 → result ≡ came → OnOk came ((new ≡ mid) × (out2 ≡ out1)) → OnErr came ((new ≡ Off) × (out2 ≡ []))
    → Takes act old out result new out2
heeds_takes (Some act) old mid new out out1 out2 came result heeds same ok err = goes_steps act old mid new out out1 out2 came result heeds same ok err
heeds_takes None old mid new out out1 out2 came result heeds same ok err = subst (λ r. Takes None old out r new out2) (sym same) (by came heeds ok err)
  where
    by : (came : Result Went OutOfMemory) → Heeds None old out came mid out1 → OnOk came ((new ≡ mid) × (out2 ≡ out1))
        → OnErr came ((new ≡ Off) × (out2 ≡ [])) → Takes None old out came new out2
    by (Ok went.Refused) h ok err = (ok.0 ∙ h.0, ok.1 ∙ h.1)
    by (Ok went.Idle) h ok err = absurd h
    by (Ok went.Done) h ok err = absurd h
    by (Err e) h ok err = err
