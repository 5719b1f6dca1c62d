-- What is written of the texts that were kept, and what is still kept.
use Rattle.std.proofs.Common.{[], ap, append_assoc, Err, List, Ok, Option, refl, Result, subst, suc, sym, take, ℕ, ◌++◌, ◌∙◌, ◌∷◌, ◌≡◌}
use Rattle.{sim_store.specs.declared.fault.Failed.Failed, sim_talk.proofs.Talking.Appends-trans, sim_talk.specs.LineTalk.SettlesOut}
use Rattle.{sim_talk.specs.LineTalk.TellsOut, std.specs.Io.KnownBytes.Appends, std.specs.Prelude.⊤}

-- all of what is kept with a beginning of a text behind it is a beginning of both
beyond : (part : ℕ) (kept text : List ℕ) → (k : ℕ) × (kept ++ take part text ≡ take k (kept ++ text))
beyond part [] text = (part, refl)
beyond part (b ∷ bs) text = let rest = beyond part bs text in (suc rest.0, ap (λ (l : List ℕ). b ∷ l) rest.1)

-- what was kept is written, and then the text is told
pub told_behind : (result : Result ⊤ Failed) (done : ⊤) (text kept kept' : List ℕ) (a b c : Option (List ℕ)) → SettlesOut (Ok done) kept a b
    → TellsOut result text [] kept' b c → TellsOut result text kept kept' a c
told_behind (Ok told) done text kept kept' a b c was two = (
  kept ++ two.0,
  Appends-trans a b c kept two.0 was two.1,
  ap (λ (l : List ℕ). kept ++ l) two.2 ∙ sym (append_assoc kept two.0 kept'),
)
told_behind (Err failed) done text kept kept' a b c was two =
    let more = beyond two.0 kept text in
    (more.0, subst (Appends a c) more.1 (Appends-trans a b c kept (take two.0 text) was two.1), two.2)
