-- What the sink was told of the parts of templates.
use Rattle.sim_top.proofs.Common.{match_in, Meets, OfParts, Outcome, parts_text, PartsTold, printed, Scene, Setup, Status, subst, Then, to_parts}
use Rattle.sim_top.proofs.Common.{◌≡◌, ℕ, List, IfOk, Some, Ok, Err, Option, Result, Appends, Asked, asked_by, Differs, Done, File, HasEnded, IsOutcomeOf}

-- the text of an outcome
of_outcome : (files : List File) (asked : Option Asked) (wanted : Outcome) (told told' : Option (List ℕ)) → IsOutcomeOf files asked wanted
    → Appends told told' wanted.text → OfParts files asked (λ setup. PartsTold setup told told')
of_outcome files (Some (to_parts game)) wanted told told' is text = by (match_in files game) is
  where
    by : (r : Result Setup Outcome) → Then r (λ setup wanted. wanted ≡ printed Done (parts_text setup.templates)) wanted
        → IfOk r (λ setup. PartsTold setup told told')
    by (Ok setup) is = subst (λ (o : Outcome). Appends told told' o.text) is text
    by (Err ended) is = tt
of_outcome files other wanted told told' is text = tt

-- a run that came to its end told the text of an outcome
pub parts_told : (status : Status) (words : List (List ℕ)) (files : List File) (before now : Scene) → Meets status words files before now
    → HasEnded status → OfParts files (asked_by words) (λ setup. PartsTold setup before.told now.told)
parts_told Done words files before now (wanted, is, status, done) ended =
    of_outcome files (asked_by words) wanted before.told now.told is done.text
parts_told Differs words files before now (wanted, is, status, done) ended =
    of_outcome files (asked_by words) wanted before.told now.told is done.text
parts_told other words files before now h ended = absurd ended
