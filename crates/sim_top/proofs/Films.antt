-- What the sink was told of a film.
use Rattle.sim_top.proofs.Common.{IsOutcomeOf, match_in, Meets, OfFilm, Outcome, printed, Scene, Setup, Status, subst, Then, to_film}
use Rattle.sim_top.proofs.Common.{◌≡◌, ℕ, List, IfOk, Some, Ok, Err, Option, Result, Appends, Asked, asked_by, Differs, Done, File, Film, film_text, HasEnded}

-- the text of an outcome
of_outcome : (files : List File) (asked : Option Asked) (wanted : Outcome) (told told' : Option (List ℕ)) → IsOutcomeOf files asked wanted
    → Appends told told' wanted.text → OfFilm files asked (λ setup every. Film setup every told told')
of_outcome files (Some (to_film game every)) wanted told told' is text = by (match_in files game) is
  where
    by : (r : Result Setup Outcome) → Then r (λ setup wanted. wanted ≡ printed Done (film_text setup every)) wanted
        → IfOk r (λ setup. Film setup every told told')
    by (Ok setup) is = subst (λ (o : Outcome). Appends told told' o.text) is text
    by (Err ended) is = tt
of_outcome files other wanted told told' is text = tt

-- a run that came to its end told the text of an outcome
pub film_told : (status : Status) (words : List (List ℕ)) (files : List File) (before now : Scene) → Meets status words files before now
    → HasEnded status → OfFilm files (asked_by words) (λ setup every. Film setup every before.told now.told)
film_told Done words files before now (wanted, is, status, done) ended =
    of_outcome files (asked_by words) wanted before.told now.told is done.text
film_told Differs words files before now (wanted, is, status, done) ended =
    of_outcome files (asked_by words) wanted before.told now.told is done.text
film_told other words files before now h ended = absurd ended
