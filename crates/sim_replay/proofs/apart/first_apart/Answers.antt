-- What the definition finds is the first place at which the lists differ.
use Rattle.sim_replay.proofs.Aparts.{first_is, none_apart, none_within}
use Rattle.sim_replay.proofs.Common.{◌≡◌, ℕ, List, IfSome, Some, None, Option, Apart, first_apart, IsFirstApart, sym, ◌∙◌}
use Rattle.sim_replay.proofs.apart.first_apart.Goals as goal

some_is : (told played : List (List ℕ)) (r : Option Apart) → r ≡ first_apart told played → IfSome r (IsFirstApart told played)
some_is told played None e = tt
some_is told played (Some apart) e = first_is told played apart (sym e)

pub returns-clause-none : goal.returns-clause-none
returns-clause-none c = λ none. none_within _ _ (sym c.search.ensures ∙ none)

pub returns-clause-same : goal.returns-clause-same
returns-clause-same c = λ long none. none_apart _ _ long (sym c.search.ensures ∙ none)

pub returns-clause-some : goal.returns-clause-some
returns-clause-some c = some_is _ _ _ c.search.ensures
