-- What is asked for, where it is a trial, is within a trial's limits; and a film goes on by a turn at least.
use Rattle.std.specs.Prelude.{◌≡◌, ◌≤◌, IfSome, Option, option_map}
use Rattle.sim_top.specs.{Common.IsTrial, Words.Asked, Words.asked, Words.to_film, Words.to_try, declared.words.Request.Request}

-- the numbers of a trial are within their limits, and so is that of a film
abbrev pub CanBeTried : Asked → Type 0
CanBeTried (to_try seed units turns) = IsTrial seed units turns
CanBeTried (to_film game every) = 1 ≤ every
CanBeTried other = Unit {0}

-- what words ask for is just this, if anything, and it can be tried
pub record AsksFor (wanted : Option Asked) (found : Option Request) : Type 0 where
  pub same : option_map asked found ≡ wanted
  pub trial : IfSome found (λ request. CanBeTried (asked request))
