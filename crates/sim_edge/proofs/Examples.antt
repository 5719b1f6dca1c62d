-- A literal of the code, as the pages give it.
use Rattle.{sim_edge.specs.declared.again.TheConstants.TRIES, std.proofs.Common.◌≡◌, std.proofs.Common.refl}

a_thousand_tries : TRIES ≡ 1000
a_thousand_tries = refl
