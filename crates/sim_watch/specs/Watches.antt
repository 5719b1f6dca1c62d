-- What stays of the system while targets change.
use Rattle.{sim_watch.specs.declared.watch.Watch.Watch, std.specs.Prelude.◌≡◌}

-- its land is the same, and it was not built
pub record StaysBuilt (old new : Watch) : Type 0 where
  pub land : new.land ≡ old.land
  pub rebuilds : new.rebuilds ≡ old.rebuilds
