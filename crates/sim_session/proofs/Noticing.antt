-- The events of the start have no notice.
use Rattle.sim_base.specs.declared.step.Event.TheVariants as event
use Rattle.sim_session.proofs.TextCommon.{[], Event, events_after, List, map, opened, refl, up_to, ℕ, ◌++◌, ◌∙◌, ◌∷◌, ◌≡◌}
use Rattle.{sim_plain_session.proofs.Arrived.notices_are_of_arrivals, sim_plain_session.specs.Sessions.notices_in, sim_session.specs.Laws.NoticesAreOfReports}

starts_have_none : (g : List ℕ) (cs : List ℕ) (rest : List Event) → notices_in (map (λ c. event.Start c g) cs ++ rest) ≡ notices_in rest
starts_have_none g [] rest = refl
starts_have_none g (c ∷ cs) rest = starts_have_none g cs rest

pub notices_are_of_reports : NoticesAreOfReports
notices_are_of_reports setup list =
    starts_have_none _ (up_to list.clients) (events_after setup (opened setup list.clients) list.steps) ∙ notices_are_of_arrivals setup list.clients list.steps
