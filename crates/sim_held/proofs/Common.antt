-- The words that the proofs here name again and again, passed on from one place. Declares nothing.
pub use Rattle.{sim_client.specs.Lives.{Act, hears, Life, Off, On, orders, plays}, sim_held.specs.Clients.{frames_of, Goes, IsStage, life_at, Steps, Takes}}
pub use Rattle.{sim_pipes.specs.Posts.told_to, sim_plain.specs.declared.message.{DownOf.DownOf, PostOf.PostOf}}
pub use Rattle.sim_wire.specs.Reading.{down_frame, IsSmallDown, IsSmallUp, up_frame}
pub use Rattle.std.proofs.Common.{All, ap, append-nil, append_assoc, arith, Bool, drop, Err, false, filter, get_or, if◌then◌else◌, inl, inr, length, List, map}
pub use Rattle.std.proofs.Common.{None, not, Ok, Option, refl, Result, rules, Some, subst, suc, sym, take, true, zero, ℕ, [], ◌++◌, ◌+◌, ◌<◌, ◌∙◌, ◌∷◌, ◌≡◌}
pub use Rattle.std.proofs.{Common.{◌≤◌, ◌⊎◌}, lemmas.{Bool.{cases_eq, cond-false, cond-true, eq-eqb, ne_eqb}, Grind.flat_map-append, List.Concat.flat_map-cons}}
pub use Rattle.std.{proofs.lemmas.List.{Elements.{All-cons, All-head, All-nil, All-tail}, take_all, take_more}, specs.{List.flat_map, Prelude.OnOk}}
