-- The words that the proofs here name again and again, passed on from one place. Declares nothing.
pub use Rattle.sim_pipes.specs.Common.{Arrival, Cut, DownOf, Heard, IsDownFrame, IsSilent, IsSmallServer, IsUpFrame, notice_in, PostOf, posts, Rules, server_of}
pub use Rattle.sim_pipes.specs.{Common.{UpOf, View}, Pipes.{AreFrames, Conveys, Held, pipe_in, Sends}, Posts.{notice_events, told_to}}
pub use Rattle.{sim_wire.specs.Memory.raw, std.proofs.Common.{All, ap, append-nil, append_assoc, arith, Bool, Err, false, get_or, if◌then◌else◌, inl, inr}}
pub use Rattle.std.proofs.Common.{length, List, map, Ok, refl, Result, subst, suc, sym, take, true, zero, ℕ, [], ◌++◌, ◌+◌, ◌<◌, ◌∙◌, ◌∷◌, ◌≡◌, ◌≤◌, ◌⊎◌}
pub use Rattle.std.{proofs.lemmas.{Bool.{cases_eq, cond-false, cond-true, eq-eqb, ne_eqb}, List.take_more}, specs.Prelude.{filter_map, OnOk}}
