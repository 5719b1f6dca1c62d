-- The words that the proofs here name again and again, passed on from one place. Declares nothing.
pub use Rattle.{sim_diff.specs.declared.place.Place.Place, sim_play.specs.{Films.digests_after, Lines.resight_text, Realms.TellsRealm}}
pub use Rattle.{sim_replay.specs.{Apart.first_apart, declared.apart.Apart.Apart}, sim_store.specs.Reading.reading_of, sim_system.specs.Meanings.Systems}
pub use Rattle.{sim_territory.specs.Realms.realm_of, sim_top.specs.Commands.{IsAnswerTo, IsReading, MayFinish, Shelved, shelved}}
pub use Rattle.sim_top.specs.Common.{after, Appends, AreFed, Counts, Economy, end_from, File, file_in, film_text, Global, HaveKinds, IsSetup, IsStepList, Log}
pub use Rattle.sim_top.specs.Common.{log_after, match_turns, own_turns, paid_state, parts_text, play_text, raised, refusal_of, refusal_text, resume_text}
pub use Rattle.sim_top.specs.Common.{Schedule, session_of, session_text, Setup, setup_of, SightFault, State, state_after, StateFault, StepList, stock_text}
pub use Rattle.sim_top.specs.{Common.{systems_by, Turn, usage_text, Vision}, declared.commands.{Answer.Answer, Saved.Saved}}
pub use Rattle.sim_top.specs.declared.status.Status.{Status, TheVariants.{Differs, Done, NoSuchTurn, Usage, WriteFault}}
pub use Rattle.sim_top.specs.declared.stop.Stop.{Stop, TheVariants.{EconomyRefused, ListRefused, LogRefused, MatchRefused, NoFile, OutOfMemory, ReadFault}}
pub use Rattle.sim_top.specs.declared.stop.Stop.TheVariants.{SightRefused, StateRefused, TooLong}
pub use Rattle.sim_top.specs.Headline.{Balances, Film, Headline, OfFilm, OfParts, OfRealm, OfStock, PartsTold, TellsLogs, TellsSights, Territories}
pub use Rattle.sim_top.specs.Making.{file_of, IsAnswered, IsFinished, IsMade, IsMadeAs, IsSavedAs, IsSettled, MeetsBefore, outcome_made, status_made, Tells}
pub use Rattle.sim_top.specs.Outcome.{apart_by, bytes_by, check_outcome, compare_by, economy_in, IsHostedBy, IsLogged, IsOutcomeOf, IsRealmOutcome, IsResighted}
pub use Rattle.sim_top.specs.Outcome.{IsSeenFrom, IsStored, log_by, logged_as, map_at, map_by, OfSession, Outcome, printed, RealmAt, rejoin_outcome}
pub use Rattle.sim_top.specs.Outcome.{schedule_in, seen_with, session_match_in, setup_by, sight_outcome, state_by, steps_in, store_outcome, stored_at, Then}
pub use Rattle.sim_top.specs.{Outcome.{ThenLog, ThenStored, trial_outcome, turn_by}, Reads.{Causes, CountsBefore, Gave, GaveFor, GaveForWords, GaveToState}}
pub use Rattle.sim_top.specs.Reads.{HasEnded, HoldsState, IsDone, IsFaultless, IsFinal, IsReady, IsSilent, IsUnfound, LacksFirst, length_in, length_read}
pub use Rattle.sim_top.specs.{Reads.{MayAnswer, MayEnd, Meets, OnlyGave, Scene, scene}, Returning.{IsUnplayed, RigsCameBackBy}}
pub use Rattle.sim_top.specs.Stops.{CausesOf, GaveAll, IsOfContent, IsOfEconomy, IsOfList, IsOfLog, IsOfMap, IsOfMatch, IsOfState, IsRefusal, IsRefused}
pub use Rattle.sim_top.specs.{Stops.{IsState, ReadsState, StandForLog, StandForPaid, StandForStored, status_of, Stopped, used}, Words.{Asked, asked, asked_by}}
pub use Rattle.sim_top.specs.Words.{out_of, reads_file, to_check, to_compare, to_film, to_log, to_parts, to_play, to_realm, to_record, to_rejoin, to_resight}
pub use Rattle.{sim_top.specs.Words.{to_resume, to_serve, to_session, to_show, to_sight, to_stock, to_store, to_try, words_of}, std.proofs.Common.{All, ap}}
pub use Rattle.std.proofs.Common.{arith, Bool, cond, drop, Err, false, IfErr, IfOk, IfSome, inl, inr, IsTrue, length, List, ltb, map, None, Ok, OnOk, Option}
pub use Rattle.std.proofs.Common.{refl, Result, rules, Some, String, string_bytes, subst, suc, sym, take, true, ℕ, [], ◌+◌, ◌<◌, ◌^◌, ◌∙◌, ◌∷◌, ◌≡◌, ◌≤◌, ◌⊎◌}
pub use Rattle.std.{proofs.lemmas.Bool.{cases_lt, cond-false, cond-true, false≢true, le-ltb, lt-ltb}, specs.Prelude.{codes, OnErr, option_map, Vec}}
unfoldable pub use Rattle.sim_top.specs.{Common.difference_of, Outcome.{bytes_in, match_in, trial_match}}
