-- The words of other crates that the files here name again and again, passed on from one place. Declares nothing.
pub use Rattle.sim_base.specs.{declared.{setup.Setup.Setup, state.State.State}, Limits.{file_limit, IsSetup, IsValid}, Spelling.spelling, Turn.after}
pub use Rattle.{sim_base.specs.Turn.{first_state, own_turns}, sim_client.specs.StageWords.AreCleared, sim_codec.specs.declared.fault.StateFault.StateFault}
pub use Rattle.{sim_codec.specs.Loading.StandsFor, sim_lists.specs.declared.{schedule.Schedule.Schedule, step_list.StepList.StepList}}
pub use Rattle.{sim_lists.specs.StepLists.{IsStepList, schedule_of, steps_of}, sim_play.specs.Films.{film_text, last_state, log_after, match_turns}}
pub use Rattle.sim_play.specs.{Films.state_after, Lines.{end_from, play_text, resume_text, trial_line}, Paid.{paid_state, stock_text}}
pub use Rattle.{sim_replay.specs.{declared.log.Log.Log, Logs.{IsLog, text_of_log}}, sim_report.specs.declared.refusal.Refusal.TheVariants.{Match, Sight, Turn}}
pub use Rattle.sim_report.specs.{Lines.{agree_line, apart_lines, logged_line, saved_line, usage_text}, Parts.parts_text, Refusals.{refusal_text, stored_text}}
pub use Rattle.{sim_report.specs.Show.show_text, sim_session.specs.{Going.{rigs_by, rigs_of}, Laws.{AllBuiltAtMost, AllStand, builds_of, session_of}}}
pub use Rattle.{sim_session.specs.{Laws.session_text, Recording.released_turns}, sim_setup.specs.Setups.{session_setup_of, setup_of}}
pub use Rattle.{sim_stock.specs.{declared.economy.Economy.Economy, Economies.{economy_of, IsEconomy}}, sim_store.specs.declared.counts.Counts.Counts}
pub use Rattle.sim_store.specs.{declared.fault.StoreFault.StoreFault, Held.{File, file_in}, Shelf.{after_giving, after_miss, HeldSet, raised}}
pub use Rattle.sim_system.specs.{declared.{rig.Rig.Rig, system.System.Ghosts}, Meanings.{AreBuiltOnceAtMost, AreFed, HaveKinds, Meaning}}
pub use Rattle.{sim_system.specs.RigWords.{systems_by, systems_of}, sim_trial.specs.Trial.IsTrial, sim_vision.specs.declared.fault.SightFault.SightFault}
pub use Rattle.{sim_vision.specs.Vision.{joined_at, refusal_of, Vision}, std.specs.{declared.alloc.Global.Global, Io.KnownBytes.Appends}}
unfoldable pub use Rattle.{sim_base.specs.Spelling.digest, sim_diff.specs.Difference.difference_of}
