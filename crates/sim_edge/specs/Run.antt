-- What a run has done, by its words and by what the shelf holds, the sink was told and both have counted, before it and after.
use Rattle.sim_top.specs.Headline.{Headline, OfFilm, OfParts, OfRealm, OfStock, PartsTold, TellsLogs, TellsSights, Territories}
use Rattle.sim_top.specs.Reads.{Causes, GaveForWords, HasEnded, IsFaultless, IsFinal, IsReady, IsSilent, IsUnfound, IsUsageTold, KeepsAllBut, LacksMatch}
use Rattle.sim_top.specs.{Outcome.OfSession, Reads.MayEnd, Reads.Meets, Reads.Scene, Words.asked_by, Words.out_of, declared.status.Status.Status}
use Rattle.std.specs.{Io.KnownBytes.Appends, Prelude.IfSome, Prelude.List, Prelude.None, Prelude.Some, Prelude.[], Prelude.ℕ, Prelude.◌≡◌}
use Rattle.{sim_report.specs.Lines.usage_text, sim_store.specs.Held.File, sim_top.specs.Headline.Balances, sim_top.specs.Headline.Film}

-- a run of the words ended so: the clauses of the top call, but those of its rigs
pub record Ran (words : List (List ℕ)) (before now : Scene) (status : Status) : Type 0 where
  -- what was told of a session is what the headline says of its match and its steps
  pub headline : IfSome before.held (λ files. HasEnded status
      → OfSession files (asked_by words) (λ setup list. Headline setup list before.told now.told))
  -- what was told of territories is who holds which ground at the turn that is asked for, and which of it is rooted
  pub territories : IfSome before.held (λ files. HasEnded status
      → OfRealm files (asked_by words) (λ setup turn. Territories setup turn before.told now.told))
  -- what was told of a film is the states after the match's own turns, so many turns apart, and the last
  pub films : IfSome before.held (λ files. HasEnded status → OfFilm files (asked_by words) (λ setup every. Film setup every before.told now.told))
  -- what was told of templates is the parts of each
  pub parts : IfSome before.held (λ files. HasEnded status → OfParts files (asked_by words) (λ setup. PartsTold setup before.told now.told))
  -- what was told of what the players see is what their rows see in the last state, and what was explored on the way to it
  pub sights : IfSome before.held (λ files. HasEnded status → TellsSights files (asked_by words) before now)
  -- what was told of a match that is played by an economy is the state after each turn, without the commands that could not be paid, and
  -- the exact balances
  pub stocks : IfSome before.held (λ files. HasEnded status
      → OfStock files (asked_by words) (λ setup economy. Balances setup economy before.told now.told))
  -- what is stored of a log, of a match or of a session, is its turns with the digests after each; and a log that is checked is said to agree
  -- exactly where each of its digests is that of the state after its own commands
  pub logs : IfSome before.held (λ files. HasEnded status → TellsLogs files (asked_by words) status before now)
  -- the status, the text and the saved file are those of the words, or a fault or want of memory came between
  pub answers : IfSome before.held (λ files. Meets status words files before now)
  -- over good files and without a fault the command comes to its end, or there is no memory
  pub complete : IfSome before.held (λ files. IsReady files (asked_by words) → IsFaultless before now → IsFinal status)
  -- just the bytes of the files that were read were given, each once, also where the last of them is refused
  pub given : (files : List File) → before.held ≡ Some files → GaveForWords files (asked_by words) status before.counts now.counts
  -- a match that is not there is found missing, whatever memory there is
  pub missing : (files : List File) → before.held ≡ Some files → LacksMatch files (asked_by words) → IsUnfound status
  -- which statuses the words may have, whatever is held
  pub statuses : MayEnd (asked_by words) status
  -- words of no command
  pub unasked : asked_by words ≡ None → IsUsageTold usage_text status before.told now.told × (now.counts ≡ before.counts)
  -- some statuses tell nothing
  pub silent : IsSilent status → Appends before.told now.told []
  -- a fault is answered exactly where one was counted
  pub causes : Causes status before now
  -- without OUT no write of a file has failed
  pub unsaved : out_of (asked_by words) ≡ None → now.counts.write_faults ≡ before.counts.write_faults
  -- no file but OUT has changed
  pub others : KeepsAllBut (out_of (asked_by words)) before.held now.held
