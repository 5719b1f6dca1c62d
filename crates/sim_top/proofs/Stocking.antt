-- A match and its economy: the economy could not be read, or the match was played by it.
use Rattle.sim_top.{proofs.Common.to_stock, proofs.Common.TooLong, specs.Words.reads_economy, specs.declared.stop.Stop.TheVariants.NoSuchTurn}
use Rattle.sim_top.proofs.{Returning.stands_read, Returning.whatever_held, Stopping.Stopped-weaker, Stopping.Then-ended, Stopping.Then-read, Stopping.Told-both}
use Rattle.sim_top.proofs.Answering.{both_causes, both_given, both_same, both_told, comes_to, ends, match_there, Opens}
use Rattle.sim_top.proofs.Common.{EconomyRefused, File, Gave, GaveFor, IsAnswerTo, IsMade, IsOfEconomy, IsOutcomeOf, IsReading, IsRefusal, length_read}
use Rattle.sim_top.proofs.Common.{ListRefused, LogRefused, match_in, MatchRefused, MayAnswer, NoFile, Outcome, OutOfMemory, paid_state, printed, ReadFault}
use Rattle.sim_top.proofs.Common.{reads_file, Setup, Shelved, SightRefused, StandForPaid, StateRefused, status_of, stock_text, Stop, Stopped, Systems, Then}
use Rattle.sim_top.proofs.Common.{◌≡◌, ℕ, List, IfSome, OnOk, IsTrue, Some, Ok, Err, Result, refl, Answer, AreFed, Asked, Counts, Economy, economy_in}
use Rattle.sim_top.specs.declared.status.Status.TheVariants as status

may_economy : (asked : Asked) (stop : Stop) → IsTrue (reads_file asked) → IsTrue (reads_economy asked) → IsOfEconomy stop → MayAnswer asked (status_of stop)
may_economy asked ReadFault reads pays of = reads
may_economy asked TooLong reads pays of = reads
may_economy asked NoFile reads pays of = reads
may_economy asked OutOfMemory reads pays of = tt
may_economy asked (MatchRefused code index) reads pays of = absurd of
may_economy asked (StateRefused code name) reads pays of = absurd of
may_economy asked (ListRefused index) reads pays of = absurd of
may_economy asked (NoSuchTurn turn turns) reads pays of = absurd of
may_economy asked (SightRefused code) reads pays of = absurd of
may_economy asked (LogRefused line) reads pays of = absurd of
may_economy asked (EconomyRefused index) reads pays of = pays

gave_economy : (files : List File) (asked : Asked) (stop : Stop) (old new : Counts) → IsOfEconomy stop
    → (IsRefusal stop → Gave (length_read files asked) old new) → GaveFor files asked (status_of stop) old new
gave_economy files asked ReadFault old new of h = tt
gave_economy files asked TooLong old new of h = tt
gave_economy files asked NoFile old new of h = tt
gave_economy files asked OutOfMemory old new of h = tt
gave_economy files asked (MatchRefused code index) old new of h = absurd of
gave_economy files asked (StateRefused code name) old new of h = absurd of
gave_economy files asked (ListRefused index) old new of h = absurd of
gave_economy files asked (NoSuchTurn turn turns) old new of h = absurd of
gave_economy files asked (SightRefused code) old new of h = absurd of
gave_economy files asked (LogRefused line) old new of h = absurd of
gave_economy files asked (EconomyRefused index) old new of h = h tt

module _ (game name : List ℕ) where
  -- what comes of the economy
  abbrev paid : Setup → Economy → Outcome → Type 0
  paid setup economy wanted = wanted ≡ printed status.Done (stock_text setup economy)

  abbrev with_economy : List File → Setup → Outcome → Type 0
  with_economy files setup wanted = Then (economy_in files name setup) (paid setup) wanted

  pub stock_opens : Opens (to_stock game name) game (λ files. match_in files game)
  stock_opens = record {
    fails = λ files o e. Then-ended (match_in files game) (with_economy files) o e;
    first = λ files. refl;
    lacks = λ files h. h;
    reads = refl;
    has = refl;
  }

  module _ (setup : Setup) (before middle now : Shelved) (one : IsReading game (Ok setup) before middle)
      (told : IfSome before.held (λ files. match_in files game ≡ Ok setup)) where
    -- the economy could not be read
    pub economy_ends : (stop : Stop) → IsOfEconomy stop → IsReading {X = Economy} name (Err stop) middle now
        → IfSome middle.held (λ files. Stopped stop (λ ended. economy_in files name setup ≡ Err ended)) → IsAnswerTo (to_stock game name) (Err stop) before now
    economy_ends stop of two read =
        ends (to_stock game name) stop before now
        (Told-both (λ files. match_in files game ≡ Ok setup) (λ files. Stopped stop (λ ended. economy_in files name setup ≡ Err ended))
        (λ files. Stopped stop (IsOutcomeOf files (Some (to_stock game name)))) before.held
        (λ files e h. Stopped-weaker stop (λ ended. economy_in files name setup ≡ Err ended) (IsOutcomeOf files (Some (to_stock game name)))
        (λ o ended. Then-read (match_in files game) setup (with_economy files) o e (Then-ended (economy_in files name setup) (paid setup) o ended)) h)
        told (both_told game name setup (Err stop) before middle now one two (λ files. Stopped stop (λ ended. economy_in files name setup ≡ Err ended)) read))
        (may_economy (to_stock game name) stop refl refl of)
        (both_causes game name setup (Err stop) before middle now one two)
        (λ files e lacks. absurd (match_there (to_stock game name) game (λ files. match_in files game) setup before middle stock_opens one files e lacks))
        (λ files e. gave_economy files (to_stock game name) stop before.counts now.counts of
        (both_given game name setup (Err stop) before middle now one two files e))
        (both_same game name setup (Err stop) before middle now one two)

    -- it was read, and the match is played by it
    pub economy_goes_on : (economy : Economy) (made : Result Answer Stop) → IsReading name (Ok economy) middle now
        → IfSome middle.held (λ files. economy_in files name setup ≡ Ok economy)
        → IsMade (printed status.Done (stock_text setup economy)) made → IsAnswerTo (to_stock game name) made before now
    economy_goes_on economy made two read m =
        comes_to (to_stock game name) (printed status.Done (stock_text setup economy)) made before now m (record { status = tt; done = tt; file = tt })
        (Told-both (λ files. match_in files game ≡ Ok setup) (λ files. economy_in files name setup ≡ Ok economy)
        (λ files. IsOutcomeOf files (Some (to_stock game name)) (printed status.Done (stock_text setup economy))) before.held
        (λ files e s. Then-read (match_in files game) setup (with_economy files) (printed status.Done (stock_text setup economy)) e
        (Then-read (economy_in files name setup) economy (paid setup) (printed status.Done (stock_text setup economy)) s refl))
        told (both_told game name setup (Ok economy) before middle now one two (λ files. economy_in files name setup ≡ Ok economy) read))
        (match_there (to_stock game name) game (λ files. match_in files game) setup before middle stock_opens one)
        (both_causes game name setup (Ok economy) before middle now one two)
        (both_given game name setup (Ok economy) before middle now one two)
        (both_same game name setup (Ok economy) before middle now one two)

    -- and the systems of its rig stand for the last paid turn
    pub paid_stands : (economy : Economy) (made : Result Answer Stop) (t : Systems) → IsReading name (Ok economy) middle now
        → IfSome middle.held (λ files. economy_in files name setup ≡ Ok economy) → OnOk made (AreFed setup (paid_state setup economy setup.turns) t)
        → IfSome before.held (λ files. OnOk made (StandForPaid files name setup t))
    paid_stands economy made t two read fed =
        stands_read before.held (λ files. economy_in files name setup) economy made
        (λ (files : List File) (economy : Economy). AreFed setup (paid_state setup economy setup.turns) t)
        (both_told game name setup (Ok economy) before middle now one two (λ files. economy_in files name setup ≡ Ok economy) read)
        (whatever_held before.held _ fed)
