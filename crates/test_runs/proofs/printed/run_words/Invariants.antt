use Rattle.{sim_client.specs.StageWords.AreCleared, test_runs.proofs.printed.run_words.OwnLists.own-1}
use Rattle.{sim_system.specs.Meanings.HaveKinds, sim_system.specs.RigWords.systems_by, std.proofs.Common.◌≡◌, std.proofs.Common.length, std.proofs.Common.All}

abbrev pub invariant-loop : Rattle.test_runs.proofs.printed.run_words.Given.invariant-loop
invariant-loop g l =
    record {
      count : length l.rigs.items ≡ l.counter;
      kinds : All (λ r. HaveKinds (systems_by r (λ i v. (own-1.entry i).1.meaning v))) l.rigs.items;
      cleared : All (λ r. AreCleared (systems_by r (λ i v. (own-1.entry i).1.meaning v))) l.rigs.items;
    }
