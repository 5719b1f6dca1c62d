use Rattle.{sim_client.specs.StageWords.AreCleared, simcore.proofs.talk_words.OwnLists.own-1}
use Rattle.{sim_system.specs.Meanings.HaveKinds, sim_system.specs.RigWords.systems_by, std.proofs.Common.◌≡◌, std.proofs.Common.length, std.proofs.Common.All}

abbrev pub invariant-loop : Rattle.simcore.proofs.talk_words.Given.invariant-loop
invariant-loop l =
    record {
      count : length l.rigs.items ≡ l.counter;
      kinds : All (λ r. HaveKinds (systems_by r (λ i v. (own-1.entry i).1.meaning v))) l.rigs.items;
      cleared : All (λ r. AreCleared (systems_by r (λ i v. (own-1.entry i).1.meaning v))) l.rigs.items;
    }
