-- What is kept is over the facts after the note, or over those before it.
use Rattle.sim_ground.proofs.system.Ground.built_on.Goals as goal
use Rattle.sim_ground.proofs.{Common.◌∙◌, Turning.few_to_turn, Turning.kept_same, Turning.kept_turned, Turning.may_turn, Turning.ok_holds}

pub turn-requires-clause-there : goal.turn-requires-clause-there
turn-requires-clause-there c =
    let s = c.args.self.now in
    may_turn s.kept.land s.kept.facts.items s.opened c.in-Some.opened c.args.note.now c.requires s.kept.held c.in-Some.is s.over c.id_of.result
    c.find-before.result c.make_room.new.self.facts.items c.in_ok-make_room.ensures.facts c.find-before.ensures

pub turn-requires-clause-few : goal.turn-requires-clause-few
turn-requires-clause-few c = let s = c.args.self.now in few_to_turn s.kept.land s.kept.facts.items s.opened c.in-Some.opened c.args.note.now c.requires
    s.kept.held c.in-Some.is s.over

pub invariant_of-self-in-Break-branch-2 : goal.invariant_of-self-in-Break-branch-2
invariant_of-self-in-Break-branch-2 c =
    let s = c.args.self.now in
    record {
      over = kept_same s.kept.land s.kept.facts.items s.opened c.in-Some.opened c.args.note.now c.requires s.kept.held c.in-Some.is s.over
          c.make_room.new.self.land c.make_room.new.self.facts.items c.turn.new.self c.in_ok-make_room.ensures.land c.in_ok-make_room.ensures.facts
          c.in_err-turn.ensures.size
          c.in_err-turn.ensures.err;
    }

pub invariant_of-self-2 : goal.invariant_of-self-2
invariant_of-self-2 c =
    let s = c.args.self.now in
    record {
      over = kept_turned s.kept.land s.kept.facts.items s.opened c.in-Some.opened c.args.note.now c.requires s.kept.held c.in-Some.is s.over c.on.new.self.land
          c.make_room.new.self.facts.items c.on.new.self.facts.items c.id_of.result c.find-before.result c.part_after-after.result c.turn.new.self
          (c.on.ensures.land ∙ c.in_ok-make_room.ensures.land) c.in_ok-make_room.ensures.facts c.id_of.ensures c.find-before.ensures c.part_after-after.ensures
          (ok_holds c.on.result _ (c.on.ensures.room c.in_ok-make_room.ensures.room) c.on.ensures.facts) c.in_ok-turn.ensures.size c.in_ok-turn.ensures.ok;
    }
