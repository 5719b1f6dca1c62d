-- Each of the four edits leaves what is kept of the id, and nothing else.
use Rattle.sim_range.proofs.bucket.Bucket.put.Goals as goal
use Rattle.sim_range.proofs.Common.{ap, is_some, nothing_new, put_new, put_nothing, put_over, ◌∙◌}
use Rattle.sim_range.proofs.Watching.{named_inserted, named_over, named_removed, ok_list, only_ascends}

pub returns-in-Ok-Some : goal.returns-in-Ok-Some
returns-in-Ok-Some c = put_over _ c.args.self.now.facts.items c.args.id c.in-Ok-Some.at c.args.part.now _ c.as_slice.ensures.value c.args.self.now.ascending
    c.in-Ok-Some.ensures c.in-Ok-Some.is-1 c.requires.named

pub returns-in-Ok-None : goal.returns-in-Ok-None
returns-in-Ok-None c = c.remove.ensures.items ∙ put_nothing _ c.args.self.now.facts.items c.args.id c.in-Ok-None.at c.args.part.now c.as_slice.ensures.value
    c.args.self.now.ascending c.in-Ok-None.ensures c.in-Ok-None.is-1

pub returns-in-Err-Some : goal.returns-in-Err-Some
returns-in-Err-Some c =
    ok_list _ c.args.self.now.facts.items _ _ (c.insert.ensures.succeeds (c.requires.facts_room (ap is_some c.in-Err-Some.is-1))) c.insert.ensures.items
    ∙ put_new _ c.args.self.now.facts.items c.args.id c.in-Err-Some.at c.args.part.now _ c.as_slice.ensures.value c.in-Err-Some.ensures c.in-Err-Some.is-1
    c.requires.named

pub returns-in-Err-None : goal.returns-in-Err-None
returns-in-Err-None c = nothing_new _ c.args.self.now.facts.items c.args.id c.in-Err-None.field-0-0 c.args.part.now c.as_slice.ensures.value
    c.in-Err-None.ensures c.in-Err-None.is-1

pub invariant_of-self : goal.invariant_of-self
invariant_of-self c =
    let s = c.args.self.now in
    record {
      ascending = only_ascends c.args.id c.args.part.now s.facts.items _ c.requires.named s.ascending
          (put_over _ s.facts.items c.args.id c.in-Ok-Some.at c.args.part.now _ c.as_slice.ensures.value s.ascending c.in-Ok-Some.ensures c.in-Ok-Some.is-1
          c.requires.named);
      named = named_over _ s.facts.items s.ids.items c.args.id c.in-Ok-Some.at c.args.part.now _ c.as_slice.ensures.value c.in-Ok-Some.ensures c.in-Ok-Some.is-1
          c.requires.named s.named;
    }

pub invariant_of-self-in-Ok-None : goal.invariant_of-self-in-Ok-None
invariant_of-self-in-Ok-None c =
    let s = c.args.self.now in
    record {
      ascending = only_ascends c.args.id c.args.part.now s.facts.items _ c.requires.named s.ascending
          (c.remove.ensures.items ∙ put_nothing _ s.facts.items c.args.id c.in-Ok-None.at c.args.part.now c.as_slice.ensures.value s.ascending
          c.in-Ok-None.ensures c.in-Ok-None.is-1);
      named = named_removed s.facts.items _ s.ids.items _ c.in-Ok-None.at s.named c.remove.ensures.items c.remove-in-Ok-None.ensures.items;
    }

pub invariant_of-self-in-Err-Some : goal.invariant_of-self-in-Err-Some
invariant_of-self-in-Err-Some c =
    let s = c.args.self.now in
    let some = ap is_some c.in-Err-Some.is-1 in
    record {
      ascending = only_ascends c.args.id c.args.part.now s.facts.items _ c.requires.named s.ascending
          (ok_list _ s.facts.items _ _ (c.insert.ensures.succeeds (c.requires.facts_room some)) c.insert.ensures.items
          ∙ put_new _ s.facts.items c.args.id c.in-Err-Some.at c.args.part.now _ c.as_slice.ensures.value c.in-Err-Some.ensures c.in-Err-Some.is-1
          c.requires.named);
      named = named_inserted s.facts.items _ s.ids.items _ c.args.id c.in-Err-Some.at c.args.part.now _ _ _ c.in-Err-Some.is-1 c.requires.named s.named
          (c.insert.ensures.succeeds (c.requires.facts_room some))
          (c.insert-in-Err-Some.ensures.succeeds (c.requires.ids_room some)) c.insert.ensures.items c.insert-in-Err-Some.ensures.items;
    }
