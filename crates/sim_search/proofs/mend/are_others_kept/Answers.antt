-- Without a rim there is nothing to join.
use Rattle.{sim_search.{proofs.{Added.none_listed, Common.{inl, inr}}, specs.Floods.{IsNotFirst, label_in}}, std.proofs.lemmas.List.Elements.All-contains}

pub returns-then-is_empty : Rattle.sim_search.proofs.mend.are_others_kept.Goals.returns-then-is_empty
returns-then-is_empty c = λ _. record {
  joined = λ a b h k. absurd (none_listed c.args.rim.now c.is_empty.result c.is_empty.ensures c.if-is_empty.true a h);
  first = inr (none_listed c.args.rim.now c.is_empty.result c.is_empty.ensures c.if-is_empty.true);
}

pub returns : Rattle.sim_search.proofs.mend.are_others_kept.Goals.returns
returns c = λ e. record {
  joined = c.are_joined.ensures e;
  first = inl (λ v h. All-contains (IsNotFirst c.args.grid.now.size (label_in c.args.labels.now)) c.args.cells.now v
      (c.is_none_first.ensures c.if-not-is_none_first.false) h);
}
