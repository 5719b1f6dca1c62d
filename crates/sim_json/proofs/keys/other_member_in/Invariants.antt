use Rattle.{serde_json.specs.View.members_view, sim_json.specs.Keys.other_member, sim_json.specs.Keys.texts_of, std.proofs.Common.◌≡◌}

abbrev pub invariant-loop-key : Rattle.sim_json.proofs.keys.other_member_in.Given.invariant-loop-key
invariant-loop-key l = other_member (texts_of l.keys) (members_view l.fn.members.entries) ≡ other_member (texts_of l.keys) (members_view l.key-iterator)
