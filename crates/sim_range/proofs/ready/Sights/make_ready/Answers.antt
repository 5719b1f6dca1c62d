-- The facts are held on the land, and the ids of the sights stay as they were.
use Rattle.sim_range.proofs.ready.Sights.make_ready.Goals as goal
use Rattle.sim_range.proofs.Common.{Fact, Holds, List, Sight, ap, ids_at, ids_of, length, refl, sight, subst, sym, ◌∙◌}
use Rattle.sim_range.proofs.{Lending.further, Lending.nearer, Lending.same_sights, Watching.in_view, Watching.long_as}

pub invariant_of-crowd : goal.invariant_of-crowd
invariant_of-crowd c = rw c.as_slice-facts.ensures.value (record {
  sorted = record {
    holds = c.args.kept.now.held c.in-Some.land c.in-Some.is;
    placed = c.requires.placed;
    bucketed = c.requires.bucketed;
    whole = c.requires.whole;
  };
})

pub find-requires-clause-parts : goal.find-requires-clause-parts
find-requires-clause-parts c = c.requires.parts c.in-Some.land c.in-Some.is

pub invariant_of-held : goal.invariant_of-held
invariant_of-held c = record {
  holds = subst (Holds c.in-Some.land) (sym c.as_slice-facts.ensures.value) (c.args.kept.now.held c.in-Some.land c.in-Some.is);
}

pub find_own-requires-clause-after : goal.find_own-requires-clause-after
find_own-requires-clause-after c = (c.requires.parts c.in-Some.land c.in-Some.is).to

pub find_own-requires-clause-seen : goal.find_own-requires-clause-seen
find_own-requires-clause-seen c =
    in_view c.in-Some.land c.args.kept.now.facts.items c.as_slice-facts.result.now c.args.before.now c.args.after.now c.find.new.self.seen.items
    c.as_slice-facts.ensures.value c.requires.found c.in_ok-find.ensures.seen

pub make_rooms-requires : goal.make_rooms-requires
make_rooms-requires c = record {
  along = long_as ids_of (sight c.in-Some.land c.args.kept.now.facts.items) c.args.self.now.all.items c.args.kept.now.facts.items
      ((c.requires.kept c.if-not-self.false).all c.in-Some.land c.in-Some.is) ∙ ap (λ (fs : List Fact). length fs) (sym c.as_slice-facts.ensures.value);
}

pub returns-in_err-make_rooms-clause-kept : goal.returns-in_err-make_rooms-clause-kept
returns-in_err-make_rooms-clause-kept c keeps =
    let kept = c.args.kept.now in
    let old = c.requires.kept keeps in
    let made = c.in_err-make_rooms.ensures in
    record {
      all = same_sights kept.land kept.land kept.facts.items kept.facts.items c.args.self.now.all.items c.make_rooms.new.sights.items refl refl made.along
          made.same old.all;
      near = nearer c.args.self.now.visions.near c.widened-self.result.near kept.facts.items c.widened-self.ensures.less old.near;
      far = further c.args.self.now.visions.far c.widened-self.result.far kept.facts.items c.widened-self.ensures.more old.far;
    }

pub returns-in_err-reserve-clause-kept : goal.returns-in_err-reserve-clause-kept
returns-in_err-reserve-clause-kept c keeps =
    let kept = c.args.kept.now in
    let old = c.requires.kept keeps in
    let made = c.in_ok-make_rooms.ensures in
    let is = c.in_err-reserve.ensures.items in
    record {
      all = same_sights kept.land kept.land kept.facts.items kept.facts.items c.args.self.now.all.items c.reserve.new.self.items refl refl
          (ap (λ (ss : List Sight). length ss) is ∙ made.along) (λ k d. ap (λ (ss : List Sight). ids_at ss k d) is ∙ made.same k d) old.all;
      near = nearer c.args.self.now.visions.near c.widened-self.result.near kept.facts.items c.widened-self.ensures.less old.near;
      far = further c.args.self.now.visions.far c.widened-self.result.far kept.facts.items c.widened-self.ensures.more old.far;
    }

pub returns-clause-kept : goal.returns-clause-kept
returns-clause-kept c keeps =
    let kept = c.args.kept.now in
    let old = c.requires.kept keeps in
    let made = c.in_ok-make_rooms.ensures in
    let is = c.in_ok-reserve.ensures.items in
    record {
      all = same_sights kept.land kept.land kept.facts.items kept.facts.items c.args.self.now.all.items c.reserve.new.self.items refl refl
          (ap (λ (ss : List Sight). length ss) is ∙ made.along) (λ k d. ap (λ (ss : List Sight). ids_at ss k d) is ∙ made.same k d) old.all;
      near = nearer c.args.self.now.visions.near c.widened-self.result.near kept.facts.items c.widened-self.ensures.less old.near;
      far = further c.args.self.now.visions.far c.widened-self.result.far kept.facts.items c.widened-self.ensures.more old.far;
    }
