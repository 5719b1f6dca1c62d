-- One rig more has forgotten all.
use Rattle.sim_session.proofs.recording.clear.Goals as goal
use Rattle.sim_session.proofs.{Builds.{cleared_more, kinds_more, next_cleared, unbuilt_more}, TextCommon.{arith, length, length-map, rules, ◌<◌, ◌∙◌}}
use Rattle.{sim_session.specs.Going.rigs_by, sim_system.specs.RigWords.systems_by, std.proofs.{lemmas.List.{drop-set-lt, length-set}, Math.ListN.set}}

pub loop-i-preserved : goal.loop-i-preserved
loop-i-preserved g c =
    let rigs = c.loop-i.rigs.items in
    let i = c.loop-i.i in
    let was = c.loop-i.invariant in
    let before = rigs_by rigs (λ i v. (goal.System-dyn g (i, v)).meaning v) in
    let now = rigs_by (set rigs i c.clear.new.self) (λ i v. (goal.System-dyn g (i, v)).meaning v) in
    let few : i < c.args.count = c.loop-i-test.true in
    let within : i < length rigs = omega (arith, few, was.count, c.requires) in
    let inside : i < length before = omega (arith, within, length-map rigs (λ r. systems_by r (λ i v. (goal.System-dyn g (i, v)).meaning v))) in
    let is = next_cleared (λ r. systems_by r (λ i v. (goal.System-dyn g (i, v)).meaning v)) rigs i c.index_mut.result.now c.clear.new.self
    within c.index_mut.ensures.value c.clear.ensures in
    record {
      cleared = cleared_more i before now inside is was.cleared;
      built = unbuilt_more i before now inside is c.args.count (rigs_by c.args.rigs.now.items (λ i v. (goal.System-dyn g (i, v)).meaning v)) was.built;
      kinds = λ all. kinds_more i before now inside is (was.kinds all);
      spare = drop-set-lt c.args.count rigs i c.clear.new.self few ∙ was.spare;
      count = length-set rigs i c.clear.new.self ∙ was.count;
      room = search rules;
    }
