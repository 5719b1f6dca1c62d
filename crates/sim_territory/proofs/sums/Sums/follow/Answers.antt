-- One shift more is followed.
use Rattle.sim_territory.proofs.Following.{shift_fits, shift_followed, shifts_begin, shifts_followed}
use Rattle.sim_territory.proofs.sums.Sums.follow.Goals as goal

pub loop-shift-init : goal.loop-shift-init
loop-shift-init c = shifts_begin c.args.setup.now c.args.shifts.now c.args.self.now

pub shift-requires : goal.shift-requires
shift-requires c = shift_fits c.args.setup.now c.args.shifts.now c.args.self.now c.loop-shift.self c.loop-shift.shift-index _ c.loop-shift-test.true
    c.loop-shift.invariant c.requires

pub loop-shift-preserved : goal.loop-shift-preserved
loop-shift-preserved c =
    shift_followed c.args.setup.now c.args.shifts.now c.args.self.now c.loop-shift.self c.loop-shift.shift-index _ c.loop-shift-test.true c.loop-shift.invariant
    c.shift.new.self c.shift.ensures

pub returns : goal.returns
returns c = shifts_followed c.args.setup.now c.args.shifts.now c.args.self.now c.loop-shift.self c.loop-shift.shift-index c.loop-shift-test.false
    c.loop-shift.invariant
