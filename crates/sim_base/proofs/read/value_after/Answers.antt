use Rattle.sim_base.proofs.read.value_after.Goals as goal
use Rattle.{sim_base.proofs.PrintedNumbers.{digit_more_fits, digit_more_small, next_digit}, std.proofs.Common.{arith, length}}

pub overflow_mul-value : goal.overflow_mul-value
overflow_mul-value c = omega (
  arith,
  digit_more_fits c.args.n c.loop-c.value 0 c.loop-c.c-index (length c.args.digits.now) c.loop-c.invariant.small (omega arith) (omega arith)
      (omega arith),
)

pub overflow_add-value : goal.overflow_add-value
overflow_add-value c =
    let next = next_digit c.args.n c.args.digits.now c.loop-c.c-index c.requires.digits c.loop-c-test.true in
    omega (
      arith,
      digit_more_fits c.args.n c.loop-c.value c.from.result c.loop-c.c-index (length c.args.digits.now) c.loop-c.invariant.small
          (omega (arith, next.low, next.high, next.value)) (omega arith) (omega arith),
    )

pub loop-c-preserved : goal.loop-c-preserved
loop-c-preserved c =
    let next = next_digit c.args.n c.args.digits.now c.loop-c.c-index c.requires.digits c.loop-c-test.true in
    record {
      value = omega (arith, next.low, next.high, next.value);
      small = digit_more_small c.args.n c.loop-c.value c.from.result c.loop-c.c-index c.loop-c.invariant.small (omega (arith, next.low, next.high, next.value));
    }
