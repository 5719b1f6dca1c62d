use Rattle.sim_base.proofs.read.raw_of.Goals as goal
use Rattle.sim_base.proofs.PrintedNumbers.{digits_value_after-append, few_digits, raw_small, sixteen_digits}
use Rattle.std.{proofs.Common.{arith, length, ◌*◌, ◌++◌, ◌/◌, ◌<◌, ◌^◌, ◌∙◌, ◌≡◌}, specs.Str.Parse.{digits_value, digits_value_after}}

pub value_after-value-requires-clause-room : goal.value_after-value-requires-clause-room
value_after-value-requires-clause-room c =
    sixteen_digits c.value_after.result (length c.args.before.now) (length c.args.behind.now) c.value_after.ensures.small
    (few_digits 10 c.args.before.now c.requires.before) c.requires.behind_few

small : (c : goal.After-from-2) → c.from.result * 65536 / c.from-2.result < 2 ^ 62
small c =
    let power : c.from-2.result ≡ 10 ^ length c.args.behind.now = c.from-2.ensures ∙ c.pow-power.ensures in
    rw power (raw_small c.value_after.result c.from.result (length c.args.before.now) (length c.args.behind.now) c.value_after.ensures.small
    (few_digits 10 c.args.before.now c.requires.before) (omega arith))

pub overflow_cast-result : goal.overflow_cast-result
overflow_cast-result c = omega (arith, small c)

pub returns-clause-small : goal.returns-clause-small
returns-clause-small c = small c

pub returns-clause-value : goal.returns-clause-value
returns-clause-value c =
    let before = c.args.before.now in
    let behind = c.args.behind.now in
    let digits : digits_value 10 (before ++ behind) ≡ digits_value_after 10 (digits_value 10 before) behind = digits_value_after-append 0 before behind in
    cc
