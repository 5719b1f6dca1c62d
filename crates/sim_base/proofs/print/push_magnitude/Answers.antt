-- The old text still stands before the metres and the point, whatever part of the five digits was appended to them.
use Rattle.{sim_base.proofs.AppendedTexts.take-appended_more, std.{proofs.Common.{length, rules, take, ◌≡◌}, specs.Prelude.string_bytes}}

pub returns-in_err-push_five-clause-err : Rattle.sim_base.proofs.print.push_magnitude.Goals.returns-in_err-push_five-clause-err
returns-in_err-push_five-clause-err c =
    let pointed : take (length (string_bytes c.push_digits.new.out)) (string_bytes c.push_five.new.out) ≡ string_bytes c.push_digits.new.out =
    take-appended_more _ _ _ _ c.in_ok-push_str.ensures.bytes c.in_err-push_five.ensures.err in
    let kept : take (length (string_bytes c.args.out.now)) (string_bytes c.push_five.new.out) ≡ string_bytes c.args.out.now =
    take-appended_more _ _ _ _ c.in_ok-push_digits.ensures.ok pointed in
    search rules
