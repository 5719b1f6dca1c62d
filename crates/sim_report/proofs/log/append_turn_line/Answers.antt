-- The parts of the line stand behind the old text.
use Rattle.{sim_report.specs.Lines.spaced_number, std.{proofs.Common.{append_assoc, ◌++◌}, specs.Prelude.{codes, string_bytes}}}

pub returns : Rattle.sim_report.proofs.log.append_turn_line.Goals.returns
returns c =
    let old = string_bytes c.args.out.now in
    let front = append_assoc old (codes "differ turn") (spaced_number c.args.turn) in
    let whole = append_assoc old (codes "differ turn" ++ spaced_number c.args.turn) (codes "\n") in
    record {
      ok = cc (front, whole, c.from.ensures, c.in_ok-push_str.ensures.bytes, c.in_ok-append_number.ensures.ok, c.in_ok-push_str-2.ensures.bytes);
      err = tt;
    }
