-- The point stands behind the word.
use Rattle.sim_report.{proofs.{Common.{string_bytes, ◌++◌, ◌≡◌}, Kept.{appended, kept_in_parts}}, specs.Show.point_text}

pub returns : Rattle.sim_report.proofs.down.append_point.Goals.returns
returns c =
    let old = string_bytes c.args.out.now in
    let first = string_bytes c.push_str.new.self in
    let new = string_bytes c.write_point.new.line in
    let word = c.args.word.now in
    let r = c.write_point.result in
    let word_is : first ≡ old ++ word = c.in_ok-push_str.ensures.bytes in
    record {
      ok = appended r old word first (point_text c.args.point) new word_is c.write_point.ensures.ok;
      err = kept_in_parts r old word first new word_is c.write_point.ensures.err;
    }
