-- The word, the turn and the digest stand one behind another.
use Rattle.sim_report.{proofs.{Common.{string_bytes, ◌++◌, ◌≡◌}, Kept.{appended, kept_in_parts}}, specs.Lines.{line_end, spaced_number}}

pub returns : Rattle.sim_report.proofs.line.append_turn.Goals.returns
returns c =
    let old = string_bytes c.args.out.now in
    let first = string_bytes c.push_str.new.self in
    let second = string_bytes c.append_number.new.out in
    let new = string_bytes c.append_digest.new.out in
    let word = c.args.word.now in
    let number = spaced_number c.args.turn in
    let end = line_end c.args.digest.now in
    let r = c.append_digest.result in
    let word_is : first ≡ old ++ word = c.in_ok-push_str.ensures.bytes in
    let turn_is : second ≡ first ++ number = cc (c.in_ok-append_number.ensures.ok, c.from.ensures) in
    record {
      ok = appended r old word first (number ++ end) new word_is (appended r first number second end new turn_is c.append_digest.ensures.ok);
      err = kept_in_parts r old word first new word_is (kept_in_parts r first number second new turn_is c.append_digest.ensures.err);
    }
