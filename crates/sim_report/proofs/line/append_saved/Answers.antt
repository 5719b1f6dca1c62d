-- The word, the numbers and the digest stand one behind another.
use Rattle.sim_report.{proofs.{Common.{codes, string_bytes, ◌++◌, ◌≡◌}, Kept.{appended, kept_in_parts}}, specs.Lines.{line_end, spaced_number}}

pub returns : Rattle.sim_report.proofs.line.append_saved.Goals.returns
returns c =
    let old = string_bytes c.args.out.now in
    let first = string_bytes c.push_str.new.self in
    let second = string_bytes c.append_number.new.out in
    let third = string_bytes c.append_number-2.new.out in
    let new = string_bytes c.append_digest.new.out in
    let word = codes "state" in
    let turn = spaced_number c.args.turn in
    let size = spaced_number c.args.size in
    let end = line_end c.args.digest.now in
    let r = c.append_digest.result in
    let word_is : first ≡ old ++ word = c.in_ok-push_str.ensures.bytes in
    let turn_is : second ≡ first ++ turn = cc (c.in_ok-append_number.ensures.ok, c.from.ensures) in
    let size_is : third ≡ second ++ size = c.in_ok-append_number-2.ensures.ok in
    record {
      ok = appended r old word first (turn ++ (size ++ end)) new word_is
          (appended r first turn second (size ++ end) new turn_is (appended r second size third end new size_is c.append_digest.ensures.ok));
      err = kept_in_parts r old word first new word_is
          (kept_in_parts r first turn second new turn_is (kept_in_parts r second size third new size_is c.append_digest.ensures.err));
    }
