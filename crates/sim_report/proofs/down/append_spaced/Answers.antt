-- The command stands behind the space.
use Rattle.sim_report.{proofs.{Common.{codes, string_bytes, ◌++◌, ◌≡◌}, Kept.{appended, kept_in_parts}}, specs.Downs.command_text}

pub returns : Rattle.sim_report.proofs.down.append_spaced.Goals.returns
returns c =
    let old = string_bytes c.args.out.now in
    let first = string_bytes c.push_str.new.self in
    let new = string_bytes c.append_command.new.out in
    let word = codes " " in
    let r = c.append_command.result in
    let word_is : first ≡ old ++ word = c.in_ok-push_str.ensures.bytes in
    record {
      ok = appended r old word first (command_text c.args.command.now) new word_is c.append_command.ensures.ok;
      err = kept_in_parts r old word first new word_is c.append_command.ensures.err;
    }
