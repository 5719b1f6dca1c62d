-- What is commanded stands behind the word and the turn.
use Rattle.sim_report.{proofs.{Common.{codes, decimal, string_bytes, ◌++◌, ◌≡◌}, Kept.{appended_pair, kept_in_parts}}, specs.Downs.order_text}

pub returns : Rattle.sim_report.proofs.down.append_turn_order.Goals.returns
returns c =
    let old = string_bytes c.args.out.now in
    let first = string_bytes c.append_number.new.out in
    let new = string_bytes c.append_order.new.out in
    let word = codes "command turn " in
    let number = decimal c.args.turn in
    let r = c.append_order.result in
    let turn_is : first ≡ old ++ (word ++ number) = cc (c.in_ok-append_number.ensures.ok, c.from.ensures) in
    record {
      ok = appended_pair r old word number first (order_text c.args.order.now) new turn_is c.append_order.ensures.ok;
      err = kept_in_parts r old (word ++ number) first new turn_is c.append_order.ensures.err;
    }
