-- The word stands behind the old text, and then the number.
use Rattle.sim_report.proofs.Kept.{appended, kept}

pub returns : Rattle.sim_report.proofs.show.write_fixed.Goals.returns
returns c =
    let word_is = c.in_ok-push_str.ensures.bytes in
    record {
      ok = appended c.push_text.result _ _ _ _ _ word_is c.push_text.ensures.appended;
      err = kept c.push_text.result _ _ _ _ word_is c.push_text.ensures.err;
    }
