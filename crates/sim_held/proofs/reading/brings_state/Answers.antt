-- The tag stands behind four bytes.
use Rattle.sim_held.proofs.Passing.{frames_have_tags, tag_tells}

pub returns-in_default : Rattle.sim_held.proofs.reading.brings_state.Goals.returns-in_default
returns-in_default c = λ down is. absurd (frames_have_tags c.args.frame.now down is c.in_default.len_below)

pub returns-in-len5-up : Rattle.sim_held.proofs.reading.brings_state.Goals.returns-in-len5-up
returns-in-len5-up c = λ down is. tag_tells c.args.frame.now down is
