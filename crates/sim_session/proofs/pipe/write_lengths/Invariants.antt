-- The lengths of the frames so far stand behind the old text.
use Rattle.sim_session.{proofs.TextCommon.string_bytes, proofs.TextCommon.take, proofs.TextCommon.◌++◌, proofs.TextCommon.◌≡◌, specs.Endings.lengths_text}

abbrev pub invariant-loop-frame : Rattle.sim_session.proofs.pipe.write_lengths.Given.invariant-loop-frame
invariant-loop-frame l = string_bytes l.line ≡ string_bytes l.initial.line ++ lengths_text (take l.frame-index l.frames)
