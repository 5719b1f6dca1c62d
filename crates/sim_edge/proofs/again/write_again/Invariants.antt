-- A write that is interrupted adds nothing to what is held, and one try fewer is left.
use Rattle.std.{proofs.Common.ℕ, proofs.Common.◌-◌, specs.Io.KnownBytes.Keeps, specs.Prelude.Result, specs.declared.io.Error.Error}
use Rattle.sim_edge.specs.{Again.AnswersIn, Again.write_call, declared.again.TheConstants.TRIES}

abbrev pub invariant-loop : Rattle.sim_edge.proofs.again.write_again.Given.invariant-loop
invariant-loop g l = record {
  kept : Keeps (g.W.Writable.holds l.fn.file) (g.W.Writable.holds l.file);
  tried : (answer : Result ℕ Error) (file : _)
      → AnswersIn (write_call g.W.Writable.write_gives l.piece) (TRIES - l.counter) l.file answer file
      → AnswersIn (write_call g.W.Writable.write_gives l.piece) TRIES l.fn.file answer file;
}
