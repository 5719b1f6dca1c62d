-- A read that is interrupted takes nothing from what is left, and one try fewer is left.
use Rattle.sim_edge.specs.{Again.{AnswersIn, read_call}, declared.again.TheConstants.TRIES}
use Rattle.std.{proofs.Common.{length, List, ℕ, ◌-◌, ◌≡◌}, specs.{declared.io.Error.Error, Io.KnownBytes.Keeps, Prelude.Result}}

abbrev pub invariant-loop : Rattle.sim_edge.proofs.again.read_again.Given.invariant-loop
invariant-loop g l = record {
  room : length l.into ≡ length l.fn.into;
  kept : Keeps (g.R.Readable.left l.fn.file) (g.R.Readable.left l.file);
  tried : (answer : Result ℕ Error) (file : _) (into : List ℕ)
      → AnswersIn (read_call g.R.Readable.read_gives) (TRIES - l.counter) (l.file, l.into) answer (file, into)
      → AnswersIn (read_call g.R.Readable.read_gives) TRIES (l.fn.file, l.fn.into) answer (file, into);
}
