-- The line so far is what was taken of the input, and nothing has failed. Nothing is kept where the input was read, or is to be read.
use Rattle.sim_talk.specs.{Ahead.bytes_ahead, Kept.bytes_kept, Lines.{IsPart, IsWithinLine}}
use Rattle.std.{proofs.Common.{length, [], ◌+◌, ◌-◌, ◌≡◌, ◌⊎◌}, specs.Io.KnownBytes.{Consumes, prepend_known}}

abbrev pub invariant-pieces : Rattle.sim_talk.proofs.line_talk.LineTalk.read_line.Given.invariant-pieces
invariant-pieces g l = record {
  part : IsPart l.self.most l.line.items;
  taken : Consumes (prepend_known (bytes_ahead l.fn.self.ahead) (g.S.Source.left l.fn.self.source))
      (prepend_known (bytes_ahead l.self.ahead) (g.S.Source.left l.self.source)) l.line.items;
  faults : g.S.Source.faults l.self.source ≡ g.S.Source.faults l.fn.self.source;
  order : (l.self.source ≡ l.fn.self.source) ⊎ (bytes_kept l.fn.self.kept ≡ []);
  ready : IsWithinLine (bytes_ahead l.self.ahead) → bytes_kept l.fn.self.kept ≡ [];
  sink : l.self.sink ≡ l.fn.self.sink;
  kept : l.self.kept ≡ l.fn.self.kept;
  most : l.self.most ≡ l.fn.self.most;
}

abbrev pub decreases-pieces : Rattle.sim_talk.proofs.line_talk.LineTalk.read_line.Given.decreases-pieces
decreases-pieces g l = l.self.most + 1 - (length l.line.items + length (bytes_ahead l.self.ahead))
