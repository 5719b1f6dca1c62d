-- A talk over an input and a sink has two halves: what is heard of, and what is told to. A call of one leaves the other as it was.
use Rattle.{sim_talk.specs.declared.line_talk.LineTalk.LineTalk, std.specs.Prelude.◌≡◌}

-- the input is as it was, with what was read of it and not heard yet
pub record KeepsInput {S K : Type 0} (old new : LineTalk S K) : Type 0 where
  pub source : new.source ≡ old.source
  pub ahead : new.ahead ≡ old.ahead
  pub most : new.most ≡ old.most

-- the sink is as it was, with what is kept for it; and a line may have as many bytes
pub record KeepsOutput {S K : Type 0} (old new : LineTalk S K) : Type 0 where
  pub sink : new.sink ≡ old.sink
  pub kept : new.kept ≡ old.kept
  pub most : new.most ≡ old.most
