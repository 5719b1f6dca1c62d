-- A comparison goes on piece by piece, or ends where a piece is longer than what is left.
use Rattle.sim_bytes.proofs.Comparisons.{compared_more, too_long}

pub returns : Rattle.sim_bytes.proofs.sink.ComparingByteSink.tell.Goals.returns
returns c = λ about told h. compared_more about c.args.self.now.rest.now c.args.bytes.now told c.split_at.result.0.now c.split_at.result.1.now c.eq-self.result
    c.eq-self.ensures c.split_at.ensures.front c.split_at.ensures.back (h.so_far c.if-not-self.false)

pub returns-then-self-bytes : Rattle.sim_bytes.proofs.sink.ComparingByteSink.tell.Goals.returns-then-self-bytes
returns-then-self-bytes c = λ about told h. too_long about c.args.self.now.rest.now c.args.bytes.now told c.if-self-bytes.true (h.so_far c.if-not-self.false)
