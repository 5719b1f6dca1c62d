-- All is the same where no piece differed and nothing is left.
use Rattle.{sim_bytes.proofs.Comparisons.ended, std.proofs.{Common.{sym, ◌∙◌}, lemmas.{Bool.false≢true, List.append-nil}}}

pub returns-else-self : Rattle.sim_bytes.proofs.sink.Comparing.is_same.Goals.returns-else-self
returns-else-self c = λ wanted told h.
    (λ e. absurd (false≢true (sym c.if-self.false ∙ e)), λ e. absurd (h.differs c.if-self.false _ (e ∙ sym (append-nil told))))

pub returns-then-self : Rattle.sim_bytes.proofs.sink.Comparing.is_same.Goals.returns-then-self
returns-then-self c = λ wanted told h. ended wanted c.args.self.now.rest.now told c.is_empty.result c.is_empty.ensures (h.so_far c.if-self.true)
