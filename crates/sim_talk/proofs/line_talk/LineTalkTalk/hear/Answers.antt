-- What was kept was written, and then no line was heard.
use Rattle.sim_talk.specs.declared.fault.TalkFault.TheVariants as ends
use Rattle.sim_talk.{proofs.Talking.{misses_piped, says_on}, specs.{Ahead.bytes_ahead, Kept.bytes_kept, Lines.{MissesOf, ReadCounts}, LineTalk.piped}}
use Rattle.{sim_talk.specs.Talks.{Hears, History, Says}, std.{proofs.Common.{ap, Err, rules, subst, sym, [], ◌∙◌, ◌≡◌}, specs.Io.KnownBytes.prepend_known}}

pub returns-in_err-read_line-clause-passed : Rattle.sim_talk.proofs.line_talk.LineTalkTalk.hear.Goals.returns-in_err-read_line-clause-passed
returns-in_err-read_line-clause-passed g c =
    let is : c.from_residual-in_err-read_line.result ≡ Err (ends.Unheard c.in_err-read_line.field-0.0) = search rules in
    let old = c.args.self.now in
    let mid = c.make_ready.new.self in
    let new = c.read_line.new.self in
    let before : History = piped (bytes_ahead old.ahead) (g.S.Source.left old.source) (g.K.Sink.told old.sink) (bytes_kept old.kept) old.most
    (g.S.Source.faults old.source) (g.K.Sink.faults old.sink) in
    let between : History = piped (bytes_ahead mid.ahead) (g.S.Source.left mid.source) (g.K.Sink.told mid.sink) (bytes_kept mid.kept) mid.most
    (g.S.Source.faults mid.source) (g.K.Sink.faults mid.sink) in
    let after : History = piped (bytes_ahead new.ahead) (g.S.Source.left new.source) (g.K.Sink.told new.sink) (bytes_kept new.kept) new.most
    (g.S.Source.faults new.source) (g.K.Sink.faults new.sink) in
    let says : Says [] before after = says_on [] before between after c.in_ok-make_ready.ensures.passed.written
    (ap g.K.Sink.told c.in_err-read_line.ensures.output.sink) (ap bytes_kept c.in_err-read_line.ensures.output.kept) in
    let taken : MissesOf old.most c.in_err-read_line.field-0.0 before.coming after.coming =
    subst (λ n. MissesOf n c.in_err-read_line.field-0.0 before.coming after.coming) c.in_ok-make_ready.ensures.input.most
    (subst (λ a. MissesOf mid.most c.in_err-read_line.field-0.0 (prepend_known (bytes_ahead a) (g.S.Source.left old.source)) after.coming)
    c.in_ok-make_ready.ensures.input.ahead
    (subst (λ s. MissesOf mid.most c.in_err-read_line.field-0.0 (prepend_known (bytes_ahead mid.ahead) (g.S.Source.left s)) after.coming)
    c.in_ok-make_ready.ensures.input.source c.in_err-read_line.ensures.taken)) in
    let counted : ReadCounts (Err c.in_err-read_line.field-0.0) before.unread after.unread =
    subst (λ s. ReadCounts (Err c.in_err-read_line.field-0.0) (g.S.Source.faults s) after.unread) c.in_ok-make_ready.ensures.input.source
    c.in_err-read_line.ensures.faults in
    let unfailed : after.unwritten ≡ before.unwritten = ap g.K.Sink.faults c.in_err-read_line.ensures.output.sink ∙ c.in_ok-make_ready.ensures.faults in
    subst (λ r. Hears r c.read_line.new.line.items before after) (sym is)
    (misses_piped old.most c.in_err-read_line.field-0.0 before.coming after.coming before.written after.written before.kept after.kept after.longest
    before.unread after.unread before.unwritten after.unwritten taken says counted unfailed)
