-- A line is heard, piece by piece.
use Rattle.sim_talk.proofs.Hearing.{heard_end, heard_failed, heard_much, heard_no_more, heard_whole, open_part, taken_on}
use Rattle.sim_talk.specs.{Ahead.bytes_ahead, Lines.{IsPart, Pours, PoursOpen, PoursTooMuch, PoursWhole}}
use Rattle.std.proofs.{Common.{Err, inr, refl, rules, subst, sym, [], ◌∙◌, ◌≡◌}, lemmas.List.nil_from_length}
use Rattle.sim_talk.specs.declared.fault.HearFault.TheVariants as fault
use Rattle.sim_talk.proofs.line_talk.LineTalk.read_line.Goals as goal

pub returns-in-Whole-clause-taken : goal.returns-in-Whole-clause-taken
returns-in-Whole-clause-taken g c =
    let was = c.pieces.invariant in
    let whole : PoursWhole c.pieces.self.most (bytes_ahead c.pieces.self.ahead) c.pieces.line.items (bytes_ahead c.pour.new.self) c.pour.new.line.items =
    subst (λ p. Pours p c.pieces.self.most (bytes_ahead c.pieces.self.ahead) c.pieces.line.items (bytes_ahead c.pour.new.self) c.pour.new.line.items)
    c.in-Whole.is c.in_ok-pour.ensures.ok in
    let part : IsPart c.args.self.now.most c.pieces.line.items = subst (λ m. IsPart m c.pieces.line.items) was.most was.part in
    let whole' : PoursWhole c.args.self.now.most (bytes_ahead c.pieces.self.ahead) c.pieces.line.items (bytes_ahead c.pour.new.self) c.pour.new.line.items =
    subst (λ m. PoursWhole m (bytes_ahead c.pieces.self.ahead) c.pieces.line.items (bytes_ahead c.pour.new.self) c.pour.new.line.items) was.most whole in
    heard_whole c.args.self.now.most c.text_of.result c.deref.result.now _ _ _ _ _ _ c.deref.ensures.value c.text_of.ensures part was.taken whole'

pub returns-in-TooLong-clause-taken : goal.returns-in-TooLong-clause-taken
returns-in-TooLong-clause-taken g c =
    let was = c.pieces.invariant in
    let much : PoursTooMuch c.pieces.self.most (bytes_ahead c.pieces.self.ahead) c.pieces.line.items (bytes_ahead c.pour.new.self) =
    subst (λ p. Pours p c.pieces.self.most (bytes_ahead c.pieces.self.ahead) c.pieces.line.items (bytes_ahead c.pour.new.self) c.pour.new.line.items)
    c.in-TooLong.is c.in_ok-pour.ensures.ok in
    let part : IsPart c.args.self.now.most c.pieces.line.items = subst (λ m. IsPart m c.pieces.line.items) was.most was.part in
    let much' : PoursTooMuch c.args.self.now.most (bytes_ahead c.pieces.self.ahead) c.pieces.line.items (bytes_ahead c.pour.new.self) =
    subst (λ m. PoursTooMuch m (bytes_ahead c.pieces.self.ahead) c.pieces.line.items (bytes_ahead c.pour.new.self)) was.most much in
    heard_much c.args.self.now.most _ _ _ _ _ part was.taken much'

pub returns-in_err-read_piece-clause-taken : goal.returns-in_err-read_piece-clause-taken
returns-in_err-read_piece-clause-taken g c =
    let was = c.pieces.invariant in
    let goes_on : PoursOpen c.pieces.self.most (bytes_ahead c.pieces.self.ahead) c.pieces.line.items (bytes_ahead c.pour.new.self) c.pour.new.line.items =
    subst (λ p. Pours p c.pieces.self.most (bytes_ahead c.pieces.self.ahead) c.pieces.line.items (bytes_ahead c.pour.new.self) c.pour.new.line.items)
    c.in-Open.is c.in_ok-pour.ensures.ok in
    let part : IsPart c.args.self.now.most c.pieces.line.items = subst (λ m. IsPart m c.pieces.line.items) was.most was.part in
    let goes_on' : PoursOpen c.args.self.now.most (bytes_ahead c.pieces.self.ahead) c.pieces.line.items (bytes_ahead c.pour.new.self) c.pour.new.line.items =
    subst (λ m. PoursOpen m (bytes_ahead c.pieces.self.ahead) c.pieces.line.items (bytes_ahead c.pour.new.self) c.pour.new.line.items) was.most goes_on in
    let is : c.from_residual-in_err-read_piece.result ≡ Err fault.Failed = search rules in
    heard_no_more c.args.self.now.most c.from_residual-in_err-read_piece.result _ _ _ is
    (heard_failed c.args.self.now.most _ _ _ _ _ _ _ _ part was.taken goes_on' c.in_err-read_piece.ensures.comes.0 c.in_err-read_piece.ensures.comes.1)

pub returns-then-branch-eq0-clause-taken : goal.returns-then-branch-eq0-clause-taken
returns-then-branch-eq0-clause-taken g c =
    let was = c.pieces.invariant in
    let goes_on : PoursOpen c.pieces.self.most (bytes_ahead c.pieces.self.ahead) c.pieces.line.items (bytes_ahead c.pour.new.self) c.pour.new.line.items =
    subst (λ p. Pours p c.pieces.self.most (bytes_ahead c.pieces.self.ahead) c.pieces.line.items (bytes_ahead c.pour.new.self) c.pour.new.line.items)
    c.in-Open.is c.in_ok-pour.ensures.ok in
    let part : IsPart c.args.self.now.most c.pieces.line.items = subst (λ m. IsPart m c.pieces.line.items) was.most was.part in
    let goes_on' : PoursOpen c.args.self.now.most (bytes_ahead c.pieces.self.ahead) c.pieces.line.items (bytes_ahead c.pour.new.self) c.pour.new.line.items =
    subst (λ m. PoursOpen m (bytes_ahead c.pieces.self.ahead) c.pieces.line.items (bytes_ahead c.pour.new.self) c.pour.new.line.items) was.most goes_on in
    let came = c.in_ok-read_piece.ensures.comes in
    let none : bytes_ahead c.read_piece.new.self.ahead ≡ [] = nil_from_length (bytes_ahead c.read_piece.new.self.ahead) (came.1 ∙ c.if-branch-eq0.true) in
    heard_end c.args.self.now.most c.end_of.result c.deref-then-branch-eq0.result.now _ _ _ _ _ _ _ _ c.deref-then-branch-eq0.ensures.value c.end_of.ensures
    part was.taken goes_on' came.0 none (came.2 c.if-branch-eq0.true)

pub pieces-preserved : goal.pieces-preserved
pieces-preserved g c =
    let was = c.pieces.invariant in
    let goes_on : PoursOpen c.pieces.self.most (bytes_ahead c.pieces.self.ahead) c.pieces.line.items (bytes_ahead c.pour.new.self) c.pour.new.line.items =
    subst (λ p. Pours p c.pieces.self.most (bytes_ahead c.pieces.self.ahead) c.pieces.line.items (bytes_ahead c.pour.new.self) c.pour.new.line.items)
    c.in-Open.is c.in_ok-pour.ensures.ok in
    record {
      part = subst (λ m. IsPart m c.pour.new.line.items) (sym c.in_ok-read_piece.ensures.output.most) (open_part c.pieces.self.most _ _ _ _ was.part goes_on);
      taken = taken_on c.pieces.self.most _ _ _ _ _ _ _ (bytes_ahead c.read_piece.new.self.ahead) _ was.taken goes_on c.in_ok-read_piece.ensures.comes.0 refl;
      faults = c.in_ok-read_piece.ensures.counts ∙ was.faults;
      order = inr (was.ready goes_on.within);
      ready = λ within. was.ready goes_on.within;
      sink = c.in_ok-read_piece.ensures.output.sink ∙ was.sink;
      kept = c.in_ok-read_piece.ensures.output.kept ∙ was.kept;
      most = c.in_ok-read_piece.ensures.output.most ∙ was.most;
    }
