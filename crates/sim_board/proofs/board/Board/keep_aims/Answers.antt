-- One more is made. At the end the rows are put back, and the systems know the later state.
use Rattle.sim_board.proofs.board.Board.keep_aims.Goals as goal
use Rattle.sim_board.proofs.{board.Board.keep_aims.Goals.{else-loop-change-test, then-loop-change-test+in_default}, Common.{ap, drop, List, refl, Row, State}}
use Rattle.{sim_board.{proofs.{Common.{subst, sym, ℕ, ◌+◌, ◌∙◌, ◌≡◌}, Quieting.{all_left, one_kept}}, specs.Boards.LeadsOn}, std.proofs.Common.{Global, Vec}}

pub loop-change-init : goal.loop-change-init
loop-change-init g c =
    let s = c.args.self.now.state in
    let changes = c.args.changes.now in
    record {
      count = refl;
      leads = subst (λ (st : State). LeadsOn c.args.self.now.setup.now s st changes changes)
          (sym (ap (λ (rows : List Row). record s { rows = rows }) c.take_rows-rows.ensures.rows))
          (all_left c.args.self.now.setup.now s changes c.requires.whole.standing.limits c.requires.whole.standing.valid c.requires.fit);
    }

pub loop-change-preserved : goal.loop-change-preserved
loop-change-preserved g c =
    let s = c.args.self.now.state in
    let now : State = record s { rows = c.loop-change.rows.items } in
    let made = c.in-Some.ensures.made in
    record {
      count = ap (λ (n : ℕ). n + 1) c.loop-change.invariant.count;
      leads = one_kept c.args.self.now.setup.now s c.args.changes.now c.requires.whole.standing.limits now (record s { rows = c.keep_aim.new.rows.items })
          c.change-item.result c.loop-change.change-index c.loop-change-test.true c.change-item.is (made.keeps now refl) (made.gives c.args.self.now.setup.now now refl)
          c.loop-change.invariant.leads;
    }

leads_on : goal.returns-clause-leads
leads_on g c =
    let s = c.args.self.now.state in
    let setup = c.args.self.now.setup.now in
    let changes = c.args.changes.now in
    let same : c.loop-change-test.rows.items ≡ c.loop-change.rows.items = elim c.loop-change-test.branch [
      | else-loop-change-test w ↦ ap (λ (rows : Vec Row Global). rows.items) w.rows-is
      | then-loop-change-test+in_default w ↦ ap (λ (rows : Vec Row Global). rows.items) w.rows-is ∙ w.in_default.ensures.other
    ] in
    let back = ap (λ (st : State). record st { rows = c.from_items.result }) c.take_rows-rows.ensures.state ∙
    ap (λ (rows : List Row). record s { rows = rows }) (c.from_items.ensures ∙ same) in
    subst (λ (st : State). LeadsOn setup s st changes (drop c.loop-change.kept changes)) (sym back)
    (subst (λ (n : ℕ). LeadsOn setup s (record s { rows = c.loop-change.rows.items }) changes (drop n changes)) (sym c.loop-change.invariant.count)
    c.loop-change.invariant.leads)

pub returns-clause-leads : goal.returns-clause-leads
returns-clause-leads g c = leads_on g c

pub returns-clause-whole : goal.returns-clause-whole
returns-clause-whole g c =
    let leads = leads_on g c in
    record {
      whole = c.requires.whole.whole;
      standing = record {
        limits = c.requires.whole.standing.limits;
        valid = leads.valid;
        fed = leads.fed _ c.requires.whole.standing.fed;
      };
    }
