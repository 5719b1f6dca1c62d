use Rattle.sim_path.proofs.Common.{◌*◌, ◌+◌, ◌-◌, ◌/◌, ◌<◌, ◌^◌, ◌∙◌, ◌≡◌, ◌≤◌, arith, Cell, estimate-guides, field_of_grid, IfOk-from_err}
use Rattle.sim_path.proofs.{Common.octile, Common.refl, Common.ℕ, FloorLaws.known-front}
use Rattle.sim_path.proofs.answer.Searcher.search_straight.Goals as goal

small : (key : ℕ) → key < 2 ^ 24 → key < 2 ^ 26
small key lt = omega arith

small_more : (key more : ℕ) → key < 2 ^ 24 → more ≤ key + 2 ^ 22 → more < 2 ^ 26
small_more key more lt le = omega arith

none-left : (v goal : Cell) (near : ℕ) → octile v goal ≡ near → (octile v goal - near) / 2 * 2 ≡ 0
none-left v goal near e = omega (arith, e)

pub go_back-requires : goal.go_back-requires
go_back-requires c = record {
  floor_holds = known-front (field_of_grid c.args.question.now.grid.now) _ c.in_ok-stage-2.stage.search c.args.question.now.start 0 refl
      (c.in_ok-stage-2.ensures.start ∙ c.in_ok-stage.ensures.start) c.in_ok-stage-2.ensures.ready;
  ends = c.requires.ends;
}

pub finish-requires-clause-from : goal.finish-requires-clause-from
finish-requires-clause-from c = c.in_ok-stage.ensures.start

pub finish-requires-clause-ready : goal.finish-requires-clause-ready
finish-requires-clause-ready c = c.in_ok-stage.ensures.ready

pub finish-requires-2-clause-from : goal.finish-requires-2-clause-from
finish-requires-2-clause-from c = c.in_ok-stage-2.ensures.start ∙ c.in_ok-stage.ensures.start

pub finish-requires-2-clause-ready : goal.finish-requires-2-clause-ready
finish-requires-2-clause-ready c = c.in_ok-stage-2.ensures.ready

pub go_on-requires-clause-ready : goal.go_on-requires-clause-ready
go_on-requires-clause-ready c = c.in_ok-stage.ensures.ready

pub returns-in_err-stage : goal.returns-in_err-stage
returns-in_err-stage c = IfOk-from_err _ _ c.from_residual.ensures.0

pub returns-in_err-go_back : goal.returns-in_err-go_back
returns-in_err-go_back c = IfOk-from_err _ _ c.from_residual-in_err-go_back.ensures.0

pub started-requires-clause-guide : goal.started-requires-clause-guide
started-requires-clause-guide c =
    let question = c.args.question.now in
    estimate-guides (record { goal = question.goal; near = question.near }) (field_of_grid question.grid.now) question.start

pub finish-requires-clause-none_left : goal.finish-requires-clause-none_left
finish-requires-clause-none_left c = λ v e. none-left v c.args.question.now.goal c.args.question.now.near e

pub finish-requires-2-clause-none_left : goal.finish-requires-2-clause-none_left
finish-requires-2-clause-none_left c = λ v e. none-left v c.args.question.now.goal c.args.question.now.near e

pub finish-requires-clause-ends : goal.finish-requires-clause-ends
finish-requires-clause-ends c = c.requires.ends

pub finish-requires-clause-small : goal.finish-requires-clause-small
finish-requires-clause-small c = small c.in_ok-stage.stage.key c.in_ok-stage.ensures.small

pub go_on-requires-clause-start_on : goal.go_on-requires-clause-start_on
go_on-requires-clause-start_on c = rw c.in_ok-stage.ensures.start c.args.question.now.start_on

pub go_on-requires-clause-small : goal.go_on-requires-clause-small
go_on-requires-clause-small c = small c.in_ok-stage.stage.key c.in_ok-stage.ensures.small

pub returns-in_err-stage-2 : goal.returns-in_err-stage-2
returns-in_err-stage-2 c = IfOk-from_err _ _ c.from_residual-in_err-stage-2.ensures.0

pub finish-requires-2-clause-ends : goal.finish-requires-2-clause-ends
finish-requires-2-clause-ends c = c.requires.ends

pub finish-requires-2-clause-small : goal.finish-requires-2-clause-small
finish-requires-2-clause-small c = small_more c.in_ok-stage.stage.key c.in_ok-stage-2.stage.key c.in_ok-stage.ensures.small c.in_ok-stage-2.ensures.small
