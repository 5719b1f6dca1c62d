-- A read that was not interrupted ends the tries, and one that was leaves one fewer.
use Rattle.sim_edge.{proofs.Tries.{AnswersIn-again, AnswersIn-last, AnswersIn-none}, specs.{Again.IsInterrupted, declared.again.TheConstants.TRIES}}
use Rattle.std.proofs.Common.{arith, false, refl, rules, true, ◌-◌, ◌≡◌}
use Rattle.sim_edge.proofs.again.read_again.Goals as goal

pub returns-then-not-is_interrupted-clause-answer :
    goal.returns-then-not-is_interrupted-clause-answer
returns-then-not-is_interrupted-clause-answer g c =
    let free : ¬ IsInterrupted c.read_once-answer.result = λ cut. let no : false ≡ true = c.if-not-is_interrupted.ensures.1 cut in cc in
    c.loop.invariant.tried _ _ _ (AnswersIn-last _ (TRIES - c.loop.counter) _ _ _ c.read_once-answer.ensures.gives free)

pub loop-preserved : goal.loop-preserved
loop-preserved g c =
    let cut : IsInterrupted c.read_once-answer.result = c.if-not-is_interrupted.ensures.0 refl in
    record {
      room = search rules;
      kept = search rules;
      tried = λ answer file into rest. c.loop.invariant.tried answer file into
          (AnswersIn-again _ TRIES c.loop.counter _ _ _ _ _ c.loop-test.true c.read_once-answer.ensures.gives cut rest);
    }

pub returns-clause-answer : goal.returns-clause-answer
returns-clause-answer g c =
    let none : TRIES - c.loop.counter ≡ 0 = omega (arith, c.loop-test.false) in
    c.loop.invariant.tried _ _ _ (AnswersIn-none _ (TRIES - c.loop.counter) _ _ _ none c.read_once.ensures.gives)
