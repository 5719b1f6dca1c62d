-- The system of the ask's kind is fed.
use Rattle.sim_plans.proofs.scene.Scene.ask.Goals as goal
use Rattle.sim_plans.proofs.{Answering.answered, Answering.may_answer, FactLists.sym}

pub ask-requires-in-Range : goal.ask-requires-in-Range
ask-requires-in-Range g c = may_answer _ _ _ _ _ (sym c.in-Range.ensures) c.requires.stands.fed.range c.requires.stands.valid c.requires.may

pub returns-in-Ground-clause-answer : goal.returns-in-Ground-clause-answer
returns-in-Ground-clause-answer g c = answered _ _ _ _ _ (sym c.in-Ground.ensures) c.requires.stands.fed.ground _ c.requires.stands.valid c.ask.ensures.answer

pub returns-in-Range-clause-answer : goal.returns-in-Range-clause-answer
returns-in-Range-clause-answer g c = answered _ _ _ _ _ (sym c.in-Range.ensures) c.requires.stands.fed.range _ c.requires.stands.valid
    c.ask-in-Range.ensures.answer

pub returns-in-Watch-clause-answer : goal.returns-in-Watch-clause-answer
returns-in-Watch-clause-answer g c = answered _ _ _ _ _ (sym c.in-Watch.ensures) c.requires.stands.fed.watch _ c.requires.stands.valid
    c.ask-in-Watch.ensures.answer

pub returns-in-Census-clause-answer : goal.returns-in-Census-clause-answer
returns-in-Census-clause-answer g c = answered _ _ _ _ _ (sym c.in-Census.ensures) c.requires.stands.fed.census _ c.requires.stands.valid
    c.ask-in-Census.ensures.answer
