-- The area is that of the points that there are.
use Rattle.sim_range.proofs.area.area_of.Goals as goal
use Rattle.sim_range.proofs.{Common.AreApart, Common.Fact, Nearing.some_is}

pub returns-in-Some-Some-clause-before : goal.returns-in-Some-Some-clause-before
returns-in-Some-Some-clause-before c = λ k beside p placed key. some_is c.args.before.now c.in-Some-Some.from (λ (f : Fact). AreApart c.args.reach p f.at)
    c.in-Some-Some.is-0 (c.between.ensures.from k p beside placed key)

pub returns-in-Some-Some-clause-after : goal.returns-in-Some-Some-clause-after
returns-in-Some-Some-clause-after c = λ k beside p placed key. some_is c.args.after.now c.in-Some-Some.to (λ (f : Fact). AreApart c.args.reach p f.at)
    c.in-Some-Some.is-1 (c.between.ensures.to k p beside placed key)

pub returns-in-Some-None-clause-before : goal.returns-in-Some-None-clause-before
returns-in-Some-None-clause-before c = λ k beside p placed key. some_is c.args.before.now c.in-Some-None.from (λ (f : Fact). AreApart c.args.reach p f.at)
    c.in-Some-None.is-0 (c.between-in-Some-None.ensures.from k p beside placed key)

pub returns-in-None-Some-clause-after : goal.returns-in-None-Some-clause-after
returns-in-None-Some-clause-after c = λ k beside p placed key. some_is c.args.after.now c.in-None-Some.to (λ (f : Fact). AreApart c.args.reach p f.at)
    c.in-None-Some.is-1 (c.between-in-None-Some.ensures.to k p beside placed key)
