-- Each kind of command has a method that makes its changes.
use Rattle.sim_orders.proofs.task.Task.plan.Goals as goal
use Rattle.sim_orders.proofs.{Common.kind_of, Planning.plan_fulfils}

pub returns-in-Walk-clause-obeys : goal.returns-in-Walk-clause-obeys
returns-in-Walk-clause-obeys c =
    plan_fulfils (kind_of c.args.self.now.command.now) c.args.self.now _ c.walk.result c.requires c.in-Walk.is c.walk.ensures.value

pub returns-in-Stop-clause-obeys : goal.returns-in-Stop-clause-obeys
returns-in-Stop-clause-obeys c =
    plan_fulfils (kind_of c.args.self.now.command.now) c.args.self.now _ c.stop.result c.requires c.in-Stop.is c.stop.ensures

pub returns-in-Attack-clause-obeys : goal.returns-in-Attack-clause-obeys
returns-in-Attack-clause-obeys c =
    plan_fulfils (kind_of c.args.self.now.command.now) c.args.self.now _ c.attack.result c.requires c.in-Attack.is c.attack.ensures.value

pub returns-in-Delete-clause-obeys : goal.returns-in-Delete-clause-obeys
returns-in-Delete-clause-obeys c =
    plan_fulfils (kind_of c.args.self.now.command.now) c.args.self.now _ c.delete.result c.requires c.in-Delete.is c.delete.ensures

pub returns-in-Place-clause-obeys : goal.returns-in-Place-clause-obeys
returns-in-Place-clause-obeys c =
    plan_fulfils (kind_of c.args.self.now.command.now) c.args.self.now _ c.place.result c.requires c.in-Place.is c.place.ensures.value

pub returns-in-Train-clause-obeys : goal.returns-in-Train-clause-obeys
returns-in-Train-clause-obeys c =
    plan_fulfils (kind_of c.args.self.now.command.now) c.args.self.now _ c.train.result c.requires c.in-Train.is c.train.ensures.value

pub returns-in-Resign-clause-obeys : goal.returns-in-Resign-clause-obeys
returns-in-Resign-clause-obeys c =
    plan_fulfils (kind_of c.args.self.now.command.now) c.args.self.now _ c.resign.result c.requires c.in-Resign.is c.resign.ensures.value
