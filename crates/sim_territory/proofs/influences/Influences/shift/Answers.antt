-- The holders are found where the shift changed something.
use Rattle.sim_territory.proofs.{Common.AreFoundNear, Common.Mark, Common.subst, Finding.shift_found}

pub invariant_of-self : Rattle.sim_territory.proofs.influences.Influences.shift.Goals.invariant_of-self
invariant_of-self c =
    let held = c.args.self.now.holders.items in
    let found = c.find_near.new.holders.items in
    record {
      agree = shift_found c.args.setup.now c.args.shift.now c.args.self.now.sums c.shift.new.self c.shift.ensures held found c.args.self.now.agree
          (subst (λ (mark : Mark). AreFoundNear c.args.setup.now mark c.shift.new.self held found) c.mark_in.ensures c.find_near.ensures);
    }
