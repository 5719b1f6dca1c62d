-- What is answered is the stamp of the client, for which no memory is wanted.
use Rattle.std.proofs.{Common.refl, Common.rules, Common.subst, Common.sym, Common.w32, lemmas.Int.to_z-of_z}
use Rattle.{sim_c.proofs.Looked.stamped_none, sim_c.specs.Gives.GivesStamp, sim_c.specs.Gives.stamp, std.specs.Prelude.Ok, std.specs.Prelude.ℤ}
use mir.Val.{SFits}

pub returns : Rattle.sim_c.proofs.looks.client_stamp.Goals.returns
returns c =
    let fits : SFits w32 c.give_held_stamp.result = search rules in
    let old = stamp c.args.digest.now c.args.turn.now in
    let new = stamp c.give_held_stamp.new.digest c.give_held_stamp.new.turn in
    record {
      answer = Ok c.stamp.result;
      is = record { looks = c.stamp.ensures; none = stamped_none _ _ c.stamp.result _ refl c.stamp.ensures };
      puts = subst (λ (z : ℤ). GivesStamp z old new (Ok c.stamp.result)) (sym (to_z-of_z w32 c.give_held_stamp.result fits)) c.give_held_stamp.ensures;
    }
