-- No system is told of what none keeps.
use Rattle.sim_board.proofs.{Common.ap, Common.posts, Common.refl, Feeding.silent_fed, Keeping.kept_fed}
use Rattle.sim_board.proofs.board.Board.post.Goals as goal

pub returns-in-Motion-clause-tells : goal.returns-in-Motion-clause-tells
returns-in-Motion-clause-tells g c = record {
  fed = silent_fed _ _ _ _ c.requires.may.stands c.requires.may.fits (ap (posts c.args.self.now.setup.now c.args.self.now.state) c.in-Motion.is);
  kept = kept_fed _ _ _ c.requires.may.stands.fed;
  setup = refl;
  state = refl;
  whole = refl;
}

pub returns-in-Health-clause-tells : goal.returns-in-Health-clause-tells
returns-in-Health-clause-tells g c = record {
  fed = silent_fed _ _ _ _ c.requires.may.stands c.requires.may.fits (ap (posts c.args.self.now.setup.now c.args.self.now.state) c.in-Health.is);
  kept = kept_fed _ _ _ c.requires.may.stands.fed;
  setup = refl;
  state = refl;
  whole = refl;
}

pub returns-in-Word-clause-tells : goal.returns-in-Word-clause-tells
returns-in-Word-clause-tells g c = record {
  fed = silent_fed _ _ _ _ c.requires.may.stands c.requires.may.fits (ap (posts c.args.self.now.setup.now c.args.self.now.state) c.in-Word.is);
  kept = kept_fed _ _ _ c.requires.may.stands.fed;
  setup = refl;
  state = refl;
  whole = refl;
}

pub returns-in-Tick-clause-tells : goal.returns-in-Tick-clause-tells
returns-in-Tick-clause-tells g c = record {
  fed = silent_fed _ _ _ _ c.requires.may.stands c.requires.may.fits (ap (posts c.args.self.now.setup.now c.args.self.now.state) c.in-Tick.is);
  kept = kept_fed _ _ _ c.requires.may.stands.fed;
  setup = refl;
  state = refl;
  whole = refl;
}

pub returns-in-Move-clause-tells : goal.returns-in-Move-clause-tells
returns-in-Move-clause-tells g c = rw c.in-Move.is c.moved.ensures

pub returns-in-Attack-clause-tells : goal.returns-in-Attack-clause-tells
returns-in-Attack-clause-tells g c = rw c.in-Attack.is c.aimed.ensures.tells

pub returns-in-Owner-clause-tells : goal.returns-in-Owner-clause-tells
returns-in-Owner-clause-tells g c = rw c.in-Owner.is c.owned.ensures

pub returns-in-Create-clause-tells : goal.returns-in-Create-clause-tells
returns-in-Create-clause-tells g c = rw c.in-Create.is c.created.ensures
