-- One direction more is looked at.
use Rattle.sim_territory.proofs.Common.{◌≡◌, ◌*◌, length, refl, ground_of, HeldGround, IsOnGround, Size, StepsOn, subst, sym}
use Rattle.sim_territory.proofs.Flooding.{ground-same, spread_ends, spread_more}
use Rattle.sim_territory.proofs.flood.Flood.spread.Goals as goal

pub step-requires-clause-held : goal.step-requires-clause-held
step-requires-clause-held c = record {
  full = subst (λ (s : Size). length c.args.holders.now ≡ s.width * s.depth) (sym c.loop-which.invariant.size) c.requires.full;
  from = subst (λ (s : Size). IsOnGround s c.args.from) (sym c.loop-which.invariant.size) c.requires.from;
}

pub loop-which-preserved : goal.loop-which-preserved
loop-which-preserved c =
    let old = c.args.self.now in
    let mid = c.loop-which.self in
    let new = c.step.new.self in
    let ground = ground_of old c.args.holders.now in
    let same = ground-same old mid c.args.holders.now c.loop-which.invariant.size in
    spread_more ground old mid new c.args.from c.loop-which.which c.loop-which-test.true refl c.loop-which.invariant
    (subst (λ (g : HeldGround). StepsOn g mid new c.args.from c.loop-which.which) same c.in_ok-step.ensures)

pub returns : goal.returns
returns c = spread_ends (ground_of c.args.self.now c.args.holders.now) c.args.self.now c.loop-which.self c.args.from c.loop-which.which c.loop-which-test.false
    c.loop-which.invariant
