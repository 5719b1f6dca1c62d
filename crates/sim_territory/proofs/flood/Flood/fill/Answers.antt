-- One cell more is looked at.
use Rattle.sim_territory.proofs.flood.Flood.fill.Goals as goal
use Rattle.sim_territory.proofs.Common.{[], arith, Cell, Contains, Contains-push, ground_of, IsOnGround, length, List, nil_from_length, refl, Size, subst, sym}
use Rattle.sim_territory.proofs.{Common.◌*◌, Common.◌≡◌, Flooding.filling_begins, Flooding.filling_ends, Flooding.filling_next, Flooding.taken_less}

pub loop-from-init : goal.loop-from-init
loop-from-init c = filling_begins (ground_of c.args.self.now c.args.holders.now) c.args.self.now refl c.requires.all

pub spread-requires : goal.spread-requires
spread-requires c =
    let waited : Contains c.loop-from.self.waiting.items c.in-Some.from = subst (λ (xs : List Cell). Contains xs c.in-Some.from) (sym c.in-Some.ensures.items)
    (Contains-push c.pop.new.self.items c.in-Some.from) in
    record {
      full = subst (λ (s : Size). length c.args.holders.now ≡ s.width * s.depth) (sym c.loop-from.invariant.size) c.requires.full;
      from = subst (λ (s : Size). IsOnGround s c.in-Some.from) (sym c.loop-from.invariant.size) (c.loop-from.invariant.on_ground c.in-Some.from waited);
    }

pub loop-from-preserved : goal.loop-from-preserved
loop-from-preserved c =
    filling_next c.args.self.now c.loop-from.self c.spread.new.self c.in-Some.from c.args.holders.now c.in_ok-spread.ensures
    (record { width = refl; depth = refl; flags = refl; waiting = c.in-Some.ensures.items }) c.loop-from.invariant

pub loop-from-smaller : goal.loop-from-smaller
loop-from-smaller c =
    taken_less c.loop-from.self c.spread.new.self c.in-Some.from c.in_ok-spread.ensures
    (record { width = refl; depth = refl; flags = refl; waiting = c.in-Some.ensures.items })

pub returns : goal.returns
returns c =
    let waiting = c.loop-from.self.waiting in
    let none : waiting.items ≡ [] = nil_from_length waiting.items (omega (arith, c.in_default.ensures.cases.0, waiting.ok.0)) in
    let filled = filling_ends (ground_of c.args.self.now c.args.holders.now) c.args.self.now c.loop-from.self none c.loop-from.invariant refl in
    record { size = filled.size; sound = filled.sound; all = filled.all }
