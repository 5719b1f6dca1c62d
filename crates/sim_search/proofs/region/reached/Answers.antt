-- What lies beside a cell that is joined to the first is joined to it too.
use Rattle.sim_search.proofs.{Added.first_joined, Common.{arith, Cell, Contains, field_of_grid, inl, inr, IsJoined, IsOpenStep, on, sym, ◌⊎◌}}

pub loop-next-init : Rattle.sim_search.proofs.region.reached.Goals.loop-next-init
loop-next-init c = first_joined (field_of_grid c.args.grid.now) c.args.first c.in_ok-cells.cells.items c.push.new.self.items c.requires.on c.requires.is_open
    c.in_ok-cells.ensures.items c.in_ok-push.ensures.items

pub loop-next-preserved : Rattle.sim_search.proofs.region.reached.Goals.loop-next-preserved
loop-next-preserved c = λ e h. by e (c.in_ok-push_beside.ensures.each e h)
  where
    by : (e : Cell) → Contains c.loop-next.cells.items e ⊎ IsOpenStep (field_of_grid c.args.grid.now) c.index-from.result.now e
        → IsJoined (field_of_grid c.args.grid.now) c.args.first e
    by e (inl h) = c.loop-next.invariant e h
    by e (inr s) = on (c.loop-next.invariant c.index-from.result.now
        (c.loop-next.next, omega (arith, c.if-next-len.false, c.len.ensures), sym c.index-from.ensures)) s
