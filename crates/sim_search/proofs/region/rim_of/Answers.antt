-- The open cells beside one cell more are added.
use Rattle.sim_search.proofs.{Added.gone_through, Common.{All-weaker, arith, Cell, Contains, field_of_grid, get_or, inl, inr, IsOnGround, IsOpenStep, List}}
use Rattle.sim_search.{proofs.Common.{neighbour-on, take, true, ℕ, ◌≡◌, ◌⊎◌}, specs.{declared.region.Window.Window, Floods.IsInside}}
use Rattle.std.proofs.lemmas.List.Elements.{All-contains, All-more}

pub loop-cell-preserved : Rattle.sim_search.proofs.region.rim_of.Goals.loop-cell-preserved
loop-cell-preserved c = record {
  are_open = λ e h. opened e (c.in_ok-push_beside.ensures.each e h);
  all = All-more Has xs i (record { x = 0; z = 0 }) c.loop-cell-test.true
      (All-weaker Had Has (λ a h b s. c.in_ok-push_beside.ensures.keeps b (h b s)) (take i xs) c.loop-cell.invariant.all)
      (λ b s. c.in_ok-push_beside.ensures.all b s (inside b s));
}
  where
    xs : List Cell
    xs = c.args.cells.now

    i : ℕ
    i = c.loop-cell.cell-index

    x : Cell
    x = get_or xs i (record { x = 0; z = 0 })

    Had : Cell → Type 0
    Had a = (b : Cell) → IsOpenStep (field_of_grid c.args.grid.now) a b → Contains c.loop-cell.rim.items b

    Has : Cell → Type 0
    Has a = (b : Cell) → IsOpenStep (field_of_grid c.args.grid.now) a b → Contains c.push_beside.new.cells.items b

    window : Window
    window = record { west = 0; south = 0; east = c.width.result; north = c.depth.result }

    inside : (b : Cell) → IsOpenStep (field_of_grid c.args.grid.now) x b → IsInside window b
    inside b s =
        let there = neighbour-on c.args.grid.now.size x b s.which s.leads in
        record {
          west = omega arith;
          east = omega (arith, there.east, c.width.ensures.width);
          south = omega arith;
          north = omega (arith, there.north, c.depth.ensures.depth);
        }

    opened : (e : Cell) → Contains c.loop-cell.rim.items e ⊎ IsOpenStep (field_of_grid c.args.grid.now) x e
        → IsOnGround c.args.grid.now.size e × ((field_of_grid c.args.grid.now).is_open e ≡ true)
    opened e (inl h) = c.loop-cell.invariant.are_open e h
    opened e (inr s) = (neighbour-on c.args.grid.now.size x e s.which s.leads, s.free)

pub returns : Rattle.sim_search.proofs.region.rim_of.Goals.returns
returns c =
    let Has = λ (a : Cell). (b : Cell) → IsOpenStep (field_of_grid c.args.grid.now) a b → Contains c.loop-cell.rim.items b in
    record {
      are_open = c.loop-cell.invariant.are_open;
      all = λ a b h s. All-contains Has c.args.cells.now a
          (gone_through Has c.args.cells.now c.loop-cell.cell-index c.loop-cell-test.false c.loop-cell.invariant.all) h b s;
    }
