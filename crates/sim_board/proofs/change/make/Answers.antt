use Rattle.sim_board.proofs.Common.{List, refl, ap, applied, ap₂, Row, State, ◌∙◌}

pub returns : Rattle.sim_board.proofs.change.make.Goals.returns
returns c =
    let setup = c.args.setup.now in
    let over : State → List Row → State = λ s rows. record s { rows = rows } in
    record {
      applied = ap (over c.set.new.state) c.from_items.ensures ∙ c.set.ensures setup ∙
          ap₂ (λ (s : State) (rows : List Row). applied setup (over s rows) c.args.change.now) c.take_rows-rows.ensures.state c.take_rows-rows.ensures.rows;
      sure = λ n. refl;
    }
