use Rattle.sim_search.proofs.{Common.{field_of_grid, Flood, neighbour-on, subst, sym, ◌+◌, ◌∙◌}, Floods.spread-done}
use Rattle.sim_search.proofs.{Floods.{Spreading, spreading_begins, spreading_more, spreading_none}, labels.spread.Goals.{in-Some+in_ok-mark, in_default}}
use Rattle.sim_search.proofs.labels.spread.Goals as goal

pub loop-which-init : goal.loop-which-init
loop-which-init c = spreading_begins (field_of_grid c.args.grid.now) c.args.flood.now c.args.from c.args.label c.requires.floods c.requires.label

pub mark-requires-clause-size : goal.mark-requires-clause-size
mark-requires-clause-size c = c.loop-which.invariant.floods.size_is

pub mark-requires-clause-cell_on : goal.mark-requires-clause-cell_on
mark-requires-clause-cell_on c = neighbour-on c.args.grid.now.size c.args.from c.in-Some.to c.loop-which.which (sym c.neighbour.ensures ∙ c.in-Some.is)

pub loop-which-preserved : goal.loop-which-preserved
loop-which-preserved c =
    let field = field_of_grid c.args.grid.now in
    let first = c.args.flood.now in
    let P : Flood → Type 0 = λ s. Spreading field first s c.args.from c.args.label (c.loop-which.which + 1) in
    elim c.match-neighbour.branch [
      | in-Some+in_ok-mark w ↦
          subst P (sym w.flood-is)
          (spreading_more field first c.loop-which.flood w.mark.new.flood c.args.from w.in-Some.to c.args.label c.loop-which.which c.loop-which-test.true
          c.loop-which.invariant (sym c.neighbour.ensures ∙ w.in-Some.is) w.in_ok-mark.ensures)
      | in_default w ↦ subst P (sym w.flood-is) (spreading_none field first c.loop-which.flood c.args.from c.args.label c.loop-which.which
          c.loop-which.invariant (sym c.neighbour.ensures ∙ w.in_default.is))
    ]

pub returns-clause-floods : goal.returns-clause-floods
returns-clause-floods c = spread-done (field_of_grid c.args.grid.now) c.args.flood.now c.loop-which.flood c.args.from c.args.label c.loop-which.which
    c.loop-which-test.false c.loop-which.invariant

pub returns-clause-spreads : goal.returns-clause-spreads
returns-clause-spreads c = c.loop-which.invariant.spreads
