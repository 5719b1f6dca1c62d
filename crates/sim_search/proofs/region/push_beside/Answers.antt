-- The open cell in one direction more is added, if it lies in the window.
use Rattle.sim_search.proofs.region.push_beside.Goals as goal
use Rattle.sim_search.proofs.Common.{Cell, Contains, field_of_grid, List, None, Option, Some, subst, sym, true, true≢false, ◌∙◌, ◌≡◌}
use Rattle.sim_search.proofs.region.push_beside.Goals.{else-has-via-else-has, else-has-via-then-has+then-open+else-not-is_among, in-Some+else-has}
use Rattle.sim_search.proofs.region.push_beside.Goals.{else-has-via-then-has+else-open, in-Some+then-has+then-open+then-not-is_among+in_ok-push, in_default}
use Rattle.sim_search.{proofs.Added.adding_begins, proofs.Added.adding_done, proofs.Added.adding_push, proofs.Added.adding_same, specs.Floods.IsInside}

one_cell : (o : Option Cell) (a b : Cell) → o ≡ Some a → o ≡ Some b → a ≡ b
one_cell o a b e f = let both : Some a ≡ Some b = sym e ∙ f in cc

pub loop-which-init : goal.loop-which-init
loop-which-init c = adding_begins (field_of_grid c.args.grid.now) c.args.window c.args.from c.args.cells.now.items

pub loop-which-preserved : goal.loop-which-preserved
loop-which-preserved c =
    let field = field_of_grid c.args.grid.now in
    let first = c.args.cells.now.items in
    let old = c.loop-which.cells.items in
    let n = c.loop-which.which in
    elim c.match-neighbour.branch [
      | in-Some+then-has+then-open+then-not-is_among+in_ok-push w ↦
          rw (w.cells-is, w.in_ok-push.ensures.items)
          (adding_push field c.args.window c.args.from first old n w.in-Some.to c.loop-which-test.true (sym c.neighbour.ensures ∙ w.in-Some.is)
          (sym w.open.ensures ∙ w.if-open.true) c.loop-which.invariant)
      | in-Some+else-has w ↦
          let one = λ (e : Cell) (is : c.neighbour.result ≡ Some e). one_cell c.neighbour.result w.in-Some.to e w.in-Some.is is in
          rw w.cells-is
          (adding_same field c.args.window c.args.from first old n c.loop-which.invariant (λ e is free inside.
          let to_is = one e (c.neighbour.ensures ∙ is) in
          elim w.else-has.branch [
            | else-has-via-then-has+then-open+else-not-is_among v ↦
                subst (Contains old) to_is (subst (λ (xs : List Cell). Contains xs w.in-Some.to) v.as_slice.ensures.value
                (v.is_among.ensures v.if-not-is_among.false))
            | else-has-via-then-has+else-open v ↦
                absurd (true≢false (sym (subst (λ (t : Cell). field.is_open t ≡ true) (sym to_is) free) ∙ sym v.open.ensures ∙ v.if-open.false))
            | else-has-via-else-has v ↦
                absurd (true≢false (sym (w.has.ensures.1 (subst (IsInside c.args.window) (sym to_is) inside)) ∙ v.if-has.false))
          ]))
      | in_default w ↦
          rw w.cells-is
          (adding_same field c.args.window c.args.from first old n c.loop-which.invariant (λ e is free inside.
          absurd (let both : None ≡ Some e = sym w.in_default.is ∙ c.neighbour.ensures ∙ is in let never : ⊥ = cc in never)))
    ]

pub returns : goal.returns
returns c = adding_done (field_of_grid c.args.grid.now) c.args.window c.args.from c.args.cells.now.items c.loop-which.cells.items c.loop-which.which
    c.loop-which-test.false c.loop-which.invariant
