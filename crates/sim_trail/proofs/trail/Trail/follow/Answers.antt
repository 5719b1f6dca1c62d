-- Where the marks are those of the state there are no shifts. The marks of a state ascend, as the ids of its rows do.
use Rattle.sim_trail.proofs.trail.Trail.follow.Goals as goal
use Rattle.sim_trail.{proofs.Merging.{marks_ascend, no_shifts}, specs.{declared.mark.Mark.Mark, Shifts.{IsAscending, mark_of, marks_of, shifts_between}}}
use Rattle.std.proofs.Common.{ap, List, map, subst, sym, ◌∙◌, ◌≡◌}

pub returns-then-are_marks_of-clause-shifts : goal.returns-then-are_marks_of-clause-shifts
returns-then-are_marks_of-clause-shifts c =
    let marks = marks_of c.args.state.now in
    let same : c.args.self.now ≡ marks = sym c.self.view_is ∙ sym c.as_slice.ensures.value ∙ c.are_marks_of.ensures.same c.if-are_marks_of.true ∙
    ap (map mark_of) c.as_slice-rows.ensures in
    c.new.ensures ∙ sym (ap (λ (old : List Mark). shifts_between old marks) same ∙ no_shifts marks)

pub shifts_between-requires-clause-news : goal.shifts_between-requires-clause-news
shifts_between-requires-clause-news c =
    subst IsAscending (sym (c.as_slice-3.ensures.value ∙ c.in_ok-marks.ensures ∙ ap (map mark_of) c.as_slice-rows.ensures))
    (marks_ascend c.args.state.now c.requires.ascending)

pub invariant_of-self : goal.invariant_of-self
invariant_of-self c = subst IsAscending (sym (c.in_ok-marks.ensures ∙ ap (map mark_of) c.as_slice-rows.ensures))
    (marks_ascend c.args.state.now c.requires.ascending)
