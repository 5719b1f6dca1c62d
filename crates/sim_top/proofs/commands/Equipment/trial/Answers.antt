-- The match of the trial was made and played, or refused.
use Rattle.sim_top.proofs.commands.Equipment.trial.Goals as goal
use Rattle.{sim_play.specs.Lines.trial_line, sim_top.proofs.{Answering.{trial_ends, trial_goes_on}, Common.{after, Answer, AreFed, arith, Err, File}}}
use Rattle.sim_top.proofs.Common.{IsAnswerTo, List, own_turns, refl, Result, RigsCameBackBy, rules, Setup, Some, State, status_made, Stop, subst, sym}
use Rattle.sim_top.proofs.{Common.{systems_by, to_try, trial_match, trial_outcome, ◌∙◌, ◌≡◌}, Playing.{made_if, text_if, text_made, text_of_state}}
use Rattle.sim_top.{proofs.Returning.{first_played, kind_of_first, rigs_left, room_for, stands_read, whatever_held}, specs.Stops.HasPlayedBy}

pub returns-in_err-setup-clause-answer : goal.returns-in_err-setup-clause-answer
returns-in_err-setup-clause-answer g c =
    λ shelf.
    let is : c.from_residual.result ≡ Err c.in_err-setup.field-0.0 = search rules in
    let n = c.args.numbers in
    subst (λ (r : Result Answer Stop). IsAnswerTo (to_try n.0 n.1 n.2) r shelf shelf) (sym is)
    (trial_ends n.0 n.1 n.2 shelf c.in_err-setup.field-0.0 c.in_err-setup.ensures.parsed.stops c.in_err-setup.ensures.parsed.content
    c.in_err-setup.ensures.tells)

pub returns-in_err-setup-clause-back : goal.returns-in_err-setup-clause-back
returns-in_err-setup-clause-back g c =
    λ held.
    let is : c.from_residual.result ≡ Err c.in_err-setup.field-0.0 = search rules in
    let n = c.args.numbers in
    subst (λ (r : Result Answer Stop). RigsCameBackBy (λ i v. (goal.System-dyn g (i, v)).meaning v) (Some (to_try n.0 n.1 n.2)) held (status_made r)
    c.args.self.now.rigs c.args.self.now.rigs) (sym is)
    (rigs_left (λ i v. (goal.System-dyn g (i, v)).meaning v) (Some (to_try n.0 n.1 n.2)) held c.in_err-setup.field-0.0 c.args.self.now.rigs c.requires.eight)

pub state_at-state-requires : goal.state_at-state-requires
state_at-state-requires g c = record {
  limits = c.in_ok-setup.ensures.parsed.good;
  within = omega arith;
  kinds = kind_of_first (λ i v. (goal.System-dyn g (i, v)).meaning v) c.args.self.now.rigs.items c.take_first-rig.new.rigs.items c.take_first-rig.result
      c.take_first-rig.ensures.items c.requires.eight.kinds;
}

pub put_first-requires : goal.put_first-requires
put_first-requires g c =
    room_for (λ i v. (goal.System-dyn g (i, v)).meaning v) c.args.self.now.rigs c.take_first-rig.new.rigs c.take_first-rig.result c.take_first-rig.ensures.items
    c.take_first-rig.ensures.room

pub returns-clause-answer : goal.returns-clause-answer
returns-clause-answer g c =
    λ shelf.
    let n = c.args.numbers in
    let setup = c.in_ok-setup.setup in
    let last = after setup (own_turns setup 0 setup.turns) in
    let made_so = text_made c.shown.result c.trial_text.result (trial_line n.0 n.1 n.2 setup last) c.shown.ensures.stops c.shown.ensures.refused
    c.shown.ensures.made (text_of_state c.trial_text.result c.state_at-state.result.0 c.trial_text.ensures.refused
    (λ (s : State). trial_line n.0 n.1 n.2 setup s) last c.trial_text.ensures.text c.state_at-state.ensures.state) in
    trial_goes_on n.0 n.1 n.2 shelf setup c.shown.result c.in_ok-setup.ensures.tells made_so

pub returns-clause-back : goal.returns-clause-back
returns-clause-back g c =
    λ held.
    let n = c.args.numbers in
    let setup = c.in_ok-setup.setup in
    let last = after setup (own_turns setup 0 setup.turns) in
    let made_so = text_made c.shown.result c.trial_text.result (trial_line n.0 n.1 n.2 setup last) c.shown.ensures.stops c.shown.ensures.refused
    c.shown.ensures.made (text_of_state c.trial_text.result c.state_at-state.result.0 c.trial_text.ensures.refused
    (λ (s : State). trial_line n.0 n.1 n.2 setup s) last c.trial_text.ensures.text c.state_at-state.ensures.state) in
    let played_so : HasPlayedBy (λ i v. (goal.System-dyn g (i, v)).meaning v) setup last c.shown.result c.take_first-rig.result c.state_at-state.result.1 =
    record {
      fed = made_if c.shown.result c.trial_text.result c.shown.ensures.stops c.shown.ensures.refused _
          (text_if c.trial_text.result c.state_at-state.result.0 c.trial_text.ensures.refused _ c.state_at-state.ensures.played.fed);
      kinds = c.state_at-state.ensures.played.kinds;
      most = c.state_at-state.ensures.played.most;
    } in
    first_played (λ i v. (goal.System-dyn g (i, v)).meaning v) (to_try n.0 n.1 n.2) held setup last
    (trial_outcome n.0 n.1 n.2 setup) c.shown.result c.take_first-rig.result c.state_at-state.result.1
    c.take_first-rig.new.rigs.items c.args.self.now.rigs c.put_first.new.rigs c.requires.eight c.take_first-rig.ensures.items c.put_first.ensures.items
    (c.put_first.ensures.room ∙ c.take_first-rig.ensures.room) refl
    made_so tt played_so
    (stands_read held (λ files. trial_match n.0 n.1 n.2) setup c.shown.result
    (λ (files : List File) (setup : Setup). AreFed setup (after setup (own_turns setup 0 setup.turns))
    (systems_by c.state_at-state.result.1 (λ i v. (goal.System-dyn g (i, v)).meaning v)))
    (whatever_held held _ c.in_ok-setup.ensures.tells) (whatever_held held _ played_so.fed))
