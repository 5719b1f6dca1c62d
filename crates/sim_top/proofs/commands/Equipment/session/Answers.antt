-- The match and the steps were read and the session run, or one could not be read.
use Rattle.sim_top.proofs.commands.Equipment.session.Goals as goal
use Rattle.sim_top.proofs.Common.{All, Answer, ap, Done, drop, Err, File, HaveKinds, IfSome, IsAnswerTo, length, List, Ok, Option, printed, Result}
use Rattle.sim_top.proofs.Common.{RigsCameBackBy, rules, session_match_in, session_text, shelved, Some, status_made, steps_in, Stop, subst, sym, systems_by}
use Rattle.sim_top.proofs.{Answering.match_ends, Answering.session_opens, Answering.steps_end, Answering.steps_go_on, Common.to_session, Common.◌∙◌, Common.◌≡◌}
use Rattle.sim_top.proofs.{Playing.made_if, Playing.text_made, Returning.All-unmap, Returning.rigs_left, Returning.session_played}
use Rattle.{sim_client.specs.StageWords.AreCleared, sim_session.specs.Going.rigs_by, sim_session.specs.Laws.AllBuiltAtMost, sim_session.specs.Laws.builds_of}
use Rattle.{sim_top.specs.Stops.AreEightBy, std.proofs.lemmas.List.Elements.All-map, std.specs.Prelude.vec_capacity}

pub returns-in_err-setup-clause-answer : goal.returns-in_err-setup-clause-answer
returns-in_err-setup-clause-answer g c =
    let is : c.from_residual.result ≡ Err c.in_err-setup.field-0.0 = search rules in
    let game = c.args.game.now in
    let steps = c.args.steps.now in
    let before = shelved (g.S.Shelf.held c.args.shelf.now) (g.S.Shelf.counts c.args.shelf.now) in
    let now = shelved (g.S.Shelf.held c.read_session_match.new.shelf) (g.S.Shelf.counts c.read_session_match.new.shelf) in
    subst (λ (r : Result Answer Stop). IsAnswerTo (to_session game steps) r before now) (sym is)
    (match_ends (to_session game steps) game (λ files. session_match_in files game) c.in_err-setup.field-0.0 before now (session_opens game steps)
    c.in_err-setup.ensures.read.stops c.in_err-setup.ensures.tells
    c.in_err-setup.ensures.read.reading)

pub returns-in_err-setup-clause-back : goal.returns-in_err-setup-clause-back
returns-in_err-setup-clause-back g c =
    let is : c.from_residual.result ≡ Err c.in_err-setup.field-0.0 = search rules in
    let held = g.S.Shelf.held c.args.shelf.now in
    subst (λ (r : Result Answer Stop). RigsCameBackBy (λ i v. (goal.System-dyn g (i, v)).meaning v) (Some (to_session c.args.game.now c.args.steps.now)) held
    (status_made r) c.args.self.now.rigs c.args.self.now.rigs) (sym is)
    (rigs_left (λ i v. (goal.System-dyn g (i, v)).meaning v) (Some (to_session c.args.game.now c.args.steps.now)) held c.in_err-setup.field-0.0
    c.args.self.now.rigs
    c.requires.eight)

pub returns-in_err-list-clause-answer : goal.returns-in_err-list-clause-answer
returns-in_err-list-clause-answer g c =
    let is : c.from_residual-in_err-list.result ≡ Err c.in_err-list.field-0.0 = search rules in
    let before = shelved (g.S.Shelf.held c.args.shelf.now) (g.S.Shelf.counts c.args.shelf.now) in
    let now = shelved (g.S.Shelf.held c.read_steps.new.shelf) (g.S.Shelf.counts c.read_steps.new.shelf) in
    subst (λ (r : Result Answer Stop). IsAnswerTo (to_session c.args.game.now c.args.steps.now) r before now) (sym is)
    (steps_end c.args.game.now c.args.steps.now c.in_ok-setup.setup before _ now c.in_ok-setup.ensures.read.reading c.in_ok-setup.ensures.tells
    c.in_err-list.field-0.0 c.in_err-list.ensures.read.stops
    c.in_err-list.ensures.read.reading c.in_err-list.ensures.tells)

pub returns-in_err-list-clause-back : goal.returns-in_err-list-clause-back
returns-in_err-list-clause-back g c =
    let is : c.from_residual-in_err-list.result ≡ Err c.in_err-list.field-0.0 = search rules in
    let held = g.S.Shelf.held c.args.shelf.now in
    subst (λ (r : Result Answer Stop). RigsCameBackBy (λ i v. (goal.System-dyn g (i, v)).meaning v) (Some (to_session c.args.game.now c.args.steps.now)) held
    (status_made r) c.args.self.now.rigs c.args.self.now.rigs) (sym is)
    (rigs_left (λ i v. (goal.System-dyn g (i, v)).meaning v) (Some (to_session c.args.game.now c.args.steps.now)) held c.in_err-list.field-0.0
    c.args.self.now.rigs
    c.requires.eight)

pub session_text-text-requires-clause-begins : goal.session_text-text-requires-clause-begins
session_text-text-requires-clause-begins g c =
    record {
      limits = c.in_ok-setup.ensures.read.good;
      eight = subst (λ rigs. length rigs.items ≡ 8) (sym c.replace-all.ensures.value) c.requires.eight.count;
      fresh = record {
        kinds = All-map HaveKinds (λ rig. systems_by rig (λ i v. (goal.System-dyn g (i, v)).meaning v)) c.replace-all.result.items
            (subst (λ rigs. All (λ rig. HaveKinds (systems_by rig (λ i v. (goal.System-dyn g (i, v)).meaning v))) rigs.items) (sym c.replace-all.ensures.value)
            c.requires.eight.kinds);
        cleared = All-map AreCleared (λ rig. systems_by rig (λ i v. (goal.System-dyn g (i, v)).meaning v)) c.replace-all.result.items
            (subst (λ rigs. All (λ rig. AreCleared (systems_by rig (λ i v. (goal.System-dyn g (i, v)).meaning v))) rigs.items) (sym c.replace-all.ensures.value)
            c.requires.cleared);
      };
    }

pub returns-clause-answer : goal.returns-clause-answer
returns-clause-answer g c =
    let setup = c.in_ok-setup.setup in
    let list = c.in_ok-list.list in
    let made_so = text_made c.shown.result c.session_text-text.result.0 (session_text setup list) c.shown.ensures.stops c.shown.ensures.refused
    c.shown.ensures.made c.session_text-text.ensures.text in
    steps_go_on c.args.game.now c.args.steps.now c.in_ok-setup.setup _ _ _ c.in_ok-setup.ensures.read.reading c.in_ok-setup.ensures.tells c.in_ok-list.list
    c.shown.result c.in_ok-list.ensures.read.reading
    c.in_ok-list.ensures.tells made_so

pub returns-clause-back : goal.returns-clause-back
returns-clause-back g c =
    let setup = c.in_ok-setup.setup in
    let list = c.in_ok-list.list in
    let made_so = text_made c.shown.result c.session_text-text.result.0 (session_text setup list) c.shown.ensures.stops c.shown.ensures.refused
    c.shown.ensures.made c.session_text-text.ensures.text in
    let built_so = subst (λ rigs. AllBuiltAtMost (builds_of setup list) setup.players (rigs_by rigs.items (λ i v. (goal.System-dyn g (i, v)).meaning v))
    (rigs_by c.session_text-text.result.1.items (λ i v. (goal.System-dyn g (i, v)).meaning v))) c.replace-all.ensures.value
    c.session_text-text.ensures.rigs.built in
    let eight_so : AreEightBy (λ i v. (goal.System-dyn g (i, v)).meaning v) c.session_text-text.result.1.items = record {
      count = c.session_text-text.ensures.rigs.back.eight;
      kinds = All-unmap HaveKinds (λ rig. systems_by rig (λ i v. (goal.System-dyn g (i, v)).meaning v)) c.session_text-text.result.1.items
          c.session_text-text.ensures.rigs.back.kinds;
    } in
    session_played (λ i v. (goal.System-dyn g (i, v)).meaning v) (g.S.Shelf.held c.args.shelf.now) c.args.game.now c.args.steps.now setup list
    (printed Done (session_text setup list)) c.shown.result c.args.self.now.rigs c.session_text-text.result.1
    c.in_ok-setup.ensures.read.good c.in_ok-list.ensures.read.good c.in_ok-setup.ensures.tells
    (subst (λ (held : Option (List File)). IfSome held (λ files. steps_in files c.args.steps.now setup.players ≡ Ok list))
    c.in_ok-setup.ensures.read.reading.same
    c.in_ok-list.ensures.tells)
    made_so tt (made_if c.shown.result c.session_text-text.result.0 c.shown.ensures.stops c.shown.ensures.refused _ c.session_text-text.ensures.stand) built_so
    (c.session_text-text.ensures.rigs.back.spare ∙ ap (λ rigs. drop setup.players rigs.items) c.replace-all.ensures.value) c.requires.eight eight_so
    (c.session_text-text.ensures.rigs.back.room ∙ ap (λ rigs. vec_capacity rigs) c.replace-all.ensures.value)
