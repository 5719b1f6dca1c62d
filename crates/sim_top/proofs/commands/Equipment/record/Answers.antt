-- The match and the steps were read and the session recorded, or one could not be read.
use Rattle.sim_top.proofs.commands.Equipment.record.Goals as goal
use Rattle.{sim_base.specs.declared.command.PlayerCommand.PlayerCommand, sim_client.specs.StageWords.AreCleared, sim_laws.specs.TurnLaws.IsOrderOf}
use Rattle.sim_session.{proofs.Builds.{all_built_so, none_built}, specs.{Going.rigs_by, Laws.{AllBuiltAtMost, builds_of}, Recording.released_turns}}
use Rattle.sim_top.proofs.{Answering.match_ends, Common.{All, Answer, ap, arith, codes, drop, Err, File, HaveKinds, IfSome, IsAnswerTo, IsMade, length, List}}
use Rattle.sim_top.proofs.Common.{log_after, logged_as, Ok, Option, OutOfMemory, refl, Result, RigsCameBackBy, rules, session_match_in, session_of, shelved}
use Rattle.sim_top.proofs.Common.{Some, state_after, status_made, steps_in, Stop, subst, sym, systems_by, to_record, ◌∙◌, ◌≡◌, ◌≤◌}
use Rattle.sim_top.proofs.Recorded.{behind_first, few_released, first_built, of_ok, record_ends, record_goes_on, record_opens, recorded_so, released_players}
use Rattle.sim_top.{proofs.Returning.{All-unmap, record_played, rigs_left}, specs.{Outcome.builds_with_log, Stops.{HasPlayedBy, OfFirsts}}}
use Rattle.std.{proofs.lemmas.List.Elements.All-map, specs.Prelude.{if◌then◌else◌, vec_capacity, ◌==◌}}

pub returns-in_err-setup-clause-answer : goal.returns-in_err-setup-clause-answer
returns-in_err-setup-clause-answer g c =
    let is : c.from_residual.result ≡ Err c.in_err-setup.field-0.0 = search rules in
    let game = c.args.game.now in
    let steps = c.args.steps.now in
    let out = c.args.out.now in
    let before = shelved (g.S.Shelf.held c.args.shelf.now) (g.S.Shelf.counts c.args.shelf.now) in
    let now = shelved (g.S.Shelf.held c.read_session_match.new.shelf) (g.S.Shelf.counts c.read_session_match.new.shelf) in
    subst (λ (r : Result Answer Stop). IsAnswerTo (to_record game steps out) r before now) (sym is)
    (match_ends (to_record game steps out) game (λ files. session_match_in files game) c.in_err-setup.field-0.0 before now (record_opens game steps out)
    c.in_err-setup.ensures.read.stops c.in_err-setup.ensures.tells
    c.in_err-setup.ensures.read.reading)

pub returns-in_err-setup-clause-back : goal.returns-in_err-setup-clause-back
returns-in_err-setup-clause-back g c =
    let is : c.from_residual.result ≡ Err c.in_err-setup.field-0.0 = search rules in
    let held = g.S.Shelf.held c.args.shelf.now in
    subst (λ (r : Result Answer Stop). RigsCameBackBy (λ i v. (goal.System-dyn g (i, v)).meaning v)
    (Some (to_record c.args.game.now c.args.steps.now c.args.out.now)) held
    (status_made r) c.args.self.now.rigs c.args.self.now.rigs) (sym is)
    (rigs_left (λ i v. (goal.System-dyn g (i, v)).meaning v) (Some (to_record c.args.game.now c.args.steps.now c.args.out.now)) held c.in_err-setup.field-0.0
    c.args.self.now.rigs
    c.requires.eight)

pub returns-in_err-list-clause-answer : goal.returns-in_err-list-clause-answer
returns-in_err-list-clause-answer g c =
    let is : c.from_residual-in_err-list.result ≡ Err c.in_err-list.field-0.0 = search rules in
    let before = shelved (g.S.Shelf.held c.args.shelf.now) (g.S.Shelf.counts c.args.shelf.now) in
    let now = shelved (g.S.Shelf.held c.read_steps.new.shelf) (g.S.Shelf.counts c.read_steps.new.shelf) in
    subst (λ (r : Result Answer Stop). IsAnswerTo (to_record c.args.game.now c.args.steps.now c.args.out.now) r before now) (sym is)
    (record_ends c.args.game.now c.args.steps.now c.args.out.now c.in_ok-setup.setup before _ now c.in_ok-setup.ensures.read.reading c.in_ok-setup.ensures.tells
    c.in_err-list.field-0.0 c.in_err-list.ensures.read.stops
    c.in_err-list.ensures.read.reading c.in_err-list.ensures.tells)

pub returns-in_err-list-clause-back : goal.returns-in_err-list-clause-back
returns-in_err-list-clause-back g c =
    let is : c.from_residual-in_err-list.result ≡ Err c.in_err-list.field-0.0 = search rules in
    let held = g.S.Shelf.held c.args.shelf.now in
    subst (λ (r : Result Answer Stop). RigsCameBackBy (λ i v. (goal.System-dyn g (i, v)).meaning v)
    (Some (to_record c.args.game.now c.args.steps.now c.args.out.now)) held
    (status_made r) c.args.self.now.rigs c.args.self.now.rigs) (sym is)
    (rigs_left (λ i v. (goal.System-dyn g (i, v)).meaning v) (Some (to_record c.args.game.now c.args.steps.now c.args.out.now)) held c.in_err-list.field-0.0
    c.args.self.now.rigs
    c.requires.eight)

pub released_turns-turns-requires-clause-begins : goal.released_turns-turns-requires-clause-begins
released_turns-turns-requires-clause-begins g c =
    record {
      limits = c.in_ok-setup.ensures.read.good;
      eight = subst (λ rigs. length rigs.items ≡ 8) (sym c.replace-all.ensures.value) c.requires.eight.count;
      fresh = record {
        kinds = All-map HaveKinds (λ rig. systems_by rig (λ i v. (goal.System-dyn g (i, v)).meaning v)) c.replace-all.result.items
            (subst (λ rigs. All (λ rig. HaveKinds (systems_by rig (λ i v. (goal.System-dyn g (i, v)).meaning v))) rigs.items) (sym c.replace-all.ensures.value)
            c.requires.eight.kinds);
        cleared = All-map AreCleared (λ rig. systems_by rig (λ i v. (goal.System-dyn g (i, v)).meaning v)) c.replace-all.result.items
            (subst (λ rigs. All (λ rig. AreCleared (systems_by rig (λ i v. (goal.System-dyn g (i, v)).meaning v))) rigs.items) (sym c.replace-all.ensures.value)
            c.requires.cleared);
      };
    }

pub record_turns-requires-clause-few : goal.record_turns-requires-clause-few
record_turns-requires-clause-few g c =
    let setup = c.in_ok-setup.setup in
    let list = c.in_ok-list.list in
    let was : c.released_turns-turns.result.0 ≡ Ok c.in_ok-turns.field-0 = search rules in
    let is : c.in_ok-turns.field-0 ≡ released_turns (session_of setup list) = of_ok c.released_turns-turns.result.0 c.in_ok-turns.field-0
    (λ turns. turns ≡ released_turns (session_of setup list)) was c.released_turns-turns.ensures.turns in
    subst (λ (turns : List (List PlayerCommand)). length turns ≤ setup.turns) (sym is) (few_released setup list c.in_ok-list.ensures.read.good)

pub record_turns-requires-clause-players : goal.record_turns-requires-clause-players
record_turns-requires-clause-players g c =
    let setup = c.in_ok-setup.setup in
    let list = c.in_ok-list.list in
    let was : c.released_turns-turns.result.0 ≡ Ok c.in_ok-turns.field-0 = search rules in
    let is : c.in_ok-turns.field-0 ≡ released_turns (session_of setup list) = of_ok c.released_turns-turns.result.0 c.in_ok-turns.field-0
    (λ turns. turns ≡ released_turns (session_of setup list)) was c.released_turns-turns.ensures.turns in
    subst (All (All (IsOrderOf setup))) (sym is) (released_players setup list c.in_ok-list.ensures.read.good)

pub record_turns-requires-clause-eight : goal.record_turns-requires-clause-eight
record_turns-requires-clause-eight g c =
    record {
      count = c.released_turns-turns.ensures.rigs.back.eight;
      kinds = All-unmap HaveKinds (λ rig. systems_by rig (λ i v. (goal.System-dyn g (i, v)).meaning v)) c.released_turns-turns.result.1.items
          c.released_turns-turns.ensures.rigs.back.kinds;
    }

-- there was no memory for the turns, and the rigs are back from the session
pub returns-in_err-turns-clause-answer : goal.returns-in_err-turns-clause-answer
returns-in_err-turns-clause-answer g c =
    let is : c.from_residual-in_err-turns.result ≡ Err OutOfMemory = search rules in
    let before = shelved (g.S.Shelf.held c.args.shelf.now) (g.S.Shelf.counts c.args.shelf.now) in
    let now = shelved (g.S.Shelf.held c.read_steps.new.shelf) (g.S.Shelf.counts c.read_steps.new.shelf) in
    subst (λ (r : Result Answer Stop). IsAnswerTo (to_record c.args.game.now c.args.steps.now c.args.out.now) r before now) (sym is)
    (record_goes_on c.args.game.now c.args.steps.now c.args.out.now c.in_ok-setup.setup before _ now c.in_ok-setup.ensures.read.reading
    c.in_ok-setup.ensures.tells c.in_ok-list.list (Err OutOfMemory) c.in_ok-list.ensures.read.reading c.in_ok-list.ensures.tells
    (record { answers = tt; stops = refl }))

pub returns-in_err-turns-clause-back : goal.returns-in_err-turns-clause-back
returns-in_err-turns-clause-back g c =
    let is : c.from_residual-in_err-turns.result ≡ Err OutOfMemory = search rules in
    let setup = c.in_ok-setup.setup in
    let list = c.in_ok-list.list in
    let out = c.args.out.now in
    let held = g.S.Shelf.held c.args.shelf.now in
    let back = c.released_turns-turns.result.1 in
    let came = c.released_turns-turns.ensures.rigs in
    let was = c.replace-all.ensures.value in
    let hosted = subst (λ rigs. AllBuiltAtMost (builds_of setup list) setup.players (rigs_by rigs.items (λ i v. (goal.System-dyn g (i, v)).meaning v))
    (rigs_by back.items (λ i v. (goal.System-dyn g (i, v)).meaning v))) was came.built in
    let built = all_built_so (builds_of setup list) (λ k. 0) (builds_with_log setup list) setup.players (rigs_by c.args.self.now.rigs.items
    (λ i v. (goal.System-dyn g (i, v)).meaning v))
    (rigs_by back.items (λ i v. (goal.System-dyn g (i, v)).meaning v)) (rigs_by back.items (λ i v. (goal.System-dyn g (i, v)).meaning v)) (λ k. omega arith)
    hosted (none_built (λ k. 0) setup.players (rigs_by back.items (λ i v. (goal.System-dyn g (i, v)).meaning v))) in
    subst (λ (r : Result Answer Stop). RigsCameBackBy (λ i v. (goal.System-dyn g (i, v)).meaning v) (Some (to_record c.args.game.now c.args.steps.now out))
    held (status_made r)
    c.args.self.now.rigs back) (sym is)
    (record_played (λ i v. (goal.System-dyn g (i, v)).meaning v) held c.args.game.now c.args.steps.now out setup list
    (logged_as (codes "record") setup out (log_after setup (released_turns (session_of setup list)))) (Err OutOfMemory) c.args.self.now.rigs back
    c.in_ok-setup.ensures.read.good c.in_ok-list.ensures.read.good c.in_ok-setup.ensures.tells
    (subst (λ (held : Option (List File)). IfSome held (λ files. steps_in files c.args.steps.now setup.players ≡ Ok list))
    c.in_ok-setup.ensures.read.reading.same c.in_ok-list.ensures.tells)
    (record { answers = tt; stops = refl }) tt tt built
    (came.back.spare ∙ ap (λ rigs. drop setup.players rigs.items) was) c.requires.eight
    (record {
      count = came.back.eight;
      kinds = All-unmap HaveKinds (λ rig. systems_by rig (λ i v. (goal.System-dyn g (i, v)).meaning v)) back.items
          came.back.kinds;
    })
    (came.back.room ∙ ap (λ rigs. vec_capacity rigs) was))

pub returns-clause-answer : goal.returns-clause-answer
returns-clause-answer g c =
    let setup = c.in_ok-setup.setup in
    let list = c.in_ok-list.list in
    let was : c.released_turns-turns.result.0 ≡ Ok c.in_ok-turns.field-0 = search rules in
    let is : c.in_ok-turns.field-0 ≡ released_turns (session_of setup list) = of_ok c.released_turns-turns.result.0 c.in_ok-turns.field-0
    (λ turns. turns ≡ released_turns (session_of setup list)) was c.released_turns-turns.ensures.turns in
    record_goes_on c.args.game.now c.args.steps.now c.args.out.now setup _ _ _ c.in_ok-setup.ensures.read.reading c.in_ok-setup.ensures.tells list
    c.record_turns.result c.in_ok-list.ensures.read.reading c.in_ok-list.ensures.tells
    (subst (λ (turns : List (List PlayerCommand)). IsMade (logged_as (codes "record") setup c.args.out.now (log_after setup turns)) c.record_turns.result) is
    c.record_turns.ensures.made)

pub returns-clause-back : goal.returns-clause-back
returns-clause-back g c =
    let setup = c.in_ok-setup.setup in
    let list = c.in_ok-list.list in
    let out = c.args.out.now in
    let was : c.released_turns-turns.result.0 ≡ Ok c.in_ok-turns.field-0 = search rules in
    let is : c.in_ok-turns.field-0 ≡ released_turns (session_of setup list) = of_ok c.released_turns-turns.result.0 c.in_ok-turns.field-0
    (λ turns. turns ≡ released_turns (session_of setup list)) was c.released_turns-turns.ensures.turns in
    let back = c.released_turns-turns.result.1 in
    let now = c.record_turns.new.self.rigs in
    let came = c.released_turns-turns.ensures.rigs in
    let same = c.replace-all.ensures.value in
    let made_so = subst (λ (turns : List (List PlayerCommand)). IsMade (logged_as (codes "record") setup out (log_after setup turns)) c.record_turns.result) is
    c.record_turns.ensures.made in
    let recorded = recorded_so (λ i v. (goal.System-dyn g (i, v)).meaning v) setup list c.record_turns.result back.items now.items
    (subst (λ (turns : List (List PlayerCommand)). OfFirsts back.items now.items (HasPlayedBy (λ i v. (goal.System-dyn g (i, v)).meaning v) setup
    (state_after setup turns) c.record_turns.result)) is
    c.record_turns.ensures.played) c.record_turns.ensures.others c.released_turns-turns.ensures.cleared in
    let hosted = subst (λ rigs. AllBuiltAtMost (builds_of setup list) setup.players (rigs_by rigs.items (λ i v. (goal.System-dyn g (i, v)).meaning v))
    (rigs_by back.items (λ i v. (goal.System-dyn g (i, v)).meaning v))) same
    came.built in
    let built = all_built_so (builds_of setup list) (λ k. if k == 1 then 1 else 0) (builds_with_log setup list) setup.players
    (rigs_by c.args.self.now.rigs.items (λ i v. (goal.System-dyn g (i, v)).meaning v)) (rigs_by back.items (λ i v. (goal.System-dyn g (i, v)).meaning v))
    (rigs_by now.items (λ i v. (goal.System-dyn g (i, v)).meaning v)) (λ k. omega arith) hosted
    (first_built (λ i v. (goal.System-dyn g (i, v)).meaning v) setup (state_after setup c.in_ok-turns.field-0) c.record_turns.result setup.players back.items
    now.items
    c.record_turns.ensures.played c.record_turns.ensures.others) in
    let spare = behind_first setup.players back.items now.items
    (omega (arith, c.in_ok-list.ensures.read.good.clients.0, c.in_ok-list.ensures.read.good.clients.1)) c.record_turns.ensures.others
    ∙ came.back.spare ∙ ap (λ rigs. drop setup.players rigs.items) same in
    record_played (λ i v. (goal.System-dyn g (i, v)).meaning v) (g.S.Shelf.held c.args.shelf.now) c.args.game.now c.args.steps.now out setup list
    (logged_as (codes "record") setup out (log_after setup (released_turns (session_of setup list)))) c.record_turns.result c.args.self.now.rigs now
    c.in_ok-setup.ensures.read.good c.in_ok-list.ensures.read.good c.in_ok-setup.ensures.tells
    (subst (λ (held : Option (List File)). IfSome held (λ files. steps_in files c.args.steps.now setup.players ≡ Ok list))
    c.in_ok-setup.ensures.read.reading.same c.in_ok-list.ensures.tells)
    made_so tt recorded built spare c.requires.eight c.record_turns.ensures.eight
    (c.record_turns.ensures.room ∙ came.back.room ∙ ap (λ rigs. vec_capacity rigs) same)
