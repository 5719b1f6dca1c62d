use Rattle.sim_attack.proofs.hit.listed_hits.Goals as goal
use Rattle.sim_attack.proofs.Fighting.{behind_word, far_all, far_more, hurt_at, listed_more}
use Rattle.sim_base.specs.{declared.{change.Change.{Change, TheVariants.Word}, state.Row.Row}, Turn.hitting}
use Rattle.{sim_plans.specs.Plans.{fight_changes_of, hurt_changes_by, hurt_changes_of}, std.proofs.Common.{ap, arith, flat_map, get_or, length, List, refl}}
use Rattle.std.proofs.{Common.{rules, take, ℕ, [], ◌*◌, ◌++◌, ◌+◌, ◌<◌, ◌^◌, ◌∙◌, ◌∷◌, ◌≡◌, ◌≤◌}, lemmas.List.{Elements.All-weaker, take_all}}

pub loop-row-preserved : goal.loop-row-preserved
loop-row-preserved c =
    let setup = c.args.setup.now in
    let state = c.args.state.now in
    let n = c.loop-row.row-index in
    let row = c.row-item.result in
    let before = c.loop-row.invariant in
    let lt : n < length state.rows = omega (arith, ap (λ (rs : List Row). length rs) c.as_slice-rows.ensures) in
    let is : row ≡ get_or state.rows n row = c.row-item.is ∙ ap (λ (rs : List Row). get_or rs n row) c.as_slice-rows.ensures in
    let far = far_more setup state n row c.loop-row.word c.in_ok-word.word c.loop-row.damage.items c.fight.new.damage.items lt is before.far
    c.in_ok-word.ensures.word c.in_ok-word.ensures.damage in
    record {
      changes = listed_more (fight_changes_of setup state) state.rows n row c.loop-row.changes c.fight.new.changes lt is before.changes
          c.in_ok-word.ensures.changes;
      far = far;
      word = c.in_ok-word.ensures.is_word;
      long = far.taken.long;
      small = All-weaker (λ (k : ℕ). k ≤ n * 196608000 + 196608000) (λ (k : ℕ). k ≤ (n + 1) * 196608000) (λ k h. omega (arith, h)) c.fight.new.damage.items
          (c.in_ok-word.ensures.small (n * 196608000) before.small);
    }

pub loop-at-init : goal.loop-at-init
loop-at-init c =
    let setup = c.args.setup.now in
    let state = c.args.state.now in
    let n = c.loop-row.row-index in
    let before = c.loop-row.invariant in
    let rows_are = ap (λ (rs : List Row). length rs) c.as_slice-rows.ensures in
    let ge : length state.rows ≤ n = omega (arith, rows_are) in
    let le : n ≤ length state.rows = omega (arith, rows_are) in
    let all = far_all setup state n c.loop-row.word c.loop-row.damage.items ge before.far in
    let fights : c.loop-row.changes ≡ flat_map (fight_changes_of setup state) state.rows = before.changes ∙ ap (flat_map (fight_changes_of setup state))
    (take_all n state.rows ge) in
    record {
      changes = c.in_ok-push.ensures.ok ∙ ap (λ (cs : List Change). cs ++ Word c.loop-row.word ∷ []) fights ∙
          ap (λ (w : ℕ). flat_map (fight_changes_of setup state) state.rows ++ Word w ∷ []) all.0;
      taken = all.1;
      small = All-weaker (λ (k : ℕ). k ≤ n * 196608000) (λ (k : ℕ). k < 2 ^ 62) (λ k h. omega (arith, h, le, c.requires.valid.few)) c.loop-row.damage.items
          before.small;
    }

pub loop-at-preserved : goal.loop-at-preserved
loop-at-preserved c =
    let setup = c.args.setup.now in
    let state = c.args.state.now in
    let at = c.loop-at.at in
    let row = c.index-rows-at.result in
    let before = c.loop-at.invariant in
    let hits = (hitting setup state).hits in
    let front = flat_map (fight_changes_of setup state) state.rows in
    let word = (hitting setup state).word in
    let lt : at < length state.rows = omega (arith, ap (λ (rs : List Row). length rs) c.as_slice-rows.ensures) in
    let is : row ≡ get_or state.rows at row = c.index-rows-at.is ∙ ap (λ (rs : List Row). get_or rs at row) c.as_slice-rows.ensures in
    let taken = c.index.result.now in
    let here = hurt_at state.rows hits c.loop-row.damage.items at row taken lt is c.index.ensures before.taken in
    let back = flat_map (hurt_changes_of hits) (take at state.rows) in
    let more = listed_more (hurt_changes_of hits) state.rows at row back (back ++ hurt_changes_of hits row) lt is refl refl in
    record {
      changes = c.in_ok-push_hurt.ensures ∙ ap (λ (cs : List Change). cs ++ hurt_changes_by row.id taken row.health) before.changes ∙
          behind_word front word back (hurt_changes_by row.id taken row.health) ∙
          ap (λ (cs : List Change). front ++ Word word ∷ (back ++ cs)) here ∙ ap (λ (cs : List Change). front ++ Word word ∷ cs) more;
      taken = before.taken;
      small = before.small;
    }

pub fight-requires-clause-known : goal.fight-requires-clause-known
fight-requires-clause-known c = record { limits = c.requires.limits; valid = c.requires.valid; row_is = search rules }
