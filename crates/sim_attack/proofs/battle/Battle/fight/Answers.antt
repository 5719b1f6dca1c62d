-- The hit that lands is added to the sum of its target.
use Rattle.{sim_attack.{proofs.Sums.{fought_lands, hit_at}, specs.Fights.AreTaken}, sim_base.specs.{Commands.is_near, declared.state.Row.Row, Places.next_word}}
use Rattle.{sim_base.specs.{Rows.{arms_of, row_of}, Turn.{Hit, lands, resist_of, taken}}, sim_plans.specs.Found.found, std.proofs.Common.{ap, arith, get_or}}
use Rattle.std.proofs.{Common.{length, List, rules, set, Some, subst, sym, true, ℕ, [], ◌++◌, ◌+◌, ◌<◌, ◌∙◌, ◌∷◌, ◌≡◌}, lemmas.List.get_or_default}

pub returns-then-lands-clause-damage : Rattle.sim_attack.proofs.battle.Battle.fight.Goals.returns-then-lands-clause-damage
returns-then-lands-clause-damage c =
    λ hits are_taken.
    let setup = c.args.self.now.setup.now in
    let state = c.args.self.now.state.now in
    let row = c.args.row.now in
    let aim = c.in-Some.aim in
    let arms = c.in-Some-arms_of.arms in
    let at = c.in-Some-place_of.at in
    let target = c.index-rows-at.result in
    let damage = c.args.damage.now.items in
    let rows_are = c.as_slice-rows.ensures in
    let here : target ≡ get_or state.rows at target = c.index-rows-at.is ∙ ap (λ (rs : List Row). get_or rs at target) rows_are in
    let lt : at < length state.rows = subst (λ (rs : List Row). at < length rs) rows_are c.in-Some-place_of.ensures.0 in
    let found_is : row_of state aim.target ≡ Some target = subst (λ (rs : List Row). found rs aim.target ≡ Some (get_or rs at target)) rows_are
    (c.in-Some-place_of.ensures.1 target) ∙ ap Some (sym here) in
    let attacks : row.attack ≡ Some aim = search rules in
    let armed : arms_of setup row ≡ Some arms = search rules in
    let ready : aim.cooldown ≡ 0 = omega arith in
    let near : is_near target.at row.at arms.range ≡ true = search rules in
    let landed : lands (next_word c.args.word) arms.accuracy ≡ true = search rules in
    let inside : at < length damage = omega (arith, lt, c.requires.long) in
    let old : c.index_mut.result.now ≡ get_or damage at 0 = c.index_mut.ensures.value ∙ get_or_default damage at c.index_mut.result.now 0 inside in
    let takes : c.taken.result ≡ taken arms.harm (resist_of setup target) = search rules in
    let added = hit_at state.rows hits damage at target c.taken.result c.index_mut.result.now c.requires.known.valid.ascending lt here old are_taken in
    let is = fought_lands setup state c.args.word hits row aim arms target attacks armed ready found_is near landed in
    subst (λ (hs : List Hit). AreTaken state.rows hs (set damage at (c.index_mut.result.now + c.taken.result)))
    (ap (λ (n : ℕ). hits ++ record { target = target.id; taken = n } ∷ []) takes ∙ sym is) added
