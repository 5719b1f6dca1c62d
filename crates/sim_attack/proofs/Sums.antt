-- What all landed hits on each row take, when one more lands and when a row has fought.
use Rattle.{sim_attack.specs.Fights.{AreTaken, fought_on}, sim_base.{proofs.RowPlaces.apart_at, specs.{Commands.is_near, declared.setup.Setup.Setup}}}
use Rattle.sim_base.specs.{declared.{state.{Aim.Aim, Row.Row, State.State}, template.Arms.Arms}, Places.next_word, Rows.{arms_of, id_of, row_of}}
use Rattle.{sim_base.specs.Turn.{fights, Hit, lands, resist_of, rests, strikes, strikes_near, taken, taken_from}, std.proofs.Common.{ap, arith, Bool, cond}}
use Rattle.std.proofs.Common.{false, filter, get_or, length, length-set, List, map, Option, refl, set, Some, sym, true, ℕ, ⊎_elim, [], ◌++◌, ◌+◌, ◌-◌, ◌<◌, ◌∙◌}
use Rattle.std.proofs.{Common.{◌∷◌, ◌≡◌}, lemmas.{Bool.{cases_eq, cond-false, cond-true, eq-eqb, ne_eqb}, List.{Elements.filter-append, get_or-set_other}}}
use Rattle.std.{proofs.lemmas.List.{get_or-set_same, get_or_default, Sums.sum_by-append}, specs.{List.Sorted.IsStrictlyIncreasing, Prelude.{sum_by, ◌==◌}}}

-- one more hit
taken_from-more : (id : ℕ) (hits : List Hit) (h : Hit) → taken_from id (hits ++ h ∷ []) ≡ taken_from id hits + cond (h.target == id) h.taken 0
taken_from-more id hits h =
    ap (sum_by (λ (k : Hit). k.taken)) (filter-append (λ (k : Hit). k.target == id) hits (h ∷ [])) ∙
    sum_by-append (λ (k : Hit). k.taken) (filter (λ (k : Hit). k.target == id) hits) (filter (λ (k : Hit). k.target == id) (h ∷ [])) ∙
    ap (λ (n : ℕ). taken_from id hits + n) (by (h.target == id))
  where
    by : (b : Bool) → sum_by (λ (k : Hit). k.taken) (cond b (h ∷ []) []) ≡ cond b h.taken 0
    by true = omega arith
    by false = refl

-- a hit on the row at a place is added to the sum at that place
pub hit_at : (rows : List Row) (hits : List Hit) (damage : List ℕ) (at : ℕ) (target : Row) (n x : ℕ) → IsStrictlyIncreasing (map id_of rows) → at < length rows
    → target ≡ get_or rows at target →
    x ≡ get_or damage at 0 → AreTaken rows hits damage → AreTaken rows (hits ++ record { target = target.id; taken = n } ∷ []) (set damage at (x + n))
hit_at rows hits damage at target n x up lt is old taken =
    record { long = length-set damage at (x + n) ∙ taken.long; each = each }
  where
    each : (i : ℕ) (d : Row) → i < length rows → get_or (set damage at (x + n)) i 0 ≡ taken_from (get_or rows i d).id
        (hits ++ record { target = target.id; taken = n } ∷ [])
    each i d within =
        let more = taken_from-more (get_or rows i d).id hits (record { target = target.id; taken = n }) in
        let was = taken.each i d within in
        let target_is : target ≡ get_or rows at d = is ∙ get_or_default rows at target d lt in
        ⊎_elim
        (λ (here : i ≡ at).
        let inside : at < length damage = omega (arith, taken.long, lt) in
        let now : get_or (set damage at (x + n)) i 0 ≡ x + n = ap (λ (k : ℕ). get_or (set damage at (x + n)) k 0) here ∙
        get_or-set_same damage at (x + n) 0 inside in
        let same : (target.id == (get_or rows i d).id) ≡ true = eq-eqb target.id (get_or rows i d).id
        (ap id_of target_is ∙ ap (λ (k : ℕ). (get_or rows k d).id) (sym here)) in
        let adds : cond (target.id == (get_or rows i d).id) n 0 ≡ n = cond-true (target.id == (get_or rows i d).id) n 0 same in
        let x_is : x ≡ get_or damage i 0 = old ∙ ap (λ (k : ℕ). get_or damage k 0) (sym here) in
        omega (arith, now, more, adds, was, x_is))
        (λ (there : i ≡ at → ⊥).
        let now : get_or (set damage at (x + n)) i 0 ≡ get_or damage i 0 = get_or-set_other damage at i (x + n) 0 there in
        let other : (target.id == (get_or rows i d).id) ≡ false = ne_eqb target.id (get_or rows i d).id
        (λ e. apart_at rows at i d up lt within (λ e. there (sym e)) (ap id_of (sym target_is) ∙ e)) in
        let adds : cond (target.id == (get_or rows i d).id) n 0 ≡ 0 = cond-false (target.id == (get_or rows i d).id) n 0 other in
        omega (arith, now, more, adds, was))
        (cases_eq i at)

-- the hit of a row that may hit and whose target is in range lands
pub fought_lands : (setup : Setup) (state : State) (word : ℕ) (hits : List Hit) (row : Row) (aim : Aim) (arms : Arms) (target : Row) → row.attack ≡ Some aim
    → arms_of setup row ≡ Some arms → aim.cooldown ≡ 0 →
    row_of state aim.target ≡ Some target → is_near target.at row.at arms.range ≡ true → lands (next_word word) arms.accuracy ≡ true →
    (fought_on setup state word hits row).hits ≡ hits ++ record { target = target.id; taken = taken arms.harm (resist_of setup target) } ∷ []
fought_lands setup state word hits row aim arms target attacks armed ready found near landed_is =
    ap (λ (a : Option Aim). (fights setup state (record { rows = []; word = word; hits = hits }) row a (arms_of setup row)).hits) attacks ∙
    ap (λ (b : Option Arms). (fights setup state (record { rows = []; word = word; hits = hits }) row (Some aim) b).hits) armed ∙
    ap (λ (b : Bool). (cond b (strikes_near setup (record { rows = []; word = word; hits = hits }) row aim arms (row_of state aim.target))
    (rests (record { rows = []; word = word; hits = hits }) (record row { attack = Some (record aim { cooldown = aim.cooldown - 1 }) }))).hits)
    (eq-eqb aim.cooldown 0 ready) ∙
    ap (λ (o : Option Row). (strikes_near setup (record { rows = []; word = word; hits = hits }) row aim arms o).hits) found ∙
    ap (λ (b : Bool). (cond b (strikes setup (record { rows = []; word = word; hits = hits }) row aim arms target)
    (rests (record { rows = []; word = word; hits = hits }) row)).hits) near ∙
    ap (λ (b : Bool). hits ++ cond b (record { target = target.id; taken = taken arms.harm (resist_of setup target) } ∷ []) []) landed_is
