-- Aims by which rows keep their targets, one after another.
use Rattle.sim_base.specs.declared.change.Change.TheVariants as change
use Rattle.sim_board.proofs.Common.{Aim, AllFit, ap, applied, AreFed, Change, drop, fitting_keeps_loose, found, get_or, IsLooselyValid, IsSetup, length, List}
use Rattle.sim_board.proofs.Common.{MatchOption, None, Option, refl, Row, row_of, Setup, Some, State, subst, suc, sym, target_of, ℕ, ◌+◌, ◌<◌, ◌∙◌, ◌∷◌, ◌≡◌}
use Rattle.sim_board.{proofs.Feeding.all_fed_same, proofs.Feeding.same_aim, specs.Boards.KeepsTarget, specs.Boards.LeadsOn}
use Rattle.{sim_system.specs.Meanings.Systems, std.proofs.Common.add-one, std.proofs.Math.Seq.drop-cons}

-- the row at the place that was found has this target already
pub keeps_there : (rows slice : List Row) (state : State) (id at : ℕ) (aim : Aim) (row : Row) → slice ≡ rows → state.rows ≡ rows
    → ((d : Row) → found slice id ≡ Some (get_or slice at d)) → row ≡ get_or rows at row → target_of row ≡ aim.target → KeepsTarget state (change.Attack id aim)
keeps_there rows slice state id at aim row lent same holds is target =
    let there : row_of state id ≡ Some row = ap (λ (rs : List Row). found rs id) (same ∙ sym lent) ∙ holds row ∙
    ap (λ (rs : List Row). Some (get_or rs at row)) lent ∙ ap Some (sym is) in
    subst (λ (o : Option Row). MatchOption o ⊥ (λ (r : Row). target_of r ≡ aim.target)) (sym there) target

-- no system needs to be told
kept_fed : (setup : Setup) (state : State) (c : Change) (s : Systems) → IsSetup setup → IsLooselyValid setup state → KeepsTarget state c → AreFed setup state s
    → AreFed setup (applied setup state c) s
kept_fed setup state (change.Move id p) s limits valid keeps fed = absurd keeps
kept_fed setup state (change.Motion id motion) s limits valid keeps fed = absurd keeps
kept_fed setup state (change.Attack id aim) s limits valid keeps fed = by (row_of state id) refl keeps
  where
    by : (o : Option Row) → row_of state id ≡ o → MatchOption o ⊥ (λ (row : Row). target_of row ≡ aim.target)
        → AreFed setup (applied setup state (change.Attack id aim)) s
    by None is none = absurd none
    by (Some row) is same =
        all_fed_same setup state (applied setup state (change.Attack id aim)) s fed
        (λ kind. same_aim kind setup state limits valid id aim row is (target_of row) refl same)
kept_fed setup state (change.Health id health) s limits valid keeps fed = absurd keeps
kept_fed setup state (change.Owner id owner) s limits valid keeps fed = absurd keeps
kept_fed setup state (change.Remove id) s limits valid keeps fed = absurd keeps
kept_fed setup state (change.Create number p owner) s limits valid keeps fed = absurd keeps
kept_fed setup state (change.Word word) s limits valid keeps fed = absurd keeps
kept_fed setup state change.Tick s limits valid keeps fed = absurd keeps

module _ (setup : Setup) (before : State) (changes : List Change) (limits : IsSetup setup) where
  -- all are left
  pub all_left : IsLooselyValid setup before → AllFit setup before changes → LeadsOn setup before before changes (drop 0 changes)
  all_left valid fit = record { valid = valid; fit = fit; give = refl; fed = λ s fed. fed }

  next_leads : (now : State) (c : Change) (rest : List Change) → KeepsTarget now c → LeadsOn setup before now changes (c ∷ rest)
      → LeadsOn setup before (applied setup now c) changes rest
  next_leads now c rest keeps on = record {
    valid = fitting_keeps_loose setup now c limits on.valid on.fit.0;
    fit = on.fit.1;
    give = on.give;
    fed = λ s fed. kept_fed setup now c s limits on.valid keeps (on.fed s fed);
  }

  -- one more is made
  pub one_kept : (now after : State) (c : Change) (n : ℕ) → n < length changes → c ≡ get_or changes n c → KeepsTarget now c → after ≡ applied setup now c
      → LeadsOn setup before now changes (drop n changes) → LeadsOn setup before after changes (drop (n + 1) changes)
  one_kept now after c n below is keeps made on =
      let left : drop n changes ≡ c ∷ drop (suc n) changes = drop-cons changes n c below ∙ ap (λ (d : Change). d ∷ drop (suc n) changes) (sym is) in
      subst (λ (k : ℕ). LeadsOn setup before after changes (drop k changes)) (sym (add-one n))
      (subst (λ (st : State). LeadsOn setup before st changes (drop (suc n) changes)) (sym made)
      (next_leads now c (drop (suc n) changes) keeps (subst (LeadsOn setup before now changes) left on)))
