-- Turns that a client plays one behind another.
use Rattle.{sim_base.specs.declared.setup.Setup.Setup, sim_client.specs.Lives.{Joining, Off, On, played, told}}
use Rattle.sim_held.proofs.Common.{Act, ap, append-nil, append_assoc, arith, Bool, cases_eq, false, flat_map-append, frames_of, if◌then◌else◌, inl, inr, Life}
use Rattle.sim_held.proofs.Common.{List, None, Ok, Option, plays, refl, Some, subst, suc, sym, true, up_frame, zero, ℕ, ◌++◌, ◌+◌, ◌∙◌, ◌≡◌, ◌≤◌, ◌⊎◌}
use Rattle.{sim_held.specs.Clients.{goes_on, may_run, PlaysOnce, Ran, RanOn, Run, runs}, std.proofs.lemmas.Bool.false≢true}

-- where there is no next turn, a longer run is the same
pub runs_rest : (setup : Setup) (n : ℕ) (life : Life) → plays setup (runs setup n life).life ≡ None → (m : ℕ) → n ≤ m → runs setup m life ≡ runs setup n life
runs_rest setup n life none zero le =
    let e : 0 ≡ n = omega (arith, le) in
    ap (λ (k : ℕ). runs setup k life) e
runs_rest setup n life none (suc m) le = by (cases_eq n (suc m)) (λ (h : n ≤ m). runs_rest setup n life none m h)
  where
    by : (n ≡ suc m) ⊎ (n ≡ suc m → ⊥) → (n ≤ m → runs setup m life ≡ runs setup n life) → runs setup (suc m) life ≡ runs setup n life
    by (inl e) rec = ap (λ (k : ℕ). runs setup k life) (sym e)
    by (inr apart) rec =
        ap (λ (r : Run). goes_on (plays setup r.life) r) (rec (omega (arith, le, apart)))
        ∙ ap (λ (a : Option Act). goes_on a (runs setup n life)) none

plays_none : (setup : Setup) (life : Life) → may_run setup life ≡ false → plays setup life ≡ None
plays_none setup Off none = refl
plays_none setup Joining none = refl
plays_none setup (On player) none = ap (λ (b : Bool). if b then Some (told setup (played setup player)) else None) none

-- nothing is played where no turn is released
pub no_run : (setup : Setup) (life : Life) (out : List ℕ) (most : ℕ) → may_run setup life ≡ false → RanOn (runs setup most life) out 0 life out
no_run setup life out most none =
    let same = runs_rest setup 0 life (plays_none setup life none) most (omega arith) in
    record {
      many = ap (λ (r : Run). r.turns) (sym same);
      becomes = ap (λ (r : Run). r.life) (sym same);
      adds = sym (append-nil out) ∙ ap (λ (r : Run). out ++ frames_of r.says) (sym same);
    }

-- what a run has come to, as a call answers it
pub ran : (run : Run) (out : List ℕ) (turns : ℕ) (life : Life) (out' : List ℕ) → RanOn run out turns life out' → Ran run out (Ok turns) life out'
ran run out turns life out' on = (on.many, on.becomes, on.adds)

module _ (setup : Setup) (n : ℕ) (life : Life) (out : List ℕ) (old new : Life) (o o' : List ℕ) (ran : RanOn (runs setup n life) out n old o) where
  abbrev run : Run
  run = runs setup n life

  -- what the next turn makes of the run
  next : (there : Bool) → PlaysOnce (plays setup old) old o there new o' → PlaysOnce (plays setup run.life) old o there new o'
  next there h = subst (λ (l : Life). PlaysOnce (plays setup l) old o there new o') ran.becomes h

  more : (act : Option Act) → PlaysOnce act old o true new o' → RanOn (goes_on act run) out (suc n) new o'
  more None h = absurd (false≢true (sym h.0))
  more (Some act) h = record {
    many = ap suc ran.many;
    becomes = h.1.0;
    adds =
        h.1.1 ∙ ap (λ l. l ++ frames_of act.says) ran.adds ∙ append_assoc out (frames_of run.says) (frames_of act.says)
        ∙ ap (λ l. out ++ l) (sym (flat_map-append up_frame run.says act.says));
  }

  -- one turn more
  pub ran_more : (there : Bool) → there ≡ true → PlaysOnce (plays setup old) old o there new o' → RanOn (runs setup (n + 1) life) out (n + 1) new o'
  ran_more there is h =
      let one : suc n ≡ n + 1 = omega arith in
      subst (λ (k : ℕ). RanOn (runs setup k life) out k new o') one
      (more (plays setup run.life) (next true (subst (λ (b : Bool). PlaysOnce (plays setup old) old o b new o') is h)))

  last : (m : ℕ) → n ≤ m → (act : Option Act) → plays setup run.life ≡ act → PlaysOnce act old o false new o' → RanOn (runs setup m life) out n new o'
  last m le (Some act) e h = absurd (false≢true h.0)
  last m le None e h =
      let same = runs_rest setup n life e m le in
      record {
        many = ran.many ∙ ap (λ (r : Run). r.turns) (sym same);
        becomes = h.1.0 ∙ ran.becomes ∙ ap (λ (r : Run). r.life) (sym same);
        adds = h.1.1 ∙ ran.adds ∙ ap (λ (r : Run). out ++ frames_of r.says) (sym same);
      }

  -- none more, however many might be
  pub ran_out : (m : ℕ) → n ≤ m → (there : Bool) → there ≡ false → PlaysOnce (plays setup old) old o there new o' → RanOn (runs setup m life) out n new o'
  ran_out m le there is h =
      last m le (plays setup run.life) refl (next false (subst (λ (b : Bool). PlaysOnce (plays setup old) old o b new o') is h))
