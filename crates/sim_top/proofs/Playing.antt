-- What a command makes of a match that was played.
use Rattle.sim_play.specs.Playing as play
use Rattle.sim_top.proofs.Common.{IsRealmOutcome, le-ltb, List, lt-ltb, ltb, NoSuchTurn, Ok, OnErr, OnOk, Outcome, outcome_made, OutOfMemory, own_turns}
use Rattle.sim_top.proofs.Common.{after, Answer, ap, AreFed, cond-false, cond-true, Done, Err, false, false≢true, Global, IfErr, IfOk, IsMade, IsMadeAs}
use Rattle.sim_top.proofs.Common.{printed, realm_of, RealmAt, refl, refusal_text, rejoin_outcome, Result, Setup, State, Stop, store_outcome, stored_at, String}
use Rattle.sim_top.proofs.Common.{string_bytes, suc, sym, systems_by, TellsRealm, Turn, turn_by, ℕ, ◌<◌, ◌∙◌, ◌≡◌, ◌≤◌}
use Rattle.{sim_base.specs.Turn.turns_in, sim_base.specs.declared.memory.OutOfMemory.OutOfMemory as NoMemory, sim_laws.proofs.Turning.after_counts_turns}
use Rattle.{sim_play.specs.Lines.rejoin_text, sim_system.specs.Meanings.Meaning, sim_system.specs.declared.rig.Rig.Rig, sim_top.proofs.Stopping.Then-ended}
use Rattle.{sim_top.proofs.Stopping.Then-read, sim_top.specs.Stops.HasPlayedBy, std.proofs.Common.zero, std.specs.Prelude.IsErr}

module _ {X : Type 0} (made : Result Answer Stop) (read : Result X NoMemory) (stops : IfErr made (λ stop. stop ≡ OutOfMemory))
    (refused : OnErr read (made ≡ Err OutOfMemory)) where
  -- what holds where it was read holds where it was made
  pub made_if : (P : Type 0) → OnOk read P → OnOk made P
  made_if P h = by made read refused h
    where
      by : (r : Result Answer Stop) (o : Result X NoMemory) → OnErr o (r ≡ Err OutOfMemory) → OnOk o P → OnOk r P
      by (Ok answer) (Ok x) e h = h
      by (Ok answer) (Err none) e h = absurd (cc)
      by (Err stop) o e h = tt

  -- a rig that had played where it was read has played where it was made
  pub played_if : {Y : Type 0} {F : Y → Type 0} (meaning : (i : Y) → F i → Meaning) (setup : Setup) (last : State) (old new : Rig Y F)
      → play.HasPlayedBy meaning setup last read old new → HasPlayedBy meaning setup last made old new
  played_if meaning setup last old new was =
      record { fed = made_if (AreFed setup last (systems_by new meaning)) was.fed; kinds = was.kinds; most = was.most }

  -- the outcome of what was read is made
  pub is_made : (of : X → Outcome) (wanted : Outcome) → IfOk read (λ x. of x ≡ wanted) → IfOk made (λ answer. IfOk read (λ x. outcome_made answer ≡ of x))
      → IsMade wanted made
  is_made of wanted is told = record { answers = by made read refused is told; stops = stops }
    where
      by : (r : Result Answer Stop) (o : Result X NoMemory) → OnErr o (r ≡ Err OutOfMemory) → IfOk o (λ x. of x ≡ wanted)
          → IfOk r (λ answer. IfOk o (λ x. outcome_made answer ≡ of x)) → IfOk r (λ answer. outcome_made answer ≡ wanted)
      by (Ok answer) (Ok x) e is told = told ∙ is
      by (Ok answer) (Err none) e is told = absurd (cc)
      by (Err stop) o e is told = tt

-- a text that is printed
text_is : (text : Result (String Global) NoMemory) (wanted : List ℕ) → IfOk text (λ t. string_bytes t ≡ wanted)
    → IfOk text (λ t. printed Done (string_bytes t) ≡ printed Done wanted)
text_is (Ok t) wanted is = ap (printed Done) is
text_is (Err e) wanted is = tt

-- a text alone is made
pub text_made : (made : Result Answer Stop) (text : Result (String Global) NoMemory) (wanted : List ℕ) → IfErr made (λ stop. stop ≡ OutOfMemory)
    → OnErr text (made ≡ Err OutOfMemory)
    → IfOk made (λ answer. IfOk text (λ t. outcome_made answer ≡ printed Done (string_bytes t))) → IfOk text (λ t. string_bytes t ≡ wanted)
    → IsMade (printed Done wanted) made
text_made made text wanted stops refused told is = is_made made text stops refused (λ (t : String Global). printed Done (string_bytes t)) (printed Done wanted)
    (text_is text wanted is) told

-- a text that was made of a state, if there was memory for both
module _ (text : Result (String Global) NoMemory) (state : Result State NoMemory) (refused : OnErr state (IsErr text)) where
  pub text_of_state : (line : State → List ℕ) (wanted : State) → IfOk text (λ t. IfOk state (λ s. string_bytes t ≡ line s)) → IfOk state (λ s. s ≡ wanted)
      → IfOk text (λ t. string_bytes t ≡ line wanted)
  text_of_state line wanted told is = by text state refused told is
    where
      by : (text : Result (String Global) NoMemory) (state : Result State NoMemory) → OnErr state (IsErr text)
          → IfOk text (λ t. IfOk state (λ s. string_bytes t ≡ line s)) → IfOk state (λ s. s ≡ wanted) → IfOk text (λ t. string_bytes t ≡ line wanted)
      by (Ok t) (Ok s) r told is = told ∙ ap line is
      by (Ok t) (Err e) r told is = absurd (false≢true r)
      by (Err e) state r told is = tt

  pub text_if : (P : Type 0) → OnOk state P → OnOk text P
  text_if P h = by text state refused h
    where
      by : (text : Result (String Global) NoMemory) (state : Result State NoMemory) → OnErr state (IsErr text) → OnOk state P → OnOk text P
      by (Ok t) (Ok s) r h = h
      by (Ok t) (Err e) r h = absurd (false≢true r)
      by (Err e) state r h = tt

-- the state of a turn stands at it
own-turns : (setup : Setup) (start n : ℕ) → turns_in (own_turns setup start n) ≡ n
own-turns setup start zero = refl
own-turns setup start (suc n) = ap suc (own-turns setup start n)

pub stored_is : (setup : Setup) (turn : ℕ) (out : List ℕ) (state : Result State NoMemory) → turn ≤ setup.turns
    → IfOk state (λ s. s ≡ after setup (own_turns setup 0 turn)) → IfOk state (λ s. stored_at setup s.turn out s ≡ store_outcome setup turn out)
stored_is setup turn out (Err e) le is = tt
stored_is setup turn out (Ok state) le is =
    let at : (after setup (own_turns setup 0 turn)).turn ≡ turn = after_counts_turns setup (own_turns setup 0 turn) ∙ own-turns setup 0 turn in
    let there : ltb setup.turns turn ≡ false = le-ltb _ _ le in
    ap (λ (s : State). stored_at setup s.turn out s) is ∙ ap (λ (k : ℕ). stored_at setup k out (after setup (own_turns setup 0 turn))) at ∙
    sym (cond-false (ltb setup.turns turn) _ _ there)

-- a text of both clients is that of a turn which the match has
pub rejoined_is : (setup : Setup) (turn : ℕ) (text : Result (String Global) NoMemory) → turn ≤ setup.turns
    → IfOk text (λ t. string_bytes t ≡ rejoin_text setup turn)
    → IfOk text (λ t. printed Done (string_bytes t) ≡ rejoin_outcome setup turn)
rejoined_is setup turn (Ok text) le is = ap (printed Done) is ∙ sym (cond-false (ltb setup.turns turn) _ _ (le-ltb _ _ le))
rejoined_is setup turn (Err none) le is = tt

-- a text that tells the territories of a state is made
pub realm_made : (setup : Setup) (state : State) (made : Result Answer Stop) (text : Result (String Global) NoMemory) → IfErr made (λ stop. stop ≡ OutOfMemory)
    → OnErr text (made ≡ Err OutOfMemory)
    → IfOk made (λ answer. IfOk text (λ t. outcome_made answer ≡ printed Done (string_bytes t)))
    → IfOk text (λ t. TellsRealm (realm_of setup state) (string_bytes t)) → IsMadeAs (IsRealmOutcome setup state) made
realm_made setup state made text stops refused told is = record { answers = by made text refused told is; stops = stops }
  where
    by : (r : Result Answer Stop) (o : Result (String Global) NoMemory) → OnErr o (r ≡ Err OutOfMemory)
        → IfOk r (λ answer. IfOk o (λ t. outcome_made answer ≡ printed Done (string_bytes t)))
        → IfOk o (λ t. TellsRealm (realm_of setup state) (string_bytes t)) → IfOk r (λ answer. IsRealmOutcome setup state (outcome_made answer))
    by (Ok answer) (Ok t) e told is = record { text = string_bytes t; tells = is; printed = told }
    by (Ok answer) (Err none) e told is = absurd (cc)
    by (Err stop) o e told is = tt

-- ---- a turn that the match has not

pub store_past : (setup : Setup) (turn : ℕ) (out : List ℕ) → setup.turns < turn → printed NoSuchTurn (refusal_text (Turn turn setup.turns)) ≡ store_outcome
    setup turn out
store_past setup turn out past = sym (cond-true (ltb setup.turns turn) _ _ (lt-ltb _ _ past))

pub rejoin_past : (setup : Setup) (turn : ℕ) → setup.turns < turn → printed NoSuchTurn (refusal_text (Turn turn setup.turns)) ≡ rejoin_outcome setup turn
rejoin_past setup turn past = sym (cond-true (ltb setup.turns turn) _ _ (lt-ltb _ _ past))

pub realm_past : (setup : Setup) (turn : ℕ) → setup.turns < turn → RealmAt turn setup (printed NoSuchTurn (refusal_text (Turn turn setup.turns)))
realm_past setup turn past = Then-ended (turn_by setup turn) (λ turn. IsRealmOutcome setup (after setup (own_turns setup 0 turn))) _
    (cond-true (ltb setup.turns turn) _ _ (lt-ltb _ _ past))

-- and one that it has

pub turn_there : (setup : Setup) (turn : ℕ) → turn ≤ setup.turns → turn_by setup turn ≡ Ok turn
turn_there setup turn le = cond-false (ltb setup.turns turn) _ _ (le-ltb _ _ le)

pub realm_done : (setup : Setup) (turn : ℕ) (wanted : Outcome) → turn ≤ setup.turns → IsRealmOutcome setup (after setup (own_turns setup 0 turn)) wanted
    → RealmAt turn setup wanted
realm_done setup turn wanted le h = Then-read (turn_by setup turn) turn (λ turn. IsRealmOutcome setup (after setup (own_turns setup 0 turn))) wanted
    (turn_there setup turn le) h

pub store_done : (setup : Setup) (turn : ℕ) (out : List ℕ) → turn ≤ setup.turns → stored_at setup turn out (after setup (own_turns setup 0 turn)) ≡
    store_outcome setup turn out
store_done setup turn out le = sym (cond-false (ltb setup.turns turn) _ _ (le-ltb _ _ le))

pub rejoin_done : (setup : Setup) (turn : ℕ) → turn ≤ setup.turns → printed Done (rejoin_text setup turn) ≡ rejoin_outcome setup turn
rejoin_done setup turn le = sym (cond-false (ltb setup.turns turn) _ _ (le-ltb _ _ le))
