-- What stands for a session goes on standing for it through a step of one client.
pub use Rattle.sim_board.proofs.Counting.{built_same}
use Rattle.sim_base.specs.declared.step.Step.TheVariants as step
use Rattle.sim_plain_session.specs.Clients as plain
use Rattle.sim_plain_session.specs.Clients.{bends, hears, joins, orders, plays}
use Rattle.sim_session.proofs.Common.{IsNumber, IsSetup, leaves, length, length-append, length-map, length-set, Life, life_of, List, Lives, Makes, map}
use Rattle.sim_session.proofs.Common.{[], add-one, All, All-drop, All-set, ap, append_assoc, AreBuilt, AreBuiltOnceAtMost, arith, cases_eq, cases_lt, ChangeAt}
use Rattle.sim_session.proofs.Common.{client_of, client_of_player, cond-true, Down, drop, drop-map, Event, events, events_by, falls, get_or, get_or-append_seam}
use Rattle.sim_session.proofs.Common.{get_or-map, get_or-set_other, get_or-set_same, get_or_append_left, HasValidStates, HaveKinds, Held, inl, inr, is_client}
use Rattle.sim_session.proofs.Common.{map-append, map-set, no_state_is_ever_refused, Off, pasts_are_always_valid, Phase, put_other, refl, rises, Seen, Session}
use Rattle.sim_session.proofs.Common.{session, session_goes_on, set, Setup, StandBeside, StandsFor, StandsForSome, StartsOnly, Step, stepped, stepped_by, Steps}
use Rattle.sim_session.proofs.Common.{subst, suc, sym, Systems, true, Up, zero, ℕ, ◌++◌, ◌+◌, ◌-◌, ◌<◌, ◌∙◌, ◌∷◌, ◌≡◌, ◌≢◌, ◌≤◌, ◌⊎◌}

-- One place of a list is written: what becomes of the lists of what stands in it.

pub put_there : {X Y : Type 0} (f : X → Y) (xs : List X) (i : ℕ) (y : X) (d : Y) → i < length xs → get_or (map f (set xs i y)) i d ≡ f y
put_there f xs i y d within = ap (λ l. get_or l i d) (map-set f xs i y) ∙ get_or-set_same (map f xs) i (f y) d (omega (arith, within, length-map xs f))

pub put_elsewhere : {X Y : Type 0} (f : X → Y) (xs : List X) (i : ℕ) (y : X) (j : ℕ) (d : Y) → j ≢ i → get_or (map f (set xs i y)) j d ≡ get_or (map f xs) j d
put_elsewhere f xs i y j d apart = ap (λ l. get_or l j d) (map-set f xs i y) ∙ get_or-set_other (map f xs) i j (f y) d apart

pub was_there : {X Y : Type 0} (f : X → Y) (xs : List X) (i : ℕ) (x : X) (d : Y) → i < length xs → x ≡ get_or xs i x → get_or (map f xs) i d ≡ f x
was_there f xs i x d within is = get_or-map f xs i x d within ∙ ap f (sym is)

-- the systems in one place have changed
pub changed : {X : Type 0} (Changed : Systems → Systems → Type 0) (f : X → Systems) (xs : List X) (i : ℕ) (x y : X) → i < length xs → x ≡ get_or xs i x
    → Changed (f x) (f y)
    → ChangeAt Changed i (map f xs) (map f (set xs i y))
changed Changed f xs i x y within is change = record {
  count = length-map (set xs i y) f ∙ length-set xs i y ∙ sym (length-map xs f);
  there = λ d low. subst (λ (s : Systems). Changed s (get_or (map f (set xs i y)) i d)) (sym (was_there f xs i x d within is))
      (subst (Changed (f x)) (sym (put_there f xs i y d within)) change);
  others = λ j d apart. put_elsewhere f xs i y j d apart;
}

-- each is in its place
pub kinds_put : {X : Type 0} (f : X → Systems) (xs : List X) (i : ℕ) (y : X) → HaveKinds (f y) → All HaveKinds (map f xs) → All HaveKinds (map f (set xs i y))
kinds_put f xs i y kinds all = subst (All HaveKinds) (sym (map-set f xs i y)) (All-set HaveKinds (map f xs) i (f y) kinds all)

-- what holds of the systems of all holds of those in one place
pub holds_there : {X : Type 0} (P : Systems → Type 0) (f : X → Systems) (xs : List X) (i : ℕ) (x : X) → i < length xs → x ≡ get_or xs i x → All P (map f xs)
    → P (f x)
holds_there P f xs i x within is all = subst P (was_there f xs i x (f x) within is) (all i (f x) (omega (arith, within, length-map xs f)))

-- and of those behind the first
pub holds_behind : {X : Type 0} (P : Systems → Type 0) (f : X → Systems) (xs ys : List X) → ys ≡ drop 1 xs → All P (map f xs) → All P (map f ys)
holds_behind P f xs ys is all = subst (λ l. All P (map f l)) (sym is) (subst (All P) (drop-map f 1 xs) (All-drop P 1 (map f xs) all))

-- and of those in front of others
pub holds_in_front : {X : Type 0} (P : X → Type 0) (xs ys zs : List X) → xs ++ ys ≡ zs → All P zs → All P xs
holds_in_front P xs ys zs is all = λ k d within. subst P (get_or_append_left xs ys d k within)
    (subst (All P) (sym is) all k d (omega (arith, within, length-append xs ys)))

-- and of those in the last place
pub holds_last : {X : Type 0} (P : Systems → Type 0) (f : X → Systems) (xs left : List X) (x : X) → xs ≡ left ++ x ∷ [] → All P (map f xs) → P (f x)
holds_last P f xs left x is all = subst P (get_or-append_seam (map f left) (f x) [] (f x))
    (here (length (map f left)) (f x) (omega (arith, length-append (map f left) (f x ∷ []))))
  where
    here : All P (map f left ++ f x ∷ [])
    here = subst (All P) (ap (map f) is ∙ map-append f left (x ∷ [])) all

-- ---- a step of one client leaves all others as they are

pub rises_stay : (setup : Setup) (c : ℕ) (ups : List Up) (s : Session) (d : ℕ) → (rises setup c ups s).client d ≡ s.client d
rises_stay setup c [] s d = refl
rises_stay setup c (said ∷ rest) s d = refl

falls_stay : (setup : Setup) (c : ℕ) (downs : List Down) (s : Session) (d : ℕ) → d ≢ c → (falls setup c downs s).client d ≡ s.client d
falls_stay setup c [] s d apart = refl
falls_stay setup c (said ∷ rest) s d apart = put_other c ((hears setup c (s.client c) said).phase) s.client d apart

leaves_stay : (setup : Setup) (c : ℕ) (phase : Phase) (s : Session) (d : ℕ) → d ≢ c → (leaves setup c phase s).client d ≡ s.client d
leaves_stay setup c plain.Off s d apart = refl
leaves_stay setup c plain.Joining s d apart = put_other c plain.Off s.client d apart
leaves_stay setup c (plain.On seat) s d apart = put_other c plain.Off s.client d apart

pub others_stay : (setup : Setup) (s : Session) (x : Step) (d : ℕ) → d ≢ client_of x → (stepped_by setup s x).client d ≡ s.client d
others_stay setup s (step.Order c command) d apart = put_other c ((orders setup c command (s.client c)).phase) s.client d apart
others_stay setup s (step.Up c) d apart = rises_stay setup c (s.ups c) s d
others_stay setup s (step.Down c) d apart = falls_stay setup c (s.downs c) s d apart
others_stay setup s (step.Play c) d apart = put_other c ((plays setup c (s.client c)).phase) s.client d apart
others_stay setup s (step.Join c) d apart = put_other c ((joins c (s.client c)).phase) s.client d apart
others_stay setup s (step.Cut c) d apart = leaves_stay setup c (s.client c) s d apart
others_stay setup s (step.Bend c id health) d apart = put_other c ((bends setup c id health (s.client c)).phase) s.client d apart

-- ---- of a session that steps reach

module _ (setup : Setup) (limits : IsSetup setup) (x : Step) (number : IsNumber setup (client_of x)) where
  is_one : is_client setup (client_of x) ≡ true
  is_one = client_of_player setup (client_of x) (omega (arith, number.0), number.1)

  pub stepped_is : (s : Session) → stepped setup s x ≡ stepped_by setup s x
  stepped_is s = cond-true (is_client setup (client_of x)) (stepped_by setup s x) s is_one

  pub events_are : (s : Session) → events setup s x ≡ events_by setup s x
  events_are s = cond-true (is_client setup (client_of x)) (events_by setup s x) [] is_one

  pub valid_states : (active : ℕ) (steps : List Step) → active ≤ setup.players → HasValidStates setup (client_of x) (session setup active steps)
  valid_states active steps few = record {
    heard = λ done past rest first. no_state_is_ever_refused setup active steps limits few (client_of x) done past rest first;
    own = λ seat on. pasts_are_always_valid setup active steps limits few seat.past (inl (client_of x, seat, on, refl));
  }

  pub beside : (seen : Seen) (s : Session) → StandsFor setup seen s → StandBeside setup (client_of x) (life_of seen.lives (client_of x)) seen.held s
  beside seen s stands = record { lives = stands.lives (client_of x) number.0 number.1; held = stands.held }

  -- the client of the step is another, and all others are as they were
  pub goes_on : (old new : List Life) (before behind : Held) (was now : Life) (answered : List Event)
      → life_of old (client_of x) ≡ was → life_of new (client_of x) ≡ now → ((d : ℕ) → 0 < d → d ≢ client_of x → life_of new d ≡ life_of old d)
      → Makes setup x was before now behind answered → Steps setup (record { lives = old; held = before }) x (record { lives = new; held = behind }) answered
  goes_on old new before behind was now answered was_is now_is others makes = record {
    stands = λ active steps few stands.
        let s = session setup active steps in
        let stand = made active steps few stands in
        subst (StandsFor setup (record { lives = new; held = behind })) (sym (session_goes_on setup active steps x ∙ stepped_is s))
        (record { lives = λ d low high. each s stands stand d low high (cases_eq d (client_of x)); held = stand.held });
    printed = λ active steps few stands.
        let s = session setup active steps in
        makes.printed s (valid_states active steps few) (at s stands) ∙ sym (events_are s);
  }
    where
      at : (s : Session) → StandsFor setup (record { lives = old; held = before }) s → StandBeside setup (client_of x) was before s
      at s stands = subst (λ (l : Life). StandBeside setup (client_of x) l before s) was_is (beside (record { lives = old; held = before }) s stands)

      made : (active : ℕ) (steps : List Step) → active ≤ setup.players → StandsFor setup (record { lives = old; held = before }) (session setup active steps)
          → StandBeside setup (client_of x) now behind (stepped_by setup (session setup active steps) x)
      made active steps few stands = makes.stand (session setup active steps) (valid_states active steps few) (at (session setup active steps) stands)

      each : (s : Session) → StandsFor setup (record { lives = old; held = before }) s → StandBeside setup (client_of x) now behind (stepped_by setup s x)
          → (d : ℕ) → 0 < d → d ≤ setup.players → (d ≡ client_of x) ⊎ (d ≡ client_of x → ⊥) → Lives setup (life_of new d) ((stepped_by setup s x).client d)
      each s stands stand d low high (inl e) =
          subst (λ (k : ℕ). Lives setup (life_of new k) ((stepped_by setup s x).client k)) (sym e)
          (subst (λ (l : Life). Lives setup l ((stepped_by setup s x).client (client_of x))) (sym now_is) stand.lives)
      each s stands stand d low high (inr apart) =
          subst (Lives setup (life_of new d)) (sym (others_stay setup s x d apart))
          (subst (λ (l : Life). Lives setup l (s.client d)) (sym (others d low apart)) (stands.lives d low high))

  -- there is a session for which a client and the exchange stand
  pub some_beside : (match : Setup) (seen : Seen) (own : Life) → match ≡ setup → life_of seen.lives (client_of x) ≡ own → StandsForSome setup seen
      → (s : Session) × HasValidStates match (client_of x) s × StandBeside match (client_of x) own seen.held s
  some_beside match seen own same own_is some =
      let s = session setup some.active some.steps in
      subst (λ (m : Setup). (s : Session) × HasValidStates m (client_of x) s × StandBeside m (client_of x) own seen.held s) (sym same)
      (s, valid_states some.active some.steps some.few, subst (λ (l : Life). StandBeside setup (client_of x) l seen.held s) own_is (beside seen s some.stands))

  -- so they do for each session for which all stand
  pub one_beside : (match : Setup) (seen : Seen) (own : Life) → match ≡ setup → life_of seen.lives (client_of x) ≡ own → (s : Session) → StandsFor setup seen s
      → StandBeside match (client_of x) own seen.held s
  one_beside match seen own same own_is s stands =
      subst (λ (m : Setup). StandBeside m (client_of x) own seen.held s) (sym same) (subst (λ (l : Life). StandBeside setup (client_of x) l seen.held s) own_is
      (beside seen s stands))

  -- the client of the step stands in its place in a list
  pub goes_on_at : {C : Type 0} (f : C → Life) (clients : List C) (i : ℕ) (old new : C) (before behind : Held) (answered : List Event)
      → length clients ≡ setup.players → i ≡ client_of x - 1
      → old ≡ get_or clients i old → Makes setup x (f old) before (f new) behind answered
      → Steps setup (record { lives = map f clients; held = before }) x (record { lives = map f (set clients i new); held = behind }) answered
  goes_on_at f clients i old new before behind answered count place is makes =
      let within : i < length clients = omega (arith, count, place, number.0, number.1) in
      goes_on (map f clients) (map f (set clients i new)) before behind (f old) (f new) answered
      (ap (λ k. get_or (map f clients) k Off) (sym place) ∙ was_there f clients i old Off within is)
      (ap (λ k. get_or (map f (set clients i new)) k Off) (sym place) ∙ put_there f clients i new Off within)
      (λ d low apart. put_elsewhere f clients i new (d - 1) Off (λ e. apart (omega (arith, e, place, low, number.0)))) makes

-- Clients begin in the match, one after the other.

pub starts_none : (s : List Systems) → StartsOnly 0 s s
starts_none s = record { count = refl; there = λ i d none low. absurd (omega (arith, none)); others = λ i d low. refl }

-- more clients might have begun
pub starts_more : (m n : ℕ) (old new : List Systems) → m ≤ n → StartsOnly m old new → StartsOnly n old new
starts_more m n old new more starts = record {
  count = starts.count;
  there = λ i d under low. by i d low (cases_lt i m);
  others = λ i d above. starts.others i d (omega (arith, above, more));
}
  where
    by : (i : ℕ) (d : Systems) → i < length old → (i < m) ⊎ (m ≤ i) → AreBuiltOnceAtMost (get_or old i d) (get_or new i d)
    by i d low (inl under) = starts.there i d under low
    by i d low (inr above) = subst (λ (s : Systems). AreBuiltOnceAtMost (get_or old i d) s) (sym (starts.others i d above)) (built_same (get_or old i d))

-- one more has
pub starts_on : (n : ℕ) (old mid new : List Systems) → StartsOnly n old mid → ChangeAt AreBuilt n mid new → StartsOnly (n + 1) old new
starts_on n old mid new starts change = record {
  count = change.count ∙ starts.count;
  there = λ i d under low. by i d low under (cases_lt i n);
  others = λ i d above. change.others i d (λ e. omega (arith, above, e)) ∙ starts.others i d (omega (arith, above));
}
  where
    at_last : (i : ℕ) (d : Systems) → i ≡ n → i < length old → AreBuiltOnceAtMost (get_or old i d) (get_or new i d)
    at_last i d is low =
        let here = subst (λ (k : ℕ). k < length mid → AreBuilt (get_or mid k d) (get_or new k d)) (sym is) (change.there d)
        (omega (arith, low, starts.count)) in
        subst (λ (s : Systems). AreBuiltOnceAtMost s (get_or new i d)) (starts.others i d (omega (arith, is))) here.most

    by : (i : ℕ) (d : Systems) → i < length old → i < n + 1 → (i < n) ⊎ (n ≤ i) → AreBuiltOnceAtMost (get_or old i d) (get_or new i d)
    by i d low under (inl before) =
        subst (λ (s : Systems). AreBuiltOnceAtMost (get_or old i d) s) (sym (change.others i d (λ e. omega (arith, before, e)))) (starts.there i d before low)
    by i d low under (inr last) = at_last i d (omega (arith, under, last)) low

-- ---- what the clients are

-- the first so many and one more are at the first state
pub begun_more : {C : Type 0} (f : C → Life) (xs : List C) (i : ℕ) (new : C) (first : Life) → i < length xs → f new ≡ first
    → ((d : ℕ) → 0 < d → d ≤ i → life_of (map f xs) d ≡ first)
    → (d : ℕ) → 0 < d → d ≤ i + 1 → life_of (map f (set xs i new)) d ≡ first
begun_more f xs i new first within is begun d low high = by (cases_lt i d)
  where
    by : (i < d) ⊎ (d ≤ i) → life_of (map f (set xs i new)) d ≡ first
    by (inl last) =
        let here : d - 1 ≡ i = omega (arith, last, high) in
        ap (λ k. get_or (map f (set xs i new)) k Off) here ∙ put_there f xs i new Off within ∙ is
    by (inr before) = put_elsewhere f xs i new (d - 1) Off (λ e. omega (arith, before, low, e)) ∙ begun d low before

-- and all behind them are as they were
pub others_more : {C : Type 0} (f : C → Life) (old xs : List C) (i n : ℕ) (new : C) → i < n → ((d : ℕ) → i < d → life_of (map f xs) d ≡ life_of (map f old) d)
    → (d : ℕ) → n < d → life_of (map f (set xs i new)) d ≡ life_of (map f old) d
others_more f old xs i n new under others d above = put_elsewhere f xs i new (d - 1) Off (λ e. omega (arith, under, above, e)) ∙
    others d (omega (arith, under, above))

-- the next is as it was
pub next_was : {C : Type 0} (f : C → Life) (old xs : List C) (i : ℕ) (x : C) → i < length xs → x ≡ get_or xs i x
    → ((d : ℕ) → i < d → life_of (map f xs) d ≡ life_of (map f old) d)
    → life_of (map f old) (i + 1) ≡ f x
next_was f old xs i x within is others =
    let here : i + 1 - 1 ≡ i = omega arith in
    sym (others (i + 1) (omega arith)) ∙ ap (λ k. get_or (map f xs) k Off) here ∙ was_there f xs i x Off within is

-- A rig moves from one list to another, and what stands in both, one behind the other, is as it was.

pub moved : {X Y Z : Type 0} (f : X → Z) (h : Y → Z) (xs : List X) (x : X) (ys : List Y) (y : Y) → f x ≡ h y → map f (xs ++ x ∷ []) ++ map h ys ≡ map f xs ++
    map h (y ∷ ys)
moved f h xs x ys y same =
    ap (λ l. l ++ map h ys) (map-append f xs (x ∷ [])) ∙ append_assoc (map f xs) (f x ∷ []) (map h ys) ∙ ap (λ z. map f xs ++ z ∷ map h ys) same

-- it stood first
pub moved_first : {X Y Z : Type 0} (f : X → Z) (h : Y → Z) (xs : List X) (x : X) (ys : List Y) (y : Y) → 0 < length ys → y ≡ get_or ys 0 y → f x ≡ h y
    → map f (xs ++ x ∷ []) ++ map h (drop 1 ys) ≡ map f xs ++ map h ys
moved_first f h xs x [] y some is same = absurd (omega (arith, some))
moved_first f h xs x (z ∷ ys) y some is same = moved f h xs x ys z (same ∙ ap h is)

-- one more stands in front of those that stood behind so many
pub drop_back : {X : Type 0} (n k j : ℕ) (x : X) (xs ys : List X) → k ≡ j + 1 → k ≤ n → ys ≡ x ∷ xs → drop (n - j) ys ≡ drop (n - k) xs
drop_back n k j x xs ys one few is = ap (λ l. drop (n - j) l) is ∙ ap (λ i. drop i (x ∷ xs)) (more one few)
  where
    more : k ≡ j + 1 → k ≤ n → n - j ≡ suc (n - k)
    more one few = omega (arith, one, few)

-- one more is taken away
drop_suc : {X : Type 0} (i : ℕ) (xs : List X) → drop 1 (drop i xs) ≡ drop (suc i) xs
drop_suc zero xs = refl
drop_suc (suc i) [] = refl
drop_suc (suc i) (x ∷ xs) = drop_suc i xs

pub drop_next : {X : Type 0} (i : ℕ) (xs : List X) → drop 1 (drop i xs) ≡ drop (i + 1) xs
drop_next i xs = drop_suc i xs ∙ ap (λ k. drop k xs) (sym (add-one i))
