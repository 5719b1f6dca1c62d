-- Small facts on functions with one value changed, and on pasts and pipes.
use Rattle.sim_plain.specs.declared.message.DownOf.TheVariants as down
use Rattle.sim_plain.specs.declared.message.UpOf.TheVariants as up
use Rattle.sim_session_laws.proofs.Common.{Joining, kept_above, kept_turns, le-leb, leb-true, List, lt-ltb, ltb-true, map, max, nat_le, nat_lt, ne_eqb, Off, On}
use Rattle.sim_session_laws.proofs.Common.{Out, Past, Phase, PlayerCommand, refl, rules_of, Seat, Server, Session, Setup, Status, subst, suc, sym, true, Turn}
use Rattle.sim_session_laws.proofs.Common.{[], All, All-append, All-cons, All-head, All-nil, All-tail, AllPlayers, and_from, and_parts, ap, append-nil}
use Rattle.sim_session_laws.proofs.Common.{append_assoc, arith, begun, Behind, Bool, Carries, cases_eq, cases_lt, commands_at, cond-false, cond-true, Down}
use Rattle.sim_session_laws.proofs.Common.{entry_done, eq-eqb, false, if◌then◌else◌, In, inl, inr, is_client, is_in, is_unbent, IsFrom, IsOrderOf, IsPastOf}
use Rattle.sim_session_laws.proofs.Common.{turns_in, Up, Waiting, zero, ℕ, ◌++◌, ◌+◌, ◌-◌, ◌<◌, ◌==◌, ◌∙◌, ◌∷◌, ◌≡◌, ◌≤◌, ◌⊎◌}

-- What every step of a session keeps: one case for each client, by what it is to the server and what it is itself.

-- a past that a client has or a message carries, where the turns up to `released` are final
pub record GoodPast (setup : Setup) (released : ℕ) (kept : ℕ → List PlayerCommand) (past : Past) : Type 0 where
  pub players : IsPastOf setup past
  pub turn : turns_in past ≤ released
  pub unbent : is_unbent past ≡ true → past ≡ kept_turns kept (turns_in past)

-- the dones go on by one from a client's done at the server to its own, and each will be accepted; what is carried is good
abbrev pub GoodUps : Setup → ℕ → (ℕ → List PlayerCommand) → ℕ → ℕ → List Up → Type 0
GoodUps setup released kept from own [] = from ≡ own
GoodUps setup released kept from own (up.Join ∷ ups) = GoodUps setup released kept from own ups
GoodUps setup released kept from own (up.Command t x ∷ ups) = GoodUps setup released kept from own ups
GoodUps setup released kept from own (up.Done t ∷ ups) = (t ≡ suc from) × (t ≤ setup.turns) × (t ≤ released + setup.delay)
    × GoodUps setup released kept t own ups
GoodUps setup released kept from own (up.Report t g ∷ ups) = GoodUps setup released kept from own ups
GoodUps setup released kept from own (up.State j t past ∷ ups) = (t ≡ turns_in past) × GoodPast setup released kept past
    × GoodUps setup released kept from own ups

-- each command is of a turn above `low`, the greatest release heard or passed so far, and each release is one of the server
abbrev pub GoodDowns : Setup → ℕ → (ℕ → List PlayerCommand) → ℕ → List Down → Type 0
GoodDowns setup released kept low [] = Unit {0}
GoodDowns setup released kept low (down.Ask j ∷ downs) = GoodDowns setup released kept low downs
GoodDowns setup released kept low (down.State done past ∷ downs) = GoodPast setup released kept past × GoodDowns setup released kept low downs
GoodDowns setup released kept low (down.Command t x ∷ downs) = (low < t) × GoodDowns setup released kept low downs
GoodDowns setup released kept low (down.Release t ∷ downs) = (t ≤ released) × GoodDowns setup released kept (max low t) downs
GoodDowns setup released kept low (down.Notice t j ∷ downs) = GoodDowns setup released kept low downs
GoodDowns setup released kept low (down.Refused code ∷ downs) = GoodDowns setup released kept low downs

-- a client that is on, with its done at the server and its pipes
pub record Plays (setup : Setup) (released : ℕ) (kept : ℕ → List PlayerCommand) (done : ℕ) (o : Seat) (ups : List Up) (downs : List Down) : Type 0 where
  pub low : released ≤ done
  pub high : done ≤ setup.turns
  pub past : GoodPast setup released kept o.past
  pub behind : turns_in o.past ≤ o.released
  pub known_release : o.released ≤ released
  pub said : GoodUps setup released kept done o.done ups
  pub pipe : GoodDowns setup released kept o.released downs
  pub players : (t : ℕ) → AllPlayers setup (o.known t)
  pub commands : (t : ℕ) → turns_in o.past < t → o.known t ++ commands_at t downs ≡ kept t

-- a client whose state is on its way is one that will play as soon as it hears it
pub record Loads (setup : Setup) (released : ℕ) (kept : ℕ → List PlayerCommand) (done : ℕ) (ups : List Up) (downs : List Down) : Type 0 where
  pub carried : Past
  pub rest : List Down
  pub empty : ups ≡ []
  pub first : downs ≡ down.State done carried ∷ rest
  pub soon : Plays setup released kept done (begun done (turns_in carried) carried) [] rest

-- both pipes are empty
pub record Nothing (ups : List Up) (downs : List Down) : Type 0 where
  pub no_ups : ups ≡ []
  pub no_downs : downs ≡ []

-- its wish to join is on its way to the server, or the refusal on its way back
abbrev pub Wishes : List Up → List Down → Type 0
Wishes ups downs = ((ups ≡ up.Join ∷ []) × (downs ≡ [])) ⊎ ((ups ≡ []) × (downs ≡ down.Refused 4 ∷ []))

-- it waits for a donor that is in
pub record Waits (s : Server) (donor : ℕ) (ups : List Up) (downs : List Down) : Type 0 where
  pub nothing : Nothing ups downs
  pub there : is_in (s.status donor) ≡ true

-- what a client is itself, and its pipes, fit what it is to the server
abbrev pub Fits : Setup → Server → Status → Phase → List Up → List Down → Type 0
Fits setup s Out Off ups downs = Nothing ups downs
Fits setup s Out Joining ups downs = Wishes ups downs
Fits setup s Out (On o) ups downs = ⊥
Fits setup s (Waiting donor) Off ups downs = ⊥
Fits setup s (Waiting donor) Joining ups downs = Waits s donor ups downs
Fits setup s (Waiting donor) (On o) ups downs = ⊥
Fits setup s (In done) Off ups downs = ⊥
Fits setup s (In done) Joining ups downs = Loads setup s.released s.kept done ups downs
Fits setup s (In done) (On o) ups downs = Plays setup s.released s.kept done o ups downs

-- what holds of the server alone
pub record Sound (setup : Setup) (s : Server) : Type 0 where
  pub released : s.released ≤ setup.turns
  pub players : (t : ℕ) → AllPlayers setup (s.kept t)
  pub inside : (t : ℕ) → setup.turns < t → s.kept t ≡ []
  pub clients : (c : ℕ) → is_client setup c ≡ false → s.status c ≡ Out

-- the server is sound, and each client fits
pub record Holds (setup : Setup) (s : Session) : Type 0 where
  pub server : Sound setup s.server
  pub each : (c : ℕ) → Fits setup s.server (s.server.status c) (s.client c) (s.ups c) (s.downs c)

-- Released turns are final.
pub record Grows (released : ℕ) (kept : ℕ → List PlayerCommand) (released' : ℕ) (kept' : ℕ → List PlayerCommand) : Type 0 where
  pub more : released ≤ released'
  pub final : (t : ℕ) → t ≤ released → kept' t ≡ kept t

pub grows_same : (released : ℕ) (kept : ℕ → List PlayerCommand) → Grows released kept released kept
grows_same released kept = record { more = omega arith; final = λ t h. refl }

pub kept_turns_final : (released released' : ℕ) (kept kept' : ℕ → List PlayerCommand) (n : ℕ) → Grows released kept released' kept' → n ≤ released
    → kept_turns kept' n ≡ kept_turns kept n
kept_turns_final released released' kept kept' zero g h = refl
kept_turns_final released released' kept kept' (suc n) g h =
    let now = g.final (suc n) h in
    let rest = kept_turns_final released released' kept kept' n g (omega arith) in
    λ i. Turn (now i) ∷ rest i

pub good_past_grows : (setup : Setup) (released released' : ℕ) (kept kept' : ℕ → List PlayerCommand) (past : Past)
    → Grows released kept released' kept' → GoodPast setup released kept past → GoodPast setup released' kept' past
good_past_grows setup released released' kept kept' past g good =
    record {
      players = good.players;
      turn = (let a = good.turn in let b = g.more in omega arith);
      unbent = λ e. good.unbent e ∙ sym (kept_turns_final released released' kept kept' (turns_in past) g good.turn);
    }

pub good_ups_grows : (setup : Setup) (released released' : ℕ) (kept kept' : ℕ → List PlayerCommand) (from own : ℕ) (ups : List Up)
    → Grows released kept released' kept' → GoodUps setup released kept from own ups → GoodUps setup released' kept' from own ups
good_ups_grows setup r r' k k' from own [] g h = h
good_ups_grows setup r r' k k' from own (up.Join ∷ ups) g h = good_ups_grows setup r r' k k' from own ups g h
good_ups_grows setup r r' k k' from own (up.Command t x ∷ ups) g h = good_ups_grows setup r r' k k' from own ups g h
good_ups_grows setup r r' k k' from own (up.Done t ∷ ups) g h =
    (h.0, h.1, (let a = g.more in let b = h.2 in omega arith), good_ups_grows setup r r' k k' t own ups g h.3)
good_ups_grows setup r r' k k' from own (up.Report t d ∷ ups) g h = good_ups_grows setup r r' k k' from own ups g h
good_ups_grows setup r r' k k' from own (up.State j t past ∷ ups) g h =
    (h.0, good_past_grows setup r r' k k' past g h.1, good_ups_grows setup r r' k k' from own ups g h.2)

pub good_downs_grows : (setup : Setup) (released released' : ℕ) (kept kept' : ℕ → List PlayerCommand) (low : ℕ) (downs : List Down)
    → Grows released kept released' kept' → GoodDowns setup released kept low downs → GoodDowns setup released' kept' low downs
good_downs_grows setup r r' k k' low [] g h = h
good_downs_grows setup r r' k k' low (down.Ask j ∷ downs) g h = good_downs_grows setup r r' k k' low downs g h
good_downs_grows setup r r' k k' low (down.State done past ∷ downs) g h =
    (good_past_grows setup r r' k k' past g h.0, good_downs_grows setup r r' k k' low downs g h.1)
good_downs_grows setup r r' k k' low (down.Command t x ∷ downs) g h = (h.0, good_downs_grows setup r r' k k' low downs g h.1)
good_downs_grows setup r r' k k' low (down.Release t ∷ downs) g h =
    ((let a = g.more in let b = h.0 in omega arith), good_downs_grows setup r r' k k' (max low t) downs g h.1)
good_downs_grows setup r r' k k' low (down.Notice t j ∷ downs) g h = good_downs_grows setup r r' k k' low downs g h
good_downs_grows setup r r' k k' low (down.Refused code ∷ downs) g h = good_downs_grows setup r r' k k' low downs g h

-- a pipe that is good, and more that is good behind any release
pub good_downs_append : (setup : Setup) (r : ℕ) (k : ℕ → List PlayerCommand) (low : ℕ) (downs news : List Down) → low ≤ r
    → GoodDowns setup r k low downs → ((l : ℕ) → l ≤ r → GoodDowns setup r k l news) → GoodDowns setup r k low (downs ++ news)
good_downs_append setup r k low [] news le h more = more low le
good_downs_append setup r k low (down.Ask j ∷ downs) news le h more = good_downs_append setup r k low downs news le h more
good_downs_append setup r k low (down.State done past ∷ downs) news le h more = (h.0, good_downs_append setup r k low downs news le h.1 more)
good_downs_append setup r k low (down.Command t x ∷ downs) news le h more = (h.0, good_downs_append setup r k low downs news le h.1 more)
good_downs_append setup r k low (down.Release t ∷ downs) news le h more =
    (h.0, good_downs_append setup r k (max low t) downs news (let a = h.0 in omega arith) h.1 more)
good_downs_append setup r k low (down.Notice t j ∷ downs) news le h more = good_downs_append setup r k low downs news le h more
good_downs_append setup r k low (down.Refused code ∷ downs) news le h more = good_downs_append setup r k low downs news le h more

pub commands_at-append : (u : ℕ) (downs news : List Down) → commands_at u (downs ++ news) ≡ commands_at u downs ++ commands_at u news
commands_at-append u [] news = refl
commands_at-append u (down.Ask j ∷ downs) news = commands_at-append u downs news
commands_at-append u (down.State done past ∷ downs) news = commands_at-append u downs news
commands_at-append u (down.Command t x ∷ downs) news = by (t == u) (commands_at-append u downs news)
  where
    by : (b : Bool) → commands_at u (downs ++ news) ≡ commands_at u downs ++ commands_at u news
        → (if b then x ∷ commands_at u (downs ++ news) else commands_at u (downs ++ news)) ≡ (if b then x ∷ commands_at u downs else commands_at u downs) ++
        commands_at u news
    by true e = ap (λ (l : List PlayerCommand). x ∷ l) e
    by false e = e
commands_at-append u (down.Release t ∷ downs) news = commands_at-append u downs news
commands_at-append u (down.Notice t j ∷ downs) news = commands_at-append u downs news
commands_at-append u (down.Refused code ∷ downs) news = commands_at-append u downs news

-- ---- players

-- the number of a player is one of a client
pub client_of_player : (setup : Setup) (p : ℕ) → IsFrom 1 setup.players p → is_client setup p ≡ true
client_of_player setup p h = and_from _ _ (lt-ltb 0 p (let a = h.0 in omega arith)) (le-leb p setup.players h.1)

pub client_is : (setup : Setup) (x : PlayerCommand) → IsOrderOf setup x → is_client setup x.player ≡ true
client_is setup x h = client_of_player setup x.player h

-- and the other way round
pub player_is : (setup : Setup) (x : PlayerCommand) → is_client setup x.player ≡ true → IsOrderOf setup x
player_is setup x e =
    let both = and_parts (nat_lt 0 x.player) (nat_le x.player setup.players) e in
    let low : 0 < x.player = ltb-true 0 x.player both.0 in
    ((omega arith), leb-true x.player setup.players both.1)

pub all_players_append : (setup : Setup) (xs : List PlayerCommand) (x : PlayerCommand) → AllPlayers setup xs → IsOrderOf setup x
    → AllPlayers setup (xs ++ x ∷ [])
all_players_append setup xs x h e = All-append (IsOrderOf setup) xs (x ∷ []) h (All-cons (IsOrderOf setup) x [] e (All-nil (IsOrderOf setup)))

-- what holds of all of two lists holds of all of each
pub all_left : {X : Type 0} (P : X → Type 0) (xs ys : List X) → All P (xs ++ ys) → All P xs
all_left P [] ys h = All-nil P
all_left P (x ∷ xs) ys h = All-cons P x xs (All-head P x (xs ++ ys) h) (all_left P xs ys (All-tail P x (xs ++ ys) h))

pub all_right : {X : Type 0} (P : X → Type 0) (xs ys : List X) → All P (xs ++ ys) → All P ys
all_right P [] ys h = h
all_right P (x ∷ xs) ys h = all_right P xs ys (All-tail P x (xs ++ ys) h)

-- What holds of each message in a good pipe.

-- what holds of a message in a good up pipe
abbrev pub IsGoodUp : Setup → ℕ → (ℕ → List PlayerCommand) → Up → Type 0
IsGoodUp setup released kept up.Join = Unit {0}
IsGoodUp setup released kept (up.Command t x) = Unit {0}
IsGoodUp setup released kept (up.Done t) = (t ≤ setup.turns) × (t ≤ released + setup.delay)
IsGoodUp setup released kept (up.Report t g) = Unit {0}
IsGoodUp setup released kept (up.State j t past) = (t ≡ turns_in past) × GoodPast setup released kept past

-- what holds of a message in a good down pipe, where `low` is released before it
abbrev pub IsGoodDown : Setup → ℕ → (ℕ → List PlayerCommand) → ℕ → Down → Type 0
IsGoodDown setup released kept low (down.Ask j) = Unit {0}
IsGoodDown setup released kept low (down.State done past) = GoodPast setup released kept past
IsGoodDown setup released kept low (down.Command t x) = low < t
IsGoodDown setup released kept low (down.Release t) = t ≤ released
IsGoodDown setup released kept low (down.Notice t j) = Unit {0}
IsGoodDown setup released kept low (down.Refused code) = Unit {0}

module _ (setup : Setup) (released : ℕ) (kept : ℕ → List PlayerCommand) where
  pub good_up : (from own : ℕ) (ups : List Up) (x : Up) → GoodUps setup released kept from own ups → Carries ups x → IsGoodUp setup released kept x
  good_up from own [] x h has = absurd has
  good_up from own (up.Join ∷ ups) x h (inl e) = subst (IsGoodUp setup released kept) e tt
  good_up from own (up.Join ∷ ups) x h (inr has) = good_up from own ups x h has
  good_up from own (up.Command t y ∷ ups) x h (inl e) = subst (IsGoodUp setup released kept) e tt
  good_up from own (up.Command t y ∷ ups) x h (inr has) = good_up from own ups x h has
  good_up from own (up.Done t ∷ ups) x h (inl e) = subst (IsGoodUp setup released kept) e (h.1, h.2)
  good_up from own (up.Done t ∷ ups) x h (inr has) = good_up t own ups x h.3 has
  good_up from own (up.Report t g ∷ ups) x h (inl e) = subst (IsGoodUp setup released kept) e tt
  good_up from own (up.Report t g ∷ ups) x h (inr has) = good_up from own ups x h has
  good_up from own (up.State j t past ∷ ups) x h (inl e) = subst (IsGoodUp setup released kept) e (h.0, h.1)
  good_up from own (up.State j t past ∷ ups) x h (inr has) = good_up from own ups x h.2 has

  pub lower : (low t : ℕ) (x : Down) → IsGoodDown setup released kept (max low t) x → IsGoodDown setup released kept low x
  lower low t (down.Ask j) h = h
  lower low t (down.State done past) h = h
  lower low t (down.Command u x) h = omega (arith, h)
  lower low t (down.Release u) h = h
  lower low t (down.Notice u j) h = h
  lower low t (down.Refused code) h = h

  pub good_down : (low : ℕ) (downs : List Down) (x : Down) → GoodDowns setup released kept low downs → Carries downs x
      → IsGoodDown setup released kept low x
  good_down low [] x h has = absurd has
  good_down low (down.Ask j ∷ downs) x h (inl e) = subst (IsGoodDown setup released kept low) e tt
  good_down low (down.Ask j ∷ downs) x h (inr has) = good_down low downs x h has
  good_down low (down.State done past ∷ downs) x h (inl e) = subst (IsGoodDown setup released kept low) e h.0
  good_down low (down.State done past ∷ downs) x h (inr has) = good_down low downs x h.1 has
  good_down low (down.Command t y ∷ downs) x h (inl e) = subst (IsGoodDown setup released kept low) e h.0
  good_down low (down.Command t y ∷ downs) x h (inr has) = good_down low downs x h.1 has
  good_down low (down.Release t ∷ downs) x h (inl e) = subst (IsGoodDown setup released kept low) e h.0
  good_down low (down.Release t ∷ downs) x h (inr has) = lower low t x (good_down (max low t) downs x h.1 has)
  good_down low (down.Notice t j ∷ downs) x h (inl e) = subst (IsGoodDown setup released kept low) e tt
  good_down low (down.Notice t j ∷ downs) x h (inr has) = good_down low downs x h has
  good_down low (down.Refused code ∷ downs) x h (inl e) = subst (IsGoodDown setup released kept low) e tt
  good_down low (down.Refused code ∷ downs) x h (inr has) = good_down low downs x h has

  pub good_behind : (low : ℕ) (downs rest : List Down) (t : ℕ) (x : Down) → GoodDowns setup released kept low downs
      → Behind downs (down.Release t) rest → Carries rest x → IsGoodDown setup released kept t x
  good_behind low [] rest t x h at has = absurd at
  good_behind low (down.Ask j ∷ downs) rest t x h (inl e) has = let f = e.0 in absurd (cc)
  good_behind low (down.Ask j ∷ downs) rest t x h (inr at) has = good_behind low downs rest t x h at has
  good_behind low (down.State done past ∷ downs) rest t x h (inl e) has = let f = e.0 in absurd (cc)
  good_behind low (down.State done past ∷ downs) rest t x h (inr at) has = good_behind low downs rest t x h.1 at has
  good_behind low (down.Command u y ∷ downs) rest t x h (inl e) has = let f = e.0 in absurd (cc)
  good_behind low (down.Command u y ∷ downs) rest t x h (inr at) has = good_behind low downs rest t x h.1 at has
  good_behind low (down.Release u ∷ downs) rest t x h (inl e) has =
      let f = e.0 in
      let same : u ≡ t = cc in
      let order : max low u ≡ max t low = omega (arith, same) in
      let good = good_down (max low u) downs x h.1 (subst (λ (l : List Down). Carries l x) (sym e.1) has) in
      lower t low x (subst (λ n. IsGoodDown setup released kept n x) order good)
  good_behind low (down.Release u ∷ downs) rest t x h (inr at) has = good_behind (max low u) downs rest t x h.1 at has
  good_behind low (down.Notice u j ∷ downs) rest t x h (inl e) has = let f = e.0 in absurd (cc)
  good_behind low (down.Notice u j ∷ downs) rest t x h (inr at) has = good_behind low downs rest t x h at has
  good_behind low (down.Refused code ∷ downs) rest t x h (inl e) has = let f = e.0 in absurd (cc)
  good_behind low (down.Refused code ∷ downs) rest t x h (inr at) has = good_behind low downs rest t x h at has

-- What a client that loads is sent.

good_ordered : (setup : Setup) (r : ℕ) (k : ℕ → List PlayerCommand) (low u : ℕ) (xs : List PlayerCommand) (tail : List Down) → low < u
    → GoodDowns setup r k low tail → GoodDowns setup r k low (map (down.Command u) xs ++ tail)
good_ordered setup r k low u [] tail h good = good
good_ordered setup r k low u (x ∷ xs) tail h good = (h, good_ordered setup r k low u xs tail h good)

good_above : (setup : Setup) (r : ℕ) (k : ℕ → List PlayerCommand) (t n : ℕ) (tail : List Down) → GoodDowns setup r k t tail
    → GoodDowns setup r k t (kept_above k t n ++ tail)
good_above setup r k t zero tail good = good
good_above setup r k t (suc n) tail good =
    subst (λ (l : List Down). GoodDowns setup r k t l) (sym (append_assoc (kept_above k t n) (map (down.Command (suc (t + n))) (k (suc (t + n)))) tail))
    (good_above setup r k t n (map (down.Command (suc (t + n))) (k (suc (t + n))) ++ tail)
    (good_ordered setup r k t (suc (t + n)) (k (suc (t + n))) tail (omega arith) good))

at_ordered : (u : ℕ) (xs : List PlayerCommand) → commands_at u (map (down.Command u) xs) ≡ xs
at_ordered u [] = refl
at_ordered u (x ∷ xs) = cond-true _ _ _ (eq-eqb u u refl) ∙ ap (λ (l : List PlayerCommand). x ∷ l) (at_ordered u xs)

at_other : (u v : ℕ) (xs : List PlayerCommand) → (v ≡ u → ⊥) → commands_at u (map (down.Command v) xs) ≡ []
at_other u v [] apart = refl
at_other u v (x ∷ xs) apart = cond-false _ _ _ (ne_eqb v u apart) ∙ at_other u v xs apart

past_above : (k : ℕ → List PlayerCommand) (t n u : ℕ) → t + n < u → commands_at u (kept_above k t n) ≡ []
past_above k t zero u h = refl
past_above k t (suc n) u h =
    commands_at-append u (kept_above k t n) (map (down.Command (suc (t + n))) (k (suc (t + n))))
    ∙ (λ i. past_above k t n u (omega arith) i ++ at_other u (suc (t + n)) (k (suc (t + n))) (λ e. absurd (omega arith)) i)

at_above : (k : ℕ → List PlayerCommand) (t n u : ℕ) → t < u → u ≤ t + n → commands_at u (kept_above k t n) ≡ k u
at_above k t zero u low high = absurd (omega arith)
at_above k t (suc n) u low high =
    commands_at-append u (kept_above k t n) (map (down.Command (suc (t + n))) (k (suc (t + n)))) ∙
    by (cases_eq u (suc (t + n))) (λ (h : u ≤ t + n). at_above k t n u low h)
  where
    v : ℕ
    v = suc (t + n)

    by : (u ≡ v) ⊎ (u ≡ v → ⊥) → (u ≤ t + n → commands_at u (kept_above k t n) ≡ k u)
        → commands_at u (kept_above k t n) ++ commands_at u (map (down.Command v) (k v)) ≡ k u
    by (inl e) rec = ap (λ (l : List PlayerCommand). l ++ commands_at u (map (down.Command v) (k v))) (past_above k t n u (omega arith)) ∙
        subst (λ x. commands_at u (map (down.Command x) (k x)) ≡ k u) e (at_ordered u (k u))
    by (inr apart) rec = ap (λ (l : List PlayerCommand). commands_at u (kept_above k t n) ++ l) (at_other u v (k v) (λ e. apart (sym e))) ∙ append-nil _ ∙
        rec (omega arith)

-- as soon as it hears its state, it plays
pub plays_begun : (setup : Setup) (s : Server) (past : Past) → Sound setup s → GoodPast setup s.released s.kept past
    → Plays setup s.released s.kept (entry_done (rules_of setup) s.released (turns_in past)) (begun (entry_done (rules_of setup) s.released (turns_in past))
    (turns_in past) past) []
    (kept_above s.kept (turns_in past) (setup.turns - turns_in past) ++ down.Release s.released ∷ [])
plays_begun setup s past sound good =
    record {
      low = omega arith;
      high = (let a = sound.released in omega arith);
      past = good;
      behind = omega arith;
      known_release = good.turn;
      said = refl;
      players = λ u. All-nil (IsOrderOf setup);
      pipe = good_above setup s.released s.kept t n (down.Release s.released ∷ []) ((omega arith), tt);
      commands = λ u above. commands_at-append u (kept_above s.kept t n) (down.Release s.released ∷ []) ∙ append-nil _ ∙ by u above (cases_lt setup.turns u);
    }
  where
    t : ℕ
    t = turns_in past

    n : ℕ
    n = setup.turns - turns_in past

    whole : t + n ≡ setup.turns
    whole = let a = good.turn in let b = sound.released in omega arith

    by : (u : ℕ) → t < u → (setup.turns < u) ⊎ (u ≤ setup.turns) → commands_at u (kept_above s.kept t n) ≡ s.kept u
    by u above (inl over) = past_above s.kept t n u (omega arith) ∙ sym (sound.inside u over)
    by u above (inr in_match) = at_above s.kept t n u above (omega arith)
