-- What a server that is held comes to, in the words of its callers.
use Rattle.{sim_base.specs.declared.memory.OutOfMemory.OutOfMemory, sim_held.proofs.Common.{All, All-head, All-tail, ap, arith, Bool, cond-false, DownOf}}
use Rattle.sim_held.proofs.Common.{false, if◌then◌else◌, List, ne_eqb, Ok, PostOf, refl, Result, subst, sym, told_to, true, ℕ, [], ◌++◌, ◌<◌, ◌∙◌, ◌∷◌, ◌≡◌}
use Rattle.sim_held.{proofs.Common.◌≤◌, specs.Servers.{AreSmall, CutsOff, Hears, is_client, IsReady, waiting, WaitsForClients}}
use Rattle.sim_pipes.proofs.Telling.{clients_are_told, makes_rules, makes_small, told_each}
use Rattle.sim_plain.specs.{declared.rules.Rules.Rules, Messages.{Arrival, Cut}, Server.{posts, posts_of}}
use Rattle.{sim_server.specs.Standing.{IsSmallArrival, Makes, server_of, View}, std.{proofs.Common.◌==◌, specs.Prelude.{nat_le, nat_lt, ◌&&◌}}}

abbrev Bytes : Type 0
Bytes = List ℕ

abbrev Said : Type 0
Said = List (List (PostOf Bytes))

-- who is none of these is told nothing
told_of_none : (P : ℕ → Type 0) (d : ℕ) (posts : List (PostOf Bytes)) → All (λ (post : PostOf Bytes). P post.to) posts → (P d → ⊥) → told_to d posts ≡ []
told_of_none P d [] all other = refl
told_of_none P d (x ∷ xs) all other =
    cond-false _ (x.down ∷ told_to d xs) (told_to d xs) (ne_eqb x.to d (λ e. other (subst P e (All-head (λ (post : PostOf Bytes). P post.to) x xs all))))
    ∙ told_of_none P d xs (All-tail (λ (post : PostOf Bytes). P post.to) x xs all) other

-- a number that is no client's
is_none : (n d : ℕ) → (nat_lt 0 d && nat_le d n) ≡ false → (0 < d) × (d ≤ n) → ⊥
is_none n d nobody within = absurd (grind arith)

-- nothing is said to a number that is no client's
none_is_told : (old new : View) (a : Arrival Bytes) (sent : List (PostOf Bytes)) → Makes old a (Ok sent) new → (d : ℕ) → is_client old d ≡ false
    → told_to d sent ≡ []
none_is_told old new a sent made d nobody =
    ap (told_to d) made.said
    ∙ told_of_none (λ c. (0 < c) × (c ≤ old.rules.clients)) d (posts_of old.rules (server_of old) a)
    (clients_are_told old.rules.clients (posts old.rules (server_of old) a)) (is_none old.rules.clients d nobody)

-- what waits behind an arrival is for clients, where what waited was
pub own_after : (old new : View) (a : Arrival Bytes) (sent : List (PostOf Bytes)) (said said' : Said) → Makes old a (Ok sent) new
    → WaitsForClients old said → ((d : ℕ) → waiting said' d ≡ waiting said d ++ told_to d sent) → WaitsForClients new said'
own_after old new a sent said said' made own each = λ d nobody.
    let none = subst (λ (rules : Rules). (nat_lt 0 d && nat_le d rules.clients) ≡ false) made.rules nobody in
    each d ∙ (λ i. own d none i ++ none_is_told old new a sent made d none i)

-- what waits for a client alone is let go
pub own_left : (v : View) (c : ℕ) (said said' : Said) → ((d : ℕ) → waiting said' d ≡ (if d == c then [] else waiting said d)) → WaitsForClients v said
    → WaitsForClients v said'
own_left v c said said' each own = λ d nobody. each d ∙ by (d == c) (own d nobody)
  where
    by : (b : Bool) {l : List (DownOf Bytes)} → l ≡ [] → (if b then [] else l) ≡ []
    by true e = refl
    by false e = e

-- nothing has changed
pub own_still : (old new : View) (said said' : Said) → new.rules ≡ old.rules → said' ≡ said → WaitsForClients old said → WaitsForClients new said'
own_still old new said said' rules same own = λ d nobody.
    ap (λ l. waiting l d) same ∙ own d (subst (λ (r : Rules). (nat_lt 0 d && nat_le d r.clients) ≡ false) rules nobody)

-- a server stays ready, where what waits then has frames and is for clients
pub ready_after : (clients : ℕ) (old : View) (a : Arrival Bytes) (r : Result (List (PostOf Bytes)) OutOfMemory) (new : View) (said said' : Said)
    → IsReady clients old said → IsSmallArrival a → Makes old a r new → AreSmall said' → WaitsForClients new said' → IsReady clients new said'
ready_after clients old a r new said said' ready fits made small own = record {
  count = ready.count ∙ sym (ap (λ (rules : Rules). rules.clients) (makes_rules old a r new made));
  keeps = makes_small old a r new ready.keeps fits made;
  waits = small;
  own = own;
}

-- what is said to each client waits behind the rest
pub heard_by : (old new : View) (a : Arrival Bytes) (sent : List (PostOf Bytes)) (said said' : Said) → Makes old a (Ok sent) new
    → ((d : ℕ) → waiting said' d ≡ waiting said d ++ told_to d sent) → Hears a (record { server = old; said = said }) (record { server = new; said = said' })
heard_by old new a sent said said' made each = record {
  rules = made.rules;
  server = made.server;
  said = λ d low high.
      each d ∙ ap (λ l. waiting said d ++ l) (ap (told_to d) made.said ∙ told_each old.rules.clients d (posts old.rules (server_of old) a) low high);
}

-- the same of one that is cut off
pub cut_by : (old new : View) (c : ℕ) (sent : List (PostOf Bytes)) (said said' : Said) → Makes old (Cut c) (Ok sent) new
    → ((d : ℕ) → waiting said' d ≡ (if d == c then [] else waiting said d) ++ told_to d sent)
    → CutsOff c (record { server = old; said = said }) (record { server = new; said = said' })
cut_by old new c sent said said' made each = record {
  rules = made.rules;
  server = made.server;
  said = λ d low high.
      each d ∙ ap (λ l. (if d == c then [] else waiting said d) ++ l)
      (ap (told_to d) made.said ∙ told_each old.rules.clients d (posts old.rules (server_of old) (Cut c)) low high);
}
