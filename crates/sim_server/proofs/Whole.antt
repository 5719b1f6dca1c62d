-- A server stays whole, and what it was stands in what it becomes.
use Rattle.sim_server.proofs.Common.{IsSeated, IsWhole, kept_step, least_done, least_in, Made, Makes, moved, Out, OutOfMemory, PlayerCommand, post_list, PostOf}
use Rattle.sim_server.proofs.Common.{Ok, Err, Option, Result, refl, Ahead, ahead_after, ahead_heard, AllByRecursion, and_parts, append-nil, arith, Arrival}
use Rattle.sim_server.proofs.Common.{View, asked_one, command_of, Cut, done_fault, entry_done, final, Heard, heard, In, is_accepted, is_out, IsClient, IsLater}
use Rattle.sim_server.proofs.Common.{raised_to, release, released_rises, Rules, seat, sender, Server, server_of, Status, status_in, subst, sym, takes_state}
use Rattle.sim_server.proofs.Common.{◌≡◌, ℕ, ◌<◌, ◌≤◌, min, Bool, true, false, ◌&&◌, List, [], ◌∷◌, map, length, set, if◌then◌else◌, nat_lt, nat_le, ◌==◌, None}
use Rattle.sim_server.proofs.Made.{is_cut, is_done, joins, opens, seated_cut, seated_set, seated_start, takes_it, waiting_client}
use Rattle.sim_plain.specs.declared.message.UpOf.TheVariants as up

abbrev Bytes : Type 0
Bytes = List ℕ

-- ---- each client that is in is ahead

-- a server with these seats, and nothing kept
abbrev bare : Rules → List Status → ℕ → View
bare rules seats released = record { rules = rules; seats = seats; released = released; kept = []; references = [] }

whole_made : (rules : Rules) (old new : List Status) (released risen : ℕ) (a : Arrival Bytes) (sent : List (PostOf Bytes))
    → IsWhole rules old released → IsSeated rules new → Made (bare rules old released) a sent (bare rules new risen) → IsWhole rules new risen
whole_made rules old new released risen a sent whole seated made = record {
  seated = seated;
  ahead = subst (Ahead rules) (sym made.server) (ahead_heard rules (server_of (bare rules old released)) a whole.ahead);
}

pub whole_start : (rules : Rules) (seats : List Status) (active released : ℕ) → rules.clients ≤ 8 → active ≤ rules.clients → length seats ≡ 9
    → status_in seats ≡ (λ c. if nat_lt 0 c && nat_le c active then In released else Out) → released ≡ min rules.turns rules.delay
    → IsWhole rules seats released
whole_start rules seats active released few le nine is released-is = record {
  seated = seated_start rules seats active released few le nine is;
  ahead = subst (Ahead rules) (sym (opens rules seats active released [] [] is released-is refl refl)) (ahead_after {B = Bytes} rules active []);
}

pub whole_joins : (rules : Rules) (seats : List Status) (released c : ℕ) (who : Option ℕ) (x : Status) → IsWhole rules seats released → (0 < c)
    × (c ≤ rules.clients) → is_out (status_in seats c) ≡ true
    → who ≡ least_in (status_in seats) rules.clients → x ≡ seat who → IsWhole rules (set seats c x) released
whole_joins rules seats released c who x whole client out who-is x-is =
    whole_made rules seats (set seats c x) released released (Heard c up.Join) (asked_one who c) whole
    (seated_set rules seats c x whole.seated client.0 client.1)
    (joins (bare rules seats released) c who x (asked_one who c) whole.seated client out who-is x-is refl)

pub whole_done : (rules : Rules) (seats : List Status) (released c t risen : ℕ) → IsWhole rules seats released → (0 < c) × (c ≤ rules.clients)
    → done_fault rules released t (status_in seats c) ≡ None
    → risen ≡ raised_to released (least_done (status_in (set seats c (In t))) rules.clients) → IsWhole rules (set seats c (In t)) risen
whole_done rules seats released c t risen whole client fine risen-is =
    whole_made rules seats (set seats c (In t)) released risen (Heard c (up.Done t)) _ whole (seated_set rules seats c (In t) whole.seated client.0 client.1)
    (is_done (bare rules seats released) c t risen (post_list rules.clients (release (status_in (set seats c (In t))) released risen)) whole.seated client fine
    risen-is refl)

pub whole_takes : (rules : Rules) (seats : List Status) (released c j t done : ℕ) → IsWhole rules seats released
    → takes_state released c t (status_in seats j) ≡ true → done ≡ entry_done rules released t
    → IsWhole rules (set seats j (In done)) released
whole_takes rules seats released c j t done whole taken done-is =
    let client = waiting_client rules seats c j whole.seated ((and_parts _ _ taken).0) in
    whole_made rules seats (set seats j (In done)) released released (Heard c (up.State j t [])) _ whole
    (seated_set rules seats j (In done) whole.seated client.0 client.1)
    (takes_it (bare rules seats released) c j t done [] [] _ refl whole.seated taken done-is refl)

pub whole_cut : (rules : Rules) (seats : List Status) (released c risen : ℕ) (who : Option ℕ) (other : Status) (new : List Status)
    → IsWhole rules seats released → (0 < c) × (c ≤ rules.clients)
    → risen ≡ raised_to released (least_done (status_in (set seats c Out)) rules.clients) → who ≡ least_in (status_in (set seats c Out)) rules.clients
    → other ≡ seat who
    → new ≡ map (moved c other) (set seats c Out) → IsWhole rules new risen
whole_cut rules seats released c risen who other new whole client risen-is who-is other-is new-is =
    whole_made rules seats new released risen (Cut c) _ whole
    (subst (IsSeated rules) (sym new-is) (seated_cut rules seats c other whole.seated client.0 client.1))
    (is_cut (bare rules seats released) c risen who other _ new whole.seated client risen-is who-is other-is refl new-is)

-- ---- what an arrival adds

own_if : (b : Bool) (c : ℕ) (order : PlayerCommand) → order.player ≡ c → AllByRecursion (λ (o : PlayerCommand). o.player ≡ c) (if b then order ∷ [] else [])
own_if true c order e = (e, tt)
own_if false c order e = tt

own_command : (t : ℕ) (a : Arrival Bytes) → AllByRecursion (λ (o : PlayerCommand). o.player ≡ sender a) (command_of t a)
own_command t (Heard c up.Join) = tt
own_command t (Heard c (up.Command u x)) = own_if (t == u) c (record { player = c; command = x }) refl
own_command t (Heard c (up.Done u)) = tt
own_command t (Heard c (up.Report u g)) = tt
own_command t (Heard c (up.State j u carried)) = tt
own_command t (Cut c) = tt

own_accepted : (b : Bool) (t : ℕ) (a : Arrival Bytes) → AllByRecursion (λ (o : PlayerCommand). o.player ≡ sender a) (if b then command_of t a else [])
own_accepted true t a = own_command t a
own_accepted false t a = tt

heard_later : (rules : Rules) (s : Server) (a : Arrival Bytes) → Ahead rules s → (0 < sender a) × (sender a ≤ rules.clients)
    → IsLater (sender a) s (heard rules s a)
heard_later rules s a ahead client = record {
  rises = released_rises rules s a;
  final = λ t le. final rules s a t ahead client.0 client.1 le;
  added = λ t. record {
    more = if is_accepted rules s a then command_of t a else [];
    whole = kept_step rules s a t;
    own = own_accepted (is_accepted rules s a) t a;
  };
}

same_later : (c : ℕ) (s : Server) → IsLater c s s
same_later c s = record { rises = omega arith; final = λ t le. refl; added = λ t. record { more = []; whole = sym (append-nil (s.kept t)); own = tt } }

pub later : (old new : View) (a : Arrival Bytes) (r : Result (List (PostOf Bytes)) OutOfMemory) → Ahead old.rules (server_of old) → IsClient old (sender a)
    → Makes old a r new → IsLater (sender a) (server_of old) (server_of new)
later old new a (Ok sent) ahead client made = subst (IsLater (sender a) (server_of old)) (sym made.server)
    (heard_later old.rules (server_of old) a ahead client)
later old new a (Err e) ahead client made = subst (IsLater (sender a) (server_of old)) (sym made.server) (same_later (sender a) (server_of old))
