-- What each arrival makes of a server, over plain values.
use Rattle.sim_plain.specs.declared.message.UpOf.TheVariants as up
use Rattle.sim_server.proofs.Common.{IsClient, IsSeated, kept_above, kept_in, le-ltb, least_done, least_in, least_in_inside, leb-true, length, length-map}
use Rattle.sim_server.proofs.Common.{Option, Out, OutOfMemory, PlayerCommand, post_list, posted_to, PostOf, Posts, posts, posts_of, put, raised, raised_to}
use Rattle.sim_server.proofs.Common.{StandsFor, State, Status, status_in, suc, sym, takes_state, to_all, to_one, true, unless, up_to, View, waits_for}
use Rattle.sim_server.proofs.Common.{[], add-one, and_parts, Answers, ap, append-nil, append_assoc, arith, Arrival, Ask, asked, asked_one, Bool, cases_eq}
use Rattle.sim_server.proofs.Common.{cases_lt, Command, cond-false, cond-true, Cut, cut_said, done_fault, donor, DownOf, entry_done, eq-eqb, Err, false}
use Rattle.sim_server.proofs.Common.{false≢true, filter, get_or, get_or-set_other, get_or-set_same, Heard, heard, IfOk, if◌then◌else◌, In, inl, inr, is_out}
use Rattle.sim_server.proofs.Common.{length-set, List, loading, ltb-true, Made, Makes, map, min, moved, nat_le, nat_lt, ne_eqb, nobody, None, Ok, opening}
use Rattle.sim_server.proofs.Common.{reference_in, refl, refusal, Refused, Release, release, Result, Rules, seat, Server, server_after, server_of, set, Some}
use Rattle.sim_server.proofs.Common.{with_status, zero, ℕ, ◌&&◌, ◌++◌, ◌+◌, ◌-◌, ◌<◌, ◌==◌, ◌∙◌, ◌∷◌, ◌≡◌, ◌≤◌, ◌⊎◌}

-- Lists as functions of a place, with a value for each place behind the end.

-- one more value that was there already
at_end : {X : Type 0} (xs : List X) (d : X) (t : ℕ) → get_or (xs ++ d ∷ []) t d ≡ get_or xs t d
at_end [] d zero = refl
at_end [] d (suc t) = refl
at_end (x ∷ xs) d zero = refl
at_end (x ∷ xs) d (suc t) = at_end xs d t

-- there is no value behind the end
pub beyond : {X : Type 0} (xs : List X) (d : X) (t : ℕ) → length xs ≤ t → get_or xs t d ≡ d
beyond [] d zero le = refl
beyond [] d (suc t) le = refl
beyond (x ∷ xs) d zero le = absurd (omega arith)
beyond (x ∷ xs) d (suc t) le = beyond xs d t (omega arith)

-- the value at each place
abbrev pub values : {X : Type 0} → List X → X → ℕ → X
values xs d t = get_or xs t d

pub grown : {X : Type 0} (xs : List X) (d : X) → values (xs ++ d ∷ []) d ≡ values xs d
grown xs d = λ i t. at_end xs d t i

-- a value that is put in its place
pub put_is : {X : Type 0} (xs : List X) (d x : X) (t : ℕ) → t < length xs → values (set xs t x) d ≡ put t x (values xs d)
put_is {X} xs d x t lt = λ i u. at u (cases_eq u t) i
  where
    at : (u : ℕ) → (u ≡ t) ⊎ (u ≡ t → ⊥) → get_or (set xs t x) u d ≡ (if u == t then x else get_or xs u d)
    at u (inl e) = ap (λ v. get_or (set xs t x) v d) e ∙ get_or-set_same xs t x d lt ∙ sym (cond-true _ x (get_or xs u d) (eq-eqb u t e))
    at u (inr apart) = get_or-set_other xs t u x d apart ∙ sym (cond-false _ x (get_or xs u d) (ne_eqb u t apart))

-- Lists of posts, piece by piece.

pub posted-append : {B : Type 0} (c : ℕ) (xs ys : List (DownOf B)) → posted_to c (xs ++ ys) ≡ posted_to c xs ++ posted_to c ys
posted-append c [] ys = refl
posted-append {B = B} c (x ∷ xs) ys = ap (λ (l : List (PostOf B)). record { to = c; down = x } ∷ l) (posted-append c xs ys)

-- nothing is said
pub list_nobody : {B : Type 0} (n : ℕ) → post_list n (nobody {B = B}) ≡ []
list_nobody zero = refl
list_nobody {B = B} (suc n) = ap (λ (l : List (PostOf B)). l ++ []) (list_nobody n)

-- no turns are released
pub list_release : {B : Type 0} (status : ℕ → Status) (n released risen : ℕ) → risen ≤ released → post_list n (release {B = B} status released risen) ≡ []
list_release {B = B} status n released risen le = ap (post_list n) (cond-false _ (to_all status (Release risen)) (nobody {B = B}) (le-ltb released risen le)) ∙
    list_nobody n

-- nothing is said to those before
list_before : {B : Type 0} (n c : ℕ) (said : List (DownOf B)) → n < c → post_list n (to_one c said) ≡ []
list_before zero c said lt = refl
list_before {B = B} (suc n) c said lt =
    let now : (if suc n == c then said else []) ≡ [] = cond-false _ said [] (ne_eqb (suc n) c (λ e. absurd (omega arith))) in
    (λ i. list_before n c said (omega arith) i ++ posted_to (suc n) (now i))

-- one client is told something
pub list_to_one : {B : Type 0} (n c : ℕ) (said : List (DownOf B)) → 0 < c → c ≤ n → post_list n (to_one c said) ≡ posted_to c said
list_to_one zero c said a b = absurd (omega arith)
list_to_one {B = B} (suc n) c said a b = by (cases_eq (suc n) c) (λ (h : c ≤ n). list_to_one n c said a h)
  where
    by : (suc n ≡ c) ⊎ (suc n ≡ c → ⊥) → (c ≤ n → post_list n (to_one c said) ≡ posted_to c said) → post_list n (to_one c said) ++ posted_to (suc n)
        (if suc n == c then said else []) ≡ posted_to c said
    by (inl e) rec = (λ i. list_before n c said (omega arith) i ++ posted_to (e i) (cond-true _ said [] (eq-eqb (suc n) c e) i))
    by (inr apart) rec = (λ i. rec (omega arith) i ++ posted_to (suc n) (cond-false _ said [] (ne_eqb (suc n) c apart) i)) ∙ append-nil (posted_to c said)

-- one client more is told something, in two pieces
pub more_said : {B : Type 0} (i : ℕ) (posts : Posts B) (old middle new : List (PostOf B)) (first second : List (DownOf B))
    → old ≡ post_list i posts → middle ≡ old ++ posted_to (i + 1) first → new ≡ middle ++ posted_to (i + 1) second → posts (i + 1) ≡ first ++ second
    → new ≡ post_list (i + 1) posts
more_said {B = B} i posts old middle new first second e f g said =
    g ∙ ap (λ (l : List (PostOf B)). l ++ posted_to (i + 1) second) (f ∙ ap (λ (l : List (PostOf B)). l ++ posted_to (i + 1) first) e)
    ∙ append_assoc (post_list i posts) (posted_to (i + 1) first) (posted_to (i + 1) second)
    ∙ ap (λ (l : List (PostOf B)). post_list i posts ++ l) (sym (posted-append (i + 1) first second) ∙ ap (posted_to (i + 1)) (sym said))
    ∙ last (add-one i)
  where
    last : i + 1 ≡ suc i → post_list i posts ++ posted_to (i + 1) (posts (i + 1)) ≡ post_list (i + 1) posts
    last e = (λ j. post_list i posts ++ posted_to (e j) (posts (e j))) ∙ (λ j. post_list (sym e j) posts)

-- more is said to one client
pub more_to : {B : Type 0} (c : ℕ) (start old new : List (PostOf B)) (before more whole : List (DownOf B))
    → old ≡ start ++ posted_to c before → new ≡ old ++ posted_to c more → whole ≡ before ++ more → new ≡ start ++ posted_to c whole
more_to {B = B} c start old new before more whole e f w =
    f ∙ ap (λ (l : List (PostOf B)). l ++ posted_to c more) e ∙ append_assoc start (posted_to c before) (posted_to c more)
    ∙ ap (λ (l : List (PostOf B)). start ++ l) (sym (posted-append c before more) ∙ ap (posted_to c) (sym w))

-- the kept commands of one turn more
pub above_more : {B : Type 0} (kept : ℕ → List PlayerCommand) (t i : ℕ) (orders : List PlayerCommand) → orders ≡ kept (t + i + 1)
    → kept_above {B = B} kept t (i + 1) ≡ kept_above kept t i ++ map (Command (t + i + 1)) orders
above_more {B = B} kept t i orders e = ap (kept_above kept t) (add-one i) ∙
    (λ j. kept_above kept t i ++ map (Command (sym (add-one (t + i)) j)) (kept (sym (add-one (t + i)) j))) ∙
    (λ j. kept_above kept t i ++ map (Command (t + i + 1)) (sym e j))

-- no command is told of turns that have no list
above_short : {B : Type 0} (kept : List (List PlayerCommand)) (t n m : ℕ) → m ≤ n → (m ≡ n) ⊎ (length kept ≤ suc (t + m))
    → kept_above {B = B} (kept_in kept) t n ≡ kept_above (kept_in kept) t m
above_short kept t n m le (inl same) = ap (kept_above (kept_in kept) t) (sym same)
above_short kept t zero m le (inr few) = let none : zero ≡ m = omega arith in ap (kept_above (kept_in kept) t) none
above_short {B = B} kept t (suc n) m le (inr few) = by (cases_eq m (suc n)) (λ (h : m ≤ n). above_short kept t n m h (inr few))
  where
    by : (m ≡ suc n) ⊎ (m ≡ suc n → ⊥) → (m ≤ n → kept_above {B = B} (kept_in kept) t n ≡ kept_above (kept_in kept) t m) → kept_above {B = B} (kept_in kept) t
        (suc n) ≡ kept_above (kept_in kept) t m
    by (inl same) rec = ap (kept_above (kept_in kept) t) (sym same)
    by (inr apart) rec = (λ i. rec (omega arith) i ++ map (Command (suc (t + n))) (beyond kept [] (suc (t + n)) (omega arith) i)) ∙
        append-nil (kept_above (kept_in kept) t m)

pub above_last : {B : Type 0} (kept : List (List PlayerCommand)) (t turns last : ℕ) → last ≡ min turns (length kept - 1) → kept_above {B = B} (kept_in kept) t
    (turns - t) ≡ kept_above (kept_in kept) t (last - t)
above_last kept t turns last is = above_short kept t (turns - t) (last - t) (omega arith) (by (cases_lt (length kept - 1) turns))
  where
    by : (length kept - 1 < turns) ⊎ (turns ≤ length kept - 1) → (last - t ≡ turns - t) ⊎ (length kept ≤ suc (t + (last - t)))
    by (inl lt) = inr (omega arith)
    by (inr le) = inl (omega arith)

abbrev Bytes : Type 0
Bytes = List ℕ

-- ---- who is a client

-- a number is a client's, or not
is_client : (clients c : ℕ) → ((0 < c) × (c ≤ clients)) ⊎ (0 < c → c ≤ clients → ⊥)
is_client clients zero = inr (λ a b. omega arith)
is_client clients (suc c) = by (cases_lt clients (suc c))
  where
    by : (clients < suc c) ⊎ (suc c ≤ clients) → ((0 < suc c) × (suc c ≤ clients)) ⊎ (0 < suc c → suc c ≤ clients → ⊥)
    by (inl more) = inr (λ a b. absurd (omega arith))
    by (inr less) = inl (omega arith, less)

-- one that waits is a client
pub waiting_client : (rules : Rules) (seats : List Status) (c j : ℕ) → IsSeated rules seats → waits_for c (status_in seats j) ≡ true → (0 < j)
    × (j ≤ rules.clients)
waiting_client rules seats c j whole waits = by (is_client rules.clients j)
  where
    by : ((0 < j) × (j ≤ rules.clients)) ⊎ (0 < j → j ≤ rules.clients → ⊥) → (0 < j) × (j ≤ rules.clients)
    by (inl is) = is
    by (inr apart) = absurd (false≢true (sym (ap (waits_for c) (whole.outside j apart)) ∙ waits))

-- ---- seats

-- a client's seat is set
pub status_set : (rules : Rules) (seats : List Status) (c : ℕ) (x : Status) → IsSeated rules seats → c ≤ rules.clients → status_in (set seats c x) ≡ put c x
    (status_in seats)
status_set rules seats c x whole le = put_is seats Out x c (let a = whole.few in let b = whole.nine in omega arith)

-- a seat of all that are moved
pub status_moved : (c : ℕ) (other : Status) (seats : List Status) (d : ℕ) → status_in (map (moved c other) seats) d ≡ moved c other (status_in seats d)
status_moved c other [] d = refl
status_moved c other (x ∷ xs) zero = refl
status_moved c other (x ∷ xs) (suc d) = status_moved c other xs d

pub seated_set : (rules : Rules) (seats : List Status) (c : ℕ) (x : Status) → IsSeated rules seats → 0 < c → c ≤ rules.clients → IsSeated rules (set seats c x)
seated_set rules seats c x whole a b = record {
  few = whole.few;
  nine = length-set seats c x ∙ whole.nine;
  outside = λ d apart. ap (λ (f : ℕ → Status). f d) (status_set rules seats c x whole b) ∙ at d apart (cases_eq d c);
}
  where
    at : (d : ℕ) → (0 < d → d ≤ rules.clients → ⊥) → (d ≡ c) ⊎ (d ≡ c → ⊥) → put c x (status_in seats) d ≡ Out
    at d apart (inl e) = absurd (apart (omega arith) (omega arith))
    at d apart (inr other) = cond-false _ x (status_in seats d) (ne_eqb d c other) ∙ whole.outside d apart

seated_moved : (rules : Rules) (seats : List Status) (c : ℕ) (other : Status) → IsSeated rules seats → IsSeated rules (map (moved c other) seats)
seated_moved rules seats c other whole = record {
  few = whole.few;
  nine = length-map seats (moved c other) ∙ whole.nine;
  outside = λ d apart. status_moved c other seats d ∙ ap (moved c other) (whole.outside d apart);
}

pub seated_cut : (rules : Rules) (seats : List Status) (c : ℕ) (other : Status) → IsSeated rules seats → 0 < c → c ≤ rules.clients
    → IsSeated rules (map (moved c other) (set seats c Out))
seated_cut rules seats c other whole a b = seated_moved rules (set seats c Out) c other (seated_set rules seats c Out whole a b)

-- ---- the start

pub seated_start : (rules : Rules) (seats : List Status) (active done : ℕ) → rules.clients ≤ 8 → active ≤ rules.clients → length seats ≡ 9
    → status_in seats ≡ (λ c. if nat_lt 0 c && nat_le c active then In done else Out) → IsSeated rules seats
seated_start rules seats active done few le nine is = record {
  few = few;
  nine = nine;
  outside = λ c apart. ap (λ (f : ℕ → Status). f c) is ∙ at c apart (nat_lt 0 c && nat_le c active) refl;
}
  where
    at : (c : ℕ) → (0 < c → c ≤ rules.clients → ⊥) → (b : Bool) → (nat_lt 0 c && nat_le c active) ≡ b → (if b then In done else Out) ≡ Out
    at c apart false e = refl
    at c apart true e = (let both = and_parts _ _ e in let low = ltb-true _ _ both.0 in let high = leb-true _ _ both.1 in absurd (apart low (omega arith)))

pub opens : (rules : Rules) (seats : List Status) (active released : ℕ) (kept : List (List PlayerCommand)) (references : List (Option (List ℕ)))
    → status_in seats ≡ (λ c. if nat_lt 0 c && nat_le c active then In released else Out) → released ≡ min rules.turns rules.delay → kept ≡ [] → references ≡ []
    → server_of (record { rules = rules; seats = seats; released = released; kept = kept; references = references }) ≡ opening rules active
opens rules seats active released kept references seats-is released-is kept-is references-is =
    (λ i. record { status = seats-is i; released = released; kept = kept_in (kept-is i); reference = reference_in (references-is i) })
    ∙ (λ i. record {
      status = λ c. if nat_lt 0 c && nat_le c active then In (released-is i) else Out;
      released = released-is i;
      kept = λ t. [];
      reference = λ t. None;
    })

-- ---- refusals

-- the one who is refused is told why, and nothing changes
pub refused : (v : View) (a : Arrival Bytes) (c code : ℕ) (fault : Option ℕ) (accepted : Server) (said : Posts Bytes)
    (r : Result (List (PostOf Bytes)) OutOfMemory)
    → IsClient v c → fault ≡ Some code → heard v.rules (server_of v) a ≡ unless fault accepted (server_of v)
    → ((d : ℕ) → posts v.rules (server_of v) a d ≡ refusal c fault said d)
    → IfOk r (λ sent. sent ≡ posted_to c (Refused code ∷ [])) → Makes v a r v
refused v a c code fault accepted said (Err e) client is heard-is posts-is sent = record { rules = refl; server = refl }
refused v a c code fault accepted said (Ok posts) client is heard-is posts-is sent = record {
  rules = refl;
  server = sym (heard-is ∙ ap (λ (o : Option ℕ). unless o accepted (server_of v)) is);
  said = sent ∙ sym (list_to_one v.rules.clients c (Refused code ∷ []) client.0 client.1) ∙
      ap (post_list v.rules.clients) (λ i d. sym (posts-is d ∙ ap (λ (o : Option ℕ). refusal c o said d) is) i);
}

-- ---- join

pub joins_not : (v : View) (c : ℕ) (sent : List (PostOf Bytes)) → is_out (status_in v.seats c) ≡ false → sent ≡ [] → Made v (Heard c up.Join) sent v
joins_not v c sent e none = record {
  rules = refl;
  server = sym (cond-false _ (with_status c (seat (donor v.rules (server_of v))) (server_of v)) (server_of v) e);
  said = none ∙ sym (list_nobody v.rules.clients) ∙
      ap (post_list v.rules.clients) (sym (cond-false _ (asked (donor v.rules (server_of v)) (c ∷ []) (λ d. d == c)) nobody e));
}

asked_list : (seats : List Status) (clients c : ℕ) (who : Option ℕ) → 0 < c → c ≤ clients → least_in (status_in seats) clients ≡ who
    → asked_one {B = Bytes} who c ≡ post_list clients (asked who (c ∷ []) (λ d. d == c))
asked_list seats clients c None a b e = sym (list_to_one clients c (Refused 4 ∷ []) a b)
asked_list seats clients c (Some k) a b e = (let inside = least_in_inside (status_in seats) clients k e in
    sym (list_to_one clients k (Ask c ∷ []) inside.0 inside.1))

pub joins : (v : View) (c : ℕ) (who : Option ℕ) (x : Status) (sent : List (PostOf Bytes)) → IsSeated v.rules v.seats → IsClient v c
    → is_out (status_in v.seats c) ≡ true
    → who ≡ least_in (status_in v.seats) v.rules.clients → x ≡ seat who → sent ≡ asked_one who c
    → Made v (Heard c up.Join) sent (record v { seats = set v.seats c x })
joins v c who x sent whole client out who-is x-is sent-is = record {
  rules = refl;
  server = (λ i. record (server_of v) {
    status = (status_set v.rules v.seats c x whole client.1 ∙ ap (λ y. put c y (status_in v.seats)) (x-is ∙ ap seat who-is))
        i;
  })
      ∙ sym (cond-true _ (with_status c (seat (donor v.rules (server_of v))) (server_of v)) (server_of v) out);
  said = sent-is ∙ asked_list v.seats v.rules.clients c who client.0 client.1 (sym who-is) ∙
      ap (λ o. post_list v.rules.clients (asked o (c ∷ []) (λ d. d == c))) who-is
      ∙ ap (post_list v.rules.clients) (sym (cond-true _ (asked (donor v.rules (server_of v)) (c ∷ []) (λ d. d == c)) nobody out));
}

-- ---- done

pub no_fault : (fault : Option ℕ) → ((code : ℕ) → fault ≡ Some code → ⊥) → fault ≡ None
no_fault None apart = refl
no_fault (Some code) apart = absurd (apart code refl)

pub is_done : (v : View) (c t risen : ℕ) (sent : List (PostOf Bytes)) → IsSeated v.rules v.seats → IsClient v c
    → done_fault v.rules v.released t (status_in v.seats c) ≡ None
    → risen ≡ raised_to v.released (least_done (status_in (set v.seats c (In t))) v.rules.clients)
    → sent ≡ post_list v.rules.clients (release (status_in (set v.seats c (In t))) v.released risen)
    → Made v (Heard c (up.Done t)) sent (record v { seats = set v.seats c (In t); released = risen })
is_done v c t risen sent whole client fine risen-is sent-is = record {
  rules = refl;
  server = (λ i. record (server_of v) { status = seats-is i; released = risen-to i }) ∙
      sym (ap (λ (o : Option ℕ). unless o (raised v.rules (with_status c (In t) (server_of v))) (server_of v)) fine);
  said = sent-is ∙ (λ i. post_list v.rules.clients (release (seats-is i) v.released (risen-to i)))
      ∙ ap (λ (o : Option ℕ). post_list v.rules.clients
      (refusal c o (release (put c (In t) (status_in v.seats)) v.released (raised v.rules (with_status c (In t) (server_of v))).released))) (sym fine);
}
  where
    seats-is : status_in (set v.seats c (In t)) ≡ put c (In t) (status_in v.seats)
    seats-is = status_set v.rules v.seats c (In t) whole client.1

    risen-to : risen ≡ raised_to v.released (least_done (put c (In t) (status_in v.seats)) v.rules.clients)
    risen-to = risen-is ∙ ap (λ (f : ℕ → Status). raised_to v.released (least_done f v.rules.clients)) seats-is

-- ---- state

pub takes_not : (v : View) (c j t : ℕ) (carried : List ℕ) (sent : List (PostOf Bytes)) → takes_state v.released c t (status_in v.seats j) ≡ false → sent ≡ []
    → Made v (Heard c (up.State j t carried)) sent v
takes_not v c j t carried sent e none = record {
  rules = refl;
  server = sym (cond-false _ (with_status j (In (entry_done v.rules v.released t)) (server_of v)) (server_of v) e);
  said = none ∙ sym (list_nobody v.rules.clients) ∙
      ap (post_list v.rules.clients) (sym (cond-false _ (to_one j (loading v.rules (server_of v) t carried)) nobody e));
}

pub takes_it : (v : View) (c j t done : ℕ) (carried : List ℕ) (known : List (List PlayerCommand)) (sent : List (PostOf Bytes)) → known ≡ v.kept
    → IsSeated v.rules v.seats → takes_state v.released c t (status_in v.seats j) ≡ true
    → done ≡ entry_done v.rules v.released t
    → sent ≡ posted_to j (State done carried ∷ (kept_above (kept_in known) t (v.rules.turns - t) ++ Release v.released ∷ []))
    → Made v (Heard c (up.State j t carried)) sent (record v { seats = set v.seats j (In done) })
takes_it v c j t done carried known sent known-is whole e done-is sent-is =
    let client = waiting_client v.rules v.seats c j whole ((and_parts _ _ e).0) in
    record {
      rules = refl;
      server = (λ i. record (server_of v)
          { status = (status_set v.rules v.seats j (In done) whole client.1 ∙ ap (λ n. put j (In n) (status_in v.seats)) done-is) i })
          ∙ sym (cond-true _ (with_status j (In (entry_done v.rules v.released t)) (server_of v)) (server_of v) e);
      said = sent-is ∙ ap (λ (l : List (List PlayerCommand)). posted_to j
          (State done carried ∷ (kept_above (kept_in l) t (v.rules.turns - t) ++ Release v.released ∷ []))) known-is
          ∙ ap (λ n. posted_to j (State n carried ∷ (kept_above (kept_in v.kept) t (v.rules.turns - t) ++ Release v.released ∷ []))) done-is
          ∙ sym (list_to_one v.rules.clients j (loading v.rules (server_of v) t carried) client.0 client.1)
          ∙ ap (post_list v.rules.clients) (sym (cond-true _ (to_one j (loading v.rules (server_of v) t carried)) nobody e));
    }

-- ---- cut

pub is_cut : (v : View) (c risen : ℕ) (who : Option ℕ) (other : Status) (sent : List (PostOf Bytes)) (seats : List Status) → IsSeated v.rules v.seats
    → IsClient v c
    → risen ≡ raised_to v.released (least_done (status_in (set v.seats c Out)) v.rules.clients) → who ≡ least_in (status_in (set v.seats c Out)) v.rules.clients
    → other ≡ seat who
    → sent ≡ post_list v.rules.clients (cut_said (set v.seats c Out) v.rules.clients v.released risen c) → seats ≡ map (moved c other) (set v.seats c Out)
    → Made v (Cut c) sent (record v { seats = seats; released = risen })
is_cut v c risen who other sent seats whole client risen-is who-is other-is sent-is seats-is = record {
  rules = refl;
  server = (λ i. record (server_of v) { status = status-is i; released = risen-to i });
  said = sent-is ∙ (λ i. post_list v.rules.clients (λ d.
      release (out-is i) v.released (risen-to i) d ++ asked (least_in (out-is i) v.rules.clients)
      (filter (λ j. waits_for c (out-is i j)) (up_to v.rules.clients)) (λ j. waits_for c (out-is i j)) d));
}
  where
    out : ℕ → Status
    out = put c Out (status_in v.seats)

    out-is : status_in (set v.seats c Out) ≡ out
    out-is = status_set v.rules v.seats c Out whole client.1

    risen-to : risen ≡ raised_to v.released (least_done out v.rules.clients)
    risen-to = risen-is ∙ ap (λ (f : ℕ → Status). raised_to v.released (least_done f v.rules.clients)) out-is

    other-to : other ≡ seat (least_in out v.rules.clients)
    other-to = other-is ∙ ap seat (who-is ∙ ap (λ (f : ℕ → Status). least_in f v.rules.clients) out-is)

    status-is : status_in seats ≡ (λ j. if waits_for c (out j) then seat (least_in out v.rules.clients) else out j)
    status-is = ap status_in seats-is ∙ (λ i d. status_moved c other (set v.seats c Out) d i) ∙ (λ i d. moved c (other-to i) (out-is i d))

-- ---- over a list of arrivals

pub answers : (old new : View) (active : ℕ) (h : List (Arrival Bytes)) (a : Arrival Bytes) (r : Result (List (PostOf Bytes)) OutOfMemory) → Makes old a r new
    → StandsFor old active h → Answers old active h a r new
answers old new active h a (Ok sent) made stands = (
  made.server ∙ (λ i. heard (sym made.rules i) (stands-to i) a),
  made.said ∙ ap (λ (s : Server). posts_of old.rules s a) stands,
)
  where
    stands-to : server_of old ≡ server_after new.rules active h
    stands-to = stands ∙ ap (λ (rules : Rules). server_after rules active h) (sym made.rules)
answers old new active h a (Err e) made stands = made.server ∙ stands ∙ ap (λ (rules : Rules). server_after rules active h) (sym made.rules)
