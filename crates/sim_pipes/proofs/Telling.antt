-- What each client gets of a list of posts.
use Rattle.sim_base.specs.declared.step.Event.TheVariants as event
use Rattle.sim_plain.specs.declared.message.UpOf.TheVariants as up
use Rattle.sim_base.specs.declared.{command.Command.{Command, TheVariants.{Attack, Delete, Place, Resign, Stop, Train, Walk}}, memory.OutOfMemory.OutOfMemory}
use Rattle.{sim_base.specs.Limits.HasFewIds, sim_pipes.proofs.Common.{All, ap, append-nil, AreFrames, arith, Arrival, Bool, cases_eq, cond-false, cond-true}}
use Rattle.sim_pipes.proofs.Common.{Cut, DownOf, eq-eqb, Err, false, filter_map, get_or, Heard, if◌then◌else◌, inl, inr, IsDownFrame, IsSmallServer, length}
use Rattle.sim_pipes.proofs.Common.{List, ne_eqb, notice_events, notice_in, Ok, pipe_in, PostOf, posts, raw, refl, Result, Rules, Sends, server_of, subst, suc}
use Rattle.sim_pipes.proofs.Common.{sym, take, take_more, told_to, true, UpOf, View, zero, ℕ, [], ◌++◌, ◌+◌, ◌<◌, ◌∙◌, ◌∷◌, ◌≡◌, ◌≤◌, ◌⊎◌}
use Rattle.sim_plain.{proofs.Told.{none_told, notices_are_told, told}, specs.{declared.status.Status.{Status, TheVariants.{In, Out, Waiting}}, Messages.sender}}
use Rattle.sim_plain.specs.Server.{command_fault, done_fault, is_in, is_out, noticed, post_list, posted_to, Posts, posts_of, Report, report_fault, Server}
use Rattle.{sim_plain.specs.Server.takes_state, sim_server.{proofs.Smallness.{posts_are_small, servers_stay_small}, specs.Standing.{IsSmallArrival, Makes}}}
use Rattle.sim_wire.{proofs.{Fronts.AreBytes, Hearing.is_frame}, specs.Memory.{heard_or_cut, message_in}}
use Rattle.{sim_wire.specs.Reading.{CommandFits, IsSmallDown, IsSmallUp, UpFits}, std.proofs.Common.{is_none, None, Option, Some, true≢false, ◌==◌}}
use Rattle.std.{proofs.lemmas.List.{Elements.{All-append, All-cons, All-nil, filter_map-append}, map-append}, specs.{List.AllByRecursion, Prelude.IfOk}}

pub told_to-append : {B : Type 0} (c : ℕ) (xs ys : List (PostOf B)) → told_to c (xs ++ ys) ≡ told_to c xs ++ told_to c ys
told_to-append c [] ys = refl
told_to-append {B} c (x ∷ xs) ys = by (x.to == c) (told_to-append c xs ys)
  where
    by : (b : Bool) → told_to c (xs ++ ys) ≡ told_to c xs ++ told_to c ys → (if b then x.down ∷ told_to c (xs ++ ys) else told_to c (xs ++ ys)) ≡
        (if b then x.down ∷ told_to c xs else told_to c xs) ++ told_to c ys
    by true rec = ap (λ (l : List (DownOf B)). x.down ∷ l) rec
    by false rec = rec

-- one post more
pub told_more : {B : Type 0} (c : ℕ) (all : List (PostOf B)) (i : ℕ) (post : PostOf B) → i < length all → post ≡ get_or all i post
    → told_to c (take (i + 1) all) ≡ told_to c (take i all) ++ told_to c (post ∷ [])
told_more c all i post lt is = ap (told_to c) (take_more all i post lt ∙ ap (λ x. take i all ++ x ∷ []) (sym is)) ∙ told_to-append c (take i all) (post ∷ [])

-- what is posted to a client
told_own : {B : Type 0} (c d : ℕ) (said : List (DownOf B)) → d ≡ c → told_to c (posted_to d said) ≡ said
told_own c d [] e = refl
told_own {B} c d (x ∷ xs) e = cond-true _ (x ∷ told_to c (posted_to d xs)) (told_to c (posted_to d xs)) (eq-eqb d c e) ∙ ap (λ (l : List (DownOf B)). x ∷ l)
    (told_own c d xs e)

-- what is posted to another
told_other : {B : Type 0} (c d : ℕ) (said : List (DownOf B)) → (d ≡ c → ⊥) → told_to c (posted_to d said) ≡ []
told_other c d [] apart = refl
told_other c d (x ∷ xs) apart = cond-false _ (x ∷ told_to c (posted_to d xs)) (told_to c (posted_to d xs)) (ne_eqb d c apart) ∙ told_other c d xs apart

-- nothing is told to one behind the last
told_behind : {B : Type 0} (n c : ℕ) (posts : Posts B) → n < c → told_to c (post_list n posts) ≡ []
told_behind zero c posts lt = refl
told_behind (suc n) c posts lt =
    told_to-append c (post_list n posts) (posted_to (suc n) (posts (suc n)))
    ∙ (λ i. told_behind n c posts (omega arith) i ++ told_other c (suc n) (posts (suc n)) (λ e. absurd (omega arith)) i)

pub told_each : {B : Type 0} (n c : ℕ) (posts : Posts B) → 0 < c → c ≤ n → told_to c (post_list n posts) ≡ posts c
told_each zero c posts low high = absurd (omega arith)
told_each {B} (suc n) c posts low high = told_to-append c (post_list n posts) (posted_to (suc n) (posts (suc n))) ∙
    by (cases_eq (suc n) c) (λ (h : c ≤ n). told_each n c posts low h)
  where
    by : (suc n ≡ c) ⊎ (suc n ≡ c → ⊥) → (c ≤ n → told_to c (post_list n posts) ≡ posts c) → told_to c (post_list n posts) ++
        told_to c (posted_to (suc n) (posts (suc n))) ≡ posts c
    by (inl e) rec = (λ i. told_behind n c posts (omega arith) i ++ told_own c (suc n) (posts (suc n)) e i) ∙ ap posts e
    by (inr apart) rec = (λ i. rec (omega arith) i ++ told_other c (suc n) (posts (suc n)) apart i) ∙ append-nil (posts c)

-- what holds of each message with its receiver, holds of each post
posted_all : {B : Type 0} (P : PostOf B → Type 0) (c : ℕ) (said : List (DownOf B)) → AllByRecursion (λ (down : DownOf B). P (record { to = c; down = down }))
    said → All P (posted_to c said)
posted_all P c [] h = All-nil P
posted_all P c (x ∷ xs) h = All-cons P (record { to = c; down = x }) (posted_to c xs) h.0 (posted_all P c xs h.1)

pub all_posts : {B : Type 0} (P : PostOf B → Type 0) (n : ℕ) (posts : Posts B)
    → ((c : ℕ) → 0 < c → c ≤ n → AllByRecursion (λ (down : DownOf B). P (record { to = c; down = down })) (posts c)) → All P (post_list n posts)
all_posts P zero posts each = All-nil P
all_posts P (suc n) posts each =
    All-append P (post_list n posts) (posted_to (suc n) (posts (suc n))) (all_posts P n posts (λ c low high. each c low (omega arith)))
    (posted_all P (suc n) (posts (suc n)) (each (suc n) (omega arith) (omega arith)))

always : {X : Type 0} (P : X → Type 0) (xs : List X) → ((x : X) → P x) → AllByRecursion P xs
always P [] h = tt
always P (x ∷ xs) h = (h x, always P xs h)

pub clients_are_told : {B : Type 0} (n : ℕ) (posts : Posts B) → All (λ (post : PostOf B). (0 < post.to) × (post.to ≤ n)) (post_list n posts)
clients_are_told {B} n posts = all_posts (λ (post : PostOf B). (0 < post.to) × (post.to ≤ n)) n posts (λ c low high. always _ (posts c) (λ down. (low, high)))

pub clients_below : {B : Type 0} (n : ℕ) (posts : Posts B) → All (λ (post : PostOf B). post.to < suc n) (post_list n posts)
clients_below {B} n posts = all_posts (λ (post : PostOf B). post.to < suc n) n posts (λ c low high. always _ (posts c) (λ down. omega (arith, high)))

-- Who is heard is told of the notice that this gives.

-- what one says that is not in gives no notice
none_outside : {B : Type 0} (rules : Rules) (s : Server) (a : Arrival B) → is_in (s.status (sender a)) ≡ false → noticed rules s a ≡ []
none_outside rules s (Heard c up.Join) out = none_told s (is_out (s.status c))
none_outside rules s (Heard c (up.Command t x)) out = none_told s (is_none (command_fault rules (s.kept t) c t (s.status c)))
none_outside rules s (Heard c (up.Done t)) out = none_told s (is_none (done_fault rules s.released t (s.status c)))
none_outside rules s (Heard c (up.Report t g)) out = by (s.status c) out
  where
    by : (st : Status) → is_in st ≡ false → told s (if is_none (report_fault s.released t st) then (t, (c, g)) ∷ [] else []) ≡ []
    by Out e = refl
    by (Waiting j) e = refl
    by (In done) e = absurd (true≢false e)
none_outside rules s (Heard c (up.State j t carried)) out = none_told s (takes_state s.released c t (s.status j))
none_outside rules s (Cut c) out = none_told s true

pub own_notice : {B : Type 0} (rules : Rules) (s : Server) (a : Arrival B) → filter_map notice_in (posts rules s a (sender a)) ≡ noticed rules s a
own_notice rules s a = notices_are_told rules s a (sender a) ∙ by (is_in (s.status (sender a))) refl
  where
    by : (b : Bool) → is_in (s.status (sender a)) ≡ b → (if b then noticed rules s a else []) ≡ noticed rules s a
    by true e = refl
    by false e = sym (none_outside rules s a e)

pub sender_is_noticed : {B : Type 0} (rules : Rules) (s : Server) (a : Arrival B) → 0 < sender a → sender a ≤ rules.clients
    → filter_map notice_in (told_to (sender a) (posts_of rules s a)) ≡ noticed rules s a
sender_is_noticed rules s a low high = ap (filter_map notice_in) (told_each rules.clients (sender a) (posts rules s a) low high) ∙ own_notice rules s a

-- the notices of one post more
pub notices_more : {B : Type 0} (c : ℕ) (all : List (PostOf B)) (i : ℕ) (post : PostOf B) → i < length all → post ≡ get_or all i post
    → notice_events (filter_map notice_in (told_to c (take (i + 1) all))) ≡ notice_events (filter_map notice_in (told_to c (take i all))) ++ notice_events
    (filter_map notice_in (told_to c (post ∷ [])))
notices_more c all i post lt is =
    ap (λ l. notice_events (filter_map notice_in l)) (told_more c all i post lt is)
    ∙ ap notice_events (filter_map-append notice_in (told_to c (take i all)) (told_to c (post ∷ [])))
    ∙ map-append (λ (n : ℕ × ℕ). event.Notice n.0 n.1) (filter_map notice_in (told_to c (take i all))) (filter_map notice_in (told_to c (post ∷ [])))

-- What the server says to an arrival has frames, and goes to clients.

abbrev Bytes : Type 0
Bytes = List ℕ

abbrev Answer : Type 0
Answer = Result (List (PostOf Bytes)) OutOfMemory

-- ---- what arrives in bytes

-- a command that fits has few ids
few_ids : (command : Command) → CommandFits command → HasFewIds command
few_ids (Walk ids to) fits = fits.0.few
few_ids (Stop ids) fits = fits.few
few_ids (Attack ids target) fits = fits.0.few
few_ids (Delete ids) fits = fits.few
few_ids (Place template at) fits = tt
few_ids (Train building template) fits = tt
few_ids Resign fits = tt

-- and a message that fits is small
small_up : (message : UpOf Bytes) → UpFits message → IsSmallUp message
small_up up.Join fits = tt
small_up (up.Command turn command) fits = few_ids command fits.1
small_up (up.Done turn) fits = tt
small_up (up.Report turn digest) fits = tt
small_up (up.State client turn bytes) fits = fits.1

-- so what arrives with any bytes is
pub raw_is_small : (from : ℕ) (bytes : Bytes) → AreBytes bytes → IsSmallArrival (raw from bytes)
raw_is_small from bytes all = by (message_in bytes) refl
  where
    by : (read : Option (UpOf Bytes)) → message_in bytes ≡ read → IsSmallArrival (heard_or_cut from read)
    by None e = tt
    by (Some message) e = small_up message (is_frame bytes all message e).fits

-- ---- what the server makes of an arrival

pub makes_rules : (old : View) (a : Arrival Bytes) (r : Answer) (new : View) → Makes old a r new → new.rules ≡ old.rules
makes_rules old a (Ok posts) new made = made.rules
makes_rules old a (Err e) new same = same.rules

pub makes_small : (old : View) (a : Arrival Bytes) (r : Answer) (new : View) → IsSmallServer (server_of old) → IsSmallArrival a → Makes old a r new
    → IsSmallServer (server_of new)
makes_small old a (Ok posts) new small fits made = subst IsSmallServer (sym made.server) (servers_stay_small old.rules (server_of old) a small fits)
makes_small old a (Err e) new small fits same = subst IsSmallServer (sym same.server) small

pub hears_small : (old : View) (from : ℕ) (bytes : Bytes) (r : Answer) (new : View) → IsSmallServer (server_of old) → AreBytes bytes
    → Makes old (raw from bytes) r new → IsSmallServer (server_of new)
hears_small old from bytes r new small all made = makes_small old (raw from bytes) r new small (raw_is_small from bytes all) made

pub to_clients : (old : View) (a : Arrival Bytes) (r : Answer) (new : View) → Makes old a r new
    → IfOk r (All (λ (post : PostOf Bytes). post.to < suc old.rules.clients))
to_clients old a (Ok sent) new made = subst (All (λ (post : PostOf Bytes). post.to < suc old.rules.clients)) (sym made.said)
    (clients_below old.rules.clients (posts old.rules (server_of old) a))
to_clients old a (Err e) new same = tt

pub have_frames : (old : View) (a : Arrival Bytes) (r : Answer) (new : View) → IsSmallServer (server_of old) → IsSmallArrival a → Makes old a r new
    → IfOk r (All (λ (post : PostOf Bytes). IsSmallDown post.down))
have_frames old a (Ok sent) new small fits made =
    subst (All (λ (post : PostOf Bytes). IsSmallDown post.down)) (sym made.said)
    (all_posts (λ (post : PostOf Bytes). IsSmallDown post.down) old.rules.clients (posts old.rules (server_of old) a)
    (λ c low high. posts_are_small old.rules (server_of old) a c small fits))
have_frames old a (Err e) new small fits same = tt

-- posts that are delivered are what the server says to each client
pub sends : (old : View) (before : List (List Bytes)) (a : Arrival Bytes) (sent : List (PostOf Bytes)) (new : View) (pipes : List (List Bytes))
    → Makes old a (Ok sent) new
    → ((c : ℕ) (messages : List (DownOf Bytes)) → AreFrames IsDownFrame (pipe_in before c) messages → AreFrames IsDownFrame (pipe_in pipes c)
    (messages ++ told_to c sent))
    → Sends old before a new pipes
sends old before a sent new pipes made delivered = record {
  server = made.server;
  told = λ c messages low high are. subst (λ said. AreFrames IsDownFrame (pipe_in pipes c) (messages ++ said))
      (ap (told_to c) made.said ∙ told_each old.rules.clients c (posts old.rules (server_of old) a) low high) (delivered c messages are);
}
