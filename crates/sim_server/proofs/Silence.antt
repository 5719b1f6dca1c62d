-- At a silent arrival nobody is told anything.
use Rattle.sim_plain.specs.declared.message.UpOf.TheVariants as up
use Rattle.sim_wire.specs.declared.fault.WireFault.TheVariants as faults
use Rattle.sim_server.proofs.Common.{Arrival, differs, filter, IsNoted, IsSilent, loading, posts_of, refusal, Refused, Release, status_in, waits_for, WireFault}
use Rattle.sim_server.proofs.Common.{Bool, donor, false, Heard, IfErr, IsOk, List, Makes, None, Posts, posts, refl, Rules, Some, subst, true, up_to, UpOf, View}
use Rattle.sim_server.proofs.Common.{GoesUnseen, IsSeated, IsUpFrame, least_done, post_list, posted_to, raised_to, RefusedFor, SaysNoted, server_of, up_carries}
use Rattle.sim_server.proofs.Common.{[], ap, Cut, Err, In, map, not, Ok, Out, put, set, suc, zero, ℕ, ◌++◌, ◌+◌, ◌==◌, ◌∙◌, ◌∷◌, ◌≡◌, ◌≤◌}
use Rattle.sim_server.proofs.Common.{arith, Ask, asked, le-ltb, length, nobody, Notice, Option, PostOf, raised, release, Result, Server, Status, to_all, to_one}
use Rattle.sim_server.proofs.Common.{bytes_eq-Decides, cond-false, false≢true, if◌then◌else◌, IsClient, OutOfMemory, reference_in, ReleasesNothing, with_status}
use Rattle.sim_server.proofs.Made.{list_nobody, list_release, status_set}

abbrev Bytes : Type 0
Bytes = List ℕ

-- ---- lists

none_told : {B : Type 0} (n : ℕ) (f : Posts B) → ((d : ℕ) → f d ≡ []) → post_list n f ≡ []
none_told zero f none = refl
none_told (suc n) f none = (λ i. none_told n f none i ++ posted_to (suc n) (none (suc n) i))

none_found : (p : ℕ → Bool) (l : List ℕ) → ((j : ℕ) → p j ≡ false) → filter p l ≡ []
none_found p [] none = refl
none_found p (x ∷ l) none = cond-false _ (x ∷ filter p l) (filter p l) (none x) ∙ none_found p l none

either_way : {X : Type 0} (b : Bool) (l : List X) → l ≡ [] → (if b then l else []) ≡ []
either_way true l e = e
either_way false l e = refl

none_asked : {B : Type 0} (o : Option ℕ) (who : List ℕ) (wants : ℕ → Bool) (d : ℕ) → who ≡ [] → wants d ≡ false → asked {B = B} o who wants d ≡ []
none_asked None who wants d e no-one = cond-false _ (Refused 4 ∷ []) [] no-one
none_asked (Some k) who wants d e no-one = either_way (d == k) (map Ask who) (ap (map Ask) e)

-- ---- digests

alike : (digest : List ℕ) → differs (Some digest) digest ≡ false
alike digest = ap not ((bytes_eq-Decides digest digest).1 refl)

pub same_digest : (o : Option (List ℕ)) (digest : List ℕ) → o ≡ Some digest → differs o digest ≡ false
same_digest o digest e = ap (λ (x : Option (List ℕ)). differs x digest) e ∙ alike digest

-- ---- arrivals

gone_says : (rules : Rules) (s : Server) (c : ℕ) → GoesUnseen rules s c → (d : ℕ) → posts {B = Bytes} rules s (Cut c) d ≡ []
gone_says rules s c gone d =
    let risen : ℕ = (raised rules (with_status c Out s)).released in
    let stays : risen ≤ s.released = (let e = gone.stays in omega arith) in
    let waits : ℕ → Bool = λ j. waits_for c ((with_status c Out s).status j) in
    let first : release {B = Bytes} (with_status c Out s).status s.released risen d ≡ [] =
    ap (λ (f : Posts Bytes). f d) (cond-false _ (to_all (with_status c Out s).status (Release risen)) nobody (le-ltb s.released risen stays)) in
    let second : asked {B = Bytes} (donor rules (with_status c Out s)) (filter waits (up_to rules.clients)) waits d ≡ [] =
    none_asked (donor rules (with_status c Out s)) (filter waits (up_to rules.clients)) waits d (none_found waits (up_to rules.clients) gone.alone)
    (gone.alone d) in
    (λ i. first i ++ second i)

silent_says : (rules : Rules) (s : Server) (a : Arrival Bytes) → IsSilent rules s a → posts_of rules s a ≡ []
silent_says rules s (Heard c up.Join) out = ap (post_list rules.clients) (cond-false _ (asked (donor rules s) (c ∷ []) (λ d. d == c)) nobody out) ∙
    list_nobody rules.clients
silent_says rules s (Heard c (up.Command t command)) none = absurd none
silent_says rules s (Heard c (up.Done t)) done =
    let status : ℕ → Status = put c (In t) s.status in
    let risen : ℕ = (raised rules (with_status c (In t) s)).released in
    let stays : risen ≤ s.released = (let e = done.stays in omega arith) in
    ap (λ (o : Option ℕ). post_list rules.clients (refusal c o (release {B = Bytes} status s.released risen))) done.taken ∙
    list_release status rules.clients s.released risen stays
silent_says rules s (Heard c (up.Report t digest)) report =
    let said : Posts Bytes = if differs (s.reference t) digest then to_all s.status (Notice t c) else nobody in
    ap (λ (o : Option ℕ). post_list rules.clients (refusal c o said)) report.taken
    ∙ ap (post_list rules.clients) (cond-false _ (to_all s.status (Notice t c)) nobody (same_digest (s.reference t) digest report.same)) ∙
    list_nobody rules.clients
silent_says rules s (Heard c (up.State j t carried)) left = none_told rules.clients (posts {B = Bytes} rules s (Heard c (up.State j t carried)))
    (λ d. ap (λ (f : Posts Bytes). f d) (cond-false _ (to_one j (loading rules s t carried)) nobody left))
silent_says rules s (Cut c) gone = none_told rules.clients (posts {B = Bytes} rules s (Cut c)) (gone_says rules s c gone)

-- a call that has what it wants says nothing at a silent arrival
pub silent : (old new : View) (a : Arrival Bytes) (r : Result (List (PostOf Bytes)) OutOfMemory) → Makes old a r new → IsOk r
    → IsSilent old.rules (server_of old) a → r ≡ Ok []
silent old new a (Ok sent) made ok still = ap Ok (made.said ∙ silent_says old.rules (server_of old) a still)
silent old new a (Err e) made ok still = absurd (false≢true ok)

-- neither does one at a report that is only noted
noted_says : (v : View) (c t : ℕ) (digest : List ℕ) → IsNoted v c t digest → posts_of {B = Bytes} v.rules (server_of v) (Heard c (up.Report t digest)) ≡ []
noted_says v c t digest report =
    let s : Server = server_of v in
    let said : Posts Bytes = if differs (s.reference t) digest then to_all s.status (Notice t c) else nobody in
    ap (λ (o : Option ℕ). post_list v.rules.clients (refusal c o said)) report.taken ∙
    ap (post_list v.rules.clients) (cond-false _ (to_all s.status (Notice t c)) nobody report.same) ∙ list_nobody v.rules.clients

pub noted : (old new : View) (c t : ℕ) (digest : List ℕ) (r : Result (List (PostOf Bytes)) OutOfMemory) → Makes old (Heard c (up.Report t digest)) r new
    → IsOk r → IsNoted old c t digest → r ≡ Ok []
noted old new c t digest (Ok sent) made ok report = ap Ok (made.said ∙ noted_says old c t digest report)
noted old new c t digest (Err e) made ok report = absurd (false≢true ok)

-- and a report carries nothing
pub noted_is_light : (v : View) (c : ℕ) (message : UpOf (List ℕ)) → SaysNoted v c message → up_carries message ≡ false
noted_is_light v c up.Join h = absurd h
noted_is_light v c (up.Command t command) h = absurd h
noted_is_light v c (up.Done t) h = absurd h
noted_is_light v c (up.Report t digest) report = refl
noted_is_light v c (up.State j t carried) h = absurd h

-- ---- what is wanted of memory

pub not_both : (o : Option ℕ) (code : ℕ) → o ≡ Some code → o ≡ None → ⊥
not_both (Some x) code is none = cc
not_both None code is none = cc

pub done_stays : (v : View) (c t risen : ℕ) → IsSeated v.rules v.seats → IsClient v c
    → risen ≡ raised_to v.released (least_done (status_in (set v.seats c (In t))) v.rules.clients) → ReleasesNothing v.rules (server_of v) c t
    → risen ≤ v.released
done_stays v c t risen seated client is done =
    let e = is ∙ ap (λ (f : ℕ → Status). raised_to v.released (least_done f v.rules.clients)) (status_set v.rules v.seats c (In t) seated client.1) ∙
    done.stays in
    omega (arith, e)

pub cut_stays : (v : View) (c risen : ℕ) → IsSeated v.rules v.seats → IsClient v c
    → risen ≡ raised_to v.released (least_done (status_in (set v.seats c Out)) v.rules.clients) → GoesUnseen v.rules (server_of v) c → risen ≤ v.released
cut_stays v c risen seated client is gone =
    let e = is ∙ ap (λ (f : ℕ → Status). raised_to v.released (least_done f v.rules.clients)) (status_set v.rules v.seats c Out seated client.1) ∙ gone.stays in
    omega (arith, e)

pub cut_alone : (v : View) (c : ℕ) → IsSeated v.rules v.seats → IsClient v c → GoesUnseen v.rules (server_of v) c → (j : ℕ)
    → waits_for c (status_in (set v.seats c Out) j) ≡ false
cut_alone v c seated client gone j = ap (λ (f : ℕ → Status). waits_for c (f j)) (status_set v.rules v.seats c Out seated client.1) ∙ gone.alone j

pub is_listed : (references : List (Option (List ℕ))) (t : ℕ) (first : List ℕ) → reference_in references t ≡ Some first → t + 1 ≤ length references
is_listed [] t first e = cc
is_listed (x ∷ references) zero first e = omega arith
is_listed (x ∷ references) (suc t) first e = (let le = is_listed references t first e in omega arith)

-- ---- frames

-- bytes for which memory was refused are a frame
pub is_frame : (bytes : List ℕ) (r : Result (UpOf (List ℕ)) WireFault) → IfErr r (RefusedFor IsUpFrame bytes) → r ≡ Err faults.OutOfMemory
    → ((message : UpOf (List ℕ)) → IsUpFrame bytes message → ⊥) → ⊥
is_frame bytes r refused is none = by (subst (λ (x : Result (UpOf (List ℕ)) WireFault). IfErr x (RefusedFor IsUpFrame bytes)) is refused)
  where
    by : (message : UpOf (List ℕ)) × IsUpFrame bytes message → ⊥
    by some = none some.0 some.1
