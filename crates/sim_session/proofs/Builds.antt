-- How often systems were built, over one step and then another.
use Rattle.{sim_client.specs.StageWords.AreCleared, sim_session.proofs.{Coming.{all_back, same_count}, Loads.loads_are_own}}
use Rattle.sim_session.proofs.{MoreSteps.{loads_behind, loads_within}, TextCommon.{All, AllBuiltAtMost, ap, AreBuiltIf, arith, begun_by, Bool, builds_of}}
use Rattle.sim_session.proofs.TextCommon.{ChangeAt, client_of, Event, events, events_after, false, get_or, has_load, if◌then◌else◌, le-leb, length, length-map}
use Rattle.sim_session.proofs.TextCommon.{List, loads_in, map, Meaning, nat_le, nowhere, opened, refl, session, Setup, start_events, StartsOnly, Step, StepList}
use Rattle.sim_session.proofs.TextCommon.{subst, sym, Systems, systems_by, systems_on, take, true, ℕ, [], ◌++◌, ◌+◌, ◌-◌, ◌<◌, ◌∙◌, ◌∷◌, ◌≡◌, ◌≤◌}
use Rattle.sim_session.specs.{declared.session.Session.Session, Going.{ComeBackBy, IsSessionBy, KeepsBy, MayBeginBy, MayFinishBy, rigs_by}, Laws.AreBuiltAtMost}
use Rattle.{sim_session.specs.Laws.IsBuiltAtMost, sim_system.specs.Meanings.{all_cleared, AreBuiltOnceAtMost, HaveKinds, HaveSameRebuilds, IsBuiltOnceAtMost}}
use Rattle.std.proofs.{Common.{drop, ⊎_elim}, lemmas.{Bool.{cases_eq, cases_lt}, List.{drop-map, Elements.{All-append, All-cons, All-drop, All-nil, All-set}}}}
use Rattle.std.proofs.{lemmas.List.{get_or-map, get_or-set_other, get_or-set_same, map-set, take-append-drop, take_more_set}, Math.ListN.{get_or-append, set}}
use Rattle.{sim_system.specs.RigWords.systems_by as rig_by, sim_system.specs.declared.rig.Rig.Rig, std.specs.Prelude.Vec, std.specs.Prelude.vec_capacity}

one_so : (j k most : ℕ) (l m n : Meaning) → j + k ≤ most → IsBuiltAtMost j l m → IsBuiltAtMost k m n → IsBuiltAtMost most l n
one_so j k most l m n few first second = record { low = omega (arith, first.low, second.low); high = omega (arith, few, first.high, second.high) }

-- at most the one number and then at most the other
built_so : (j k most : ℕ) (s t u : Systems) → j + k ≤ most → AreBuiltAtMost j s t → AreBuiltAtMost k t u → AreBuiltAtMost most s u
built_so j k most s t u few first second = record {
  ground = one_so j k most s.ground t.ground u.ground few first.ground second.ground;
  range = one_so j k most s.range t.range u.range few first.range second.range;
  watch = one_so j k most s.watch t.watch u.watch few first.watch second.watch;
  census = one_so j k most s.census t.census u.census few first.census second.census;
}

-- nothing was built
one_same : (most : ℕ) (m n : Meaning) → n.rebuilds ≡ m.rebuilds → IsBuiltAtMost most m n
one_same most m n is = record { low = omega (arith, is); high = omega (arith, is) }

same_built : (most : ℕ) (s t : Systems) → HaveSameRebuilds s t → AreBuiltAtMost most s t
same_built most s t same = record {
  ground = one_same most s.ground t.ground same.ground;
  range = one_same most s.range t.range same.range;
  watch = one_same most s.watch t.watch same.watch;
  census = one_same most s.census t.census same.census;
}

pub never_built : (most : ℕ) (s t : Systems) → t ≡ s → AreBuiltAtMost most s t
never_built most s t is =
    same_built most s t (record {
      ground = λ i. (is i).ground.rebuilds;
      range = λ i. (is i).range.rebuilds;
      watch = λ i. (is i).watch.rebuilds;
      census = λ i. (is i).census.rebuilds;
    })

-- each was built once at most
one_once : (most : ℕ) (m n : Meaning) → 1 ≤ most → IsBuiltOnceAtMost m n → IsBuiltAtMost most m n
one_once most m n few once = record { low = once.low; high = omega (arith, few, once.high) }

pub once_built : (most : ℕ) (s t : Systems) → 1 ≤ most → AreBuiltOnceAtMost s t → AreBuiltAtMost most s t
once_built most s t few once = record {
  ground = one_once most s.ground t.ground few once.ground;
  range = one_once most s.range t.range few once.range;
  watch = one_once most s.watch t.watch few once.watch;
  census = one_once most s.census t.census few once.census;
}

built_if : (b : Bool) (most : ℕ) (s t : Systems) → (b ≡ true → 1 ≤ most) → AreBuiltIf b s t → AreBuiltAtMost most s t
built_if true most s t few built = once_built most s t (few refl) built
built_if false most s t few built = same_built most s t built

-- in a step those of its client, if it loads
pub step_built : (own players : ℕ) (events : List Event) (old new : List Systems) → 0 < own → length old ≡ players
    → (has_load events ≡ true → 1 ≤ loads_in events own)
    → ChangeAt (AreBuiltIf (has_load events)) (own - 1) old new → AllBuiltAtMost (loads_in events) players old new
step_built own players events old new number count loads change = λ c low high.
    ⊎_elim
    (λ is. built_if (has_load events) (loads_in events c) (get_or old (c - 1) nowhere) (get_or new (c - 1) nowhere)
    (λ load. subst (λ k. 1 ≤ loads_in events k) (sym is) (loads load))
    (subst (λ k. AreBuiltIf (has_load events) (get_or old (k - 1) nowhere) (get_or new (k - 1) nowhere)) (sym is)
    (change.there nowhere (omega (arith, count, low, high, is)))))
    (λ other. never_built (loads_in events c) (get_or old (c - 1) nowhere) (get_or new (c - 1) nowhere)
    (change.others (c - 1) nowhere (λ same. other (omega (arith, same, low, number)))))
    (cases_eq c own)

-- at the start those of the clients that begin
pub start_built : (clients players : ℕ) (old new : List Systems) → length old ≡ players → StartsOnly clients old new
    → AllBuiltAtMost (begun_by clients) players old new
start_built clients players old new count starts = λ c low high.
    ⊎_elim
    (λ late. never_built (begun_by clients c) (get_or old (c - 1) nowhere) (get_or new (c - 1) nowhere)
    (starts.others (c - 1) nowhere (omega (arith, late, low))))
    (λ begins.
    let counted : nat_le c clients ≡ true = le-leb c clients begins in
    once_built (begun_by clients c) (get_or old (c - 1) nowhere) (get_or new (c - 1) nowhere)
    (subst (λ (b : Bool). 1 ≤ (if b then 1 else 0)) (sym counted) (omega arith))
    (starts.there (c - 1) nowhere (omega (arith, begins, low)) (omega (arith, count, low, high))))
    (cases_lt clients c)

-- one after the other
pub all_built_so : (first second most : ℕ → ℕ) (players : ℕ) (old now new : List Systems) → ((c : ℕ) → first c + second c ≤ most c)
    → AllBuiltAtMost first players old now → AllBuiltAtMost second players now new → AllBuiltAtMost most players old new
all_built_so first second most players old now new few one two = λ c low high.
    built_so (first c) (second c) (most c) (get_or old (c - 1) nowhere) (get_or now (c - 1) nowhere) (get_or new (c - 1) nowhere) (few c) (one c low high)
    (two c low high)

pub none_built : (most : ℕ → ℕ) (players : ℕ) (old : List Systems) → AllBuiltAtMost most players old old
none_built most players old = λ c low high. never_built (most c) (get_or old (c - 1) nowhere) (get_or old (c - 1) nowhere) refl

-- what stands behind the systems of clients is not counted
pub front_built : (most : ℕ → ℕ) (players : ℕ) (old new kept spare given out : List Systems) → given ≡ old ++ kept → out ≡ new ++ spare → length old ≡ players
    → length new ≡ players
    → AllBuiltAtMost most players old new → AllBuiltAtMost most players given out
front_built most players old new kept spare given out given_is out_is many more built = λ c low high.
    let at : get_or given (c - 1) nowhere ≡ get_or old (c - 1) nowhere = ap (λ (xs : List Systems). get_or xs (c - 1) nowhere) given_is ∙
    get_or-append old kept nowhere (c - 1) (omega (arith, many, low, high)) in
    let now : get_or out (c - 1) nowhere ≡ get_or new (c - 1) nowhere = ap (λ (xs : List Systems). get_or xs (c - 1) nowhere) out_is ∙
    get_or-append new spare nowhere (c - 1) (omega (arith, more, low, high)) in
    subst (λ (s : Systems). AreBuiltAtMost (most c) s (get_or out (c - 1) nowhere)) (sym at)
    (subst (AreBuiltAtMost (most c) (get_or old (c - 1) nowhere)) (sym now) (built c low high))

-- A step at which a session ends for want of memory: systems were built no more often by then than over all steps.

-- by the steps so far, and by the one more
pub built_by_then : (setup : Setup) (active n : ℕ) (steps : List Step) (x : Step) (first were are : List Systems) → n < length steps → x ≡ get_or steps n x
    → 0 < client_of x → length were ≡ setup.players
    → AllBuiltAtMost (loads_in (events_after setup (opened setup active) (take n steps))) setup.players first were
    → ChangeAt (AreBuiltIf (has_load (events setup (session setup active (take n steps)) x))) (client_of x - 1) were are
    → AllBuiltAtMost (loads_in (events_after setup (opened setup active) steps)) setup.players first are
built_by_then setup active n steps x first were are lt is number count built change =
    let s = session setup active (take n steps) in
    all_built_so (loads_in (events_after setup (opened setup active) (take n steps))) (loads_in (events setup s x))
    (loads_in (events_after setup (opened setup active) steps)) setup.players first were are
    (λ k. loads_within setup active n steps x k lt is) built (step_built (client_of x) setup.players (events setup s x) were are number count
    (loads_are_own setup s x) change)

-- by the beginning alone
pub built_at_start : (setup : Setup) (list : StepList) (first next : List Systems) → length first ≡ setup.players → StartsOnly list.clients first next
    → AllBuiltAtMost (builds_of setup list) setup.players first next
built_at_start setup list first next many starts =
    all_built_so (begun_by list.clients) (λ k. 0) (builds_of setup list) setup.players first next next (λ k. omega arith)
    (start_built list.clients setup.players first next many starts)
    (none_built (λ k. 0) setup.players next)

-- by the beginning, and by steps
pub built_with_steps : (setup : Setup) (list : StepList) (first next last : List Systems) → length first ≡ setup.players → StartsOnly list.clients first next
    → AllBuiltAtMost (loads_in (events_after setup (opened setup list.clients) list.steps)) setup.players next last
    → AllBuiltAtMost (builds_of setup list) setup.players first last
built_with_steps setup list first next last many starts steps =
    let made = events_after setup (opened setup list.clients) list.steps in
    all_built_so (begun_by list.clients) (loads_in made) (builds_of setup list) setup.players first next last
    (λ k. omega (arith, loads_behind k (start_events setup list.clients) made)) (start_built list.clients setup.players first next many starts) steps

-- What a session keeps over a call and another, and what of its rigs comes back behind both.

module _ {Y X : Type 0} {G : Y → Type 0} {F : X → Type 0} {M : _} (m : (i : X) → F i → Meaning) where
  pub kept : (a : Session Y X G F M) → MayFinishBy a m → KeepsBy m a a
  kept a finish = record { finish = finish; setup = refl; spare = refl; room = refl; count = refl }

  pub keeps_on : (a b c : Session Y X G F M) → KeepsBy m a b → KeepsBy m b c → KeepsBy m a c
  keeps_on a b c one two = record {
    finish = two.finish;
    setup = two.setup ∙ one.setup;
    spare = two.spare ∙ one.spare;
    room = two.room ∙ one.room;
    count = two.count ∙ one.count;
  }

  -- as many systems are those of clients at the beginning as the match has players, and in the end
  many_begun : (setup : Setup) (begun : Session Y X G F M) → IsSessionBy begun m → begun.setup.now ≡ setup
      → length (systems_by begun.clients.items m) ≡ setup.players
  many_begun setup begun whole same = length-map begun.clients.items (λ x. systems_on x.board m) ∙ whole.count ∙ ap (λ (s : Setup). s.players) same

  pub many_ended : (setup : Setup) (begun ended : Session Y X G F M) → IsSessionBy begun m → begun.setup.now ≡ setup → KeepsBy m begun ended
      → length (systems_by ended.clients.items m) ≡ setup.players
  many_ended setup begun ended whole same keeps = length-map ended.clients.items (λ x. systems_on x.board m) ∙ keeps.count ∙ whole.count
      ∙ ap (λ (s : Setup). s.players) same

  -- of a session that began with these rigs, and was finished
  pub came_back : {A : Type 0} (setup : Setup) (begun ended : Session Y X G F M) (given out : Vec (Rig X F) A) → MayBeginBy m setup given.items
      → IsSessionBy begun m → begun.setup.now ≡ setup
      → systems_by begun.clients.items m ++ rigs_by begun.rigs.items m ≡ rigs_by given.items m
      → begun.rigs.items ≡ drop setup.players given.items → vec_capacity begun.rigs ≡ vec_capacity given → KeepsBy m begun ended
      → rigs_by out.items m ≡ systems_by ended.clients.items m ++ rigs_by ended.rigs.items m
      → drop (length (systems_by ended.clients.items m)) out.items ≡ ended.rigs.items → vec_capacity out ≡ vec_capacity ended.rigs
      → ComeBackBy m setup given out
  came_back setup begun ended given out may whole same came spare room keeps back behind wide = record {
    kinds = all_back HaveKinds (λ r. rig_by r m) (λ x. systems_on x.board m) out.items given.items ended.rigs.items ended.clients.items setup.players back
        (keeps.spare ∙ spare) keeps.finish.kinds may.fresh.kinds;
    spare = sym (ap (λ (n : ℕ). drop n out.items) (many_ended setup begun ended whole same keeps)) ∙ behind ∙ keeps.spare ∙ spare;
    eight = same_count (λ r. rig_by r m) (λ x. systems_on x.board m) out.items given.items begun.rigs.items ended.rigs.items begun.clients.items
        ended.clients.items back came keeps.count keeps.spare ∙ may.eight;
    room = wide ∙ keeps.room ∙ room;
  }

  pub built_back : (setup : Setup) (list : StepList) (begun ended : Session Y X G F M) (given out : List (Rig X F)) → IsSessionBy begun m
      → begun.setup.now ≡ setup
      → systems_by begun.clients.items m ++ rigs_by begun.rigs.items m ≡ rigs_by given m → KeepsBy m begun ended
      → AllBuiltAtMost (builds_of begun.setup.now list) begun.setup.now.players (systems_by begun.clients.items m) (systems_by ended.clients.items m)
      → rigs_by out m ≡ systems_by ended.clients.items m ++ rigs_by ended.rigs.items m
      → AllBuiltAtMost (builds_of setup list) setup.players (rigs_by given m) (rigs_by out m)
  built_back setup list begun ended given out whole same came keeps built back =
      front_built (builds_of setup list) setup.players (systems_by begun.clients.items m) (systems_by ended.clients.items m) (rigs_by begun.rigs.items m)
      (rigs_by ended.rigs.items m) (rigs_by given m) (rigs_by out m) (sym came) back (many_begun setup begun whole same)
      (many_ended setup begun ended whole same keeps)
      (subst (λ (s : Setup). AllBuiltAtMost (builds_of s list) s.players (systems_by begun.clients.items m) (systems_by ended.clients.items m)) same built)

-- Rigs that forget all, one after another.

forgotten : (s : Systems) → AreCleared (all_cleared s)
forgotten s = record {
  ground = record { land = refl; facts = refl };
  range = record { land = refl; facts = refl };
  watch = record { land = refl; facts = refl };
  census = record { land = refl; facts = refl };
}

same_kinds : (s : Systems) → HaveKinds s → HaveKinds (all_cleared s)
same_kinds s h = record { ground = h.ground; range = h.range; watch = h.watch; census = h.census }

unbuilt : (s : Systems) → AreBuiltAtMost 0 s (all_cleared s)
unbuilt s = record {
  ground = record { low = omega arith; high = omega arith };
  range = record { low = omega arith; high = omega arith };
  watch = record { low = omega arith; high = omega arith };
  census = record { low = omega arith; high = omega arith };
}

-- the systems of rigs of which one was cleared
pub next_cleared : {A : Type 0} (f : A → Systems) (xs : List A) (i : ℕ) (old new : A) → i < length xs → old ≡ get_or xs i old → f new ≡ all_cleared (f old)
    → map f (set xs i new) ≡ set (map f xs) i (all_cleared (get_or (map f xs) i nowhere))
next_cleared f xs i old new within is made =
    map-set f xs i new ∙ ap (set (map f xs) i) (made ∙ ap all_cleared (ap f is ∙ sym (get_or-map f xs i old nowhere within)))

-- one more
module _ (i : ℕ) (old new : List Systems) (within : i < length old) (is : new ≡ set old i (all_cleared (get_or old i nowhere))) where
  pub cleared_more : All AreCleared (take i old) → All AreCleared (take (i + 1) new)
  cleared_more h =
      let s : Systems = all_cleared (get_or old i nowhere) in
      subst (All AreCleared) (sym (ap (take (i + 1)) is ∙ take_more_set old i s within))
      (All-append AreCleared (take i old) (s ∷ []) h (All-cons AreCleared s [] (forgotten (get_or old i nowhere)) (All-nil AreCleared)))

  pub kinds_more : All HaveKinds old → All HaveKinds new
  kinds_more h =
      subst (All HaveKinds) (sym is) (All-set HaveKinds old i (all_cleared (get_or old i nowhere)) (same_kinds (get_or old i nowhere) (h i nowhere within)) h)

  pub unbuilt_more : (count : ℕ) (first : List Systems) → AllBuiltAtMost (λ c. 0) count first old → AllBuiltAtMost (λ c. 0) count first new
  unbuilt_more count first h =
      all_built_so (λ c. 0) (λ c. 0) (λ c. 0) count first old new (λ c. omega arith) h
      (λ c low high. subst (λ (xs : List Systems). AreBuiltAtMost 0 (get_or old (c - 1) nowhere) (get_or xs (c - 1) nowhere)) (sym is)
      (⊎_elim
      (λ same. subst (λ (k : ℕ). AreBuiltAtMost 0 (get_or old k nowhere) (get_or (set old i (all_cleared (get_or old i nowhere))) k nowhere)) (sym same)
      (subst (AreBuiltAtMost 0 (get_or old i nowhere)) (sym (get_or-set_same old i (all_cleared (get_or old i nowhere)) nowhere within))
      (unbuilt (get_or old i nowhere))))
      (λ other. never_built 0 (get_or old (c - 1) nowhere) (get_or (set old i (all_cleared (get_or old i nowhere))) (c - 1) nowhere)
      (get_or-set_other old i (c - 1) (all_cleared (get_or old i nowhere)) nowhere other))
      (cases_eq (c - 1) i)))

-- the first so many are, and the others are as they came
pub cleared_back : {A : Type 0} (f : A → Systems) (out given : List A) (n : ℕ) → drop n out ≡ drop n given → All AreCleared (take n (map f out))
    → All AreCleared (map f given) → All AreCleared (map f out)
cleared_back {A} f out given n same front all =
    let came : All AreCleared (map f (drop n given)) = subst (All AreCleared) (drop-map f n given) (All-drop AreCleared n (map f given) all) in
    let behind : All AreCleared (drop n (map f out)) =
    subst (All AreCleared) (sym (drop-map f n out)) (subst (λ (xs : List A). All AreCleared (map f xs)) (sym same) came) in
    subst (All AreCleared) (take-append-drop n (map f out)) (All-append AreCleared (take n (map f out)) (drop n (map f out)) front behind)
