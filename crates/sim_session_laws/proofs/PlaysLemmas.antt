-- What keeps a client that plays.
use Rattle.sim_plain.specs.declared.message.DownOf.TheVariants as down
use Rattle.sim_plain.specs.declared.message.UpOf.TheVariants as up
use Rattle.sim_session_laws.proofs.Basics.{all_players_append, all_right, client_is, commands_at-append, good_downs_append, good_downs_grows, good_past_grows}
use Rattle.sim_session_laws.proofs.Basics.{good_ups_grows, GoodDowns, GoodPast, GoodUps, Grows, grows_same, Plays}
use Rattle.sim_session_laws.proofs.Common.{[], Acted, All-cons, All-head, AllPlayers, and_from, and_parts, ap, append-nil, append_assoc, arith, Bend, bends}
use Rattle.sim_session_laws.proofs.Common.{bent_seat, Bool, cases_eq, Command, commands_at, cond-false, cond-true, Down, eq-eqb, false, hears, idle}
use Rattle.sim_session_laws.proofs.Common.{if◌then◌else◌, inl, inr, IsItemOf, IsOrderOf, Joining, learns, List, lt-ltb, ltb-true, max, may_bend, may_order}
use Rattle.sim_session_laws.proofs.Common.{may_play, may_tell_done, min, ne_eqb, Off, On, ordered, orders, Past, Phase, played, PlayerCommand, plays, put}
use Rattle.sim_session_laws.proofs.Common.{put_other, put_same, refl, report_of, row_of, Seat, Setup, shows_bend, state_of, subst, suc, sym, told, told_alone}
use Rattle.sim_session_laws.proofs.Common.{told_with_done, true, true≢false, Turn, turns_in, Up, ℕ, ℤ, ◌++◌, ◌+◌, ◌<◌, ◌∙◌, ◌∷◌, ◌≡◌, ◌≤◌, ◌⊎◌}

-- ---- what the server does, as a client sees it

-- The server went on, and this client was told what that means for it.
pub plays_told : (setup : Setup) (r r' : ℕ) (k k' : ℕ → List PlayerCommand) (done : ℕ) (o : Seat) (ups : List Up) (downs news : List Down)
    → Plays setup r k done o ups downs → Grows r k r' k' → r' ≤ done → ((l : ℕ) → l ≤ r' → GoodDowns setup r' k' l news)
    → ((t : ℕ) → k t ++ commands_at t news ≡ k' t) → Plays setup r' k' done o ups (downs ++ news)
plays_told setup r r' k k' done o ups downs news p g le good same =
    record {
      low = le;
      high = p.high;
      past = good_past_grows setup r r' k k' o.past g p.past;
      behind = p.behind;
      known_release = (let a = p.known_release in let b = g.more in omega arith);
      said = good_ups_grows setup r r' k k' done o.done ups g p.said;
      players = p.players;
      pipe = good_downs_append setup r' k' o.released downs news (let a = p.known_release in let b = g.more in omega arith)
          (good_downs_grows setup r r' k k' o.released downs g p.pipe) good;
      commands = λ t above.
          ap (λ (l : List PlayerCommand). o.known t ++ l) (commands_at-append t downs news)
          ∙ sym (append_assoc (o.known t) (commands_at t downs) (commands_at t news))
          ∙ ap (λ (l : List PlayerCommand). l ++ commands_at t news) (p.commands t above)
          ∙ same t;
    }

-- messages without a command, a release or a past
pub plays_posted : (setup : Setup) (r : ℕ) (k : ℕ → List PlayerCommand) (done : ℕ) (o : Seat) (ups : List Up) (downs news : List Down)
    → Plays setup r k done o ups downs → ((l : ℕ) → GoodDowns setup r k l news) → ((t : ℕ) → commands_at t news ≡ [])
    → Plays setup r k done o ups (downs ++ news)
plays_posted setup r k done o ups downs news p good none =
    plays_told setup r r k k done o ups downs news p (grows_same r k) p.low (λ l h. good l) (λ t. ap (λ (l : List PlayerCommand). k t ++ l) (none t) ∙
    append-nil (k t))

pub keeps_final : (r : ℕ) (k : ℕ → List PlayerCommand) (t : ℕ) (x : PlayerCommand) → r < t → Grows r k r (put t (k t ++ x ∷ []) k)
keeps_final r k t x h = record { more = omega arith; final = λ u le. put_other t (k t ++ x ∷ []) k u (λ e. absurd (omega arith)) }

-- a command is kept, and each In client gets it
pub plays_kept : (setup : Setup) (r : ℕ) (k : ℕ → List PlayerCommand) (done : ℕ) (o : Seat) (ups : List Up) (downs : List Down) (t : ℕ) (item : PlayerCommand)
    → r < t → Plays setup r k done o ups downs → Plays setup r (put t (k t ++ item ∷ []) k) done o ups (downs ++ down.Command t item ∷ [])
plays_kept setup r k done o ups downs t item h p =
    plays_told setup r r k (put t (k t ++ item ∷ []) k) done o ups downs (down.Command t item ∷ []) p (keeps_final r k t item h) p.low
    (λ l le. ((let a = h in omega arith), tt)) same
  where
    by : (u : ℕ) → (t ≡ u) ⊎ (t ≡ u → ⊥) → k u ++ commands_at u (down.Command t item ∷ []) ≡ put t (k t ++ item ∷ []) k u
    by u (inl e) =
        subst (λ v. k v ++ commands_at v (down.Command t item ∷ []) ≡ put t (k t ++ item ∷ []) k v) e
        (ap (λ (l : List PlayerCommand). k t ++ l) (cond-true _ (item ∷ []) [] (eq-eqb t t refl)) ∙ sym (put_same t (k t ++ item ∷ []) k))
    by u (inr apart) = ap (λ (l : List PlayerCommand). k u ++ l) (cond-false _ (item ∷ []) [] (ne_eqb t u apart)) ∙ append-nil (k u) ∙
        sym (put_other t (k t ++ item ∷ []) k u (λ e. apart (sym e)))

    same : (u : ℕ) → k u ++ commands_at u (down.Command t item ∷ []) ≡ put t (k t ++ item ∷ []) k u
    same u = by u (cases_eq t u)

-- the released turn rises, and each In client gets it
pub plays_released : (setup : Setup) (r r' : ℕ) (k : ℕ → List PlayerCommand) (done : ℕ) (o : Seat) (ups : List Up) (downs : List Down) → r ≤ r'
    → r' ≤ done → Plays setup r k done o ups downs → Plays setup r' k done o ups (downs ++ down.Release r' ∷ [])
plays_released setup r r' k done o ups downs le high p =
    plays_told setup r r' k k done o ups downs (down.Release r' ∷ []) p (record { more = le; final = λ t h. refl }) high (λ l h. ((omega arith), tt))
    (λ t. append-nil (k t))

-- ---- what the client does itself

good_ups_append : (setup : Setup) (r : ℕ) (k : ℕ → List PlayerCommand) (from own own' : ℕ) (ups news : List Up) → GoodUps setup r k from own ups
    → GoodUps setup r k own own' news → GoodUps setup r k from own' (ups ++ news)
good_ups_append setup r k from own own' [] news h more = subst (λ n. GoodUps setup r k n own' news) (sym h) more
good_ups_append setup r k from own own' (up.Join ∷ ups) news h more = good_ups_append setup r k from own own' ups news h more
good_ups_append setup r k from own own' (up.Command t x ∷ ups) news h more = good_ups_append setup r k from own own' ups news h more
good_ups_append setup r k from own own' (up.Done t ∷ ups) news h more = (h.0, h.1, h.2, good_ups_append setup r k t own own' ups news h.3 more)
good_ups_append setup r k from own own' (up.Report t d ∷ ups) news h more = good_ups_append setup r k from own own' ups news h more
good_ups_append setup r k from own own' (up.State j t past ∷ ups) news h more = (h.0, h.1, good_ups_append setup r k from own own' ups news h.2 more)

-- it says something, and its own done becomes `own`
pub plays_said : (setup : Setup) (r : ℕ) (k : ℕ → List PlayerCommand) (done : ℕ) (o o' : Seat) (ups news : List Up) (downs : List Down)
    → Plays setup r k done o ups downs → o'.past ≡ o.past → o'.known ≡ o.known → o'.released ≡ o.released → GoodUps setup r k o.done o'.done news
    → Plays setup r k done o' (ups ++ news) downs
plays_said setup r k done o o' ups news downs p same_past same_known same_released good =
    record {
      low = p.low;
      high = p.high;
      past = subst (λ (x : Past). GoodPast setup r k x) (sym same_past) p.past;
      behind = subst₂' p.behind;
      known_release = subst (λ n. n ≤ r) (sym same_released) p.known_release;
      said = good_ups_append setup r k done o.done o'.done ups news p.said good;
      pipe = subst (λ n. GoodDowns setup r k n downs) (sym same_released) p.pipe;
      players = λ t. subst (λ (known : ℕ → List PlayerCommand). AllPlayers setup (known t)) (sym same_known) (p.players t);
      commands = λ t above. (λ i. same_known i t ++ commands_at t downs) ∙ p.commands t (subst (λ (x : Past). turns_in x < t) same_past above);
    }
  where
    subst₂' : turns_in o.past ≤ o.released → turns_in o'.past ≤ o'.released
    subst₂' h = subst (λ n. turns_in o'.past ≤ n) (sym same_released) (subst (λ (x : Past). turns_in x ≤ o.released) (sym same_past) h)

-- no command of a turn up to the greatest release is on its way
pub none_below : (setup : Setup) (r : ℕ) (k : ℕ → List PlayerCommand) (low u : ℕ) (downs : List Down) → u ≤ low → GoodDowns setup r k low downs
    → commands_at u downs ≡ []
none_below setup r k low u [] le h = refl
none_below setup r k low u (down.Ask j ∷ downs) le h = none_below setup r k low u downs le h
none_below setup r k low u (down.State done past ∷ downs) le h = none_below setup r k low u downs le h.1
none_below setup r k low u (down.Command t x ∷ downs) le h = cond-false _ _ _ (ne_eqb t u (let a = h.0 in λ e. absurd (omega arith))) ∙
    none_below setup r k low u downs le h.1
none_below setup r k low u (down.Release t ∷ downs) le h = none_below setup r k (max low t) u downs (omega arith) h.1
none_below setup r k low u (down.Notice t j ∷ downs) le h = none_below setup r k low u downs le h
none_below setup r k low u (down.Refused code ∷ downs) le h = none_below setup r k low u downs le h

-- what it knows of its next turn is all that is kept of it
knows_next : (setup : Setup) (r : ℕ) (k : ℕ → List PlayerCommand) (done : ℕ) (o : Seat) (ups : List Up) (downs : List Down)
    → Plays setup r k done o ups downs → turns_in o.past < o.released → o.known (suc (turns_in o.past)) ≡ k (suc (turns_in o.past))
knows_next setup r k done o ups downs p h =
    let next = suc (turns_in o.past) in
    let none = none_below setup r k o.released next downs h p.pipe in
    sym (append-nil (o.known next)) ∙ ap (λ (l : List PlayerCommand). o.known next ++ l) (sym none) ∙ p.commands next (omega arith)

pub plays_played : (setup : Setup) (r : ℕ) (k : ℕ → List PlayerCommand) (done : ℕ) (o : Seat) (ups : List Up) (downs : List Down)
    → turns_in o.past < o.released → Plays setup r k done o ups downs → Plays setup r k done (played o) ups downs
plays_played setup r k done o ups downs released p =
    let next = suc (turns_in o.past) in
    let known = knows_next setup r k done o ups downs p released in
    record {
      low = p.low;
      high = p.high;
      past = record {
        players = All-cons (IsItemOf setup) (Turn (o.known next)) o.past (p.players next) p.past.players;
        turn = (let a = p.known_release in omega arith);
        unbent = λ e. let rest = p.past.unbent e in λ i. Turn (known i) ∷ rest i;
      };
      behind = released;
      known_release = p.known_release;
      said = p.said;
      pipe = p.pipe;
      players = p.players;
      commands = λ t above. p.commands t (omega arith);
    }

pub plays_bent : (setup : Setup) (r : ℕ) (k : ℕ → List PlayerCommand) (done : ℕ) (o : Seat) (ups : List Up) (downs : List Down) (e : ℕ) (h : ℤ)
    → Plays setup r k done o ups downs → Plays setup r k done (record o { past = Bend e h ∷ o.past }) ups downs
plays_bent setup r k done o ups downs e h p =
    record {
      low = p.low;
      high = p.high;
      past = record { players = All-cons (IsItemOf setup) (Bend e h) o.past tt p.past.players; turn = p.past.turn; unbent = λ f. absurd (true≢false (sym f)) };
      behind = p.behind;
      known_release = p.known_release;
      said = p.said;
      pipe = p.pipe;
      players = p.players;
      commands = p.commands;
    }

-- ---- what it hears

-- a command on the way is one of the kept ones
player_in : (setup : Setup) (xs : List PlayerCommand) (x : PlayerCommand) (ys : List PlayerCommand) → AllPlayers setup (xs ++ x ∷ ys)
    → IsOrderOf setup x
player_in setup xs x ys h = All-head (IsOrderOf setup) x ys (all_right (IsOrderOf setup) xs (x ∷ ys) h)

pub plays_learned : (setup : Setup) (r : ℕ) (k : ℕ → List PlayerCommand) (done : ℕ) (o : Seat) (ups : List Up) (t : ℕ) (item : PlayerCommand)
    (downs : List Down)
    → ((u : ℕ) → AllPlayers setup (k u)) → Plays setup r k done o ups (down.Command t item ∷ downs)
    → Plays setup r k done (learns setup t item o) ups downs
plays_learned setup r k done o ups t item downs players p =
    subst (λ (y : Seat). Plays setup r k done y ups downs) (sym takes) now
  where
    above : turns_in o.past < t
    above = let a = p.behind in let b = p.pipe.0 in omega arith

    here : o.known t ++ item ∷ commands_at t downs ≡ k t
    here = ap (λ (l : List PlayerCommand). o.known t ++ l) (sym (cond-true _ (item ∷ commands_at t downs) (commands_at t downs) (eq-eqb t t refl))) ∙
        p.commands t above

    is_one : IsOrderOf setup item
    is_one = player_in setup (o.known t) item (commands_at t downs) (subst (λ (l : List PlayerCommand). AllPlayers setup l) (sym here) (players t))

    more : Seat
    more = record o { known = put t (o.known t ++ item ∷ []) o.known }

    takes : learns setup t item o ≡ more
    takes = cond-true _ more o (and_from _ _ (lt-ltb (turns_in o.past) t above) (client_is setup item is_one))

    by : (u : ℕ) → turns_in o.past < u → (t ≡ u) ⊎ (t ≡ u → ⊥) → more.known u ++ commands_at u downs ≡ k u
    by u over (inl e) =
        subst (λ v. more.known v ++ commands_at v downs ≡ k v) e
        (ap (λ (l : List PlayerCommand). l ++ commands_at t downs) (put_same t (o.known t ++ item ∷ []) o.known) ∙ append_assoc (o.known t) (item ∷ [])
        (commands_at t downs) ∙ here)
    by u over (inr apart) =
        ap (λ (l : List PlayerCommand). l ++ commands_at u downs) (put_other t (o.known t ++ item ∷ []) o.known u (λ e. apart (sym e)))
        ∙ ap (λ (l : List PlayerCommand). o.known u ++ l) (sym (cond-false _ (item ∷ commands_at u downs) (commands_at u downs) (ne_eqb t u apart)))
        ∙ p.commands u over

    known : (u : ℕ) → (u ≡ t) ⊎ (u ≡ t → ⊥) → AllPlayers setup (more.known u)
    known u (inl e) =
        subst (λ v. AllPlayers setup (more.known v)) (sym e)
        (subst (λ (l : List PlayerCommand). AllPlayers setup l) (sym (put_same t (o.known t ++ item ∷ []) o.known))
        (all_players_append setup (o.known t) item (p.players t) is_one))
    known u (inr apart) = subst (λ (l : List PlayerCommand). AllPlayers setup l) (sym (put_other t (o.known t ++ item ∷ []) o.known u apart)) (p.players u)

    now : Plays setup r k done more ups downs
    now =
        record {
          low = p.low;
          high = p.high;
          past = p.past;
          behind = p.behind;
          known_release = p.known_release;
          said = p.said;
          pipe = p.pipe.1;
          players = λ u. known u (cases_eq u t);
          commands = λ u over. by u over (cases_eq t u);
        }

-- a message that a playing client hears and that does nothing to it
heard_nothing : (setup : Setup) (r : ℕ) (k : ℕ → List PlayerCommand) (done : ℕ) (o : Seat) (ups : List Up) (x : Down) (downs : List Down)
    → Plays setup r k done o ups (x ∷ downs) → GoodDowns setup r k o.released downs → ((u : ℕ) → commands_at u (x ∷ downs) ≡ commands_at u downs)
    → Plays setup r k done o ups downs
heard_nothing setup r k done o ups x downs p good same =
    record {
      low = p.low;
      high = p.high;
      past = p.past;
      behind = p.behind;
      known_release = p.known_release;
      said = p.said;
      pipe = good;
      players = p.players;
      commands = λ u over. ap (λ (l : List PlayerCommand). o.known u ++ l) (sym (same u)) ∙ p.commands u over;
    }

heard_release : (setup : Setup) (r : ℕ) (k : ℕ → List PlayerCommand) (done : ℕ) (o : Seat) (ups : List Up) (t : ℕ) (downs : List Down)
    → Plays setup r k done o ups (down.Release t ∷ downs) → Plays setup r k done (record o { released = max o.released t }) ups downs
heard_release setup r k done o ups t downs p =
    record {
      low = p.low;
      high = p.high;
      past = p.past;
      behind = (let a = p.behind in omega arith);
      known_release = (let a = p.known_release in let b = p.pipe.0 in omega arith);
      said = p.said;
      pipe = p.pipe.1;
      players = p.players;
      commands = p.commands;
    }

says_nothing : (setup : Setup) (r : ℕ) (k : ℕ → List PlayerCommand) (done : ℕ) (o : Seat) (ups : List Up) (downs : List Down)
    → Plays setup r k done o ups downs → Plays setup r k done o (ups ++ []) downs
says_nothing setup r k done o ups downs p = subst (λ (l : List Up). Plays setup r k done o l downs) (sym (append-nil ups)) p

-- A phase that plays, after what was done.
abbrev pub PlaysThen : Setup → ℕ → (ℕ → List PlayerCommand) → ℕ → List Up → List Down → Phase → List Up → Type 0
PlaysThen setup r k done ups downs Off says = ⊥
PlaysThen setup r k done ups downs Joining says = ⊥
PlaysThen setup r k done ups downs (On o) says = Plays setup r k done o (ups ++ says) downs

-- the same of a client that acted
abbrev pub PlaysAfter : Setup → ℕ → (ℕ → List PlayerCommand) → ℕ → List Up → List Down → Acted → Type 0
PlaysAfter setup r k done ups downs acted = PlaysThen setup r k done ups downs acted.phase acted.says

pub plays_heard : (setup : Setup) (r : ℕ) (k : ℕ → List PlayerCommand) (done c : ℕ) (o : Seat) (ups : List Up) (x : Down) (downs : List Down)
    → ((u : ℕ) → AllPlayers setup (k u)) → Plays setup r k done o ups (x ∷ downs)
    → PlaysAfter setup r k done ups downs (hears setup c (On o) x)
plays_heard setup r k done c o ups (down.Ask j) downs players p =
    plays_said setup r k done o o ups (up.State j (turns_in o.past) o.past ∷ []) downs (heard_nothing setup r k done o ups (down.Ask j) downs p p.pipe
    (λ u. refl)) refl refl refl (refl, p.past, refl)
plays_heard setup r k done c o ups (down.State d past) downs players p = says_nothing setup r k done o ups downs
    (heard_nothing setup r k done o ups (down.State d past) downs p p.pipe.1 (λ u. refl))
plays_heard setup r k done c o ups (down.Command t x) downs players p = says_nothing setup r k done _ ups downs
    (plays_learned setup r k done o ups t x downs players p)
plays_heard setup r k done c o ups (down.Release t) downs players p = says_nothing setup r k done _ ups downs (heard_release setup r k done o ups t downs p)
plays_heard setup r k done c o ups (down.Notice t j) downs players p = says_nothing setup r k done o ups downs
    (heard_nothing setup r k done o ups (down.Notice t j) downs p p.pipe (λ u. refl))
plays_heard setup r k done c o ups (down.Refused code) downs players p = says_nothing setup r k done o ups downs
    (heard_nothing setup r k done o ups (down.Refused code) downs p p.pipe (λ u. refl))

pub plays_ordered : (setup : Setup) (r : ℕ) (k : ℕ → List PlayerCommand) (done c : ℕ) (x : Command) (o : Seat) (ups : List Up) (downs : List Down)
    → Plays setup r k done o ups downs → PlaysAfter setup r k done ups downs (orders setup c x (On o))
plays_ordered setup r k done c x o ups downs p = by (may_order setup o)
  where
    by : (b : Bool) → PlaysAfter setup r k done ups downs (if b then ordered c x o else idle (On o))
    by true = plays_said setup r k done o (record o { orders = suc o.orders }) ups (up.Command (suc o.done) x ∷ []) downs p refl refl refl refl
    by false = says_nothing setup r k done o ups downs p

-- the report, and the done where there is room for one
pub plays_told_up : (setup : Setup) (r : ℕ) (k : ℕ → List PlayerCommand) (done c : ℕ) (o : Seat) (ups : List Up) (downs : List Down)
    → Plays setup r k done o ups downs → PlaysAfter setup r k done ups downs (told setup c o)
plays_told_up setup r k done c o ups downs p = by (may_tell_done setup o) refl
  where
    by : (b : Bool) → may_tell_done setup o ≡ b → PlaysAfter setup r k done ups downs (if b then told_with_done setup c o else told_alone setup c o)
    by true e =
        let room : o.done < min setup.turns (turns_in o.past + setup.delay) = ltb-true _ _ e in
        plays_said setup r k done o (record o { done = suc o.done; orders = 0 }) ups (report_of setup o ∷ up.Done (suc o.done) ∷ []) downs p refl refl refl
        (refl, (omega arith), (let a = p.past.turn in omega arith), refl)
    by false e = plays_said setup r k done o o ups (report_of setup o ∷ []) downs p refl refl refl refl

pub plays_plays : (setup : Setup) (r : ℕ) (k : ℕ → List PlayerCommand) (done c : ℕ) (o : Seat) (ups : List Up) (downs : List Down)
    → Plays setup r k done o ups downs → PlaysAfter setup r k done ups downs (plays setup c (On o))
plays_plays setup r k done c o ups downs p = by (may_play setup o) refl
  where
    by : (b : Bool) → may_play setup o ≡ b → PlaysAfter setup r k done ups downs (if b then told setup c (played o) else idle (On o))
    by true e =
        let both = and_parts _ _ e in
        plays_told_up setup r k done c (played o) ups downs (plays_played setup r k done o ups downs (ltb-true _ _ both.1) p)
    by false e = says_nothing setup r k done o ups downs p

pub plays_bends : (setup : Setup) (r : ℕ) (k : ℕ → List PlayerCommand) (done c e : ℕ) (h : ℤ) (o : Seat) (ups : List Up) (downs : List Down)
    → Plays setup r k done o ups downs → PlaysAfter setup r k done ups downs (bends setup c e h (On o))
plays_bends setup r k done c e h o ups downs p = by (may_bend setup h (row_of (state_of setup o) e))
  where
    by : (b : Bool) → PlaysAfter setup r k done ups downs (if b then shows_bend setup c (bent_seat e h o) else idle (On o))
    by true = says_nothing setup r k done _ ups downs (plays_bent setup r k done o ups downs e h p)
    by false = says_nothing setup r k done o ups downs p
