-- Lines that were answered by the server, and one line more.
use Rattle.sim_talk.specs.declared.fault.TalkFault.TheVariants as ends
use Rattle.sim_live.specs.{declared.relaying.RelayRules.RelayRules, Relays.{answer, AnswersAll, end_lines, first_text, last_text, next, Relays, rules_of}}
use Rattle.{sim_plain.specs.{declared.rules.Rules.Rules, Messages.Arrival, Server.{Server, server_after}}, sim_report.specs.Downs.released_line}
use Rattle.{sim_server.specs.Standing.{IsSmallServer, server_of, StandsFor, View}, sim_store.specs.declared.fault.Failed.Failed}
use Rattle.sim_talk.proofs.Talking.{after_lines-more, answered_all, answered_more, caused, conversed, ended_so, Extends-nothing, stopped_amid, stopped_first}
use Rattle.sim_talk.{proofs.Talking.{unheard_behind, unmade_answer, untold_answer}, specs.declared.fault.TalkFault.TalkFault}
use Rattle.sim_talk.specs.{Dialogues.{after_lines, Causes, dialogue, EndsAs, TellsText}, Talks.{Extends, heard, Hears, History, Tells, told}}
use Rattle.std.proofs.Common.{ap, arith, Err, length, length-append, List, Ok, refl, Result, subst, sym, ℕ, [], ◌++◌, ◌+◌, ◌-◌, ◌^◌, ◌∙◌, ◌∷◌, ◌≡◌, ◌≤◌}
use Rattle.std.specs.{Io.KnownBytes.IsAtEnd, Prelude.⊤}

-- some lines were answered, and the server stands for all that has arrived
pub record HasAnswered (relay : RelayRules) (server : View) (count before : ℕ) (old new : History) : Type 0 where
  pub lines : List (List ℕ)
  pub many : before ≡ length lines
  pub rules : server.rules ≡ rules_of relay
  pub stands : StandsFor server relay.active (after_lines (next (rules_of relay)) [] lines)
  pub counted : count ≡ length (after_lines (next (rules_of relay)) [] lines)
  pub passed : Extends old new (dialogue (answer (rules_of relay) relay.active) (next (rules_of relay)) [] lines)

-- none was yet
pub answered_nothing : (relay : RelayRules) (server : View) (old : History) → server.rules ≡ rules_of relay → StandsFor server relay.active []
    → HasAnswered relay server 0 0 old old
answered_nothing relay server old rules stands =
    record { lines = []; many = refl; rules = rules; stands = stands; counted = refl; passed = Extends-nothing old }

-- one more was
pub answered_line : (relay : RelayRules) (server server' : View) (count count' before : ℕ) (line text : List ℕ) (a b c d : History)
    → HasAnswered relay server count before a b → Extends b c (heard line ∷ []) → Extends c d (told text ∷ []) → server'.rules ≡ server.rules
    → ((active : ℕ) (h : List (Arrival (List ℕ))) → count ≡ length h → StandsFor server active h → text ≡ answer server.rules active h line)
    → ((h : List (Arrival (List ℕ))) → count ≡ length h → count' ≡ length (next server.rules h line))
    → ((active : ℕ) (h : List (Arrival (List ℕ))) → StandsFor server active h → StandsFor server' active (next server.rules h line))
    → HasAnswered relay server' count' (before + 1) a d
answered_line relay server server' count count' before line text a b c d was one two same is counts stand =
    let h : List (Arrival (List ℕ)) = after_lines (next (rules_of relay)) [] was.lines in
    let more : after_lines (next (rules_of relay)) [] (was.lines ++ line ∷ []) ≡ next (rules_of relay) h line =
    after_lines-more (next (rules_of relay)) [] was.lines line in
    let by_rules : next server.rules h line ≡ next (rules_of relay) h line = ap (λ (r : Rules). next r h line) was.rules in
    record {
      lines = was.lines ++ line ∷ [];
      many = omega (arith, was.many, length-append was.lines (line ∷ []));
      rules = same ∙ was.rules;
      stands = subst (λ (xs : List (Arrival (List ℕ))). StandsFor server' relay.active xs) (by_rules ∙ sym more) (stand relay.active h was.stands);
      counted = counts h was.counted ∙ ap length (by_rules ∙ sym more);
      passed = answered_more (answer (rules_of relay) relay.active) (next (rules_of relay)) [] was.lines line text a b c d
          (is relay.active h was.counted was.stands ∙ ap (λ (r : Rules). answer r relay.active h line) was.rules) was.passed one two;
    }

-- the input has come to its end
pub all_relayed : (relay : RelayRules) (server : View) (count before : ℕ) (done : ⊤) (a b c : History) → HasAnswered relay server count before a b
    → Extends b c [] → IsAtEnd c.coming → AnswersAll (Ok done) relay server a c
all_relayed relay server count before done a b c was none end =
    let all = answered_all (answer (rules_of relay) relay.active) (next (rules_of relay)) [] was.lines done a b c was.passed none end in
    (was.lines, (was.rules, was.stands), all)

-- no more lines can be counted
pub many_relayed : (relay : RelayRules) (server : View) (count before : ℕ) (done : ⊤) (a b : History) → HasAnswered relay server count before a b
    → 2 ^ 64 - 1 ≤ before → AnswersAll (Ok done) relay server a b
many_relayed relay server count before done a b was many =
    (was.lines, (was.rules, was.stands), (was.passed, λ few. absurd (omega (arith, was.many, many, few))))

-- no line was heard
pub unheard_relayed : (relay : RelayRules) (server server' : View) (count before : ℕ) (result : Result ⊤ TalkFault) (fault : TalkFault) (line : List ℕ)
    (a b c : History)
    → HasAnswered relay server count before a b → result ≡ Err fault → Hears (Err fault) line b c → AnswersAll result relay server' a c
unheard_relayed relay server server' count before result fault line a b c was is missed =
    subst (λ (r : Result ⊤ TalkFault). AnswersAll r relay server' a c) (sym is)
    (was.lines, tt, unheard_behind (answer (rules_of relay) relay.active) (next (rules_of relay)) [] was.lines fault line a b c was.passed missed)

-- memory was refused for an answer
pub unmade_relayed : (relay : RelayRules) (server server' : View) (count before : ℕ) (result : Result ⊤ TalkFault) (line : List ℕ) (a b c : History)
    → HasAnswered relay server count before a b → result ≡ Err ends.OutOfMemory → Extends b c (heard line ∷ []) → AnswersAll result relay server' a c
unmade_relayed relay server server' count before result line a b c was is one =
    subst (λ (r : Result ⊤ TalkFault). AnswersAll r relay server' a c) (sym is)
    (was.lines, tt, unmade_answer (answer (rules_of relay) relay.active) (next (rules_of relay)) [] was.lines line a b c was.passed one)

-- an answer was not told whole
pub untold_relayed : (relay : RelayRules) (server server' : View) (count before : ℕ) (result : Result ⊤ TalkFault) (line text : List ℕ) (failed : Failed)
    (a b c d : History)
    → HasAnswered relay server count before a b → result ≡ Err ends.Untold
    → ((active : ℕ) (h : List (Arrival (List ℕ))) → count ≡ length h → StandsFor server active h → text ≡ answer server.rules active h line)
    → Extends b c (heard line ∷ []) → Tells (Err failed) text c d → AnswersAll result relay server' a d
untold_relayed relay server server' count before result line text failed a b c d was is same one part =
    let h : List (Arrival (List ℕ)) = after_lines (next (rules_of relay)) [] was.lines in
    subst (λ (r : Result ⊤ TalkFault). AnswersAll r relay server' a d) (sym is) (
      was.lines,
      tt,
      untold_answer (answer (rules_of relay) relay.active) (next (rules_of relay)) [] was.lines line text failed a b c d
          (same relay.active h was.counted was.stands ∙ ap (λ (r : Rules). answer r relay.active h line) was.rules) was.passed one part,
    )

-- ---- a server that nothing has arrived at

-- keeps no command
pub begins_small : (rules : Rules) (active : ℕ) (s : Server) → s ≡ server_after {B = List ℕ} rules active [] → IsSmallServer s
begins_small rules active s is = subst IsSmallServer (sym is) (λ t. tt)

-- ---- the whole talk of its parts

-- what is released in the beginning
first_is : (relay : RelayRules) (server : View) → server.rules ≡ rules_of relay → StandsFor server relay.active []
    → released_line (server_of server).released ≡ first_text (rules_of relay) relay.active
first_is relay server rules stands =
    ap (λ (s : Server). released_line s.released) stands
    ∙ ap (λ (r : Rules). released_line (server_after {B = List ℕ} r relay.active []).released) rules

begun : (relay : RelayRules) (server : View) (a b : History) → server.rules ≡ rules_of relay → StandsFor server relay.active []
    → Extends a b (told (released_line (server_of server).released) ∷ []) → Extends a b (told (first_text (rules_of relay) relay.active) ∷ [])
begun relay server a b rules stands = subst (λ (t : List ℕ). Extends a b (told t ∷ [])) (first_is relay server rules stands)

-- it stopped at its first text
pub relay_unbegun : (relay : RelayRules) (server : View) (result : Result ⊤ TalkFault) (fault : TalkFault) (a b : History) → result ≡ Err fault
    → server.rules ≡ rules_of relay → StandsFor server relay.active [] → TellsText (Err fault) (released_line (server_of server).released) a b
    → Relays result relay a b
relay_unbegun relay server result fault a b is rules stands one =
    subst (λ (r : Result ⊤ TalkFault). Relays r relay a b) (sym is)
    (stopped_first (answer (rules_of relay) relay.active) (next (rules_of relay)) (last_text (rules_of relay) relay.active) []
    (first_text (rules_of relay) relay.active) fault a b
    (subst (λ (t : List ℕ). TellsText (Err fault) t a b) (first_is relay server rules stands) one))

-- it stopped at a line
pub relay_amid : (relay : RelayRules) (server server' : View) (result : Result ⊤ TalkFault) (fault : TalkFault) (a b c : History) → result ≡ Err fault
    → server.rules ≡ rules_of relay → StandsFor server relay.active [] → Extends a b (told (released_line (server_of server).released) ∷ [])
    → AnswersAll (Err fault) relay server' b c → Relays result relay a c
relay_amid relay server server' result fault a b c is rules stands one two =
    subst (λ (r : Result ⊤ TalkFault). Relays r relay a c) (sym is)
    (stopped_amid (answer (rules_of relay) relay.active) (next (rules_of relay)) (last_text (rules_of relay) relay.active) []
    (first_text (rules_of relay) relay.active) fault two.0 a b c (begun relay server a b rules stands one) two.2)

-- its last text was told, or it stopped there
pub relay_ended : (relay : RelayRules) (server server' : View) (result : Result ⊤ TalkFault) (done : ⊤) (a b c d : History)
    → server.rules ≡ rules_of relay → StandsFor server relay.active [] → Extends a b (told (released_line (server_of server).released) ∷ [])
    → AnswersAll (Ok done) relay server' b c → TellsText result (end_lines (server_of server') relay.turns) c d → Relays result relay a d
relay_ended relay server server' result done a b c d rules stands one two three =
    let h : List (Arrival (List ℕ)) = after_lines (next (rules_of relay)) [] two.0 in
    let last_is : end_lines (server_of server') relay.turns ≡ last_text (rules_of relay) relay.active h =
    ap (λ (s : Server). end_lines s relay.turns) (two.1.1 ∙ ap (λ (r : Rules). server_after r relay.active h) two.1.0) in
    ended_so (answer (rules_of relay) relay.active) (next (rules_of relay)) (last_text (rules_of relay) relay.active) []
    (first_text (rules_of relay) relay.active) two.0 result done a b c d (begun relay server a b rules stands one) two.2
    (subst (λ (t : List ℕ). TellsText result t c d) last_is three)

-- however it ended, all that was told is written then
pub relay_settled : (relay : RelayRules) (outcome result : Result ⊤ TalkFault) (a b c : History) → Relays outcome relay a b → EndsAs outcome result b c
    → Relays result relay a c
relay_settled relay outcome result a b c was ended =
    conversed (answer (rules_of relay) relay.active) (next (rules_of relay)) (last_text (rules_of relay) relay.active) []
    (first_text (rules_of relay) relay.active) outcome result a b c was ended

-- each fault has its cause
pub relay_caused : (relay : RelayRules) (result : Result ⊤ TalkFault) (a b : History) → Relays result relay a b → Causes result a b
relay_caused relay result a b was =
    caused (answer (rules_of relay) relay.active) (next (rules_of relay)) (last_text (rules_of relay) relay.active) []
    (first_text (rules_of relay) relay.active) result a b was
