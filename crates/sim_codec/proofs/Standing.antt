-- What holds where bytes stand for a state.
use Rattle.sim_codec.specs.declared.fault.StateFault.TheVariants as faults
use Rattle.sim_codec.proofs.Common.{Bool, cond, drop, inl, inr, List, ltb, None, not, One, refl, Some, subst, sym, take, true, Two, ℕ, ◌++◌, ◌↔◌, ◌∙◌, ◌≡◌, ◌⊎◌}
use Rattle.sim_codec.proofs.Common.{ap, arith, CanSay, false, is_some, IsSetup, IsTrue, IsValid, le-ltb, length, Option, Result, Setup, State, take_at, Version}
use Rattle.sim_codec.proofs.Common.{append_assoc, bytes_eq-Decides, clock_bytes, false≢true, head_fault, length-append, old_spelling, sections_by, start_bytes}
use Rattle.sim_codec.proofs.{Back.state_back, Common.Err, Common.HoldsNone, Common.RefusedFor, Common.StandsFor, Common.StateFault, Common.bytes_eq}
use Rattle.sim_codec.proofs.{Common.drop_at, Common.spelled_by, Common.spelling, Common.state_at, Common.u32_bytes, Common.version_of, TakenRows.old_holds_none}

-- bytes spell a state by a version that can say all of it
pub record Spells (setup : Setup) (bytes : List ℕ) (s : State) : Type 0 where
  pub version : Version
  pub can : CanSay version s.rows
  pub is : bytes ≡ start_bytes version ++ (setup.id ++ (clock_bytes s ++ sections_by version s.rows))

spells : (setup : Setup) (bytes : List ℕ) (s : State) → StandsFor setup bytes s → Spells setup bytes s
spells setup bytes s stands = by stands.spelled
  where
    by : (bytes ≡ spelling setup s) ⊎ (HoldsNone s.rows × (bytes ≡ old_spelling setup s)) → Spells setup bytes s
    by (inl e) = record { version = Two; can = tt; is = e }
    by (inr old) = record { version = One; can = old.0; is = old.1 }

start_read : (version : Version) (rest : List ℕ) → version_of (take 8 (start_bytes version ++ rest)) ≡ Some version
unfolding u32_bytes
start_read One rest = refl
start_read Two rest = refl

-- the version that stands in the bytes is the one that spells them
version_read : (setup : Setup) (bytes : List ℕ) (s : State) (by : Spells setup bytes s) → version_of (take 8 bytes) ≡ Some by.version
version_read setup bytes s by = ap (λ (x : List ℕ). version_of (take 8 x)) by.is ∙
    start_read by.version (setup.id ++ (clock_bytes s ++ sections_by by.version s.rows))

length-start_bytes : (version : Version) → length (start_bytes version) ≡ 8
unfolding u32_bytes
length-start_bytes One = refl
length-start_bytes Two = refl

no_grammar : (a b c : Bool) → cond a (Some faults.NotState) (cond b (Some faults.NotState) (cond c (Some faults.OtherMatch) None)) ≡ Some faults.Grammar → ⊥
no_grammar true b c e = cc
no_grammar false true c e = cc
no_grammar false false true e = cc
no_grammar false false false e = cc

no_test : (a b c : Bool) → a ≡ false → b ≡ true → c ≡ true
    → cond a (Some faults.NotState) (cond (not b) (Some faults.NotState) (cond (not c) (Some faults.OtherMatch) None)) ≡ None
no_test a b c e f g = rw (e, f, g) refl

pub refused_for : (setup : Setup) (bytes : List ℕ) (r : StateFault) → head_fault setup bytes ≡ Some r → RefusedFor setup bytes r
unfolding head_fault
refused_for setup bytes faults.NotState e = e
refused_for setup bytes faults.OtherMatch e = e
refused_for setup bytes faults.Grammar e =
    absurd (no_grammar (ltb (length bytes) 24) (not (is_some (version_of (take 8 bytes)))) (not (bytes_eq (take 16 (drop 8 bytes)) setup.id)) e)
refused_for setup bytes faults.OutOfMemory e = tt

-- of a spelling nothing is refused in the first 24 bytes, and the rest is read as the state
pub stands_head : (setup : Setup) (bytes : List ℕ) (s : State) → length setup.id ≡ 16 → StandsFor setup bytes s → head_fault setup bytes ≡ None
unfolding head_fault
stands_head setup bytes s sixteen stands =
    let by = spells setup bytes s stands in
    let start = start_bytes by.version in
    let tail = clock_bytes s ++ sections_by by.version s.rows in
    let eight = length-start_bytes by.version in
    let long : ltb (length (start ++ (setup.id ++ tail))) 24 ≡ false =
    le-ltb _ _ (omega (arith, length-append start (setup.id ++ tail), length-append setup.id tail, sixteen, eight)) in
    let behind : drop 8 (start ++ (setup.id ++ tail)) ≡ setup.id ++ tail = drop_at start (setup.id ++ tail) 8 eight in
    let id : take 16 (drop 8 (start ++ (setup.id ++ tail))) ≡ setup.id = ap (take 16) behind ∙ take_at setup.id tail 16 sixteen in
    let one : is_some (version_of (take 8 (start ++ (setup.id ++ tail)))) ≡ true = ap is_some (start_read by.version (setup.id ++ tail)) in
    let two : bytes_eq (take 16 (drop 8 (start ++ (setup.id ++ tail)))) setup.id ≡ true = ap (λ (x : List ℕ). bytes_eq x setup.id) id ∙
    (bytes_eq-Decides setup.id setup.id).1 refl in
    ap (head_fault setup) by.is
    ∙ no_test (ltb (length (start ++ (setup.id ++ tail))) 24) (is_some (version_of (take 8 (start ++ (setup.id ++ tail)))))
    (bytes_eq (take 16 (drop 8 (start ++ (setup.id ++ tail)))) setup.id) long one two

-- what is read of bytes: their version, and what follows their first 24
pub record IsRead (version : Version) (bytes rest : List ℕ) : Type 0 where
  pub by : version_of (take 8 bytes) ≡ Some version
  pub behind : rest ≡ drop 24 bytes

same_version : (version other : Version) (o : Option Version) → o ≡ Some version → o ≡ Some other → version ≡ other
same_version version other o e f = cc

behind_all : (start id tail : List ℕ) → length start ≡ 8 → length id ≡ 16 → drop 24 (start ++ (id ++ tail)) ≡ tail
behind_all start id tail eight sixteen =
    ap (drop 24) (sym (append_assoc start id tail)) ∙ drop_at (start ++ id) tail 24 (omega (arith, length-append start id, eight, sixteen))

pub stands_read : (version : Version) (setup : Setup) (bytes rest : List ℕ) (s : State) → IsSetup setup → IsRead version bytes rest → StandsFor setup bytes s
    → state_at version setup rest ≡ Some s
stands_read version setup bytes rest s is_setup read stands =
    let by = spells setup bytes s stands in
    let same : by.version ≡ version = same_version by.version version (version_of (take 8 bytes)) (version_read setup bytes s by) read.by in
    let tail = clock_bytes s ++ sections_by by.version s.rows in
    let behind : rest ≡ tail = read.behind ∙ ap (drop 24) by.is ∙ behind_all (start_bytes by.version) setup.id tail (length-start_bytes by.version)
    is_setup.id in
    subst (λ (v : Version). state_at v setup rest ≡ Some s) same (ap (state_at by.version setup) behind ∙ state_back by.version setup s is_setup stands.valid
    by.can)

pub same_state : (version : Version) (setup : Setup) (bytes rest : List ℕ) (s t : State) → IsSetup setup → IsRead version bytes rest
    → state_at version setup rest ≡ Some t → StandsFor setup bytes s → t ≡ s
same_state version setup bytes rest s t is_setup read found stands = equal t s (state_at version setup rest) found
    (stands_read version setup bytes rest s is_setup read stands)
  where
    equal : (x y : State) (o : Option State) → o ≡ Some x → o ≡ Some y → x ≡ y
    equal x y o e f = cc

pub unread : (version : Version) (setup : Setup) (bytes rest : List ℕ) (s : State) → IsSetup setup → IsRead version bytes rest → state_at version setup rest ≡
    None → StandsFor setup bytes s → ⊥
unread version setup bytes rest s is_setup read none stands = differ s (state_at version setup rest) none
    (stands_read version setup bytes rest s is_setup read stands)
  where
    differ : (x : State) (o : Option State) → o ≡ None → o ≡ Some x → ⊥
    differ x o e f = cc

-- a state that is valid and spelled by the version that was read
abbrev IsGood : Version → Setup → List ℕ → State → Type 0
IsGood version setup bytes s = IsValid setup s × (bytes ≡ spelled_by version setup s)

-- what was read and tested is what the bytes stand for
pub stands_by : (version : Version) (setup : Setup) (bytes rest : List ℕ) (t : State) → state_at version setup rest ≡ Some t → IsGood version setup bytes t
    → StandsFor setup bytes t
stands_by One setup bytes rest t found good = record { valid = good.0; spelled = inr (old_holds_none setup rest t found, good.1) }
stands_by Two setup bytes rest t found good = record { valid = good.0; spelled = inl good.1 }

good_by : (version : Version) (setup : Setup) (bytes rest : List ℕ) (s : State) → IsRead version bytes rest → StandsFor setup bytes s
    → IsGood version setup bytes s
good_by version setup bytes rest s read stands =
    let by = spells setup bytes s stands in
    let same : by.version ≡ version = same_version by.version version (version_of (take 8 bytes)) (version_read setup bytes s by) read.by in
    (stands.valid, subst (λ (v : Version). bytes ≡ spelled_by v setup s) same by.is)

-- where bytes do not stand for what is read, they stand for nothing
pub no_other : (version : Version) (setup : Setup) (bytes rest : List ℕ) (t : State) (answer : Bool) → IsSetup setup → IsRead version bytes rest
    → state_at version setup rest ≡ Some t
    → (IsTrue answer ↔ (IsValid setup t × (bytes ≡ spelled_by version setup t))) → answer ≡ false → (s : State) → StandsFor setup bytes s → ⊥
no_other version setup bytes rest t answer is_setup read found says was s stands =
    let same = same_state version setup bytes rest s t is_setup read found stands in
    false≢true (sym was ∙ says.1 (subst (IsGood version setup bytes) (sym same) (good_by version setup bytes rest s read stands)))

pub no_fault : (setup : Setup) (bytes : List ℕ) (fault : StateFault) → length setup.id ≡ 16 → head_fault setup bytes ≡ Some fault → (s : State)
    → StandsFor setup bytes s → ⊥
no_fault setup bytes fault sixteen e s stands = differ fault (head_fault setup bytes) (stands_head setup bytes s sixteen stands) e
  where
    differ : (x : StateFault) (o : Option StateFault) → o ≡ None → o ≡ Some x → ⊥
    differ x o e f = cc

-- the head is never refused for want of memory
pub head_takes_none : (setup : Setup) (bytes : List ℕ) → head_fault setup bytes ≡ Some faults.OutOfMemory → ⊥
unfolding head_fault
head_takes_none setup bytes = by (ltb (length bytes) 24) (not (is_some (version_of (take 8 bytes)))) (not (bytes_eq (take 16 (drop 8 bytes)) setup.id))
  where
    by : (a b c : Bool) → cond a (Some faults.NotState) (cond b (Some faults.NotState) (cond c (Some faults.OtherMatch) None)) ≡ Some faults.OutOfMemory → ⊥
    by true b c e = cc
    by false true c e = cc
    by false false true e = cc
    by false false false e = cc

pub not_memory : {X : Type 0} (setup : Setup) (bytes : List ℕ) (fault : StateFault) → head_fault setup bytes ≡ Some fault
    → ◌≡◌ {A = Result X StateFault} (Err fault) (Err faults.OutOfMemory) → ⊥
not_memory setup bytes faults.OutOfMemory h e = head_takes_none setup bytes h
not_memory setup bytes faults.NotState h e = cc
not_memory setup bytes faults.OtherMatch h e = cc
not_memory setup bytes faults.Grammar h e = cc

-- what is refused for another cause than want of memory stands for nothing
pub no_state : (setup : Setup) (bytes : List ℕ) (fault : StateFault) → IsSetup setup → RefusedFor setup bytes fault → (fault ≡ faults.OutOfMemory → ⊥)
    → (s : State) → StandsFor setup bytes s → ⊥
no_state setup bytes faults.NotState is_setup refused no_memory s stands = no_fault setup bytes faults.NotState is_setup.id refused s stands
no_state setup bytes faults.OtherMatch is_setup refused no_memory s stands = no_fault setup bytes faults.OtherMatch is_setup.id refused s stands
no_state setup bytes faults.Grammar is_setup refused no_memory s stands = refused.1 s stands
no_state setup bytes faults.OutOfMemory is_setup refused no_memory s stands = absurd (no_memory refl)

-- bytes stand for one state at most
pub one_state : (setup : Setup) (bytes : List ℕ) (s t : State) → IsSetup setup → StandsFor setup bytes s → StandsFor setup bytes t → s ≡ t
one_state setup bytes s t is_setup s-stands t-stands =
    let by = spells setup bytes s s-stands in
    let read : IsRead by.version bytes (drop 24 bytes) = record { by = version_read setup bytes s by; behind = refl } in
    same_state by.version setup bytes (drop 24 bytes) t s is_setup read (stands_read by.version setup bytes (drop 24 bytes) s is_setup read s-stands) t-stands

-- a spelling is read as its state, by its version
pub spelling_read : (setup : Setup) (s : State) → IsSetup setup → IsValid setup s → state_at Two setup (drop 24 (spelling setup s)) ≡ Some s
spelling_read setup s is_setup valid =
    let stands : StandsFor setup (spelling setup s) s = record { valid = valid; spelled = inl refl } in
    stands_read Two setup (spelling setup s) (drop 24 (spelling setup s)) s is_setup
    (record { by = start_read Two (setup.id ++ (clock_bytes s ++ sections_by Two s.rows)); behind = refl }) stands

pub old_spelling_read : (setup : Setup) (s : State) → IsSetup setup → IsValid setup s → HoldsNone s.rows → state_at One setup (drop 24 (old_spelling setup s)) ≡
    Some s
old_spelling_read setup s is_setup valid none =
    let stands : StandsFor setup (old_spelling setup s) s = record { valid = valid; spelled = inr (none, refl) } in
    stands_read One setup (old_spelling setup s) (drop 24 (old_spelling setup s)) s is_setup
    (record { by = start_read One (setup.id ++ (clock_bytes s ++ sections_by One s.rows)); behind = refl }) stands
