-- Clients that have begun, and others that are off, stand for the session that is opened.
use Rattle.sim_session.proofs.Common.{Setup, StandsFor, starting_follows, starts, subst, sym}
use Rattle.sim_session.proofs.Common.{cond-true, Conveys, Held, inl, inr, is_active, Joining, le-leb, Life, life_of, Lives, lt-ltb, Off, On, opened, Seen}
use Rattle.sim_session.proofs.Common.{◌≡◌, ℕ, ◌<◌, ◌≤◌, min, true, false, ◌⊎◌, List, [], nat_lt, nat_le, refl, and_from, arith, begun, cases_lt, cond-false}
use Rattle.sim_plain_session.specs.Clients as plain

active : (n c : ℕ) → 0 < c → c ≤ n → is_active n c ≡ true
active n c low high = and_from (nat_lt 0 c) (nat_le c n) (lt-ltb 0 c low) (le-leb c n high)

not_active : (n c : ℕ) → n < c → is_active n c ≡ false
not_active n c above = grind arith

begun_phase : (setup : Setup) (n c : ℕ) → 0 < c → c ≤ n → (opened setup n).client c ≡ plain.On
    (begun (min setup.turns setup.delay) (min setup.turns setup.delay) [])
begun_phase setup n c low high = cond-true (is_active n c) (plain.On (begun (min setup.turns setup.delay) (min setup.turns setup.delay) [])) plain.Off
    (active n c low high)

off_phase : (setup : Setup) (n c : ℕ) → n < c → (opened setup n).client c ≡ plain.Off
off_phase setup n c above = cond-false (is_active n c) (plain.On (begun (min setup.turns setup.delay) (min setup.turns setup.delay) [])) plain.Off
    (not_active n c above)

pub opens : (setup : Setup) (n : ℕ) (lives : List Life) (held : Held) → ((c : ℕ) → 0 < c → c ≤ n → life_of lives c ≡ starts setup)
    → ((c : ℕ) → n < c → c ≤ setup.players → life_of lives c ≡ Off) → Conveys setup held (opened setup n)
    → StandsFor setup (record { lives = lives; held = held }) (opened setup n)
opens setup n lives held on off conveys = record { lives = λ c low high. by c low high (cases_lt n c); held = conveys }
  where
    by : (c : ℕ) → 0 < c → c ≤ setup.players → (n < c) ⊎ (c ≤ n) → Lives setup (life_of lives c) ((opened setup n).client c)
    by c low high (inl above) =
        subst (λ (l : Life). Lives setup l ((opened setup n).client c)) (sym (off c above high)) (subst (Lives setup Off) (sym (off_phase setup n c above)) tt)
    by c low high (inr within) =
        subst (λ (l : Life). Lives setup l ((opened setup n).client c)) (sym (on c low within))
        (subst (Lives setup (starts setup)) (sym (begun_phase setup n c low within)) (starting_follows setup))

off_life : (setup : Setup) (l : Life) → Lives setup l plain.Off → l ≡ Off
off_life setup Off lives = refl
off_life setup Joining lives = absurd lives
off_life setup (On player) lives = absurd lives

-- before anyone has begun all are off
pub was_off : (setup : Setup) (seen : Seen) → StandsFor setup seen (opened setup 0) → (c : ℕ) → 0 < c → c ≤ setup.players → life_of seen.lives c ≡ Off
was_off setup seen stands c low high = off_life setup (life_of seen.lives c) (subst (Lives setup (life_of seen.lives c)) (off_phase setup 0 c low)
    (stands.lives c low high))
