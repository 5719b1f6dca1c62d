-- What is explored after any list of states: what was explored before, or was visible in one of them.
use Rattle.{sim_base.proofs.Tests.or_false, sim_vision.proofs.Common.{all_counts, all_seen, all_visible, ap, arith, blind, Bool, Cell, cells_in, cells_of}}
use Rattle.sim_vision.proofs.Common.{explored_with, false, flat_map, is_visible, last_of, length, length-append, length-map, length-replicate, List, map}
use Rattle.sim_vision.proofs.Common.{players_of, range_with_len, refl, replicate, Setup, size_of, State, suc, sym, true, Vision, vision_after, vision_next}
use Rattle.sim_vision.proofs.{Common.{was_visible, zero, ℕ, [], ◌*◌, ◌++◌, ◌+◌, ◌||◌, ◌∙◌, ◌∷◌, ◌≡◌}, Flat.{cells_long, explored_long}}

-- ---- the union of lists, cell by cell

or_assoc : (a b c : Bool) → ((a || b) || c) ≡ (a || (b || c))
or_assoc true b c = refl
or_assoc false b c = refl

with_twice : (xs ys zs : List Bool) → length xs ≡ length ys → explored_with (explored_with xs ys) zs ≡ explored_with xs (explored_with ys zs)
with_twice [] ys zs e = refl
with_twice (x ∷ xs) [] zs e = absurd (omega arith)
with_twice (x ∷ xs) (y ∷ ys) [] e = refl
with_twice (x ∷ xs) (y ∷ ys) (z ∷ zs) e = λ i. or_assoc x y z i ∷ with_twice xs ys zs (omega arith) i

with_joined : (xs more ys others : List Bool) → length xs ≡ length ys →
    explored_with (xs ++ more) (ys ++ others) ≡ explored_with xs ys ++ explored_with more others
with_joined [] more [] others e = refl
with_joined [] more (y ∷ ys) others e = absurd (omega arith)
with_joined (x ∷ xs) more [] others e = absurd (omega arith)
with_joined (x ∷ xs) more (y ∷ ys) others e = ap (λ (zs : List Bool). (x || y) ∷ zs) (with_joined xs more ys others (omega arith))

with_mapped : {X : Type 0} (f g : X → Bool) (xs : List X) → explored_with (map f xs) (map g xs) ≡ map (λ x. f x || g x) xs
with_mapped f g [] = refl
with_mapped f g (x ∷ xs) = ap (λ (ys : List Bool). (f x || g x) ∷ ys) (with_mapped f g xs)

-- over all cells of all players
pub with_all : {X : Type 0} (f g : ℕ → X → Bool) (cells : List X) (players : List ℕ) →
    explored_with (flat_map (λ p. map (f p) cells) players) (flat_map (λ p. map (g p) cells) players) ≡ flat_map (λ p. map (λ c. f p c || g p c) cells) players
with_all f g cells [] = refl
with_all f g cells (p ∷ players) =
    with_joined (map (f p) cells) (flat_map (λ p. map (f p) cells) players) (map (g p) cells) (flat_map (λ p. map (g p) cells) players)
    (length-map cells (f p) ∙ sym (length-map cells (g p)))
    ∙ (λ i. with_mapped (f p) (g p) cells i ++ with_all f g cells players i)

-- ---- the union with nothing

-- no flag of the list is set
abbrev Unset : List Bool → Type 0
Unset xs = (ys : List Bool) → explored_with ys xs ≡ ys

unset_more : (xs : List Bool) → Unset xs → Unset (false ∷ xs)
unset_more xs unset [] = refl
unset_more xs unset (y ∷ ys) = λ i. or_false y i ∷ unset ys i

unset_nil : Unset []
unset_nil [] = refl
unset_nil (y ∷ ys) = refl

unset_joined : {X : Type 0} (cells : List X) (xs : List Bool) → Unset xs → Unset (map (λ c. false) cells ++ xs)
unset_joined [] xs unset = unset
unset_joined (c ∷ cells) xs unset = unset_more (map (λ c. false) cells ++ xs) (unset_joined cells xs unset)

unset_all : {X : Type 0} (cells : List X) (players : List ℕ) → Unset (flat_map (λ p. map (λ c. false) cells) players)
unset_all cells [] = unset_nil
unset_all cells (p ∷ players) = unset_joined cells (flat_map (λ p. map (λ c. false) cells) players) (unset_all cells players)

from_nothing : (n : ℕ) (ys : List Bool) → length ys ≡ n → explored_with (replicate n false) ys ≡ ys
from_nothing zero [] e = refl
from_nothing zero (y ∷ ys) e = absurd (omega arith)
from_nothing (suc n) [] e = absurd (omega arith)
from_nothing (suc n) (y ∷ ys) e = ap (λ (xs : List Bool). y ∷ xs) (from_nothing n ys (omega arith))

-- ---- how long a list of all cells of all players is

flat_long : {X : Type 0} (g : ℕ → List X) (m : ℕ) → ((i : ℕ) → length (g i) ≡ m) → (from n : ℕ) → length (flat_map g (range_with_len from n)) ≡ n * m
flat_long g m sizes from zero = omega arith
flat_long g m sizes from (suc n) = omega (
  arith,
  length-append (g from) (flat_map g (range_with_len (from + 1) n)),
  sizes from,
  flat_long g m sizes (from + 1) n,
)

pub all_long : {X : Type 0} (d : X) (setup : Setup) (f : ℕ → Cell → X) →
    length (flat_map (λ p. map (f p) (cells_of (size_of setup.land))) (players_of setup)) ≡ setup.players * cells_in setup
all_long d setup f = flat_long (λ p. map (f p) (cells_of (size_of setup.land))) (cells_in setup) (λ p. cells_long d (size_of setup.land) (f p)) 1 setup.players

-- ---- after a list of states

-- a sight that has looked at one more state
pub next_is : (old new : Vision) (state : State) → new.setup ≡ old.setup → new.counts ≡ all_counts old.setup state.rows →
    new.explored ≡ explored_with old.explored (all_visible old.setup state.rows) → new ≡ vision_next old state
next_is old new state setup counts explored = λ i. record { setup = setup i; counts = counts i; explored = explored i }

pub setup_stays : (vision : Vision) (states : List State) → (vision_after vision states).setup ≡ vision.setup
setup_stays vision [] = refl
setup_stays vision (state ∷ states) = setup_stays (vision_next vision state) states

-- a sight whose counts are those of a state, after later ones
pub counts_later : (vision : Vision) (first : State) (later : List State) → vision.counts ≡ all_counts vision.setup first.rows →
    (vision_after vision later).counts ≡ all_counts vision.setup (last_of first later).rows
counts_later vision first [] is = is
counts_later vision first (state ∷ later) is = counts_later (vision_next vision state) state later refl

pub counts_last : (vision : Vision) (first : State) (later : List State) →
    (vision_after vision (first ∷ later)).counts ≡ all_counts vision.setup (last_of first later).rows
counts_last vision first later = counts_later (vision_next vision first) first later refl

pub explored_all : (vision : Vision) (states : List State) → length vision.explored ≡ vision.setup.players * cells_in vision.setup →
    (vision_after vision states).explored ≡ explored_with vision.explored (all_seen vision.setup states)
explored_all vision [] full = sym (unset_all (cells_of (size_of vision.setup.land)) (players_of vision.setup) vision.explored)
explored_all vision (state ∷ states) full =
    explored_all (vision_next vision state) states (explored_long vision.explored (all_visible vision.setup state.rows) ∙ full)
    ∙ with_twice vision.explored (all_visible vision.setup state.rows) (all_seen vision.setup states)
    (full ∙ sym (all_long false vision.setup (is_visible vision.setup state.rows)))
    ∙ ap (explored_with vision.explored) (with_all (is_visible vision.setup state.rows) (was_visible vision.setup states)
    (cells_of (size_of vision.setup.land)) (players_of vision.setup))

pub explored_start : (setup : Setup) (states : List State) → (vision_after (blind setup) states).explored ≡ all_seen setup states
explored_start setup states =
    explored_all (blind setup) states (length-replicate (setup.players * cells_in setup) false)
    ∙ from_nothing (setup.players * cells_in setup) (all_seen setup states) (all_long false setup (was_visible setup states))
