-- What the systems of clients come to.
use Rattle.sim_plain_session.specs.Clients as plain
use Rattle.{sim_client.specs.StageWords.AreOf, sim_session.proofs.TextCommon.{All, ap, arith, get_or, Joining, length, length-map, Life, life_of, List, Lives}}
use Rattle.sim_session.proofs.TextCommon.{map, nowhere, Off, On, Seen, Session, Setup, StandsFor, State, subst, sym, Systems, ℕ, ◌++◌, ◌-◌, ◌∙◌, ◌≡◌}
use Rattle.{sim_session.specs.{Going.AreOfClients, Laws.{AllStand, StandFor}}, sim_system.specs.Meanings.AreFed}
use Rattle.std.proofs.{Common.drop, lemmas.List.{drop-map, Elements.{All-append, All-drop}, length-append}}

-- systems of a client that stands for one of a session stand for that one
one_stands : (setup : Setup) (life : Life) (phase : plain.Phase) (s : Systems) → Lives setup life phase → AreOf setup life s → StandFor setup phase s
one_stands setup Off plain.Off s lives of = of
one_stands setup Off plain.Joining s lives of = absurd lives
one_stands setup Off (plain.On seat) s lives of = absurd lives
one_stands setup Joining plain.Off s lives of = absurd lives
one_stands setup Joining plain.Joining s lives of = of
one_stands setup Joining (plain.On seat) s lives of = absurd lives
one_stands setup (On player) plain.Off s lives of = absurd lives
one_stands setup (On player) plain.Joining s lives of = absurd lives
one_stands setup (On player) (plain.On seat) s lives of = subst (λ (state : State). AreFed setup state s) lives.state of

pub all_stand : (setup : Setup) (seen : Seen) (s : Session) (systems : List Systems) → StandsFor setup seen s → AreOfClients setup seen.lives systems
    → AllStand setup s systems
all_stand setup seen s systems stands of = λ c low high. one_stands setup (life_of seen.lives c) (s.client c) (get_or systems (c - 1) nowhere)
    (stands.lives c low high) (of c low high)

-- as many rigs come back as came
pub same_count : {A B C : Type 0} (f : A → C) (g : B → C) (out given spare kept : List A) (own new : List B) → map f out ≡ map g new ++ map f kept
    → map g own ++ map f spare ≡ map f given
    → length new ≡ length own → kept ≡ spare → length out ≡ length given
same_count f g out given spare kept own new back came same is =
    let back_length = ap length back ∙ length-append (map g new) (map f kept) in
    let came_length = sym (length-append (map g own) (map f spare)) ∙ ap length came in
    omega (
      arith,
      back_length,
      came_length,
      length-map out f,
      length-map given f,
      length-map spare f,
      length-map kept f,
      length-map own g,
      length-map new g,
      same,
      ap length is,
    )

-- what holds of the systems of the clients and of those that were never theirs holds of all that come back
pub all_back : {A B C : Type 0} (P : C → Type 0) (f : A → C) (g : B → C) (out given kept : List A) (new : List B) (n : ℕ) → map f out ≡ map g new ++ map f kept
    → kept ≡ drop n given
    → All P (map g new) → All P (map f given) → All P (map f out)
all_back P f g out given kept new n back is own all =
    let rest : All P (map f kept) = subst (λ xs. All P (map f xs)) (sym is) (subst (All P) (drop-map f n given) (All-drop P n (map f given) all)) in
    subst (All P) (sym back) (All-append P (map g new) (map f kept) own rest)
