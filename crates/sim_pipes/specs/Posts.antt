-- What each client gets of a list of posts, and which notices are among them.
use Rattle.std.specs.Prelude.{◌≡◌, ℕ, ◌<◌, ◌≤◌, List, [], ◌∷◌, map, if◌then◌else◌, ◌==◌, All, filter_map}
use Rattle.sim_pipes.specs.Common.{Arrival, DownOf, Event, notice_in, noticed, PostOf, posts, posts_of, Rules, sender, Server}
use Rattle.sim_base.specs.declared.step.Event.TheVariants as event

-- the messages for one client, in order
abbrev pub told_to : {B : Type 0} → ℕ → List (PostOf B) → List (DownOf B)
told_to c [] = []
told_to c (post ∷ rest) = if post.to == c then post.down ∷ told_to c rest else told_to c rest

-- what is printed of notices, each a turn and a client
abbrev pub notice_events : List (ℕ × ℕ) → List Event
notice_events notices = map (λ (n : ℕ × ℕ). event.Notice n.0 n.1) notices

-- each client gets just what the server says to it
abbrev pub EachIsTold : Type 0 → Type 0
EachIsTold B = (rules : Rules) (s : Server) (a : Arrival B) (c : ℕ) → 0 < c → c ≤ rules.clients → told_to c (posts_of rules s a) ≡ posts rules s a c

-- and nobody else is told anything
abbrev pub ClientsAreTold : Type 0 → Type 0
ClientsAreTold B = (rules : Rules) (s : Server) (a : Arrival B) → All (λ (post : PostOf B). (0 < post.to) × (post.to ≤ rules.clients)) (posts_of rules s a)

-- who is heard is told of the notice that this gives
abbrev pub SenderIsNoticed : Type 0 → Type 0
SenderIsNoticed B =
    (rules : Rules) (s : Server) (a : Arrival B) → 0 < sender a → sender a ≤ rules.clients → filter_map notice_in (told_to (sender a) (posts_of rules s a)) ≡
    noticed rules s a
