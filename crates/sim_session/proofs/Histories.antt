-- One arrival more at the end of a list, and one turn more.
use Rattle.sim_plain.specs.{Messages.Arrival, Server.posts_of, Server.served, Server.server_after, declared.message.PostOf.PostOf, declared.rules.Rules.Rules}
use Rattle.std.proofs.Common.{[], add-one, ap, append-nil, append_assoc, arith, get_or, length, length-append, List, map, refl, subst, sym, ℕ, ◌++◌, ◌+◌, ◌<◌}
use Rattle.std.proofs.{Common.◌∙◌, Common.◌∷◌, Common.◌≡◌, Common.◌≤◌, lemmas.Grind.flat_map-append}
use Rattle.{sim_base.specs.declared.command.PlayerCommand.PlayerCommand, sim_lists.specs.declared.schedule.Arrival.Arrival as Listed, std.specs.Prelude.All}
use Rattle.{sim_lists.specs.Arrivals.plain_arrival, sim_lists.specs.StepLists.IsFromClient, sim_session.specs.Served.kept_lines, std.specs.Prelude.flat_map}
use Rattle.{sim_report.specs.Downs.post_line, sim_session.specs.Served.history, sim_session.specs.Served.kept_of, sim_session.specs.Served.said_lines}

pub history-append : {B : Type 0} (h xs : List (Arrival B)) (a : Arrival B) → history h (xs ++ a ∷ []) ≡ a ∷ history h xs
history-append h [] a = refl
history-append h (x ∷ xs) a = history-append (x ∷ h) xs a

pub served-append : {B : Type 0} (rules : Rules) (active : ℕ) (h xs : List (Arrival B)) (a : Arrival B) → served rules active h (xs ++ a ∷ []) ≡
    served rules active h xs ++ posts_of rules (server_after rules active (history h xs)) a
served-append rules active h [] a = append-nil (posts_of rules (server_after rules active h) a)
served-append {B = B} rules active h (x ∷ xs) a =
    ap (λ (l : List (PostOf B)). posts_of rules (server_after rules active h) x ++ l) (served-append rules active (x ∷ h) xs a)
    ∙ sym (append_assoc (posts_of rules (server_after rules active h) x) (served rules active (x ∷ h) xs)
    (posts_of rules (server_after rules active (history (x ∷ h) xs)) a))

-- the lines of one arrival more
pub said-append : (rules : Rules) (active : ℕ) (h xs : List (Arrival (List ℕ))) (a : Arrival (List ℕ))
    → said_lines rules active h (xs ++ a ∷ []) ≡ said_lines rules active h xs ++ flat_map post_line
    (posts_of rules (server_after rules active (history h xs)) a)
said-append rules active h xs a = ap (flat_map post_line) (served-append rules active h xs a) ∙ flat_map-append post_line (served rules active h xs)
    (posts_of rules (server_after rules active (history h xs)) a)

map_more : (xs : List Listed) (x : Listed) → map plain_arrival (xs ++ x ∷ []) ≡ map plain_arrival xs ++ plain_arrival x ∷ []
map_more [] x = refl
map_more (y ∷ ys) x = ap (λ (l : List (Arrival (List ℕ))). plain_arrival y ∷ l) (map_more ys x)

-- the server stands for one arrival more
pub history_more : (h : List (Arrival (List ℕ))) (xs : List Listed) (x : Listed) → history h (map plain_arrival (xs ++ x ∷ [])) ≡ plain_arrival x ∷ history h
    (map plain_arrival xs)
history_more h xs x = ap (history h) (map_more xs x) ∙ history-append h (map plain_arrival xs) (plain_arrival x)

-- and its lines are those of one arrival more
pub said_more : (rules : Rules) (active : ℕ) (h : List (Arrival (List ℕ))) (xs : List Listed) (x : Listed) (start old new : List ℕ)
    (posts : List (PostOf (List ℕ)))
    → old ≡ start ++ said_lines rules active h (map plain_arrival xs) → new ≡ old ++ flat_map post_line posts
    → posts ≡ posts_of rules (server_after rules active (history h (map plain_arrival xs))) (plain_arrival x)
    → new ≡ start ++ said_lines rules active h (map plain_arrival (xs ++ x ∷ []))
said_more rules active h xs x start old new posts old-is new-is posts-is =
    new-is ∙ ap (λ (l : List ℕ). l ++ flat_map post_line posts) old-is ∙ append_assoc start (said_lines rules active h (map plain_arrival xs))
    (flat_map post_line posts)
    ∙ ap (λ (l : List (PostOf (List ℕ))). start ++ (said_lines rules active h (map plain_arrival xs) ++ flat_map post_line l)) posts-is
    ∙ ap (λ (l : List ℕ). start ++ l) (sym (said-append rules active h (map plain_arrival xs) (plain_arrival x)) ∙
    ap (said_lines rules active h) (sym (map_more xs x)))

seam : {X : Type 0} (xs ys : List X) (x d : X) → get_or (xs ++ x ∷ ys) (length xs) d ≡ x
seam [] ys x d = refl
seam (z ∷ zs) ys x d = seam zs ys x d

-- an arrival of the list is from a client
pub from_client : (clients : ℕ) (xs ys all : List Listed) (x : Listed) → xs ++ x ∷ ys ≡ all → All (IsFromClient clients) all → (0 < x.from) × (x.from ≤ clients)
from_client clients xs ys all x whole from =
    let here : IsFromClient clients (get_or (xs ++ x ∷ ys) (length xs) x) = subst (λ (l : List Listed). All (IsFromClient clients) l) (sym whole) from
    (length xs) x (let n = length-append xs (x ∷ ys) in omega arith) in
    let own : IsFromClient clients x = subst (IsFromClient clients) (seam xs ys x x) here in
    (omega (arith, own.0), own.1)

-- the line of one turn more
pub kept_more : (kept : ℕ → List PlayerCommand) (i : ℕ) (start old new : List ℕ) → old ≡ start ++ kept_lines kept i
    → new ≡ old ++ kept_of (i + 1) (length (kept (i + 1))) → new ≡ start ++ kept_lines kept (i + 1)
kept_more kept i start old new old-is new-is =
    new-is ∙ ap (λ (l : List ℕ). l ++ kept_of (i + 1) (length (kept (i + 1)))) old-is ∙ append_assoc start (kept_lines kept i)
    (kept_of (i + 1) (length (kept (i + 1))))
    ∙ ap (λ n. start ++ (kept_lines kept i ++ kept_of n (length (kept n)))) (add-one i) ∙ ap (λ n. start ++ kept_lines kept n) (sym (add-one i))
