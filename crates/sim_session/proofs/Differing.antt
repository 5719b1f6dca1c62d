-- Clients that differ at one turn have different states.
use Rattle.sim_diff.proofs.{LeastPlace.difference_of-none, OneSpelling.same-no_difference, OneSpelling.same_bits-spelling, OneSpelling.spelling-same}
use Rattle.sim_session.proofs.TextCommon.{Bool, clients_apart, cond-true, eq-eqb, holds_session, if◌then◌else◌, IsValid, lt-ltb, session_of, state_at, turns_in}
use Rattle.sim_session.proofs.TextCommon.{[], after, ap, false, inl, List, nat_lt, None, Option, Phase, refl, Setup, Some, State, sym, true, ℕ, ◌==◌, ◌∙◌, ◌≡◌}
use Rattle.sim_session.specs.Laws.{UnbentAreTogether, apart_at, both_apart, states_apart}
use Rattle.{sim_diff.specs.Difference.difference_of, sim_diff.specs.declared.place.Place.Place, sim_laws.proofs.Turning.after_counts_turns}
use Rattle.{sim_plain_session.specs.Clients.On, sim_plain_session.specs.Clients.Seat, sim_session.specs.Laws.ApartWhereDifferent}
use Rattle.{sim_session_laws.proofs.Fitting.pasts_are_always_valid, sim_session_laws.proofs.Fitting.unbent_agree, std.proofs.lemmas.Bool.eqb-true}

-- a line has at least one character
no_line : (a b : ℕ) (place : Option Place) → apart_at a b place ≡ [] → place ≡ None
no_line a b None silent = refl
no_line a b (Some place) silent = absurd (cc)

no_place : (a b : ℕ) (place : Option Place) → place ≡ None → apart_at a b place ≡ []
no_place a b place none = ap (apart_at a b) none

on_at : (setup : Setup) (phase : Phase) (seat : Seat) → phase ≡ On seat → state_at setup phase ≡ Some (after setup seat.past)
on_at setup phase seat is = ap (state_at setup) is

same_turn : (setup : Setup) (left right : Seat) → turns_in left.past ≡ turns_in right.past → (after setup left.past).turn ≡ (after setup right.past).turn
same_turn setup left right turns = after_counts_turns setup left.past ∙ turns ∙ sym (after_counts_turns setup right.past)

compared : (a b : ℕ) (left right : State) → left.turn ≡ right.turn → states_apart a b left right ≡ apart_at a b (difference_of left right)
compared a b left right turns = cond-true (left.turn == right.turn) _ [] (eq-eqb _ _ turns)

both : (setup : Setup) (a b : ℕ) (p q : Phase) (left right : Seat) → p ≡ On left → q ≡ On right
    → both_apart a b (state_at setup p) (state_at setup q) ≡ states_apart a b (after setup left.past) (after setup right.past)
both setup a b p q left right is_left is_right =
    ap (λ (s : Option State). both_apart a b s (state_at setup q)) (on_at setup p left is_left)
    ∙ ap (λ (s : Option State). both_apart a b (Some (after setup left.past)) s) (on_at setup q right is_right)

pub apart_where_different : ApartWhereDifferent
apart_where_different setup list a b left right limits is before on_left on_right turns =
    let s = session_of setup list in
    let few = is.clients.1 in
    let pair : clients_apart setup s a b ≡ both_apart a b (state_at setup (s.client a)) (state_at setup (s.client b)) =
    cond-true (nat_lt a b) _ [] (lt-ltb a b before) in
    let line = pair ∙ both setup a b (s.client a) (s.client b) left right on_left on_right ∙ compared a b _ _ (same_turn setup left right turns) in
    let valid_left : IsValid setup (after setup left.past) = pasts_are_always_valid setup list.clients list.steps limits few left.past
    (inl (a, left, on_left, refl)) in
    let valid_right : IsValid setup (after setup right.past) = pasts_are_always_valid setup list.clients list.steps limits few right.past
    (inl (b, right, on_right, refl)) in (
      λ silent. spelling-same setup _ _ limits valid_left valid_right
          (same_bits-spelling setup _ _ valid_left valid_right (difference_of-none _ _ (no_line a b _ (sym line ∙ silent)))),
      λ same. line ∙ no_place a b _ (same-no_difference _ _ same),
    )

silent_where : (b : Bool) (line : List ℕ) → (b ≡ true → line ≡ []) → (if b then line else []) ≡ []
silent_where true line silent = silent refl
silent_where false line silent = refl

pub unbent_are_together : UnbentAreTogether
unbent_are_together setup list a b left right limits is on_left on_right unbent_left unbent_right =
    let s = session_of setup list in
    let whole = both setup a b (s.client a) (s.client b) left right on_left on_right in
    let agree : turns_in left.past ≡ turns_in right.past → after setup left.past ≡ after setup right.past =
    λ turns. (unbent_agree setup s (holds_session setup list.clients list.steps is.clients.1) a b left right on_left on_right unbent_left unbent_right
    turns).0 in
    let turns : (after setup left.past).turn ≡ (after setup right.past).turn → turns_in left.past ≡ turns_in right.past =
    λ same. sym (after_counts_turns setup left.past) ∙ same ∙ after_counts_turns setup right.past in
    let silent : states_apart a b (after setup left.past) (after setup right.past) ≡ [] =
    silent_where ((after setup left.past).turn == (after setup right.past).turn) _
    (λ test. no_place a b _ (same-no_difference _ _ (agree (turns (eqb-true _ _ test))))) in
    silent_where (nat_lt a b) _ (λ test. whole ∙ silent)
