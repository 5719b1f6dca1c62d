-- A client with a state goes on standing for one with a past.
use Rattle.{sim_plain.proofs.Calm.{put_other, put_same}, sim_plain_session.proofs.Common.{after_counts_turns, ap, arith, BeginningStands, BendingStands, bent}}
use Rattle.sim_plain_session.proofs.Common.{cases_eq, digest, inl, inr, LearningStands, List, mark, PlayerCommand, PlayingStands, put, refl, SameMark, SameTurn}
use Rattle.sim_plain_session.proofs.Common.{State, subst, suc, sym, turn, turns_in, ℕ, [], ◌++◌, ◌<◌, ◌∙◌, ◌∷◌, ◌≡◌, ◌⊎◌}

pub same_turn : SameTurn
same_turn setup player seat s =
    (ap (λ (state : State). state.turn) s.state ∙ after_counts_turns setup seat.past, ap (digest setup) s.state)

pub same_mark : SameMark
same_mark setup player seat s = ap (mark setup) s.state

pub beginning_stands : BeginningStands
beginning_stands setup done released past = record { state = refl; known = λ t above. refl; released = refl; done = refl; orders = refl }

pub playing_stands : PlayingStands
playing_stands setup player seat known s same =
    let at : player.state.turn ≡ turns_in seat.past = (same_turn setup player seat s).0 in
    let orders : player.known (suc player.state.turn) ≡ seat.known (suc (turns_in seat.past)) =
    ap (λ n. player.known (suc n)) at ∙ s.known (suc (turns_in seat.past)) (omega arith) in
    record {
      state = λ i. turn setup (s.state i) (orders i);
      known = λ t above. same t (omega (arith, at, above)) ∙ s.known t (omega (arith, above));
      released = s.released;
      done = s.done;
      orders = s.orders;
    }

pub bending_stands : BendingStands
bending_stands setup player seat id health s =
    record { state = ap (λ (state : State). bent setup state id health) s.state; known = s.known; released = s.released; done = s.done; orders = s.orders }

pub learning_stands : LearningStands
learning_stands setup player seat t order s above =
    record { state = s.state; known = λ u over. by u over (cases_eq u t); released = s.released; done = s.done; orders = s.orders }
  where
    by : (u : ℕ) → turns_in seat.past < u → (u ≡ t) ⊎ (u ≡ t → ⊥)
        → put t (player.known t ++ order ∷ []) player.known u ≡ put t (seat.known t ++ order ∷ []) seat.known u
    by u over (inl e) =
        subst (λ v. put t (player.known t ++ order ∷ []) player.known v ≡ put t (seat.known t ++ order ∷ []) seat.known v) (sym e)
        (put_same t (player.known t ++ order ∷ []) player.known ∙ ap (λ (l : List PlayerCommand). l ++ order ∷ []) (s.known t above) ∙
        sym (put_same t (seat.known t ++ order ∷ []) seat.known))
    by u over (inr apart) =
        put_other t (player.known t ++ order ∷ []) player.known u apart ∙ s.known u over ∙ sym (put_other t (seat.known t ++ order ∷ []) seat.known u apart)
