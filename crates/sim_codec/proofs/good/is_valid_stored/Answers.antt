-- The rows that were tested are those of a valid state.
use Rattle.sim_codec.proofs.{Common.IsTrue, Common.IsValid, Common.State, Common.subst, GoodRows.valid_of}

pub returns-then-is_valid_clock : Rattle.sim_codec.proofs.good.is_valid_stored.Goals.returns-then-is_valid_clock
returns-then-is_valid_clock c =
    let inside : State = record { turn = c.stored.inside.turn; next = c.stored.inside.next; word = c.stored.inside.word; rows = c.stored.inside.rows } in
    let answer = c.are_valid.result in
    subst (λ (s : State). (IsTrue answer → IsValid c.args.setup.now s) × (IsValid c.args.setup.now s → IsTrue answer)) c.stored.view_is
    (valid_of c.args.setup.now inside answer (c.is_valid_clock.ensures.0 c.if-is_valid_clock.true) c.stored.invariant c.are_valid.ensures)
