-- The closure gives the id of a row, and the ids ascend.
use Rattle.sim_codec.proofs.{Common.answers_always, Common.id_of, Common.ranked, Common.Row, Common.rules, Common.sym, Halves.no_key}

pub returns-in-Ok : Rattle.sim_codec.proofs.look_up.place_of.Goals.returns-in-Ok
returns-in-Ok c =
    let by_id = c.in-Ok.ensures.position (λ (row : Row). row.id) (answers_always _ _ _ (λ f a r g called. search rules)) in
    (c.in-Ok.ensures.bound, λ d. ranked _ c.args.id _ (sym (by_id d)))

pub returns-in-Err : Rattle.sim_codec.proofs.look_up.place_of.Goals.returns-in-Err
returns-in-Err c =
    let by_id = c.in-Err.ensures.position (λ (row : Row). row.id) (answers_always _ _ _ (λ f a r g called. search rules)) in
    no_key id_of c.args.rows.now c.args.id c.in-Err.field-0 c.requires c.in-Err.ensures.bound by_id
