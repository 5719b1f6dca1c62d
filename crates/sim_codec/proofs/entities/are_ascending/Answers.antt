-- The closure tells whether one id is below the next.
use Rattle.sim_codec.proofs.{Checked.ascending_answer, Common.[], Common.nat_lt, Common.answers_always, Common.id_in, Common.rules}

pub returns : Rattle.sim_codec.proofs.entities.are_ascending.Goals.returns
returns c = ascending_answer id_in [] c.args.entities.now c.is_sorted_by.result
    (c.is_sorted_by.ensures.cases (λ before entity. nat_lt (id_in before) (id_in entity)) (answers_always _ _ _ (λ f a r g called. search rules)))
