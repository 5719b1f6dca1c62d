use Rattle.sim_merge.proofs.{Common.{ap, function_of, number_by, product, sym, ◌+ℤ◌, ◌∙◌}, OperationLemmas.{in_range-SomeIff, number_by-some}}

pub returns-in-Sum : Rattle.sim_merge.proofs.operation.number_of.Goals.returns-in-Sum
returns-in-Sum c =
    let lower = c.args.lower.now in
    let upper = c.args.upper.now in
    in_range-SomeIff c.checked_add.result _ c.checked_add.ensures
    ∙ number_by-some (λ x y. x +ℤ y) lower upper c.in_ok-lower.lower c.in_ok-upper.upper c.in_ok-lower.ensures c.in_ok-upper.ensures
    ∙ ap (λ operation. number_by (function_of operation) lower upper) (sym c.in-Sum.is)

pub returns-in-Product : Rattle.sim_merge.proofs.operation.number_of.Goals.returns-in-Product
returns-in-Product c =
    let lower = c.args.lower.now in
    let upper = c.args.upper.now in
    in_range-SomeIff c.checked_mul.result _ c.checked_mul.ensures
    ∙ number_by-some product lower upper c.in_ok-lower.lower c.in_ok-upper.upper c.in_ok-lower.ensures c.in_ok-upper.ensures
    ∙ ap (λ operation. number_by (function_of operation) lower upper) (sym c.in-Product.is)
