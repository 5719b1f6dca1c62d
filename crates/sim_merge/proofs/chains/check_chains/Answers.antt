use Rattle.sim_merge.proofs.chains.check_chains.Goals as goal
use Rattle.sim_merge.proofs.Common.{ap, arith, below_more, chain_fault, chain_refusal, false, IfRefusal, is_endless, members, rules, Some, sym, ◌∙◌, ◌≡◌}
use Rattle.sim_merge.proofs.KeepingLemmas.{chain_refusal-at, chain_refusal-none, IfRefusal-from}

pub returns-in_err-check_chain-clause-refused : goal.returns-in_err-check_chain-clause-refused
returns-in_err-check_chain-clause-refused c =
    let parents = c.args.parents.now in
    let number = c.loop-number.number in
    let fault = c.in_err-check_chain.field-0.0 in
    let h = c.in_err-check_chain.ensures in
    let chain : c.as_slice.result.now ≡ members parents number = c.as_slice.ensures.value ∙ c.in_ok-put_members.ensures in
    let told : IfRefusal fault (chain_refusal parents ≡ Some fault) =
    IfRefusal-from fault _
    (chain_refusal-at parents number c.loop-number-test.true (ap is_endless (sym chain) ∙ h.0) c.loop-number.invariant
    ∙ ap Some (ap (chain_fault number) (sym chain) ∙ sym h.1)) in
    search rules

pub loop-number-preserved : goal.loop-number-preserved
loop-number-preserved c =
    let parents = c.args.parents.now in
    let number = c.loop-number.number in
    let chain : c.as_slice.result.now ≡ members parents number = c.as_slice.ensures.value ∙ c.in_ok-put_members.ensures in
    below_more (λ k. is_endless (members parents k) ≡ false) number c.loop-number.invariant (ap is_endless (sym chain) ∙ c.in_ok-check_chain.ensures)

pub returns-clause-refused : goal.returns-clause-refused
returns-clause-refused c = chain_refusal-none c.args.parents.now (λ k h. c.loop-number.invariant k (omega (arith, c.loop-number-test.false)))
