use Rattle.sim_merge.proofs.Common.{[], ap, append_assoc, arith, chain_from, get_or, members, None, Some, sym, ◌++◌, ◌+◌, ◌-◌, ◌∙◌, ◌∷◌, ◌≡◌}
use Rattle.sim_merge.proofs.KeepingLemmas.{chain_from-next}

pub loop-seen-init : Rattle.sim_merge.proofs.chains.put_members.Goals.loop-seen-init
unfolding members
loop-seen-init c = record {
  chain = ap (λ xs. xs ++ chain_from c.args.parents.now 17 (Some c.args.number)) c.clear.ensures.items;
  within = λ member e. let same : c.args.number ≡ member = cc in omega (arith, c.requires.number);
}

pub loop-seen-preserved : Rattle.sim_merge.proofs.chains.put_members.Goals.loop-seen-preserved
loop-seen-preserved c =
    let parents = c.args.parents.now in
    let chain = c.loop-seen.chain.items in
    let member = c.in-Some.member in
    let seen = c.loop-seen.seen in
    let rest = chain_from parents (17 - (seen + 1)) (get_or parents member None) in
    record {
      chain = ap (λ xs. xs ++ rest) c.in_ok-push.ensures.items
          ∙ append_assoc chain (member ∷ []) rest
          ∙ ap (λ xs. chain ++ xs) (sym (chain_from-next parents seen member c.loop-seen-test.true))
          ∙ ap (λ o. chain ++ chain_from parents (17 - seen) o) (sym c.in-Some.is)
          ∙ c.loop-seen.invariant.chain;
      within = λ parent e. c.requires.within.within member parent e;
    }
