use Rattle.sim_merge.proofs.{Common.{AreWithin, List, Option, origins_of, parents_in, subst, sym, ℕ, ◌∙◌, ◌≡◌}, KeepingLemmas.AreWithin-parents_in}

pub check_chains-requires-clause-within : Rattle.sim_merge.proofs.library.Library.resolve.Goals.check_chains-requires-clause-within
check_chains-requires-clause-within c =
    let same : c.as_slice.result.now ≡ parents_in (origins_of c.args.sources.now) = c.as_slice.ensures.value ∙ c.in_ok-parents.ensures.parents in
    let P : List (Option ℕ) → Type 0 = λ parents. AreWithin parents in
    subst P (sym same) (AreWithin-parents_in (origins_of c.args.sources.now))
