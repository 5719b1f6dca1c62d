-- Other words than three and five are those of no talk.
use Rattle.{sim_edge.specs.Words.talk_by, sim_top.specs.Words.words_of, std.specs.Prelude.String, std.specs.declared.alloc.Global.Global}
use Rattle.std.proofs.{Common.[], Common.arith, Common.length, Common.List, Common.None, Common.refl, Common.◌∷◌, Common.◌≡◌, lemmas.Bool.Decides.nat_tests}

other_words : (words : List (String Global)) → (length words ≡ 3 → ⊥) → (length words ≡ 5 → ⊥) → None ≡ talk_by (words_of words)
other_words [] three five = refl
other_words (a ∷ []) three five = refl
other_words (a ∷ b ∷ []) three five = refl
other_words (a ∷ b ∷ c ∷ []) three five = absurd (three refl)
other_words (a ∷ b ∷ c ∷ d ∷ []) three five = refl
other_words (a ∷ b ∷ c ∷ d ∷ e ∷ []) three five = absurd (five refl)
other_words (a ∷ b ∷ c ∷ d ∷ e ∷ f ∷ more) three five = refl

pub returns-clause-asked : Rattle.sim_edge.proofs.asking.asked_of.Goals.returns-clause-asked
returns-clause-asked c =
    let five : length c.args.words.now ≡ 5 → ⊥ = grind (arith, nat_tests) in
    let three : length c.args.words.now ≡ 3 → ⊥ = grind (arith, nat_tests) in
    other_words c.args.words.now three five
