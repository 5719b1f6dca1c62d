-- Worked trials, computed from the definitions.
use Rattle.sim_trial.proofs.Common.{◌≡◌, [], ◌∷◌, map, length, codes, refl, commands_text, digits, groups_of, ids_of, soldiers_text, word_after}

words : map (word_after 7) (1 ∷ 2 ∷ []) ≡ 176504327430 ∷ 33146457173913 ∷ []
words = refl

-- one soldier and no turn
one_soldier : soldiers_text 7 1 ≡ codes "[\"soldier\",1,29,103]"
unfolding digits
one_soldier = refl

two_soldiers : soldiers_text 7 2 ≡ codes "[\"soldier\",1,29,103],[\"soldier\",2,108,125]"
unfolding digits
two_soldiers = refl

both_walk : commands_text 2 1 ≡ codes "[1,1,\"walk\",[2],64,64],[1,2,\"walk\",[3],64,64]"
unfolding digits
both_walk = refl

no_turn : commands_text 2 0 ≡ []
no_turn = refl

-- 256 ids are one group, and one more begins another
groups_of_513 : map length (groups_of (ids_of 1 513)) ≡ 256 ∷ 1 ∷ []
groups_of_513 = refl

groups_of_512 : map length (groups_of (ids_of 1 512)) ≡ 256 ∷ []
groups_of_512 = refl
