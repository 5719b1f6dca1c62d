-- Words with single spaces between them.
use Rattle.sim_merge.proofs.Common.{arith, join_with_byte, length-take-le, nat_tests, sym, take_more, ◌∙◌}
use Rattle.sim_merge.proofs.Common.{◌≡◌, ℕ, zero, suc, ◌+◌, ◌<◌, false, List, [], ◌∷◌, ◌++◌, length, get_or, take, if◌then◌else◌, ◌==◌, refl, ap, append_assoc}

-- a word behind at least one other
joined-behind : (x : List ℕ) (xs : List (List ℕ)) (w : List ℕ) → join_with_byte 0x20 ((x ∷ xs) ++ w ∷ []) ≡ join_with_byte 0x20 (x ∷ xs) ++ (0x20 ∷ w)
joined-behind x [] w = refl
joined-behind x (y ∷ xs) w = ap (λ text. x ++ (0x20 ∷ text)) (joined-behind y xs w) ∙ sym (append_assoc x (0x20 ∷ join_with_byte 0x20 (y ∷ xs)) (0x20 ∷ w))

joined-last : (xs : List (List ℕ)) (w : List ℕ) → 0 < length xs → join_with_byte 0x20 (xs ++ w ∷ []) ≡ join_with_byte 0x20 xs ++ (0x20 ∷ w)
joined-last [] w some = absurd (omega arith)
joined-last (x ∷ xs) w some = joined-behind x xs w

-- one word more
pub joined-next : (words : List (List ℕ)) (place : ℕ) (w : List ℕ) → place < length words → w ≡ get_or words place w →
    join_with_byte 0x20 (take (place + 1) words) ≡ join_with_byte 0x20 (take place words) ++ (if place == 0 then w else 0x20 ∷ w)
joined-next words zero w within is = ap (join_with_byte 0x20) (take_more words 0 w within) ∙ sym is
joined-next words (suc place) w within is =
    let later : (suc place == 0) ≡ false = grind (arith, nat_tests) in
    ap (join_with_byte 0x20) (take_more words (suc place) w within ∙ ap (λ v. take (suc place) words ++ v ∷ []) (sym is))
    ∙ joined-last (take (suc place) words) w (omega (arith, length-take-le {A = List ℕ}))
    ∙ ap (λ b. join_with_byte 0x20 (take (suc place) words) ++ (if b then w else 0x20 ∷ w)) (sym later)
