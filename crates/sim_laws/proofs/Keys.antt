-- Lists of numbers as keys: of two keys neither of which comes first, the two are one, and one that does not come first has no lesser first number.
use Rattle.sim_laws.proofs.Common.{ap, false, is_before, List, nat_list_cmp_total, refl, sym, true, true≢false, ℕ, ◌∙◌, ◌∷◌, ◌≡◌, ◌≤◌}
use Rattle.std.proofs.{Common.{Equal, Greater, Less, Ordering}, lemmas.Map.Keys.ge_from_not_lt}
use Rattle.std.specs.{Cmp.Lexicographic.{same_text, slice_cmp, texts_ties}, Ordering.{is_eq, is_lt, nat_cmp, ordering_reverse, ordering_then}}

neither : (o : Ordering) → is_lt o ≡ false → is_lt (ordering_reverse o) ≡ false → is_eq o ≡ true
neither Less f g = absurd (true≢false f)
neither Equal f g = refl
neither Greater f g = absurd (true≢false g)

pub same_key : (x y : List ℕ) → is_before x y ≡ false → is_before y x ≡ false → x ≡ y
same_key x y f g =
    let back = nat_list_cmp_total.antisymm y x in
    let tied = neither (slice_cmp nat_cmp x y) f (ap is_lt (sym back) ∙ g) in
    same_text x y (sym (texts_ties x y ∙ tied))

not_less_first : (o rest : Ordering) → is_lt (ordering_then o rest) ≡ false → is_lt o ≡ false
not_less_first Less rest e = absurd (true≢false e)
not_less_first Equal rest e = refl
not_less_first Greater rest e = refl

-- a key that does not come before another has no lesser first number
pub first_of_not_before : (a b : ℕ) (x y : List ℕ) → is_before (a ∷ x) (b ∷ y) ≡ false → b ≤ a
first_of_not_before a b x y e = ge_from_not_lt a b (not_less_first (nat_cmp a b) (slice_cmp nat_cmp x y) e)
