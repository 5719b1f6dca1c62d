-- One cell more of a row, and one row more of a ground.
use Rattle.sim_ground.proofs.Common.{Cell, filter-append, flat_map-append, fold-append, map-append, range_with_len, row_of, rows_of, sym, ◌∙◌}
use Rattle.sim_ground.proofs.Common.{◌≡◌, ℕ, ◌+◌, Bool, true, false, cond, List, [], ◌∷◌, ◌++◌, map, fold, filter, flat_map, ap, append-nil, arith}
use Rattle.sim_base.proofs.Lists.{range_with_len_more}

pub row-more : (z n : ℕ) → row_of z (n + 1) ≡ row_of z n ++ record { x = n; z = z } ∷ []
row-more z n = ap (map (λ (x : ℕ). record { x = x; z = z })) (range_with_len_more 0 n ∙ ap (λ (k : ℕ). range_with_len 0 n ++ k ∷ []) (same n)) ∙
    map-append (λ (x : ℕ). record { x = x; z = z }) (range_with_len 0 n) (n ∷ [])
  where
    same : (n : ℕ) → 0 + n ≡ n
    same n = omega arith

pub rows-more : (width n : ℕ) → rows_of width (n + 1) ≡ rows_of width n ++ row_of n width
rows-more width n =
    ap (flat_map (λ (z : ℕ). row_of z width)) (range_with_len_more 0 n ∙ ap (λ (k : ℕ). range_with_len 0 n ++ k ∷ []) (same n)) ∙
    flat_map-append (λ (z : ℕ). row_of z width) (range_with_len 0 n) (n ∷ [])
    ∙ ap (λ (cs : List Cell). rows_of width n ++ cs) (append-nil (row_of n width))
  where
    same : (n : ℕ) → 0 + n ≡ n
    same n = omega arith

-- ---- folded

module _ {B : Type 0} (step : B → Cell → B) (test : Cell → Bool) where
  pub fold-more_row : (width n : ℕ) (start best after : B) → best ≡ fold step start (filter test (rows_of width n))
      → after ≡ fold step best (filter test (row_of n width)) → after ≡ fold step start (filter test (rows_of width (n + 1)))
  fold-more_row width n start best after is now =
      now ∙ ap (λ (b : B). fold step b (filter test (row_of n width))) is ∙
      sym (fold-append step start (filter test (rows_of width n)) (filter test (row_of n width)))
      ∙ ap (fold step start) (sym (filter-append test (rows_of width n) (row_of n width)) ∙ ap (filter test) (sym (rows-more width n)))

  fold-cell : (z n : ℕ) (start : B) → fold step start (filter test (row_of z (n + 1))) ≡ fold step (fold step start (filter test (row_of z n)))
      (filter test (record { x = n; z = z } ∷ []))
  fold-cell z n start =
      ap (fold step start) (ap (filter test) (row-more z n) ∙ filter-append test (row_of z n) (record { x = n; z = z } ∷ [])) ∙
      fold-append step start (filter test (row_of z n)) (filter test (record { x = n; z = z } ∷ []))

  pub fold-more_cell : (z n : ℕ) (start best after : B) → best ≡ fold step start (filter test (row_of z n)) → test (record { x = n; z = z }) ≡ true
      → after ≡ step best (record { x = n; z = z }) → after ≡ fold step start (filter test (row_of z (n + 1)))
  fold-more_cell z n start best after is passes now =
      now ∙ ap (λ (b : B). step b (record { x = n; z = z })) is ∙
      ap (λ (t : Bool). fold step (fold step start (filter test (row_of z n))) (cond t (record { x = n; z = z } ∷ []) [])) (sym passes) ∙
      sym (fold-cell z n start)

  pub fold-past_cell : (z n : ℕ) (start best : B) → best ≡ fold step start (filter test (row_of z n)) → test (record { x = n; z = z }) ≡ false
      → best ≡ fold step start (filter test (row_of z (n + 1)))
  fold-past_cell z n start best is fails =
      is ∙ ap (λ (t : Bool). fold step (fold step start (filter test (row_of z n))) (cond t (record { x = n; z = z } ∷ []) [])) (sym fails) ∙
      sym (fold-cell z n start)
