-- Points that stand one behind the other, each in eight bytes.
use Rattle.sim_base.specs.{declared.{place.Point.Point, state.Motion.TheVariants.Going}, Spelling.{flag_bytes, motion_bytes, point_bytes}}
use Rattle.{sim_bytes.specs.{Rows.{front_at, point_at, point_in, points_at}, Telling.Tells}, std.proofs.Common.{ap, append_assoc, arith, Bool, cond, drop, Err}}
use Rattle.std.proofs.Common.{false, length, List, ltb, map, None, Ok, OnOk, refl, Result, Some, subst, suc, sym, take, true, zero, ℕ, [], ◌*◌, ◌++◌, ◌+◌, ◌<◌}
use Rattle.std.proofs.{Common.{◌∙◌, ◌∷◌, ◌≡◌, ◌≤◌}, lemmas.{Bool.{le-ltb, lt-ltb, ltb-false, ltb-true}, List.Concat.flat_map-append}}
use Rattle.std.{proofs.lemmas.List.{drop-drop, drop-take, length-append, length-drop, length-map}, specs.{List.flat_map, Simd.first_chunks}}

take-take : (k m : ℕ) (xs : List ℕ) → k ≤ m → take k (take m xs) ≡ take k xs
take-take zero m xs le = refl
take-take (suc k) zero xs le = absurd (omega arith)
take-take (suc k) (suc m) [] le = refl
take-take (suc k) (suc m) (x ∷ xs) le = ap (λ (ys : List ℕ). x ∷ ys) (take-take k m xs (omega (arith, le)))

length_taken : (n : ℕ) (xs : List ℕ) → n ≤ length xs → length (take n xs) ≡ n
length_taken zero xs le = refl
length_taken (suc n) [] le = absurd (omega (arith, le))
length_taken (suc n) (x ∷ xs) le = ap suc (length_taken n xs (omega (arith, le)))

pub length_chunks : (n k : ℕ) (xs : List ℕ) → length (first_chunks n k xs) ≡ k
length_chunks n zero xs = refl
length_chunks n (suc k) xs = ap suc (length_chunks n k (drop n xs))

-- so many bytes are taken from the front
pub record IsFront (n : ℕ) (xs front after : List ℕ) : Type 0 where
  pub long : n ≤ length xs
  pub front_is : front ≡ take n xs
  pub behind : after ≡ drop n xs
  pub size : length front ≡ n

pub front_read : (n : ℕ) (xs front after : List ℕ) → front_at n xs ≡ Some (front, after) → IsFront n xs front after
front_read n xs front after read = by (ltb (length xs) n) refl
  where
    value : List ℕ × List ℕ
    value = (take n xs, drop n xs)

    same : (x y : List ℕ × List ℕ) → Some x ≡ Some y → x ≡ y
    same x y e = cc

    by : (b : Bool) → ltb (length xs) n ≡ b → IsFront n xs front after
    by true short = absurd (let f : cond true None (Some value) ≡ Some (front, after) = ap (λ b. cond b None (Some value)) (sym short) ∙ read in cc)
    by false enough =
        let long : n ≤ length xs = ltb-false (length xs) n enough in
        let is : value ≡ (front, after) = same value (front, after) (ap (λ b. cond b None (Some value)) (sym enough) ∙ read) in
        record {
          long = long;
          front_is = sym (ap (λ (x : List ℕ × List ℕ). x.0) is);
          behind = sym (ap (λ (x : List ℕ × List ℕ). x.1) is);
          size = ap (λ (x : List ℕ × List ℕ). length x.0) (sym is) ∙ length_taken n xs long;
        }

pub no_front_read : (n : ℕ) (xs : List ℕ) → front_at n xs ≡ None → length xs < n
no_front_read n xs read = by (ltb (length xs) n) refl
  where
    value : List ℕ × List ℕ
    value = (take n xs, drop n xs)

    by : (b : Bool) → ltb (length xs) n ≡ b → length xs < n
    by true short = ltb-true (length xs) n short
    by false enough = absurd (let f : cond false None (Some value) ≡ None = ap (λ b. cond b None (Some value)) (sym enough) ∙ read in cc)

-- a point is read of eight bytes
point_read : (xs : List ℕ) → 8 ≤ length xs → point_at xs ≡ Some (point_in (take 8 xs), drop 8 xs)
unfolding point_at
point_read xs long =
    let first : ltb (length xs) 4 ≡ false = le-ltb _ _ (omega (arith, long)) in
    let second : ltb (length (drop 4 xs)) 4 ≡ false = le-ltb _ _ (omega (arith, long, length-drop 4 xs)) in
    let x : take 4 (take 8 xs) ≡ take 4 xs = take-take 4 8 xs (omega arith) in
    let z : take 4 (drop 4 (take 8 xs)) ≡ take 4 (drop 4 xs) = ap (take 4) (drop-take 4 4 xs) ∙ take-take 4 4 (drop 4 xs) (omega arith) in
    rw (first, second, x, z, drop-drop 4 4 xs) refl

no_point_read : (xs : List ℕ) → length xs < 8 → point_at xs ≡ None
unfolding point_at
no_point_read xs short = by (ltb (length xs) 4) refl
  where
    by : (b : Bool) → ltb (length xs) 4 ≡ b → point_at xs ≡ None
    by true h = rw h refl
    by false h =
        let long : 4 ≤ length xs = ltb-false (length xs) 4 h in
        let second : ltb (length (drop 4 xs)) 4 ≡ true = lt-ltb _ _ (omega (arith, short, long, length-drop 4 xs)) in
        rw (h, second) refl

-- so many points are read of eight times so many bytes
pub points_read : (n : ℕ) (xs : List ℕ) → n * 8 ≤ length xs → points_at n xs ≡ Some (map point_in (first_chunks 8 n (take (n * 8) xs)), drop (n * 8) xs)
unfolding points_at
points_read zero xs long = refl
points_read (suc n) xs long =
    let first = point_read xs (omega (arith, long)) in
    let others = points_read n (drop 8 xs) (omega (arith, long, length-drop 8 xs)) in
    let size : suc n * 8 ≡ 8 + n * 8 = omega arith in
    let front : take 8 (take (8 + n * 8) xs) ≡ take 8 xs = take-take 8 (8 + n * 8) xs (omega arith) in
    let behind : drop 8 (take (8 + n * 8) xs) ≡ take (n * 8) (drop 8 xs) = drop-take 8 (n * 8) xs in
    let rest : drop (n * 8) (drop 8 xs) ≡ drop (8 + n * 8) xs = drop-drop (n * 8) 8 xs in
    rw (size, first, others, front, behind, rest) refl

pub no_points_read : (n : ℕ) (xs : List ℕ) → length xs < n * 8 → points_at n xs ≡ None
unfolding points_at
no_points_read zero xs short = absurd (omega (arith, short))
no_points_read (suc n) xs short = by (ltb (length xs) 8) refl (no_points_read n (drop 8 xs))
  where
    by : (b : Bool) → ltb (length xs) 8 ≡ b → (length (drop 8 xs) < n * 8 → points_at n (drop 8 xs) ≡ None) → points_at (suc n) xs ≡ None
    by true h others = rw (no_point_read xs (ltb-true (length xs) 8 h)) refl
    by false h others =
        let long : 8 ≤ length xs = ltb-false (length xs) 8 h in
        rw (point_read xs long, others (omega (arith, short, long, length-drop 8 xs))) refl

-- a piece before what a last call tells
pub first : {K E : Type 0} (holds : K → List ℕ → List ℕ → Type 0) (a b c : K) (x y : List ℕ) (r : Result (Unit {0}) E) → Tells holds a b x
    → OnOk r (Tells holds b c y) → OnOk r (Tells holds a c (x ++ y))
first holds a b c x y (Ok done) p q = λ about told h. subst (holds c about) (append_assoc told x y) (q about (told ++ x) (p about told h))
first holds a b c x y (Err fault) p q = tt

-- the pieces of a motion are its bytes
pub motion_pieces : (goal : Point) (whole : Bool) (points : List Point) (stored : List (List ℕ))
    → (1 ∷ []) ++ (point_bytes goal ++ (flag_bytes whole ++
    (((length points + length stored) ∷ []) ++ (flat_map point_bytes points ++ flat_map point_bytes (map point_in stored)))))
    ≡ motion_bytes (Going goal (points ++ map point_in stored) whole)
motion_pieces goal whole points stored =
    rw (length-append points (map point_in stored), length-map stored point_in, flat_map-append point_bytes points (map point_in stored)) refl
