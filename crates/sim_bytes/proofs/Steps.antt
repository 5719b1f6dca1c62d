-- Steps of the loops over rows.
use Rattle.{sim_bytes.specs.{Reading.Reader, Walking.skipped}, std.proofs.Common.{append_assoc, arith, false, get_or, length, List, None, Option, refl, Some}}
use Rattle.std.proofs.{Common.{suc, sym, take, true, ℕ, [], ◌++◌, ◌+◌, ◌-◌, ◌<◌, ◌∙◌, ◌∷◌, ◌≡◌, ◌≤◌}, lemmas.List.{append-nil, Concat.flat_map-append}}
use Rattle.std.{proofs.lemmas.List.{Elements.filter_map-append, length-append, take_more}, specs.{List.{cons_option, filter_map, flat_map}, Prelude.is_some}}

pub filter_map_more : {X Y : Type 0} (h : X → Option Y) (xs : List X) (i : ℕ) (x : X) (o : Option Y) → i < length xs → x ≡ get_or xs i x → o ≡ h x
    → filter_map h (take (i + 1) xs) ≡ filter_map h (take i xs) ++ cons_option o []
filter_map_more h xs i x o lt is o-is =
    rw (take_more xs i x lt, ← is, filter_map-append h (take i xs) (x ∷ []), ← o-is) refl

pub count_some : {X Y : Type 0} (h : X → Option Y) (xs : List X) (i n : ℕ) (x : X) → i < length xs → x ≡ get_or xs i x → true ≡ is_some (h x)
    → n ≡ length (filter_map h (take i xs))
    → n + 1 ≡ length (filter_map h (take (i + 1) xs))
count_some {Y = Y} h xs i n x lt is there so_far = by (h x) refl there
  where
    by : (o : Option Y) → o ≡ h x → true ≡ is_some o → n + 1 ≡ length (filter_map h (take (i + 1) xs))
    by (Some y) o-is there = rw (filter_map_more h xs i x (Some y) lt is o-is) (omega (arith, so_far, length-append (filter_map h (take i xs)) (y ∷ [])))
    by None o-is there = absurd cc

pub count_none : {X Y : Type 0} (h : X → Option Y) (xs : List X) (i n : ℕ) (x : X) → i < length xs → x ≡ get_or xs i x → false ≡ is_some (h x)
    → n ≡ length (filter_map h (take i xs))
    → n ≡ length (filter_map h (take (i + 1) xs))
count_none {Y = Y} h xs i n x lt is there so_far = by (h x) refl there
  where
    by : (o : Option Y) → o ≡ h x → false ≡ is_some o → n ≡ length (filter_map h (take (i + 1) xs))
    by None o-is there = rw (filter_map_more h xs i x None lt is o-is, append-nil (filter_map h (take i xs))) so_far
    by (Some y) o-is there = absurd cc

pub bytes_some : {X Y : Type 0} (spelled : Y → List ℕ) (h : X → Option Y) (xs : List X) (i : ℕ) (x : X) (y : Y) (told : List ℕ) → i < length xs
    → x ≡ get_or xs i x → Some y ≡ h x
    → (told ++ flat_map spelled (filter_map h (take i xs))) ++ spelled y ≡ told ++ flat_map spelled (filter_map h (take (i + 1) xs))
bytes_some spelled h xs i x y told lt is o-is =
    rw (filter_map_more h xs i x (Some y) lt is o-is, flat_map-append spelled (filter_map h (take i xs)) (y ∷ []), append-nil (spelled y))
    (append_assoc told (flat_map spelled (filter_map h (take i xs))) (spelled y))

pub bytes_none : {X Y : Type 0} (spelled : Y → List ℕ) (h : X → Option Y) (xs : List X) (i : ℕ) (x : X) (told : List ℕ) → i < length xs → x ≡ get_or xs i x
    → None ≡ h x
    → told ++ flat_map spelled (filter_map h (take i xs)) ≡ told ++ flat_map spelled (filter_map h (take (i + 1) xs))
bytes_none spelled h xs i x told lt is o-is = rw (filter_map_more h xs i x None lt is o-is, append-nil (filter_map h (take i xs))) refl

-- passing over one row more
pub skip_on : {X : Type 0} (at : Reader X) (count i : ℕ) (bytes after : List ℕ) (x : X) (total : Option (List ℕ)) → i < count → at bytes ≡ Some (x, after)
    → skipped at (count - i) bytes ≡ total → skipped at (count - (i + 1)) after ≡ total
unfolding skipped
skip_on at count i bytes after x total lt h so_far =
    let k : count - i ≡ suc (count - (i + 1)) = omega arith in
    let one : skipped at (count - i) bytes ≡ skipped at (count - (i + 1)) after = rw (k, h) refl in
    sym one ∙ so_far

pub skip_ends : {X : Type 0} (at : Reader X) (count i : ℕ) (bytes : List ℕ) (total : Option (List ℕ)) → i < count → at bytes ≡ None
    → skipped at (count - i) bytes ≡ total → total ≡ None
unfolding skipped
skip_ends at count i bytes total lt h so_far =
    let k : count - i ≡ suc (count - (i + 1)) = omega arith in
    let one : skipped at (count - i) bytes ≡ None = rw (k, h) refl in
    sym so_far ∙ one

pub skip_done : {X : Type 0} (at : Reader X) (count i : ℕ) (bytes : List ℕ) (total : Option (List ℕ)) → count ≤ i → skipped at (count - i) bytes ≡ total
    → total ≡ Some bytes
unfolding skipped
skip_done at count i bytes total le so_far =
    let k : count - i ≡ 0 = omega arith in
    let one : skipped at (count - i) bytes ≡ Some bytes = rw k refl in
    sym so_far ∙ one
