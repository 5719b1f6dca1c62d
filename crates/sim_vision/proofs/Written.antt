-- A row of a fog, asked for and written: the cells of its spans, and the list that a slice is written back to.
use Rattle.sim_vision.proofs.{Common.take-append_seam, Common.◌∙◌, Places.at_there, Places.row_test, Turning.turned_row}
use Rattle.sim_vision.proofs.Common.{flag_in, is_in_row, is_in_span, is_near, is_watched, IsAt, IsOwnedBy, IsRowTurned, IsTurnedAt, Span, start_of, subst, sym}
use Rattle.sim_vision.proofs.Common.{◌≡◌, ℕ, ◌<◌, ◌≤◌, Bool, true, false, List, ◌++◌, length, get_or, take, drop, refl, ap, Cell, count_in, Crossing, Extent}

pub written_back : {X : Type 0} (xs ys : List X) (n : ℕ) → length xs ≡ n → take n (xs ++ drop (length xs) ys) ≡ xs
written_back xs ys n e = ap (λ (m : ℕ). take m (xs ++ drop (length xs) ys)) (sym e) ∙ take-append_seam xs (drop (length xs) ys)

-- the spans of both marks of a crossing in a row of their owner
pub record AreSpans (extent : Extent) (reaches : List ℕ) (crossing : Crossing) (owner z : ℕ) (old new : Span) : Type 0 where
  pub old_cells : (x : ℕ) → x < extent.size.width → is_in_span old x ≡ is_near reaches crossing.old (record { x = x; z = z })
  pub new_cells : (x : ℕ) → x < extent.size.width → is_in_span new x ≡ is_near reaches crossing.new (record { x = x; z = z })
  pub old_inside : old.to ≤ extent.size.width
  pub new_inside : new.to ≤ extent.size.width
  pub owned : IsOwnedBy crossing owner
  pub first : 1 ≤ owner
  pub last : owner ≤ extent.players
  pub row : z < extent.size.depth

module _ (extent : Extent) (reaches : List ℕ) (crossing : Crossing) (owner z start : ℕ) (old new : Span)
    (spans : AreSpans extent reaches crossing owner z old new) (starts : start ≡ start_of extent.size owner z) where
  pub counted : (counts lent : List ℕ) → lent ≡ counts → ((player : ℕ) (c : Cell) → IsAt extent player c → c.z ≡ z →
      is_watched reaches player c crossing.old ≡ true → 0 < count_in extent counts player c) →
      (k : ℕ) → is_in_row start old k ≡ true → 0 < get_or lent k 0
  counted counts lent same can k h =
      let there = at_there extent reaches owner z crossing.old old spans.old_cells spans.old_inside spans.owned.old spans.first spans.last spans.row k
      (subst (λ (s : ℕ). is_in_row s old k ≡ true) starts h) in
      subst (λ (xs : List ℕ). 0 < get_or xs k 0) (sym same) (subst (λ (n : ℕ). 0 < get_or counts n 0) there.1 (can owner _ there.0 refl there.2))

  pub room : (counts lent : List ℕ) → lent ≡ counts → ((player : ℕ) (c : Cell) → IsAt extent player c → c.z ≡ z →
      is_watched reaches player c crossing.new ≡ true → count_in extent counts player c < 65535) →
      (k : ℕ) → is_in_row start new k ≡ true → get_or lent k 0 < 65535
  room counts lent same can k h =
      let there = at_there extent reaches owner z crossing.new new spans.new_cells spans.new_inside spans.owned.new spans.first spans.last spans.row k
      (subst (λ (s : ℕ). is_in_row s new k ≡ true) starts h) in
      subst (λ (xs : List ℕ). get_or xs k 0 < 65535) (sym same) (subst (λ (n : ℕ). get_or counts n 0 < 65535) there.1 (can owner _ there.0 refl there.2))

  pub seen : (flags lent : List Bool) → lent ≡ flags → ((player : ℕ) (c : Cell) → IsAt extent player c → c.z ≡ z →
      is_watched reaches player c crossing.old ≡ true → flag_in extent flags player c ≡ true) →
      (k : ℕ) → is_in_row start old k ≡ true → get_or lent k false ≡ true
  seen flags lent same can k h =
      let there = at_there extent reaches owner z crossing.old old spans.old_cells spans.old_inside spans.owned.old spans.first spans.last spans.row k
      (subst (λ (s : ℕ). is_in_row s old k ≡ true) starts h) in
      subst (λ (xs : List Bool). get_or xs k false ≡ true) (sym same) (subst (λ (n : ℕ). get_or flags n false ≡ true) there.1
      (can owner _ there.0 refl there.2))

  pub turned : (counts counts' lent : List ℕ) (flags flags' lent' : List Bool) → lent ≡ counts → lent' ≡ flags →
      IsRowTurned start old new lent counts' lent' flags' → IsTurnedAt extent reaches crossing z counts counts' flags flags'
  turned counts counts' lent flags flags' lent' same same' is =
      turned_row extent reaches crossing owner z old new counts counts' flags flags'
      (row_test extent reaches owner z crossing.old old spans.old_cells spans.old_inside spans.owned.old spans.first spans.last spans.row)
      (row_test extent reaches owner z crossing.new new spans.new_cells spans.new_inside spans.owned.new spans.first spans.last spans.row)
      (subst (λ (s : ℕ). IsRowTurned s old new counts counts' flags flags') starts
      (subst (λ (xs : List Bool). IsRowTurned start old new counts counts' xs flags') same'
      (subst (λ (xs : List ℕ). IsRowTurned start old new xs counts' lent' flags') same is)))

pub same_turned : (extent : Extent) (reaches : List ℕ) (crossing : Crossing) (z : ℕ) (counts xs ys : List ℕ) (flags bs cs : List Bool) → xs ≡ ys → bs ≡ cs →
    IsTurnedAt extent reaches crossing z counts ys flags cs → IsTurnedAt extent reaches crossing z counts xs flags bs
same_turned extent reaches crossing z counts xs ys flags bs cs e f is =
    subst (λ (v : List Bool). IsTurnedAt extent reaches crossing z counts xs flags v) (sym f)
    (subst (λ (v : List ℕ). IsTurnedAt extent reaches crossing z counts v flags cs) (sym e) is)
