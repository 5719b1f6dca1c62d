-- What is remembered stays right when more cells are added behind those of all ways, and the new way is right too.
use Rattle.sim_path.proofs.Common.{All, All-get_or, All-replicate, All-weaker, ap, arith, Bool, Cell, cond, false, field_of_grid, get_or, length, length-append}
use Rattle.sim_path.proofs.Common.{List, None, Option, set, Some, subst, sym, take, take_all, true, ℕ, ◌++◌, ◌-◌, ◌<◌, ◌∙◌, ◌≡◌, ◌≤◌}
use Rattle.std.proofs.{Common.IfSome, Common.drop, Common.length-drop, Common.replicate, Math.Logic.∥∥₁_elim, Math.Logic.∥∥₁_prop, Math.Seq.drop-append_seam}
use Rattle.{sim_grid.specs.Grids.OpenCells, sim_path.specs.Questions.AreFirst, sim_path.specs.Questions.IsRight, std.proofs.lemmas.List.take-append-le}
use Rattle.{sim_path.specs.declared.remembered.KeptWay.KeptWay, std.proofs.lemmas.List.Elements.All-set, std.proofs.lemmas.List.drop-append-le}

part_stays : (cells more : List Cell) (begin end : ℕ) → begin ≤ end → end ≤ length cells
    → take (end - begin) (drop begin (cells ++ more)) ≡ take (end - begin) (drop begin cells)
part_stays cells more begin end order within =
    ap (take (end - begin)) (drop-append-le begin cells more (omega (arith, order, within))) ∙
    take-append-le (end - begin) (drop begin cells) more (omega (arith, order, within, length-drop begin cells))

stays : (g : OpenCells) (cells more : List Cell) (kept : KeptWay) → IsRight g cells kept → IsRight g (cells ++ more) kept
stays g cells more kept h = record {
  order = h.order;
  within = omega (arith, h.within, length-append cells more);
  right = subst (λ (part : List Cell). AreFirst (field_of_grid g) kept.from kept.to part kept.whole)
      (sym (part_stays cells more kept.begin kept.end h.order h.within)) h.right;
}

each_stays : (g : OpenCells) (cells more : List Cell) (o : Option KeptWay) → IfSome o (IsRight g cells) → IfSome o (IsRight g (cells ++ more))
each_stays g cells more None h = tt
each_stays g cells more (Some kept) h = stays g cells more kept h

new_part : (cells more : List Cell) (begin end : ℕ) → begin ≡ length cells → end ≡ length (cells ++ more)
    → take (end - begin) (drop begin (cells ++ more)) ≡ more
new_part cells more begin end b e =
    ap (λ (n : ℕ). take (end - begin) (drop n (cells ++ more))) b ∙ ap (take (end - begin)) (drop-append_seam cells more) ∙
    take_all (end - begin) more (omega (arith, b, e, length-append cells more))

new_right : (g : OpenCells) (cells more : List Cell) (kept : KeptWay) → kept.begin ≡ length cells → kept.end ≡ length (cells ++ more)
    → AreFirst (field_of_grid g) kept.from kept.to more kept.whole → IsRight g (cells ++ more) kept
new_right g cells more kept b e h = record {
  order = omega (arith, b, e, length-append cells more);
  within = omega (arith, e);
  right = subst (λ (part : List Cell). AreFirst (field_of_grid g) kept.from kept.to part kept.whole)
      (sym (new_part cells more kept.begin kept.end b e)) h;
}

all_stay : (g : OpenCells) (cells more : List Cell) (places : List (Option KeptWay)) → All (λ o. IfSome o (IsRight g cells)) places
    → All (λ o. IfSome o (IsRight g (cells ++ more))) places
all_stay g cells more places h =
    All-weaker (λ o. IfSome o (IsRight g cells)) (λ o. IfSome o (IsRight g (cells ++ more))) (each_stays g cells more) places h

-- all are right after cells were added, or none
pub stay_right : (g : OpenCells) (cells more after : List Cell) (places : List (Option KeptWay)) (b : Bool) → after ≡ cond b (cells ++ more) cells
    → ∥ All (λ o. IfSome o (IsRight g cells)) places ∥₁ → ∥ All (λ o. IfSome o (IsRight g after)) places ∥₁
stay_right g cells more after places true e known =
    ∥∥₁_elim known ∥∥₁_prop (λ h. ∣ subst (λ (v : List Cell). All (λ o. IfSome o (IsRight g v)) places) (sym e) (all_stay g cells more places h) ∣₁)
stay_right g cells more after places false e known =
    ∥∥₁_elim known ∥∥₁_prop (λ h. ∣ subst (λ (v : List Cell). All (λ o. IfSome o (IsRight g v)) places) (sym e) h ∣₁)

-- all are right after a way has a place
all_with : (g : OpenCells) (cells more : List Cell) (places : List (Option KeptWay)) (place : ℕ) (kept : KeptWay)
    → All (λ o. IfSome o (IsRight g cells)) places → kept.begin ≡ length cells → kept.end ≡ length (cells ++ more)
    → AreFirst (field_of_grid g) kept.from kept.to more kept.whole → All (λ o. IfSome o (IsRight g (cells ++ more))) (set places place (Some kept))
all_with g cells more places place kept h b e right =
    All-set (λ o. IfSome o (IsRight g (cells ++ more))) places place (Some kept) (new_right g cells more kept b e right)
    (all_stay g cells more places h)

pub with_right : (g : OpenCells) (cells more after : List Cell) (places : List (Option KeptWay)) (place : ℕ) (kept : KeptWay) → after ≡ cells ++ more
    → ∥ All (λ o. IfSome o (IsRight g cells)) places ∥₁ → kept.begin ≡ length cells → kept.end ≡ length after
    → ∥ AreFirst (field_of_grid g) kept.from kept.to more kept.whole ∥₁ → ∥ All (λ o. IfSome o (IsRight g after)) (set places place (Some kept)) ∥₁
with_right g cells more after places place kept a known b e right =
    ∥∥₁_elim known ∥∥₁_prop (λ h. ∥∥₁_elim right ∥∥₁_prop (λ r.
    ∣ subst (λ (v : List Cell). All (λ o. IfSome o (IsRight g v)) (set places place (Some kept))) (sym a)
    (all_with g cells more places place kept h b (e ∙ ap length a) r) ∣₁))

-- what stands at a place is right
pub at_right : (g h : OpenCells) (cells : List Cell) (places : List (Option KeptWay)) (place : ℕ) (kept : KeptWay) (from to : Cell)
    → ∥ All (λ o. IfSome o (IsRight g cells)) places ∥₁ → place < length places → get_or places place None ≡ Some kept → g ≡ h → kept.from ≡ from → kept.to ≡ to
    → ∥ AreFirst (field_of_grid h) from to (take (kept.end - kept.begin) (drop kept.begin cells)) kept.whole ∥₁
at_right g h cells places place kept from to known lt is same f t =
    ∥∥₁_elim known ∥∥₁_prop (λ all.
    let there : IfSome (get_or places place None) (IsRight g cells) = All-get_or (λ o. IfSome o (IsRight g cells)) places place None lt all in
    let right : IsRight g cells kept = subst (λ (o : Option KeptWay). IfSome o (IsRight g cells)) is there in
    ∣ subst (λ (v : OpenCells). AreFirst (field_of_grid v) from to part kept.whole) same
    (subst (λ (v : Cell). AreFirst (field_of_grid g) from v part kept.whole) t
    (subst (λ (v : Cell). AreFirst (field_of_grid g) v kept.to part kept.whole) f right.right)) ∣₁)
  where
    part : List Cell
    part = take (kept.end - kept.begin) (drop kept.begin cells)

-- none is remembered in places that are empty
pub none_right : (g : OpenCells) (cells : List Cell) (places : List (Option KeptWay)) (n : ℕ) → places ≡ replicate n None
    → ∥ All (λ o. IfSome o (IsRight g cells)) places ∥₁
none_right g cells places n e =
    ∣ subst (All (λ o. IfSome o (IsRight g cells))) (sym e) (All-replicate (λ o. IfSome o (IsRight g cells)) n None tt) ∣₁
