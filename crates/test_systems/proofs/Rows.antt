-- A watcher and one that it sees on a ground of 16 by 16 cells: they are in range, and a move of the second fits.
use Rattle.{sim_base.specs.{declared.{place.{Point.Point, Rect.Rect}, setup.Land.Land}, Limits.{IsClosed, IsLand, IsMask}}, sim_range.proofs.Turning.increasing}
use Rattle.sim_system.specs.declared.{fact.Fact.Fact, kind.Kind.{Kind, TheVariants.Range}, note.Note.TheVariants.Moved}
use Rattle.sim_system.specs.{Meanings.{built, counted, MayHear, Meaning}, Notes.{AreInRange, IsInRange, kept_of, NoteFits}}
use Rattle.std.proofs.Common.{arith, List, None, pos, refl, Some, subst, suc, sym, true, zero, ℕ, ℤ, [], ◌<◌, ◌∷◌, ◌≡◌}
use Rattle.std.{proofs.lemmas.{Int.ints, List.Elements.{All-cons, All-nil}}, specs.Prelude.slice_index}

abbrev pub land : Land
land = record { width = 16; depth = 16; closed = []; masks = 0 ∷ 4 ∷ 0 ∷ [] }

abbrev pub near : Point
near = record { x = pos 229376; z = pos 294912 }

abbrev pub far : Point
far = record { x = pos 294912; z = pos 294912 }

abbrev pub watcher : Fact
watcher = record { id = 2; at = record { x = pos 32768; z = pos 32768 }; owner = 1; health = true; vision = Some (pos 327680); rect = None; target = 0 }

abbrev pub other : Fact
other = record { id = 3; at = near; owner = 2; health = true; vision = None; rect = None; target = 0 }

masks_are : (owner : ℕ) → owner < 3 → IsMask 3 owner (slice_index (0 ∷ 4 ∷ 0 ∷ []) owner)
masks_are zero lt = record { owners_alone = omega arith; not_itself = refl }
masks_are (suc zero) lt = record { owners_alone = omega arith; not_itself = refl }
masks_are (suc (suc zero)) lt = record { owners_alone = omega arith; not_itself = refl }
masks_are (suc (suc (suc n))) lt = absurd (omega arith)

is_land : IsLand land
is_land = record {
  width = (omega arith, omega arith);
  depth = (omega arith, omega arith);
  few_closed = omega arith;
  closed = All-nil (IsClosed land);
  players = (omega arith, omega arith);
  gaia = refl;
  masks = λ owner lt. masks_are owner lt;
}

pub land_by : (closed : List Rect) (masks : List ℕ) → closed ≡ [] → masks ≡ 0 ∷ 4 ∷ 0 ∷ [] → record { width = 16; depth = 16; closed = closed; masks = masks } ≡
    land
land_by closed masks one two = cc

pub land_is : (l : Land) → l ≡ land → IsLand l
land_is l is = subst IsLand (sym is) is_land

are_in_range : AreInRange land (watcher ∷ other ∷ [])
are_in_range = record {
  few = omega arith;
  ascending = increasing (2 ∷ 3 ∷ []) ((omega arith, tt), (tt, tt));
  each = All-cons (IsInRange land) watcher (other ∷ [])
      (record { at = refl; owner = omega arith; vision = (omega (arith, ints), omega (arith, ints)); rect = tt })
      (All-cons (IsInRange land) other [] (record { at = refl; owner = omega arith; vision = tt; rect = tt }) (All-nil (IsInRange land)));
}

pub in_range : (l : Land) (a b : Fact) → l ≡ land → a ≡ watcher → b ≡ other → AreInRange l (a ∷ b ∷ [])
in_range l a b is one two = subst (λ (m : Land). AreInRange m (a ∷ b ∷ [])) (sym is)
    (subst (λ (f : Fact). AreInRange land (f ∷ b ∷ [])) (sym one) (subst (λ (f : Fact). AreInRange land (watcher ∷ f ∷ [])) (sym two) are_in_range))

pub move_fits : (from to : Point) → from ≡ near → to ≡ far → NoteFits Range land (watcher ∷ other ∷ []) (Moved 3 from to)
move_fits from to one two = subst (λ (p : Point). NoteFits Range land (watcher ∷ other ∷ []) (Moved 3 p to)) (sym one)
    (subst (λ (p : Point). NoteFits Range land (watcher ∷ other ∷ []) (Moved 3 near p)) (sym two) (record { agrees = (refl, refl); few = omega arith }))

pub may_hear : (m before : Meaning) (l : Land) (a b : Fact) (from to : Point) → m ≡ counted (built l (a ∷ b ∷ []) before) → before.kind ≡ Range → l ≡ land
    → a ≡ watcher → b ≡ other → from ≡ near → to ≡ far → MayHear m (Moved 3 from to)
may_hear m before l a b from to is kind ground one two at_first at_last =
    subst (λ (n : Meaning). MayHear n (Moved 3 from to)) (sym is)
    (subst (λ (k : Kind). NoteFits k l (kept_of k (a ∷ b ∷ [])) (Moved 3 from to)) (sym kind)
    (subst (λ (n : Land). NoteFits Range n (kept_of Range (a ∷ b ∷ [])) (Moved 3 from to)) (sym ground)
    (subst (λ (f : Fact). NoteFits Range land (kept_of Range (f ∷ b ∷ [])) (Moved 3 from to)) (sym one)
    (subst (λ (f : Fact). NoteFits Range land (kept_of Range (watcher ∷ f ∷ [])) (Moved 3 from to)) (sym two) (move_fits from to at_first at_last)))))

pub watcher_is : (a : Fact) (p : Point) (v : ℤ) → a ≡ record { id = 2; at = p; owner = 1; health = true; vision = Some v; rect = None; target = 0 }
    → p ≡ record { x = pos 32768; z = pos 32768 } → v ≡ pos 327680 → a ≡ watcher
watcher_is a p v is at far_as = cc

pub other_is : (b : Fact) (p : Point) → b ≡ record { id = 3; at = p; owner = 2; health = true; vision = None; rect = None; target = 0 } → p ≡ near → b ≡ other
other_is b p is at = cc
