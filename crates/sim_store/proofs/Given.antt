-- What two reads come to: bytes that were given out in two parts were given out, and files that were kept twice were kept.
use Rattle.sim_store.specs.{Shelf.KeepsFiles, Shelf.after_giving, Shelf.raised, declared.counts.Counts.Counts}
use Rattle.std.proofs.Common.{ap, arith, Bool, List, Option, ℕ, ◌+◌, ◌∙◌, ◌≡◌}

raised-raised : (a b n : ℕ) → raised b (raised a n) ≡ raised (a + b) n
raised-raised a b n = omega arith

pub after_giving-after_giving : (a b : ℕ) (counts : Counts) → after_giving b (after_giving a counts) ≡ after_giving (a + b) counts
after_giving-after_giving a b counts = ap (λ (n : ℕ). record counts { given = n }) (raised-raised a b counts.given)

pub KeepsFiles-trans : {S A : Type 0} (held : S → A) (making : S → Bool) (name : S → List ℕ) (made : S → Option (List ℕ)) (a b c : S)
    → KeepsFiles held making name made a b → KeepsFiles held making name made b c → KeepsFiles held making name made a c
KeepsFiles-trans held making name made a b c first next = record {
  held = next.held ∙ first.held;
  making = next.making ∙ first.making;
  name = next.name ∙ first.name;
  made = next.made ∙ first.made;
}
