-- The cell is wet, and waits.
use Rattle.sim_territory.proofs.Common.{get_or-set_same, get_or_default, ground_size, inr, length-append, place_of, places-apart, subst, sum_by-set, sym, ◌∙◌}
use Rattle.sim_territory.proofs.Common.{◌≡◌, ℕ, ◌*◌, ◌<◌, Bool, true, false, cond, not, [], ◌∷◌, length, get_or, set, refl, ap, arith, get_or-set_other}

pub returns-in_ok-push : Rattle.sim_territory.proofs.flood.Flood.wet.Goals.returns-in_ok-push
returns-in_ok-push c =
    let old = c.args.self.now in
    let flags = old.flags.items in
    let size = ground_size old in
    let cell = c.args.cell in
    let at = c.place-place.result in
    let p : at ≡ place_of size cell = c.place-place.ensures.place in
    let full : length flags ≡ old.width * old.depth = omega (arith, old.full, old.flags.ok.0) in
    let within : at < length flags = omega (arith, c.place-place.ensures.below) in
    let inside : place_of size cell < length flags = subst (λ (n : ℕ). n < length flags) p within in
    let count : Bool → ℕ = λ b. cond (not b) 1 0 in
    let dry : get_or flags at false ≡ false = get_or_default flags at false c.index.result.now within ∙ sym c.index.ensures ∙ c.if-not-index.true in
    let one : count (get_or flags at false) ≡ 1 = ap count dry in
    inr (record {
      size = refl;
      here = subst (λ (n : ℕ). get_or (set flags n true) (place_of size cell) false ≡ true) (sym p)
          (get_or-set_same flags (place_of size cell) true false inside);
      elsewhere = λ e on ne.
          subst (λ (n : ℕ). get_or (set flags n true) (place_of size e) false ≡ get_or flags (place_of size e) false) (sym p)
          (get_or-set_other flags (place_of size cell) (place_of size e) true false (places-apart size e cell on c.requires ne));
      waits = c.in_ok-push.ensures.items;
      less = omega (arith, sum_by-set count flags at true false within, one, ap length c.in_ok-push.ensures.items, length-append old.waiting.items (cell ∷ []));
    })
