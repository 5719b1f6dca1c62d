-- The flood has come to the rooted cells.
use Rattle.sim_territory.proofs.Common.{AreRooted, arith, Bool, Fills, ground_of, ground_size, IsWetAt, length, List, Mark, RealmOf, roots_of, size_in, subst}
use Rattle.sim_territory.proofs.{Common.sym, Common.ℕ, Common.◌*◌, Common.◌∙◌, Common.◌≡◌, Flooding.rooted_found}

pub returns : Rattle.sim_territory.proofs.realm.Realm.rooted.Goals.returns
returns c =
    let in_it = c.self.inside in
    let setup = in_it.setup.now in
    let sums = in_it.influences.sums in
    let begun = c.wet_roots.new.flood in
    let last = c.fill.new.self in
    let full : length last.flags.items ≡ last.width * last.depth = omega (arith, last.full, last.flags.ok.0) in
    let size : ground_size begun ≡ size_in sums = c.in_ok-wet_roots.ensures.size ∙ c.in_ok-flood.ensures.size ∙ sym c.self.invariant.size in
    let wet : IsWetAt (roots_of setup in_it.trail) begun = subst (λ (marks : List Mark). IsWetAt (roots_of setup marks) begun) c.marks.ensures.marks
    c.in_ok-wet_roots.ensures.wet in
    let filled : Fills (ground_of begun in_it.influences.holders.items) begun last = subst (λ (holders : List ℕ). Fills (ground_of begun holders) begun last)
    c.as_slice.ensures.value c.in_ok-fill.ensures in
    subst (λ (flags : List Bool). AreRooted c.args.self.now.setup c.args.self.now.marks flags) (sym c.from_items.ensures)
    (subst (λ (realm : RealmOf). AreRooted realm.setup realm.marks last.flags.items) c.self.view_is
    (rooted_found setup in_it.trail sums in_it.influences.holders.items begun last c.self.invariant in_it.influences.agree size full wet filled))
