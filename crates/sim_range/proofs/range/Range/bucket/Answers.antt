-- The numbers of the buckets of a row are those of 16 columns.
use Rattle.sim_range.proofs.{Common.ap, Common.ℕ, Common.◌*◌, Common.◌+◌, Common.◌∙◌, Nearing.lent_is}

pub returns-in-Some : Rattle.sim_range.proofs.range.Range.bucket.Goals.returns-in-Some
returns-in-Some c =
    let s = c.args.self.now in
    lent_is c.args.bx c.args.bz _ s.kept.facts.items _ s.buckets.items c.in-Some.bucket.now _ c.requires.bx s.placed s.bucketed
    (ap (λ (n : ℕ). n * 16 + c.from-2.result) c.from.ensures ∙ ap (λ (n : ℕ). c.args.bz * 16 + n) c.from-2.ensures) c.as_slice.ensures.value
    c.in-Some.ensures.lookup.0
    c.in-Some.ensures.lookup.1 c.as_slice-in-Some.ensures.value
