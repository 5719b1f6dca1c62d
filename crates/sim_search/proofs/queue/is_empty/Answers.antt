use Rattle.sim_search.proofs.Common.{◌≡◌, ℕ, ◌%◌, ◌<◌, [], length, get_or, ap, arith, bucket_in, eq-eqb, eqb-true, get_or_default, nil_from_length, sym, ◌∙◌}

pub returns : Rattle.sim_search.proofs.queue.is_empty.Goals.returns
returns c =
    let s = c.args.search.now in
    let cells = c.as_slice.result.now in
    let there : c.bucket.result < length s.buckets.items = omega (arith, s.ring, s.buckets.ok.0, c.bucket.ensures.below) in
    let bucket : cells ≡ bucket_in s (c.args.now % 32) =
    c.as_slice.ensures ∙ c.index.ensures ∙ get_or_default s.buckets.items c.bucket.result c.index.result.now [] there ∙
    ap (λ (b : ℕ). get_or s.buckets.items b []) c.bucket.ensures.is in (
      λ t. sym bucket ∙ nil_from_length cells (eqb-true (length cells) 0 (sym c.is_empty.ensures ∙ t)),
      λ e. c.is_empty.ensures ∙ eq-eqb (length cells) 0 (ap length (bucket ∙ e)),
    )
