use Rattle.sim_range.proofs.Common.{◌≡◌, ℕ, ◌<◌, false, slice_index, in_mask}

abbrev pub invariant-loop-mask : Rattle.sim_range.proofs.watchers.is_in_any.Given.invariant-loop-mask
invariant-loop-mask l = (k : ℕ) → k < l.mask-index → in_mask (slice_index l.masks k) l.owner ≡ false
