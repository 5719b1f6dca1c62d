-- Each flag is that of its byte.
use Rattle.sim_vision.proofs.Common.{◌≡◌, false, map, length, arith, ext_get_or, get_or-map, is_set, length-map, sym, ◌∙◌}

pub returns : Rattle.sim_vision.proofs.fog.set_flags.Goals.returns
returns c =
    let bytes = c.args.bytes.now in
    let flags = c.loop-at.flags in
    let long : length flags ≡ length bytes = omega arith in
    ext_get_or false flags (map is_set bytes) (long ∙ sym (length-map bytes is_set))
    (λ k lt. c.loop-at.invariant k (omega arith) ∙ sym (get_or-map is_set bytes k 0 false (omega arith)))
