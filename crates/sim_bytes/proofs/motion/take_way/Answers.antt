-- The bytes of the way are the points that are read of them.
use Rattle.std.proofs.{Common.ap, Common.arith, Common.length, Common.◌*◌, Common.◌/◌, Common.◌∙◌, Common.◌≡◌, lemmas.Result.err_from_is_err_and}
use Rattle.sim_bytes.proofs.Ways.{front_read, length_chunks, no_front_read, no_points_read, points_read}
use Rattle.sim_bytes.proofs.motion.take_way.Goals as goal

pub returns-in_err-bytes-clause-points : goal.returns-in_err-bytes-clause-points
returns-in_err-bytes-clause-points c =
    let p = err_from_is_err_and c.from_residual.result c.from_residual.ensures.1 in
    rw p.1 (no_points_read c.args.count c.args.from.now (no_front_read (c.args.count * 8) c.args.from.now c.in_err-bytes.ensures))

pub returns-clause-points : goal.returns-clause-points
returns-clause-points c =
    let read = front_read (c.args.count * 8) c.args.from.now c.in_ok-bytes.bytes.now c.take_bytes.new.from c.in_ok-bytes.ensures in
    let count : length c.in_ok-bytes.bytes.now / 8 ≡ c.args.count = omega (arith, read.size) in
    rw (c.as_chunks.ensures.front, count, read.front_is, read.behind) (points_read c.args.count c.args.from.now read.long)

pub returns-clause-few : goal.returns-clause-few
returns-clause-few c =
    let read = front_read (c.args.count * 8) c.args.from.now c.in_ok-bytes.bytes.now c.take_bytes.new.from c.in_ok-bytes.ensures in
    let count : length c.in_ok-bytes.bytes.now / 8 ≡ c.args.count = omega (arith, read.size) in
    ap length c.as_chunks.ensures.front ∙ length_chunks 8 (length c.in_ok-bytes.bytes.now / 8) c.in_ok-bytes.bytes.now ∙ count
