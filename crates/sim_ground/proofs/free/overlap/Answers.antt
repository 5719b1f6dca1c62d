-- Both ways.
use Rattle.sim_ground.proofs.Common.{Bool, ◌&&◌, ap, meet, sym, ◌∙◌}

pub returns-then-share_column : Rattle.sim_ground.proofs.free.overlap.Goals.returns-then-share_column
returns-then-share_column c =
    c.share_row.ensures ∙ ap (λ (b : Bool). b && meet c.args.one.now.z0 c.args.one.now.z1 c.args.other.now.z0 c.args.other.now.z1)
    (sym c.if-share_column.true ∙ c.share_column.ensures)
