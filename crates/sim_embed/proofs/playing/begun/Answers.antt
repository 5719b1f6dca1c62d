-- The state on the board is the first one, which is valid.
use Rattle.{sim_base.specs.{Limits.IsValid, Turn.first_state}, sim_laws.proofs.Validity.first_state_is_valid, std.proofs.Common.{subst, sym, ◌≡◌}}

pub of-requires : Rattle.sim_embed.proofs.playing.begun.Goals.of-requires
of-requires g c =
    let setup = c.args.setup.now in
    let is : c.scene.result.state.now ≡ first_state setup = cc (c.scene.ensures.state, c.in_ok-start.ensures.state, c.new-board.ensures.setup) in
    subst (IsValid setup) (sym is) (first_state_is_valid setup c.requires.limits)
