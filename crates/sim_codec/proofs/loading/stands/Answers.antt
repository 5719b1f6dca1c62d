-- What is refused stands for no state.
use Rattle.sim_codec.proofs.{Common.Err, Common.ap, Standing.no_state}

pub returns-in-Err-clause-stands : Rattle.sim_codec.proofs.loading.stands.Goals.returns-in-Err-clause-stands
returns-in-Err-clause-stands c =
    λ stands. absurd (no_state c.args.setup.now c.args.bytes.now c.in-Err.fault c.requires c.in-Err.ensures.err (λ e. c.in-Err.ensures.no_memory (ap Err e))
    stands.0 stands.1)
