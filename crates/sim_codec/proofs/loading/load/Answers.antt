-- What stands for a state is loaded as that state, since it stands for no other.
use Rattle.sim_codec.proofs.{Common.Err, Common.ap, Common.◌∙◌, Standing.no_state, Standing.one_state}

pub returns-in_err-stored-clause-loads : Rattle.sim_codec.proofs.loading.load.Goals.returns-in_err-stored-clause-loads
returns-in_err-stored-clause-loads c =
    λ s stands. absurd (no_state c.args.setup.now c.args.bytes.now c.in_err-stored.field-0.0 c.requires c.in_err-stored.ensures.err
    (λ e. c.in_err-stored.ensures.no_memory (ap Err e)) s stands)

pub returns-in-Ok-clause-loads : Rattle.sim_codec.proofs.loading.load.Goals.returns-in-Ok-clause-loads
returns-in-Ok-clause-loads c = λ s stands. c.in-Ok.ensures ∙ one_state c.args.setup.now c.args.bytes.now c.in_ok-stored.stored s c.requires
    c.in_ok-stored.ensures.ok stands
