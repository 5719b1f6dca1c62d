use Rattle.sim_session_laws.proofs.{Common.UnbentAgree, Common.UnbentAreKept, Fitting.always, Fitting.unbent_agree, Fitting.unbent_are_kept}

pub returns : Rattle.sim_session_laws.proofs.pasts.unbent_clients_agree.Goals.returns
returns c =
    record {
      kept = always UnbentAreKept unbent_are_kept;
      agree = always UnbentAgree unbent_agree;
    }
