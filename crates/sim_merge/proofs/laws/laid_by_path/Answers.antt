use Rattle.sim_merge.proofs.RefusalLemmas.{has-laid, is-refused}

pub returns : Rattle.sim_merge.proofs.laws.laid_by_path.Goals.returns
returns c = record {
  stands = λ lower upper n resolved layable e. has-laid lower upper n resolved layable e;
  refuses = λ lower upper resolved layable e. is-refused lower upper layable e;
}
