pub returns-clause-text : Rattle.sim_trial.proofs.soldiers.push_soldier.Goals.returns-clause-text
returns-clause-text c = simp (
  c.player_of-player.ensures,
  c.next_word-first.ensures,
  c.next_word-second.ensures,
  c.x_from-x.ensures,
  c.z_from-z.ensures,
) at c.in_ok-write.ensures.bytes
