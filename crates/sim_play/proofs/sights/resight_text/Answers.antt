-- What is told of a sight that was joined is told of the file.
use Rattle.sim_play.proofs.{Common.setup_in, Past.resumed_told}

pub returns-clause-text : Rattle.sim_play.proofs.sights.resight_text.Goals.returns-clause-text
returns-clause-text g c =
    resumed_told c.tell_from_a_state-told.result c.args.setup.now (setup_in c.new-board.result) c.args.state c.args.sight c.new-board.ensures.setup
    c.tell_from_a_state-told.ensures.text
