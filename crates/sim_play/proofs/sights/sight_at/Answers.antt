-- The board is of the match.
use Rattle.sim_play.{proofs.Common.{IfOk, Setup, sight_file, string_bytes, subst, ◌≡◌}, specs.Lines.sight_text}

pub returns-clause-text : Rattle.sim_play.proofs.sights.sight_at.Goals.returns-clause-text
returns-clause-text g c =
    subst (λ (s : Setup). IfOk c.tell_from_the_start-told.result (λ told. string_bytes told.0 ≡ sight_text s c.args.turn))
    c.new-board.ensures.setup c.tell_from_the_start-told.ensures.text

pub returns-clause-file : Rattle.sim_play.proofs.sights.sight_at.Goals.returns-clause-file
returns-clause-file g c =
    subst (λ (s : Setup). IfOk c.tell_from_the_start-told.result (λ told. told.1.items ≡ sight_file s c.args.turn))
    c.new-board.ensures.setup c.tell_from_the_start-told.ensures.file
