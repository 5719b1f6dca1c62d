-- The board was started.
use Rattle.sim_play.proofs.{Common.{List, OnOk, string_bytes, subst, ℕ, ◌++◌, ◌≡◌}, Starting.{started_lines, started_valid}}

pub push_turns-requires : Rattle.sim_play.proofs.matches.start_lines.Goals.push_turns-requires
push_turns-requires g c = record {
  whole = c.in_ok-start.ensures.whole;
  valid = started_valid _ _ _ c.in_ok-start.ensures.setup c.in_ok-start.ensures.state c.requires.limits;
}

pub returns-clause-text : Rattle.sim_play.proofs.matches.start_lines.Goals.returns-clause-text
returns-clause-text g c =
    subst (λ (lines : List ℕ). OnOk c.push_turns.result (string_bytes c.push_turns.new.out ≡ string_bytes c.args.out.now ++ lines))
    (started_lines _ _ _ c.in_ok-start.ensures.setup c.in_ok-start.ensures.state) c.push_turns.ensures.text
