-- Nothing is found yet.
use Rattle.sim_replay.proofs.{Common.{ap, List, map, rules, word_text, ℕ, [], ◌∙◌, ◌≡◌}, Naturals.{behind_nothing, naturals_behind}}

pub loop-rest-init : Rattle.sim_replay.proofs.words.naturals.Goals.loop-rest-init
loop-rest-init c =
    let words = map word_text c.args.words.now in
    let none : c.new-found.result.items ≡ [] = search rules in
    ap (λ (found : List ℕ). naturals_behind found words) none ∙ behind_nothing words
