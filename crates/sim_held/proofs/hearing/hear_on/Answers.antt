-- What is said has frames, and is what the definition says.
use Rattle.sim_held.proofs.hearing.hear_on.Goals as goal
use Rattle.sim_client.specs.{ClientWords.NeedsNoMemory, Lives.{hears, On, says_of}, StageWords.player_at}
use Rattle.sim_held.proofs.{Common.{ap, Goes, IsStage, life_at, None, subst, sym, ◌≡◌}, Passing.{hear_small, says_none, silent_did}}

pub say-requires : goal.say-requires
say-requires c =
    let setup = c.args.setup.now in
    let state = c.in-On.state in
    let was = subst (IsStage setup) c.in-On.is c.requires.sound.stage in
    hear_small setup c.args.down (player_at state c.in-On.seat) c.in_ok-did.did (On (player_at state c.heed.new.seat)) c.requires.sound.limits was.valid
    (c.in_ok-did.ensures.answers None)

pub returns-clause-goes : goal.returns-clause-goes
returns-clause-goes c = λ loaded.
    let setup = c.args.setup.now in
    let state = c.in-On.state in
    let old = On (player_at state c.in-On.seat) in
    let new = On (player_at state c.heed.new.seat) in
    subst (λ at. Goes (hears setup loaded c.args.down (life_at at)) (life_at at) c.args.outbox.now c.say.result new c.say.new.outbox) (sym c.in-On.is)
    (c.say.ensures.goes (hears setup loaded c.args.down old) old new (c.in_ok-did.ensures.answers loaded))

-- nothing is said
pub returns-clause-sure : goal.returns-clause-sure
returns-clause-sure c = λ none.
    let setup = c.args.setup.now in
    let player = player_at c.in-On.state c.in-On.seat in
    let none' = subst (λ at. NeedsNoMemory (life_at at) c.args.down) c.in-On.is none in
    c.say.ensures.quiet
    (silent_did (hears setup None c.args.down (On player)) (On player) c.in_ok-did.did (On (player_at c.in-On.state c.heed.new.seat))
    (c.in_ok-did.ensures.answers None) (says_none setup c.args.down player none'))

pub returns-clause-idle : goal.returns-clause-idle
returns-clause-idle c = λ none.
    let setup = c.args.setup.now in
    let player = player_at c.in-On.state c.in-On.seat in
    let none' = subst (λ at. hears setup None c.args.down (life_at at) ≡ None) c.in-On.is none in
    c.say.ensures.quiet
    (silent_did (hears setup None c.args.down (On player)) (On player) c.in_ok-did.did (On (player_at c.in-On.state c.heed.new.seat))
    (c.in_ok-did.ensures.answers None) (ap says_of none'))
