-- The realm has followed the state alone.
use Rattle.sim_play.proofs.Common.{IfOk, string_bytes, ap, IsValid, realm_of, RealmOf, Setup, subst, sym, TellsRealm, ◌∙◌}
use Rattle.sim_play.proofs.realm.told_of.Goals as goal

pub follow-requires : goal.follow-requires
follow-requires c = subst (λ (s : Setup). IsValid s c.args.state.now) (sym (ap (λ (r : RealmOf). r.setup) c.in_ok-realm.ensures)) c.requires.valid

pub told-requires-clause-players : goal.told-requires-clause-players
told-requires-clause-players c =
    sym (ap (λ (r : RealmOf). r.setup.players) c.in_ok-follow.ensures.ok ∙ ap (λ (r : RealmOf). r.setup.players) c.in_ok-realm.ensures)

pub returns : goal.returns
returns c =
    let followed = c.in_ok-follow.ensures.ok ∙ ap (λ (r : RealmOf). realm_of r.setup c.args.state.now) c.in_ok-realm.ensures in
    subst (λ (r : RealmOf). IfOk c.told.result (λ text. TellsRealm r (string_bytes text))) followed c.told.ensures
