-- They were taken out, and are set again with one more.
use Rattle.sim_client.proofs.{Common.{known_in, List, OnOk, PlayerCommand, put, subst, ℕ, [], ◌++◌, ◌∙◌, ◌∷◌, ◌≡◌}, Knowing.put_again}

pub returns : Rattle.sim_client.proofs.known.Known.learn.Goals.returns
returns c =
    let t = c.args.turn in
    let old = known_in c.args.self.now in
    subst (λ (f : ℕ → List PlayerCommand). OnOk c.set.result (known_in c.set.new.self ≡ f))
    ((λ i. put t (c.in_ok-push.ensures.ok i) (c.take-orders.ensures.others i)) ∙ put_again t (c.take-orders.result ++ c.args.order ∷ []) [] old ∙
    (λ i. put t (c.take-orders.ensures.orders i ++ c.args.order ∷ []) old))
    c.set.ensures
