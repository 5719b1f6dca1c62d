-- The systems of each client stand for what it is.
use Rattle.sim_session.proofs.Common.{AreMembersBy, AreOf, AreOfClients, arith, Board, Client, get_or_append_left, IsMemberBy, IsReady, length-map, life_at}
use Rattle.sim_session.proofs.Common.{lives_of, Meaning, nowhere, Off, Setup, Stage, subst, sym, Systems, systems_by, systems_on}
use Rattle.sim_session.proofs.Common.{◌≡◌, ℕ, zero, suc, ◌-◌, ◌<◌, List, [], ◌∷◌, ◌++◌, length, get_or, Some, None, Option, All-head, All-tail, AreFed}
use Rattle.sim_system.specs.RigWords.{systems_by as rig_by}
use Rattle.sim_client.specs.declared.stage.Stage.TheVariants as stage

of_stage : {X : Type 0} {F : X → Type 0} (setup : Setup) (at : Stage) (board : Option (Board X F)) (m : (i : X) → F i → Meaning) → IsReady setup at board m
    → AreOf setup (life_at at board) (systems_on board m)
of_stage setup stage.Off None m ready = absurd ready
of_stage setup stage.Off (Some board) m ready = ready.cleared
of_stage setup stage.Joining None m ready = absurd ready
of_stage setup stage.Joining (Some board) m ready = ready.cleared
of_stage setup (stage.On seat) None m ready = absurd ready
of_stage setup (stage.On seat) (Some board) m ready = subst (λ (s : Setup). AreFed s board.state (rig_by board.rig m)) ready.same ready.whole.standing.fed

module _ {Y X : Type 0} {G : Y → Type 0} {F : X → Type 0} {M : _} (setup : Setup) (m : (i : X) → F i → Meaning) where
  of_member : (c : Client Y X G F M) → IsMemberBy setup c m → AreOf setup (life_at c.stage c.board) (systems_on c.board m)
  of_member c member = subst (λ (s : Setup). AreOf s (life_at c.stage c.board) (systems_on c.board m)) member.same
      (of_stage c.setup.now c.stage c.board m member.sound.ready)

  of_place : (clients : List (Client Y X G F M)) (i : ℕ) → i < length clients → AreMembersBy setup clients m → AreOf setup (get_or (lives_of clients) i Off)
      (get_or (systems_by clients m) i nowhere)
  of_place [] i low members = absurd (omega (arith, low))
  of_place (c ∷ clients) zero low members = of_member c (All-head (λ (c : Client Y X G F M). IsMemberBy setup c m) c clients members)
  of_place (c ∷ clients) (suc i) low members = of_place clients i (omega (arith, low))
      (All-tail (λ (c : Client Y X G F M). IsMemberBy setup c m) c clients members)

  -- also where other systems stand behind them
  pub of_clients : (clients : List (Client Y X G F M)) (rest : List Systems) → length clients ≡ setup.players → AreMembersBy setup clients m
      → AreOfClients setup (lives_of clients) (systems_by clients m ++ rest)
  of_clients clients rest count members c low high =
      let within : c - 1 < length clients = omega (arith, count, low, high) in
      subst (λ (s : Systems). AreOf setup (get_or (lives_of clients) (c - 1) Off) s)
      (sym (get_or_append_left (systems_by clients m) rest nowhere (c - 1)
      (omega (arith, within, length-map clients (λ (c : Client Y X G F M). systems_on c.board m)))))
      (of_place clients (c - 1) within members)
