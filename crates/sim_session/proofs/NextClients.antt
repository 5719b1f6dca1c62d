-- The client of the next number, and what is known of the state of one that may be called.
use Rattle.{sim_board.specs.declared.board.Board.Board, std.proofs.lemmas.List.get_or-map, std.specs.Prelude.IfSome}
use Rattle.sim_client.specs.{ClientWords.life, StageWords.IsReady, StageWords.life_at as life_on, declared.client.Client.Client, declared.stage.Stage.Stage}
use Rattle.sim_session.proofs.TextCommon.{Meaning, Off, Setup, state_of, subst, sym, ◌∙◌}
use Rattle.sim_session.proofs.TextCommon.{◌≡◌, ℕ, ◌+◌, ◌-◌, ◌<◌, List, map, length, get_or, Some, None, All, Option, ap, arith, IsValid, Life, life_at}
use Rattle.sim_client.specs.declared.stage.Stage.TheVariants as stage

-- behind so many clients stands the one of the next number
pub life_next : {Y X : Type 0} {G : Y → Type 0} {F : X → Type 0} {M : _} (clients : List (Client Y X G F M)) (n : ℕ) (c : Client Y X G F M)
    → n < length clients → c ≡ get_or clients n c → life c ≡ life_at clients (n + 1)
life_next clients n c lt is =
    let lives : List Life = map (λ x. life x) clients in
    let here : n ≡ (n + 1) - 1 = omega arith in
    ap (λ x. life x) is ∙ sym (get_or-map (λ x. life x) clients n c Off lt) ∙ ap (λ k. get_or lives k Off) here

-- the state of a client that is on is valid
pub valid_on : {X : Type 0} {F : X → Type 0} (setup : Setup) (at : Stage) (board : Option (Board X F)) (meaning : (i : X) → F i → Meaning)
    → IsReady setup at board meaning → IfSome (state_of (life_on at board)) (IsValid setup)
valid_on setup stage.Off None meaning ready = absurd ready
valid_on setup stage.Joining None meaning ready = absurd ready
valid_on setup (stage.On seat) None meaning ready = absurd ready
valid_on setup stage.Off (Some board) meaning ready = tt
valid_on setup stage.Joining (Some board) meaning ready = tt
valid_on setup (stage.On seat) (Some board) meaning ready = ready.valid

-- what holds of all holds of the one at a place
pub at_place : {C : Type 0} (P : C → Type 0) (xs : List C) (n : ℕ) (x : C) → All P xs → n < length xs → x ≡ get_or xs n x → P x
at_place P xs n x all lt is = subst P (sym is) (all n x lt)
