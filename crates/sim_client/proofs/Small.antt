-- What a client says has frames, where it orders or plays.
use Rattle.sim_plain.specs.declared.message.UpOf.TheVariants as up
use Rattle.sim_base.specs.{declared.{command.Command.Command, setup.Setup.Setup}, Limits.HasFewIds}
use Rattle.sim_client.specs.Lives.{Joining, Life, may_order, may_play, may_tell_done, Off, On, ordered, orders, played, plays, report_of, says_of, told}
use Rattle.{sim_client.specs.Lives.{told_alone, told_with_done}, sim_plain_session.specs.Players.Player, sim_wire.specs.Reading.IsSmallUp}
use Rattle.std.proofs.{Common.{All, Bool, false, if◌then◌else◌, None, Some, suc, true, [], ◌∷◌}, lemmas.List.Elements.{All-cons, All-nil}}

pub orders_small : (setup : Setup) (command : Command) (l : Life) → HasFewIds command → All IsSmallUp (says_of (orders setup command l))
orders_small setup command Off few = All-nil IsSmallUp
orders_small setup command Joining few = All-nil IsSmallUp
orders_small setup command (On player) few = by (may_order setup player)
  where
    by : (b : Bool) → All IsSmallUp (says_of (if b then Some (ordered command player) else None))
    by true = All-cons IsSmallUp (up.Command (suc player.done) command) [] few (All-nil IsSmallUp)
    by false = All-nil IsSmallUp

pub plays_small : (setup : Setup) (l : Life) → All IsSmallUp (says_of (plays setup l))
plays_small setup Off = All-nil IsSmallUp
plays_small setup Joining = All-nil IsSmallUp
plays_small setup (On player) = by (may_play setup player)
  where
    done : (b : Bool) (p : Player) → All IsSmallUp (if b then told_with_done setup p else told_alone setup p).says
    done true p = All-cons IsSmallUp (report_of setup p) (up.Done (suc p.done) ∷ []) tt (All-cons IsSmallUp (up.Done (suc p.done)) [] tt (All-nil IsSmallUp))
    done false p = All-cons IsSmallUp (report_of setup p) [] tt (All-nil IsSmallUp)

    by : (b : Bool) → All IsSmallUp (says_of (if b then Some (told setup (played setup player)) else None))
    by true = done (may_tell_done setup (played setup player)) (played setup player)
    by false = All-nil IsSmallUp
