-- Worked examples of commands, computed from the definitions.
use Rattle.serde_json.specs.Data.{array, Data, item, no_items, number, string, unsigned}
use Rattle.{sim_base.specs.declared.command.{Command.TheVariants.Stop, PlayerCommand.PlayerCommand}, sim_embed.specs.Causes.{order_of, orders_from}}
use Rattle.{sim_json.specs.Commands.command_of, std.{proofs.Common.{Err, Ok, refl, ℕ, [], ◌∷◌, ◌≡◌}, specs.Prelude.codes}}

-- [PLAYER,"stop",[7]]
abbrev stop : ℕ → Data
stop player = array (item (number (unsigned player)) (item (string (codes "stop")) (item (array (item (number (unsigned 7)) no_items)) no_items)))

abbrev stopped : ℕ → PlayerCommand
stopped player = record { player = player; command = Stop (7 ∷ []) }

-- commands of both players, in their order
of_both : orders_from 2 (stop 2 ∷ stop 1 ∷ []) ≡ Ok (stopped 2 ∷ stopped 1 ∷ [])
unfolding order_of command_of
of_both = refl

-- no command
of_nobody : orders_from 2 [] ≡ Ok []
of_nobody = refl

-- a third player is none of two, and Gaia gives no commands: the first such item is told, counted from 1
of_others : orders_from 2 (stop 2 ∷ stop 3 ∷ stop 0 ∷ []) ≡ Err 2
unfolding order_of command_of
of_others = refl

-- a list without a kind is none
without_kind : orders_from 2 (array (item (number (unsigned 1)) no_items) ∷ []) ≡ Err 1
unfolding order_of command_of
without_kind = refl
