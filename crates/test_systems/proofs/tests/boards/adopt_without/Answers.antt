-- A state that is valid is loosely so, and the one change fits it.
use Rattle.{sim_base.specs.{declared.setup.Setup.Setup, Limits.IsLooselyValid}, sim_laws.proofs.Validity.valid_is_loose, std.proofs.Common.{subst, sym}}

pub can_leave-requires : Rattle.test_systems.proofs.tests.boards.adopt_without.Goals.can_leave-requires
can_leave-requires g c = subst (λ (s : Setup). IsLooselyValid s c.args.state) (sym c.setup.ensures)
    (valid_is_loose c.args.board.now.setup.now c.args.state c.requires.valid)
