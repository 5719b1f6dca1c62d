-- The match is read, and has as many players as are to begin.
use Rattle.sim_edge.proofs.conversing.session_match.Goals as goal
use Rattle.{sim_base.specs.declared.setup.Setup.Setup, sim_edge.{proofs.Refusing.{reads_few, reads_match, reads_stopped, where_known}, specs.Talked.ReadsFor}}
use Rattle.{sim_top.specs.{declared.stop.Stop.Stop, Outcome.session_match_in}, std.{proofs.Common.{Err, Result, rules, subst, sym, ◌≡◌}, specs.Prelude.IfSome}}

pub returns-in_err-setup-clause-tells : goal.returns-in_err-setup-clause-tells
returns-in_err-setup-clause-tells g c =
    let is : c.from_residual.result ≡ Err c.in_err-setup.field-0.0 = search rules in
    subst (λ (r : Result Setup Stop). IfSome (g.S.Shelf.held c.args.shelf.now) (λ files. ReadsFor files c.args.game.now c.args.clients r)) (sym is)
    (where_known (g.S.Shelf.held c.args.shelf.now)
    (λ files read. reads_stopped (session_match_in files c.args.game.now) c.args.clients c.in_err-setup.field-0.0 read) c.in_err-setup.ensures.tells)

pub returns-then-clients-setup-clause-tells : goal.returns-then-clients-setup-clause-tells
returns-then-clients-setup-clause-tells g c =
    where_known (g.S.Shelf.held c.args.shelf.now)
    (λ files read. reads_few (session_match_in files c.args.game.now) c.in_ok-setup.setup c.args.clients read c.if-clients-setup.true)
    c.in_ok-setup.ensures.tells

pub returns-clause-tells : goal.returns-clause-tells
returns-clause-tells g c =
    where_known (g.S.Shelf.held c.args.shelf.now)
    (λ files read. reads_match (session_match_in files c.args.game.now) c.in_ok-setup.setup c.args.clients read c.if-clients-setup.false)
    c.in_ok-setup.ensures.tells
