-- Every client is off, and nothing has been said.
use Rattle.sim_session.proofs.session.Session.new.Goals as goal
use Rattle.sim_session.proofs.Common.{ap, arith, get_or-replicate, HaveKinds, length, length-drop, length-map, length-replicate, life_at, life_of, lives_of}
use Rattle.sim_session.proofs.{Common.{Off, refl, rigs_by, sym, systems_by, ◌-◌, ◌∙◌, ◌≡◌, ◌≤◌}, Opening.opens, Stepping.holds_in_front}

pub returns-clause-session : goal.returns-clause-session
returns-clause-session g c =
    let setup = c.args.setup.now in
    let clients = c.seat.new.clients.items in
    let rigs = c.seat.new.rigs.items in
    let count : length clients ≡ setup.players = sym (length-map clients (λ x. life_at x.stage x.board)) ∙ ap length c.seat.ensures.off ∙
    length-replicate setup.players Off in
    let players : setup.players ≤ 8 = omega (arith, c.requires.limits.players, c.requires.limits.land.players.1) in
    record {
      limits = c.requires.limits;
      members = c.seat.ensures.members;
      count = count;
      served = ap (λ r. r.clients) (c.in-Ok.ensures setup refl).rules;
      finish = record {
        kinds = holds_in_front HaveKinds (systems_by clients (λ i v. (goal.System-dyn g (i, v)).meaning v))
            (rigs_by rigs (λ i v. (goal.System-dyn g (i, v)).meaning v))
            (rigs_by c.args.rigs.items (λ i v. (goal.System-dyn g (i, v)).meaning v)) c.seat.ensures.systems c.requires.fresh.kinds;
        room = omega (
          arith,
          count,
          ap length c.seat.ensures.rigs,
          length-drop setup.players c.args.rigs.items,
          c.seat.ensures.kept,
          c.requires.eight,
          players,
          c.args.rigs.ok.0,
          c.args.rigs.ok.1,
        );
      };
    }

pub returns-clause-opened : goal.returns-clause-opened
returns-clause-opened g c =
    let setup = c.args.setup.now in
    opens setup 0 (lives_of c.seat.new.clients.items) c.in-Ok.exchange (λ d low high. absurd (omega (arith, low, high)))
    (λ d above high. ap (λ l. life_of l d) c.seat.ensures.off ∙ get_or-replicate setup.players (d - 1) Off Off (omega (arith, above, high)))
    (c.in-Ok.ensures setup refl)
