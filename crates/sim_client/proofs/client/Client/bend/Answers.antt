-- The board is another, and all else as it was.
use Rattle.{sim_client.proofs.Standing.playing_of, sim_laws.proofs.Turning.bend_keeps_valid}
use Rattle.sim_client.proofs.Common.{◌≡◌, Some, ap, bent, IsReady, IsValid, Setup, Stage, subst, sym, ◌∙◌}
use Rattle.sim_client.proofs.client.Client.bend.Goals as goal

pub returns-clause-sound : goal.returns-clause-sound
returns-clause-sound g c =
    let self = c.args.self.now in
    let was = playing_of self.setup.now (λ i v. (goal.System-dyn g (i, v)).meaning v) self.stage self.board c.in-On.seat c.in-Some.board c.in-On.is c.in-Some.is
    c.requires.sound.ready in
    let setup = self.setup.now in
    let board = c.in-Some.board in
    let new = c.bend.new.board in
    let state_is : new.state ≡ bent setup board.state c.args.entity c.args.health = c.bend.ensures.state ∙
    ap (λ (s : Setup). bent s board.state c.args.entity c.args.health) was.same in
    record {
      limits = c.requires.sound.limits;
      number_is = c.requires.sound.number_is;
      ready =
          subst (λ (s : Stage). IsReady self.setup.now s (Some new) (λ i v. (goal.System-dyn g (i, v)).meaning v)) (sym c.in-On.is)
          (record {
            same = c.bend.ensures.setup ∙ was.same;
            whole = c.bend.ensures.whole;
            valid = subst (IsValid setup) (sym state_is)
                (bend_keeps_valid setup board.state c.args.entity c.args.health was.valid);
            known = was.known;
          });
    }
