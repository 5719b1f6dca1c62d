-- The cells of the window are those of the rectangle.
use Rattle.sim_ground.{proofs.Common.covers, proofs.Layers.changes_same, proofs.Layers.may_where, specs.Closing.in_window}

pub step_window-requires-clause-may : Rattle.sim_ground.proofs.cover.Cover.step_rect.Goals.step_window-requires-clause-may
step_window-requires-clause-may c =
    may_where c.args.more c.args.self.now.grid.size (in_window c.window_of-window.result) (covers c.args.rect.now) c.args.self.now.layers.items
    c.window_of-window.ensures.same c.requires

pub returns : Rattle.sim_ground.proofs.cover.Cover.step_rect.Goals.returns
returns c =
    let stepped = c.step_window.ensures in
    record {
      size = stepped.size;
      layers = changes_same c.args.more c.args.self.now.grid.size (in_window c.window_of-window.result) (covers c.args.rect.now) c.args.self.now.layers.items
          c.step_window.new.self.layers.items c.window_of-window.ensures.same stepped.layers;
      same = stepped.same;
    }
