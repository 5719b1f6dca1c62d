-- One more is let go.
use Rattle.sim_board.proofs.{Common.arith, Common.refl, Feeding.let_go_more, Feeding.release_may_hear, Keeping.kept_watch}

pub tell-requires : Rattle.sim_board.proofs.post.release.Goals.tell-requires
tell-requires g c = release_may_hear c.args.setup.now c.args.state.now c.args.id c.args.ids.now c.loop-watcher.watcher-index _ _ c.loop-watcher.invariant.0
    (omega arith) refl

pub loop-watcher-preserved : Rattle.sim_board.proofs.post.release.Goals.loop-watcher-preserved
loop-watcher-preserved g c = (
  let_go_more c.args.setup.now c.args.state.now c.args.id c.args.ids.now c.loop-watcher.watcher-index _ _ c.loop-watcher.invariant.0 (omega arith) refl _ refl
      refl c.in_ok-tell.ensures.ok refl,
  kept_watch _ _ _ _ c.loop-watcher.invariant.1 c.in_ok-tell.ensures.ok refl refl,
)
