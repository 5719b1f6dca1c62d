-- A call through the box of a planner is a call of `planned`, which may be given a command of each kind; and each kind has a
-- handler.
use denote.Param.Callables.{held_fn, Sure}
use Rattle.{sim_base.proofs.Keyed.{AreKeyedBelow, AreKeyedBelow-append}, sim_held.proofs.boards.play_over.OwnLists.own-2}
use Rattle.{sim_orders.{proofs.Planning.of_kind, specs.Orders.Fulfils}, std.proofs.Common.{arith, refl, subst, sym, ◌+◌}}
use Rattle.sim_held.proofs.boards.play_over.Goals as goal

pub invariant_of-push : goal.invariant_of-push
invariant_of-push g c =
    record {
      may_run = λ alloc task given.
          let r : (w : _) → Sure ((held_fn own-2).pre (c.into_dyn_box.result.vtable, w) (alloc, (task, tt {0}))) =
          rw c.into_dyn_box.ensures.0 (λ w. ∣ of_kind _ task.now given ∣₁) in
          r c.into_dyn_box.result.value;
      obeys = λ alloc task result given done.
          let r : (w : _) → (held_fn own-2).post (c.into_dyn_box.result.vtable, w) (alloc, (task, tt {0})) result → Fulfils task.now result =
          rw c.into_dyn_box.ensures.0 (λ w so. so.1) in
          r c.into_dyn_box.result.value done;
    }

pub loop-kind-preserved : goal.loop-kind-preserved
loop-kind-preserved g c =
    subst (λ hs. AreKeyedBelow (λ (h : _). h.kind) hs (c.loop-kind.kind + 1)) (sym c.in_ok-push.ensures.items)
    (AreKeyedBelow-append (λ (h : _). h.kind) c.loop-kind.handlers.items _ c.loop-kind.kind refl c.loop-kind.invariant)

pub new-orders-requires : goal.new-orders-requires
new-orders-requires g c kind low high = c.loop-kind.invariant.once kind low (omega (arith, high, c.loop-kind-test.false))
