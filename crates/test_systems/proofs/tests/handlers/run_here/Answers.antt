-- A call through the box of a planner is a call of `planned_as_usual`, which may be given a command of each kind, or of `resigned`.
use Rattle.test_systems.proofs.tests.handlers.run_here.Goals as goal
use Rattle.{sim_orders.proofs.Planning.of_kind, sim_orders.specs.Orders.Fulfils, test_systems.proofs.tests.handlers.run_here.OwnLists.own-3}
use denote.Param.Callables.{held_fn, Sure}

pub invariant_of-vec : goal.invariant_of-vec
invariant_of-vec g c =
    record {
      may_run = λ alloc task given.
          let r : (w : _) → Sure ((held_fn own-3).pre (c.into_dyn_box.result.vtable, w) (alloc, (task, tt {0}))) =
          rw c.into_dyn_box.ensures.0 (λ w. ∣ of_kind _ task.now given ∣₁) in
          r c.into_dyn_box.result.value;
      obeys = λ alloc task result given done.
          let r : (w : _) → (held_fn own-3).post (c.into_dyn_box.result.vtable, w) (alloc, (task, tt {0})) result → Fulfils task.now result =
          rw c.into_dyn_box.ensures.0 (λ w so. so.1) in
          r c.into_dyn_box.result.value done;
    }

pub invariant_of-vec-2 : goal.invariant_of-vec-2
invariant_of-vec-2 g c =
    record {
      may_run = λ alloc task given.
          let r : (w : _) → Sure ((held_fn own-3).pre (c.into_dyn_box-in_ok-new-2.result.vtable, w) (alloc, (task, tt {0}))) =
          rw c.into_dyn_box-in_ok-new-2.ensures.0 (λ w. ∣ of_kind _ task.now given ∣₁) in
          r c.into_dyn_box-in_ok-new-2.result.value;
      obeys = λ alloc task result given done.
          let r : (w : _) → (held_fn own-3).post (c.into_dyn_box-in_ok-new-2.result.vtable, w) (alloc, (task, tt {0})) result → Fulfils task.now result =
          rw c.into_dyn_box-in_ok-new-2.ensures.0 (λ w so. so.1) in
          r c.into_dyn_box-in_ok-new-2.result.value done;
    }

pub invariant_of-vec-3 : goal.invariant_of-vec-3
invariant_of-vec-3 g c =
    record {
      may_run = λ alloc task given.
          let r : (w : _) → Sure ((held_fn own-3).pre (c.into_dyn_box-in_ok-new-3.result.vtable, w) (alloc, (task, tt {0}))) =
          rw c.into_dyn_box-in_ok-new-3.ensures.0 (λ w. ∣ of_kind _ task.now given ∣₁) in
          r c.into_dyn_box-in_ok-new-3.result.value;
      obeys = λ alloc task result given done.
          let r : (w : _) → (held_fn own-3).post (c.into_dyn_box-in_ok-new-3.result.vtable, w) (alloc, (task, tt {0})) result → Fulfils task.now result =
          rw c.into_dyn_box-in_ok-new-3.ensures.0 (λ w so. so.1) in
          r c.into_dyn_box-in_ok-new-3.result.value done;
    }

pub invariant_of-vec-4 : goal.invariant_of-vec-4
invariant_of-vec-4 g c =
    record {
      may_run = λ alloc task given.
          let r : (w : _) → Sure ((held_fn own-3).pre (c.into_dyn_box-in_ok-new-4.result.vtable, w) (alloc, (task, tt {0}))) =
          rw c.into_dyn_box-in_ok-new-4.ensures.0 (λ w. ∣ of_kind _ task.now given ∣₁) in
          r c.into_dyn_box-in_ok-new-4.result.value;
      obeys = λ alloc task result given done.
          let r : (w : _) → (held_fn own-3).post (c.into_dyn_box-in_ok-new-4.result.vtable, w) (alloc, (task, tt {0})) result → Fulfils task.now result =
          rw c.into_dyn_box-in_ok-new-4.ensures.0 (λ w so. so.1) in
          r c.into_dyn_box-in_ok-new-4.result.value done;
    }

pub invariant_of-vec-5 : goal.invariant_of-vec-5
invariant_of-vec-5 g c =
    record {
      may_run = λ alloc task given.
          let r : (w : _) → Sure ((held_fn own-3).pre (c.into_dyn_box-in_ok-new-5.result.vtable, w) (alloc, (task, tt {0}))) =
          rw c.into_dyn_box-in_ok-new-5.ensures.0 (λ w. ∣ of_kind _ task.now given ∣₁) in
          r c.into_dyn_box-in_ok-new-5.result.value;
      obeys = λ alloc task result given done.
          let r : (w : _) → (held_fn own-3).post (c.into_dyn_box-in_ok-new-5.result.vtable, w) (alloc, (task, tt {0})) result → Fulfils task.now result =
          rw c.into_dyn_box-in_ok-new-5.ensures.0 (λ w so. so.1) in
          r c.into_dyn_box-in_ok-new-5.result.value done;
    }

pub invariant_of-vec-6 : goal.invariant_of-vec-6
invariant_of-vec-6 g c =
    record {
      may_run = λ alloc task given.
          let r : (w : _) → Sure ((held_fn own-3).pre (c.into_dyn_box-in_ok-new-6.result.vtable, w) (alloc, (task, tt {0}))) =
          rw c.into_dyn_box-in_ok-new-6.ensures.0 (λ w. ∣ of_kind _ task.now given ∣₁) in
          r c.into_dyn_box-in_ok-new-6.result.value;
      obeys = λ alloc task result given done.
          let r : (w : _) → (held_fn own-3).post (c.into_dyn_box-in_ok-new-6.result.vtable, w) (alloc, (task, tt {0})) result → Fulfils task.now result =
          rw c.into_dyn_box-in_ok-new-6.ensures.0 (λ w so. so.1) in
          r c.into_dyn_box-in_ok-new-6.result.value done;
    }

pub invariant_of-vec-7 : goal.invariant_of-vec-7
invariant_of-vec-7 g c =
    record {
      may_run = λ alloc task given.
          let r : (w : _) → Sure ((held_fn own-3).pre (c.into_dyn_box-in_ok-new-7.result.vtable, w) (alloc, (task, tt {0}))) =
          rw c.into_dyn_box-in_ok-new-7.ensures.0 (λ w. ∣ given ∣₁) in
          r c.into_dyn_box-in_ok-new-7.result.value;
      obeys = λ alloc task result given done.
          let r : (w : _) → (held_fn own-3).post (c.into_dyn_box-in_ok-new-7.result.vtable, w) (alloc, (task, tt {0})) result → Fulfils task.now result =
          rw c.into_dyn_box-in_ok-new-7.ensures.0 (λ w so. so.1) in
          r c.into_dyn_box-in_ok-new-7.result.value done;
    }
