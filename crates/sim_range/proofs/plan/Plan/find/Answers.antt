-- Those of one bucket more, or nobody where the bucket is out of reach or a move is seen from all of it.
use Rattle.sim_range.proofs.plan.Plan.find.Goals as goal
use Rattle.sim_range.proofs.Common.{ap, arith, below_bucket, Bucket, differ, Fact, held_in, is_seen, IsPermutation, List, list_any-IsPermutation, Plan, sees}
use Rattle.sim_range.proofs.Common.{subst, sym, turned_seen, turned_watchers, ℕ, ◌*◌, ◌++◌, ◌<◌, ◌==◌, ◌∙◌, ◌≡◌, ◌≤◌}
use Rattle.sim_range.proofs.{Nearing.{all_below, bucket_held, lent_held, more_chosen, nothing_more, start_chosen}, plan.Plan.find.Goals.else-has}
use Rattle.sim_range.proofs.plan.Plan.find.Goals.{else-has-via-else-has, else-has-via-then-has+else-not-is_inner, then-has+then-not-is_inner+in_ok-push}
use Rattle.sim_range.proofs.{Planning.{no_watchers, none_in_sight, none_in_view, none_turned, pass_view, pass_watchers}, Seeing.agree_elsewhere}

pub loop-number-init : goal.loop-number-init
loop-number-init c =
    let land = c.args.crowd.now.held.land.now in
    let before = c.args.before.now in
    let after = c.args.after.now in
    let facts = c.args.crowd.now.held.facts.now in
    let area = c.area_of-area.ensures in
    let first = c.area_of-area.result.rows.first * 16 in
    let old_out = λ (k : ℕ) (low : 0 ≤ k) (lt : k < first). area.before k (λ rows columns. absurd (omega (arith, rows.0, lt))) in
    let new_out = λ (k : ℕ) (low : 0 ≤ k) (lt : k < first). area.after k (λ rows columns. absurd (omega (arith, rows.0, lt))) in
    record {
      watchers = subst (λ (xs : List ℕ). IsPermutation xs c.clear.new.self.items)
          (sym (pass_watchers land c.args.visions.now.far before after facts c.args.crowd.now.sorted.placed c.requires.far 0 first (omega arith) old_out
          new_out))
          (start_chosen (λ (f : Fact). differ (is_seen land f before) (is_seen land f after)) facts c.clear.new.self.items c.clear.ensures.items);
      seen = subst (λ (xs : List ℕ). IsPermutation xs c.clear-2.new.self.items)
          (sym (pass_view land c.args.visions.now.far before after facts c.args.crowd.now.sorted.placed c.requires.far 0 first (omega arith) old_out new_out
          c.requires.before_far c.requires.after_far))
          (start_chosen (λ (f : Fact). differ (sees land before f) (sees land after f)) facts c.clear-2.new.self.items c.clear-2.ensures.items);
    }

pub push-requires-clause-held : goal.push-requires-clause-held
push-requires-clause-held c =
    bucket_held c.args.crowd.now.held.land.now c.args.crowd.now.held.facts.now c.loop-number.number c.args.crowd.now.buckets.now c.index-crowd-number.result _
    c.args.crowd.now.sorted.holds c.args.crowd.now.sorted.bucketed
    (grind arith) c.index-crowd-number.is (c.as_slice-facts.ensures.value ∙ ap (λ (b : Bucket). b.facts.items) (sym c.index-crowd-number.is))

pub loop-number-preserved : goal.loop-number-preserved
loop-number-preserved c =
    let land = c.args.crowd.now.held.land.now in
    let before = c.args.before.now in
    let after = c.args.after.now in
    let facts = c.args.crowd.now.held.facts.now in
    let k = c.loop-number.number in
    let kept = c.loop-number.invariant in
    let changes = λ (f : Fact). differ (is_seen land f before) (is_seen land f after) in
    let views = λ (f : Fact). differ (sees land before f) (sees land after f) in
    elim c.if-has.branch [
      | then-has+then-not-is_inner+in_ok-push w ↦
          (let here = lent_held facts k c.args.crowd.now.buckets.now w.index-crowd-number.result _ c.args.crowd.now.sorted.bucketed (grind arith)
          w.index-crowd-number.is
          (w.as_slice-facts.ensures.value ∙ ap (λ (b : Bucket). b.facts.items) (sym w.index-crowd-number.is)) in
          record {
            watchers = more_chosen changes k facts c.loop-number.self.watchers.items _ kept.watchers
                (ap (λ (p : Plan). p.watchers.items) w.self-is ∙ w.in_ok-push.ensures.watchers ∙
                ap (λ (fs : List Fact). c.loop-number.self.watchers.items ++ turned_watchers land before after fs) here);
            seen = more_chosen views k facts c.loop-number.self.seen.items _ kept.seen (ap (λ (p : Plan). p.seen.items) w.self-is ∙ w.in_ok-push.ensures.seen ∙
                ap (λ (fs : List Fact). c.loop-number.self.seen.items ++ turned_seen land before after fs) here);
          })
      | else-has w ↦ elim w.else-has.branch [
        | else-has-via-else-has v ↦
            (let out = c.has.ensures.no v.if-has.false in
            let old_out = c.area_of-area.ensures.before k (λ rows columns. out columns) in
            let new_out = c.area_of-area.ensures.after k (λ rows columns. out columns) in
            record {
              watchers = more_chosen changes k facts c.loop-number.self.watchers.items _ kept.watchers
                  (ap (λ (p : Plan). p.watchers.items) w.self-is ∙ nothing_more c.loop-number.self.watchers.items
                  (turned_watchers land before after (held_in k facts)) (no_watchers land c.args.visions.now.far k before after facts
                  c.args.crowd.now.sorted.placed
                  c.requires.far old_out new_out));
              seen = more_chosen views k facts c.loop-number.self.seen.items _ kept.seen
                  (ap (λ (p : Plan). p.seen.items) w.self-is
                  ∙ nothing_more c.loop-number.self.seen.items (turned_seen land before after (held_in k facts))
                  (none_in_view land c.args.visions.now.far k before after facts c.args.crowd.now.sorted.placed c.requires.far old_out new_out
                  c.requires.before_far
                  c.requires.after_far));
            })
        | else-has-via-then-has+else-not-is_inner v ↦
            (let inner = v.is_inner.ensures v.if-not-is_inner.false in
            record {
              watchers = more_chosen changes k facts c.loop-number.self.watchers.items _ kept.watchers
                  (ap (λ (p : Plan). p.watchers.items) w.self-is ∙ nothing_more c.loop-number.self.watchers.items
                  (turned_watchers land before after (held_in k facts)) (none_turned land c.args.visions.now.near k facts c.args.crowd.now.sorted.placed
                  c.requires.near
                  before after inner));
              seen = more_chosen views k facts c.loop-number.self.seen.items _ kept.seen
                  (ap (λ (p : Plan). p.seen.items) w.self-is ∙ nothing_more c.loop-number.self.seen.items (turned_seen land before after (held_in k facts))
                  (none_in_sight land c.args.visions.now.near k facts c.args.crowd.now.sorted.placed c.requires.near before after c.requires.before_near
                  inner));
            })
      ]
    ]

pub returns-clause-watchers : goal.returns-clause-watchers
returns-clause-watchers c =
    let land = c.args.crowd.now.held.land.now in
    let before = c.args.before.now in
    let after = c.args.after.now in
    let facts = c.args.crowd.now.held.facts.now in
    let area = c.area_of-area.ensures in
    let end = c.area_of-area.result.rows.end * 16 in
    let ids = c.loop-number.self.watchers.items in
    let old_out = λ (k : ℕ) (low : end ≤ k) (lt : k < 256). area.before k (λ rows columns. absurd (omega (arith, rows.1, low))) in
    let new_out = λ (k : ℕ) (low : end ≤ k) (lt : k < 256). area.after k (λ rows columns. absurd (omega (arith, rows.1, low))) in
    let at_end : c.loop-number.number ≡ end = grind arith in
    let here = subst (λ (n : ℕ). IsPermutation (turned_watchers land before after (below_bucket n facts)) ids) at_end c.loop-number.invariant.watchers in
    let further = subst (λ (xs : List ℕ). IsPermutation xs ids)
    (sym (pass_watchers land c.args.visions.now.far before after facts c.args.crowd.now.sorted.placed c.requires.far end 256
    (omega (arith, c.area_of-area.result.rows.within)) old_out
    new_out))
    here in
    let whole = subst (λ (fs : List Fact). IsPermutation (turned_watchers land before after fs) ids)
    (all_below (λ (f : Fact). differ (is_seen land f before) (is_seen land f after)) facts c.args.crowd.now.sorted.placed) further in
    agree_elsewhere (λ (f : Fact). is_seen land f before) (λ (f : Fact). is_seen land f after) facts ids
    (λ n. sym (list_any-IsPermutation (λ (m : ℕ). m == n) (turned_watchers land before after facts) ids whole))

pub returns-clause-seen : goal.returns-clause-seen
returns-clause-seen c =
    let land = c.args.crowd.now.held.land.now in
    let before = c.args.before.now in
    let after = c.args.after.now in
    let facts = c.args.crowd.now.held.facts.now in
    let area = c.area_of-area.ensures in
    let end = c.area_of-area.result.rows.end * 16 in
    let ids = c.loop-number.self.seen.items in
    let old_out = λ (k : ℕ) (low : end ≤ k) (lt : k < 256). area.before k (λ rows columns. absurd (omega (arith, rows.1, low))) in
    let new_out = λ (k : ℕ) (low : end ≤ k) (lt : k < 256). area.after k (λ rows columns. absurd (omega (arith, rows.1, low))) in
    let at_end : c.loop-number.number ≡ end = grind arith in
    let here = subst (λ (n : ℕ). IsPermutation (turned_seen land before after (below_bucket n facts)) ids) at_end c.loop-number.invariant.seen in
    let further = subst (λ (xs : List ℕ). IsPermutation xs ids)
    (sym (pass_view land c.args.visions.now.far before after facts c.args.crowd.now.sorted.placed c.requires.far end 256
    (omega (arith, c.area_of-area.result.rows.within)) old_out
    new_out
    c.requires.before_far c.requires.after_far)) here in
    let whole = subst (λ (fs : List Fact). IsPermutation (turned_seen land before after fs) ids)
    (all_below (λ (f : Fact). differ (sees land before f) (sees land after f)) facts c.args.crowd.now.sorted.placed) further in
    agree_elsewhere (sees land before) (sees land after) facts ids
    (λ n. sym (list_any-IsPermutation (λ (m : ℕ). m == n) (turned_seen land before after facts) ids whole))
