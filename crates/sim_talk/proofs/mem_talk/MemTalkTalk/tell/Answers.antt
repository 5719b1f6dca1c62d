-- Of a text that does not fit, or for which there was no memory, a beginning was told, and that is counted.
use Rattle.sim_talk.specs.{MemTalk.KeepsTold, MemTalk.history_of, Talks.Passed, Talks.Tells, Talks.none_of, Talks.part_of, Talks.told, Talks.told_bytes}
use Rattle.std.proofs.Common.{[], append-nil, Err, List, Ok, refl, Result, sym, take, ℕ, ◌∙◌, ◌∷◌, ◌≡◌}
use Rattle.{sim_store.specs.Shelf.raised, sim_store.specs.declared.fault.Failed.Failed, std.specs.Prelude.⊤}

told_in_part : (result : Result ⊤ Failed) (failed : Failed) (text : List ℕ) (count : ℕ) (xs ys : List Passed) (unread unwritten unwritten' : ℕ)
    → KeepsTold result (take count text) xs ys → unwritten' ≡ raised 1 unwritten
    → Tells (Err failed) text (history_of xs unread unwritten) (history_of ys unread unwritten')
told_in_part (Ok done) failed text count xs ys unread unwritten unwritten' kept counted =
    let more : List Passed = told (take count text) ∷ [] in (
      more,
      part_of count,
      (
        history_of ys unread unwritten,
        record {
          passed = kept;
          taken = tt;
          written = record { now = told_bytes more; written = tt; rest = sym (append-nil (told_bytes more)) };
          longest = refl;
          read = refl;
          wrote = refl;
        },
        (0, record { passed = refl; coming = refl; written = tt; kept = refl; longest = refl; read = refl; wrote = counted }),
      ),
    )
told_in_part (Err other) failed text count xs ys unread unwritten unwritten' kept counted = (
  [],
  none_of,
  (
    history_of ys unread unwritten,
    record {
      passed = kept ∙ sym (append-nil xs);
      taken = tt;
      written = record { now = []; written = tt; rest = refl };
      longest = refl;
      read = refl;
      wrote = refl;
    },
    (0, record { passed = refl; coming = refl; written = tt; kept = refl; longest = refl; read = refl; wrote = counted }),
  ),
)

pub returns-clause-passed : Rattle.sim_talk.proofs.mem_talk.MemTalkTalk.tell.Goals.returns-clause-passed
returns-clause-passed c =
    told_in_part c.tell_all-told.result _ c.args.text.now c.min-count.result _ _ _ _ _ c.tell_all-told.ensures c.one_more-self.ensures
