-- No system is built.
use Rattle.sim_board.proofs.Common.{◌≡◌, refl, ap, AreFed, AreKept, four, Meaning, Setup, State, Systems, ◌∙◌}

-- where nobody was told
pub kept_fed : (setup : Setup) (state : State) (s : Systems) → AreFed setup state s → AreKept s s
kept_fed setup state s fed = record {
  kinds = record { ground = fed.ground.kinds; range = fed.range.kinds; watch = fed.watch.kinds; census = fed.census.kinds };
  rebuilds = record { ground = refl; range = refl; watch = refl; census = refl };
}

-- by one that comes behind another
pub kept_on : (s t u : Systems) → AreKept s t → AreKept t u → AreKept s u
kept_on s t u first second = record {
  kinds = second.kinds;
  rebuilds = record {
    ground = second.rebuilds.ground ∙ first.rebuilds.ground;
    range = second.rebuilds.range ∙ first.rebuilds.range;
    watch = second.rebuilds.watch ∙ first.rebuilds.watch;
    census = second.rebuilds.census ∙ first.rebuilds.census;
  };
}

-- where one was told, or found no memory for it
module _ (s t : Systems) (m n : Meaning) (kept : AreKept s t) (is : m ≡ n) where
  pub kept_range : n.kind ≡ t.range.kind → n.rebuilds ≡ t.range.rebuilds → AreKept s (four t.ground m t.watch t.census)
  kept_range kind rebuilds = record {
    kinds = record {
      ground = kept.kinds.ground;
      range = ap (λ (x : Meaning). x.kind) is ∙ kind ∙ kept.kinds.range;
      watch = kept.kinds.watch;
      census = kept.kinds.census;
    };
    rebuilds = record {
      ground = kept.rebuilds.ground;
      range = ap (λ (x : Meaning). x.rebuilds) is ∙ rebuilds ∙ kept.rebuilds.range;
      watch = kept.rebuilds.watch;
      census = kept.rebuilds.census;
    };
  }

  pub kept_watch : n.kind ≡ t.watch.kind → n.rebuilds ≡ t.watch.rebuilds → AreKept s (four t.ground t.range m t.census)
  kept_watch kind rebuilds = record {
    kinds = record {
      ground = kept.kinds.ground;
      range = kept.kinds.range;
      watch = ap (λ (x : Meaning). x.kind) is ∙ kind ∙ kept.kinds.watch;
      census = kept.kinds.census;
    };
    rebuilds = record {
      ground = kept.rebuilds.ground;
      range = kept.rebuilds.range;
      watch = ap (λ (x : Meaning). x.rebuilds) is ∙ rebuilds ∙ kept.rebuilds.watch;
      census = kept.rebuilds.census;
    };
  }

  pub kept_census : n.kind ≡ t.census.kind → n.rebuilds ≡ t.census.rebuilds → AreKept s (four t.ground t.range t.watch m)
  kept_census kind rebuilds = record {
    kinds = record {
      ground = kept.kinds.ground;
      range = kept.kinds.range;
      watch = kept.kinds.watch;
      census = ap (λ (x : Meaning). x.kind) is ∙ kind ∙ kept.kinds.census;
    };
    rebuilds = record {
      ground = kept.rebuilds.ground;
      range = kept.rebuilds.range;
      watch = kept.rebuilds.watch;
      census = ap (λ (x : Meaning). x.rebuilds) is ∙ rebuilds ∙ kept.rebuilds.census;
    };
  }
