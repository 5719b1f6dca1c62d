use Rattle.{sim_attack.{proofs.Fighting.IsFar, specs.Fights.AreTaken}, sim_base.specs.{declared.change.Change.TheVariants.Word, Turn.hitting}}
use Rattle.{sim_plans.specs.Plans.{fight_changes_of, hurt_changes_of}, std.proofs.Common.{All, flat_map, length, take, ◌*◌, ◌++◌, ◌<◌, ◌^◌, ◌∷◌, ◌≡◌, ◌≤◌}}

abbrev pub invariant-loop-row : Rattle.sim_attack.proofs.hit.listed_hits.Given.invariant-loop-row
invariant-loop-row l =
    record {
      changes : l.changes ≡ flat_map (fight_changes_of l.setup l.state) (take l.row-index l.state.rows);
      far : IsFar l.setup l.state l.row-index l.word l.damage.items;
      word : l.word < 2 ^ 48;
      long : length l.damage.items ≡ length l.state.rows;
      small : All (λ n. n ≤ l.row-index * 196608000) l.damage.items;
    }

abbrev pub invariant-loop-at : Rattle.sim_attack.proofs.hit.listed_hits.Given.invariant-loop-at
invariant-loop-at l =
    record {
      changes : l.changes ≡ flat_map (fight_changes_of l.setup l.state) l.state.rows ++ Word (hitting l.setup l.state).word ∷
          flat_map (hurt_changes_of (hitting l.setup l.state).hits) (take l.at l.state.rows);
      taken : AreTaken l.state.rows (hitting l.setup l.state).hits l.damage.items;
      small : All (λ n. n < 2 ^ 62) l.damage.items;
    }
