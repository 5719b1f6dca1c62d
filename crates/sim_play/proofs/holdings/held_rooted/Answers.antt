-- A cell more is counted, if it is rooted; and all cells of both lists, side by side, are at the end.
use Rattle.sim_play.proofs.holdings.held_rooted.Goals.{else-rooted-cell, then-rooted-cell}
use Rattle.std.proofs.Common.{ap, arith, Bool, false, get_or, length, List, refl, sym, take, true, ℕ, ◌&&◌, ◌+◌, ◌<◌, ◌==◌, ◌∙◌, ◌≡◌, ◌≤◌}
use Rattle.std.{proofs.lemmas.{List.{Sums.sum_by_more, take_all}, Slice.Zip.{get_or-zip, length-zip}}, specs.Prelude.{count_by, if◌then◌else◌, zip}}

-- a cell counts by its holder where it is rooted, and else not
if_rooted : (his rooted : Bool) → rooted ≡ true → ◌≡◌ {A = ℕ} (if his && rooted then 1 else 0) (if his then 1 else 0)
if_rooted true rooted is = ap {B = ℕ} (λ (b : Bool). if b then 1 else 0) is
if_rooted false rooted is = refl

if_not : (his rooted : Bool) → rooted ≡ false → ◌≡◌ {A = ℕ} (if his && rooted then 1 else 0) 0
if_not true rooted is = ap {B = ℕ} (λ (b : Bool). if b then 1 else 0) is
if_not false rooted is = refl

module _ (holders : List ℕ) (rooted : List Bool) (player : ℕ) where
  -- how many of the first cells are rooted cells of the player
  abbrev counted : ℕ → ℕ
  counted n = count_by (λ (cell : ℕ × Bool). cell.0 == player && cell.1) (take n (zip holders rooted))

  one_more : (at : ℕ) → at < length holders → at < length rooted →
      counted (at + 1) ≡ counted at + (if get_or holders at 0 == player && get_or rooted at false then 1 else 0)
  one_more at held flagged =
      sum_by_more (λ (cell : ℕ × Bool). if cell.0 == player && cell.1 then 1 else 0) (zip holders rooted) at (0, false)
      (omega (arith, length-zip holders rooted))
      ∙ ap (λ (cell : ℕ × Bool). counted at + (if cell.0 == player && cell.1 then 1 else 0)) (get_or-zip holders rooted at (0, false) held flagged)

pub loop-cell-preserved : Rattle.sim_play.proofs.holdings.held_rooted.Goals.loop-cell-preserved
loop-cell-preserved c = λ player few.
    let holders = c.args.holders.now in
    let rooted = c.args.rooted.now in
    let at = c.loop-cell.cell in
    let more = one_more holders rooted player at (omega (arith, c.min-cell-end.ensures)) (omega (arith, c.min-cell-end.ensures)) in
    let before = c.loop-cell.invariant player few in
    let unchanged : counted holders rooted player at ≡ counted holders rooted player at + 0 = omega arith in
    let tally : List ℕ → ℕ = λ tally. get_or tally player 0 in
    elim c.if-rooted-cell.branch [
      | then-rooted-cell w ↦
          ap tally w.tally-is
          ∙ w.count.ensures player few
          ∙ ap (λ (n : ℕ). n + (if get_or holders at 0 == player then 1 else 0)) before
          ∙ sym (more ∙ ap (λ (n : ℕ). counted holders rooted player at + n) (if_rooted _ _ w.if-rooted-cell.true))
      | else-rooted-cell w ↦
          ap tally w.tally-is
          ∙ before
          ∙ unchanged
          ∙ sym (more ∙ ap (λ (n : ℕ). counted holders rooted player at + n) (if_not _ _ w.if-rooted-cell.false))
    ]

pub returns : Rattle.sim_play.proofs.holdings.held_rooted.Goals.returns
returns c = λ player few.
    let cells = zip c.args.holders.now c.args.rooted.now in
    let long = length-zip c.args.holders.now c.args.rooted.now in
    let all : length cells ≤ c.loop-cell.cell = omega (arith, long, c.min-cell-end.ensures, c.loop-cell-test.false) in
    c.loop-cell.invariant player few
    ∙ ap (count_by (λ (cell : ℕ × Bool). cell.0 == player && cell.1)) (take_all c.loop-cell.cell cells all)
