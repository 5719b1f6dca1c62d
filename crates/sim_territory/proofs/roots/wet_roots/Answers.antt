-- One mark more is looked at.
use Rattle.sim_territory.proofs.roots.wet_roots.Goals as goal
use Rattle.sim_territory.proofs.Common.{All-get_or, Flood, get_or, ground_size, holder_by, is_root, is_root_under, IsMarkIn, IsOnGround, IsWetAt, List, Mark}
use Rattle.sim_territory.proofs.Common.{refl, roots_among, Size, subst, sum_at, sym, take, take_all, ◌+◌, ◌∙◌, ◌≡◌}
use Rattle.sim_territory.proofs.{Flooding.{AtRoots, root_is, roots_pass, roots_step}, roots.wet_roots.Goals.{else-is_root, then-is_root+in_ok-wet}}

-- what is read past the end
abbrev no_mark : Mark
no_mark = record { id = 0; cell = record { x = 0; z = 0 }; owner = 0; template = 0 }

pub loop-mark-init : goal.loop-mark-init
loop-mark-init c = record { size = refl; wet = c.requires.dry }

pub is_root-requires : goal.is_root-requires
is_root-requires c = All-get_or (IsMarkIn c.args.influences.now.sums) c.args.marks.now c.loop-mark.mark-index no_mark c.loop-mark-test.true
    c.requires.kept.within

pub wet-requires : goal.wet-requires
wet-requires c =
    let within = All-get_or (IsMarkIn c.args.influences.now.sums) c.args.marks.now c.loop-mark.mark-index no_mark c.loop-mark-test.true
    c.requires.kept.within in
    subst (λ (s : Size). IsOnGround s (get_or c.args.marks.now c.loop-mark.mark-index no_mark).cell) (sym (c.loop-mark.invariant.size ∙ c.requires.size))
    within.ground

pub loop-mark-preserved : goal.loop-mark-preserved
loop-mark-preserved c =
    let setup = c.args.setup.now in
    let marks = c.args.marks.now in
    let sums = c.args.influences.now.sums in
    let i = c.loop-mark.mark-index in
    let begun = c.args.flood.now in
    let old = c.loop-mark.flood in
    let mark = get_or marks i no_mark in
    let below = c.loop-mark-test.true in
    let within = All-get_or (IsMarkIn sums) marks i no_mark below c.requires.kept.within in
    let told : c.is_root.result ≡ is_root_under setup (holder_by sums.players (λ player. sum_at sums player mark.cell)) mark = c.is_root.ensures in
    let is : c.is_root.result ≡ is_root setup marks mark = told ∙ root_is setup marks sums mark c.requires.kept within in
    let there : IsOnGround (ground_size old) mark.cell = subst (λ (s : Size). IsOnGround s mark.cell) (sym (c.loop-mark.invariant.size ∙ c.requires.size))
    within.ground in
    elim c.if-is_root.branch [
      | then-is_root+in_ok-wet w ↦
          subst (λ (f : Flood). AtRoots setup marks (take (i + 1) marks) begun f) (sym w.flood-is)
          (roots_step setup marks i no_mark below begun old w.wet.new.self there (sym is ∙ w.if-is_root.true) w.in_ok-wet.ensures c.loop-mark.invariant)
      | else-is_root w ↦
          subst (λ (f : Flood). AtRoots setup marks (take (i + 1) marks) begun f) (sym w.flood-is)
          (roots_pass setup marks i no_mark below begun old (sym is ∙ w.if-is_root.false) c.loop-mark.invariant)
    ]

pub returns : goal.returns
returns c = record {
  size = c.loop-mark.invariant.size;
  wet = subst (λ (some : List Mark). IsWetAt (roots_among c.args.setup.now c.args.marks.now some) c.loop-mark.flood)
      (take_all c.loop-mark.mark-index c.args.marks.now c.loop-mark-test.false) c.loop-mark.invariant.wet;
}
