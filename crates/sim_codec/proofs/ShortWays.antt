-- In a state that is valid, or loosely valid, no way is too long to be told.
use Rattle.sim_codec.proofs.Common.{IsShort, IsState, IsValidMotion, IsValidRow, Motion, Row, Setup, State, Still, Template}
use Rattle.sim_codec.proofs.Common.{ℕ, ◌^◌, ◌<◌, List, length, get_or, IfSome, slice_get, MatchOption, Some, None, All, Option, arith, Both, Going, HasShortWay}

by_motion : {X : Type 0} (setup : Setup) (motion : Option Motion) (speed : Option X) → Both motion speed (λ motion speed. IsValidMotion setup motion)
    → IfSome motion IsShort
by_motion setup None speed h = tt
by_motion setup (Some motion) None h = absurd h
by_motion setup (Some Still) (Some speed) h = tt
by_motion setup (Some (Going goal way whole)) (Some speed) h = h.2

by_template : (least : ℕ) (setup : Setup) (rows : List Row) (row : Row) (o : Option Template) → MatchOption o ⊥ (IsValidRow least setup rows row)
    → HasShortWay row
by_template least setup rows row None h = absurd h
by_template least setup rows row (Some t) h = by_motion setup row.motion t.speed h.motion

pub short_ways : (least : ℕ) (setup : Setup) (state : State) → IsState least setup state → All HasShortWay state.rows
short_ways least setup state valid k d lt =
    let row = get_or state.rows k d in
    by_template least setup state.rows row (slice_get setup.templates row.template) (valid.rows k d lt)

pub few_rows : (least : ℕ) (setup : Setup) (state : State) → IsState least setup state → length state.rows < 2 ^ 32
few_rows least setup state valid = omega (arith, valid.few)
