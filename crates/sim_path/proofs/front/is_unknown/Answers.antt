use Rattle.sim_path.proofs.{Common.true≢false, Common.◌∙◌, front.is_unknown.Goals.else-is_none, front.is_unknown.Goals.then-is_none}
use Rattle.sim_path.proofs.Common.{◌≡◌, ℕ, ◌≤◌, Bool, true, false, not, leb, is_some, Some, None, Option, refl, arith, false≢true, le-leb, leb-true, sym}

none_by : (o : Option ℕ) (b : Bool) → is_some o ≡ not b → b ≡ true → o ≡ None
none_by None b e t = refl
none_by (Some n) true e t = absurd (true≢false e)
none_by (Some n) false e t = absurd (false≢true t)

is_by : (o : Option ℕ) (b : Bool) → is_some o ≡ not b → o ≡ None → b ≡ true
is_by None true e n = refl
is_by None false e n = absurd (false≢true e)
is_by (Some m) b e n = cc

low_by : (a b : ℕ) {x y : ℕ} → a ≡ x → b ≡ y → leb a b ≡ true → x ≤ y
low_by a b e f t = omega (arith, leb-true a b t)

by_low : (a b : ℕ) {x y : ℕ} → a ≡ x → b ≡ y → x ≤ y → leb a b ≡ true
by_low a b e f le = le-leb a b (omega arith)

pub returns-then-octile-left : Rattle.sim_path.proofs.front.is_unknown.Goals.returns-then-octile-left
returns-then-octile-left c = (
  λ t. elim c.if-is_none.branch [
    | then-is_none w ↦
        record {
          none = sym c.at.ensures ∙ none_by c.at.result c.is_none.result c.is_none.ensures w.if-is_none.true;
          far = low_by w.octile.result c.args.left w.octile.ensures.is c.requires (sym w.value-is ∙ c.if-octile-left.true);
          beyond = low_by c.args.front.now.aim.near c.octile-then-octile-left.result refl c.octile-then-octile-left.ensures.is t;
        }
    | else-is_none w ↦ absurd (true≢false (sym c.if-octile-left.true ∙ w.value-is ∙ w.if-is_none.false))
  ],
  λ u. by_low c.args.front.now.aim.near c.octile-then-octile-left.result refl c.octile-then-octile-left.ensures.is u.beyond,
)

pub returns-else-octile-left : Rattle.sim_path.proofs.front.is_unknown.Goals.returns-else-octile-left
returns-else-octile-left c = (
  λ t. absurd (true≢false (sym t ∙ c.if-octile-left.false)),
  λ u. elim c.if-is_none.branch [
    | then-is_none w ↦ w.value-is ∙ by_low w.octile.result c.args.left w.octile.ensures.is c.requires u.far
    | else-is_none w ↦ absurd (true≢false (sym (is_by c.at.result c.is_none.result c.is_none.ensures (c.at.ensures ∙ u.none)) ∙ w.if-is_none.false))
  ],
)
