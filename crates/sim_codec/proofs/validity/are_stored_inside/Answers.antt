-- One point more passes.
use Rattle.sim_codec.proofs.{Checked.{all_seen, one_more}, Common.{ap, get_or, get_or_default, IsInside, IsTrue, List, point_in, refl, subst, ℕ, [], ◌↔◌, ◌∙◌}}

pub loop-bytes-preserved : Rattle.sim_codec.proofs.validity.are_stored_inside.Goals.loop-bytes-preserved
loop-bytes-preserved c =
    let stored = c.args.stored.now in
    let i = c.loop-bytes.bytes-index in
    let x : List ℕ = get_or stored i [] in
    let point = c.point_of.ensures ∙ ap point_in (get_or_default stored i _ [] c.loop-bytes-test.true) in
    one_more (λ bytes. IsInside c.args.setup.now (point_in bytes)) stored i x c.is_inside_setup.result c.loop-bytes-test.true
    (get_or_default stored i [] x c.loop-bytes-test.true)
    (subst (λ p. IsTrue c.is_inside_setup.result ↔ IsInside c.args.setup.now p) point c.is_inside_setup.ensures) c.if-not-is_inside_setup.false
    c.loop-bytes.invariant

pub returns : Rattle.sim_codec.proofs.validity.are_stored_inside.Goals.returns
returns c = (
  λ _. all_seen (λ bytes. IsInside c.args.setup.now (point_in bytes)) c.args.stored.now c.loop-bytes.bytes-index c.loop-bytes-test.false c.loop-bytes.invariant,
  λ _. refl,
)
