-- Pieces that are told one behind the other.
use Rattle.{sim_bytes.proofs.Ways.first, sim_codec.proofs.Common.{ap, append_assoc, codes, List, OnOk, Result, subst, Tells, ℕ, ◌++◌}}

-- the magic, the version and the id, before the clock and what a last call tells
pub headed : {K E : Type 0} (holds : K → List ℕ → List ℕ → Type 0) (a b c d : K) (version id clock rest : List ℕ) (r : Result (Unit {0}) E)
    → Tells holds a b (codes "RSIM" ++ (version ++ id)) → Tells holds b c clock → OnOk r (Tells holds c d rest)
    → OnOk r (Tells holds a d (codes "RSIM" ++ (version ++ (id ++ (clock ++ rest)))))
headed holds a b c d version id clock rest r p q s =
    subst (λ bytes. OnOk r (Tells holds a d bytes)) (ap (λ (x : List ℕ). codes "RSIM" ++ x) (append_assoc version id (clock ++ rest)))
    (first holds a b d (codes "RSIM" ++ (version ++ id)) (clock ++ rest) r p (first holds b c d clock rest r q s))
