-- The digests of a state are the same in every match of one id.
use Rattle.sim_client.{proofs.Common.{digest, Setup, State, subst, sym, ◌∙◌, ◌≡◌}, specs.{declared.digests.Both.Both, Kept.AreDigests}}

digest_by_id : (setup other : Setup) (state : State) → other.id ≡ setup.id → digest other state ≡ digest setup state
unfolding digest
digest_by_id setup other state same = rw same

pub digests_by_id : (setup : Setup) (state copied : State) (both : Both) → copied ≡ state → AreDigests setup state both
    → (other : Setup) → other.id ≡ setup.id → AreDigests other copied both
digests_by_id setup state copied both is are other same =
    subst (λ (s : State). AreDigests other s both) (sym is) (record { whole = are.whole ∙ sym (digest_by_id setup other state same); quick = are.quick })
