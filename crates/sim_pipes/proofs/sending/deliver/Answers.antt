-- One post more is sent.
use Rattle.sim_pipes.proofs.{Frames.sent_more, Telling.told_more}
use Rattle.sim_pipes.proofs.Common.{[], ◌∷◌, ◌++◌, length, take, ap, append_assoc, AreFrames, arith, IsDownFrame, pipe_in, subst, sym, told_to, ◌∙◌}

pub returns-in_err-send_down_to-clause-none : Rattle.sim_pipes.proofs.sending.deliver.Goals.returns-in_err-send_down_to-clause-none
returns-in_err-send_down_to-clause-none c = λ none. absurd (omega (arith, c.loop-post-test.true, ap length (c.as_slice-post-items.ensures ∙ none)))

pub loop-post-preserved : Rattle.sim_pipes.proofs.sending.deliver.Goals.loop-post-preserved
loop-post-preserved c =
    let all = c.as_slice-post-items.result.now in
    let i = c.loop-post.post-index in
    record {
      frames = λ k before are.
          subst (AreFrames IsDownFrame (pipe_in c.send_down_to.new.pipes.items k))
          (append_assoc before (told_to k (take i all)) (told_to k (c.post-item.result ∷ [])) ∙
          ap (λ l. before ++ l) (sym (told_more k all i c.post-item.result (omega (arith, c.loop-post-test.true)) c.post-item.is)))
          (sent_more c.loop-post.pipes.items c.send_down_to.new.pipes.items c.post-item.result k (before ++ told_to k (take i all))
          c.in_ok-send_down_to.ensures.one c.in_ok-send_down_to.ensures.others (c.loop-post.invariant.frames k before are));
      count = c.in_ok-send_down_to.ensures.count ∙ c.loop-post.invariant.count;
    }
