-- What was to come is what was copied to the buffer and what is to come now; and where nothing was copied though there was room,
-- nothing was to come.
use Rattle.sim_talk.proofs.Reading.{drop-read, nothing_left, slice_from}
use Rattle.std.{proofs.{Common.{ap, arith, drop, length, List, rules, subst, take, ℕ, ◌-◌, ◌∙◌, ◌≡◌, ◌≤◌}, lemmas.List.length-take-le}, specs.Prelude.min}

pub returns-clause-moves : Rattle.sim_talk.proofs.mem_source.MemSourceSource.read.Goals.returns-clause-moves
returns-clause-moves c =
    let bytes = c.args.self.now.bytes.items in
    let into = c.args.into.now in
    let at = c.args.self.now.at in
    let most = c.args.self.now.most in
    let count = c.min-count.result in
    let front = c.copy_from_slice.new.self in
    let left : take (length c.deref.result.now - at) (drop at c.deref.result.now) ≡ drop at bytes =
    slice_from c.deref.result.now bytes at c.deref.ensures.value in
    let fits : count ≤ length (take (length c.deref.result.now - at) (drop at c.deref.result.now)) = search rules in
    let fits' : count ≤ length (drop at bytes) = subst (λ (l : List ℕ). count ≤ length l) left fits in
    let copied : front ≡ take count (drop at bytes) = c.copy_from_slice.ensures.after ∙ ap (λ (l : List ℕ). take count l) left in
    let is : count ≡ min (min (length (take (length c.deref.result.now - at) (drop at c.deref.result.now))) most) (length into) = omega arith in
    let long : length front ≡ count = ap length copied ∙ length-take-le count (drop at bytes) fits' in
    record {
      bound = search rules;
      bytes = (
        drop-read bytes into front at count fits' copied,
        nothing_left bytes into front at most count (subst (λ (l : List ℕ). count ≡ min (min (length l) most) (length into)) left is) c.args.self.now.some long,
      );
    }
