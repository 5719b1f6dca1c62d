-- Trees that are kept while templates are resolved.
use Rattle.sim_merge.specs.declared.fault.MergeFault.TheVariants as merge
use Rattle.sim_merge.specs.declared.fault.OverlayFault.TheVariants as overlay
use Rattle.sim_merge.proofs.Common.{AreWithin, arith, cond-true, MergeFault, option_map, origins_of, parents_in, prefix_len, refusal_at, root_there, true≢false}
use Rattle.sim_merge.proofs.Common.{BadOp, bare, Bool, cond, Cycle, false, List, nat_eq, nat_lt, Node, None, Option, Origin, refl, Result, Source, subst, there}
use Rattle.sim_merge.proofs.Common.{IfBadOp, IfRefusal, inherited, IsTreeOf, KeepsAll, list_all, names_in, nat_tests, NoParent, origin_of, replicate, slice_get}
use Rattle.sim_merge.proofs.Common.{[], filter_map-append, get_or-range_with_len, get_or-set_other, length-range_with_len, length-replicate, position_or_len_is}
use Rattle.sim_merge.proofs.Common.{ap, AreResolved, chain_fault, ChainTooLong, cons_option, is_resolved, OutOfMemory, OverlayFault, parent_among, root_refusal}
use Rattle.sim_merge.proofs.Common.{bytes_eq, chain_refusal, get_or-set_same, option_and_then, position-Some, position_or_len, range_with_len, slice_get-get_or}
use Rattle.sim_merge.proofs.Common.{chain_from, chain_root, cond-false, filter_map, get_or-map, Has, is_endless, is_layable, is_missing, length-map, length-set}
use Rattle.sim_merge.proofs.Common.{get_or, IsKept, Laying, layings, length, members, name_in, node_of, position, refused, repeats, root_in, roots_in, zero-add}
use Rattle.sim_merge.proofs.Common.{map, not, set, Some, suc, sym, Tree, true, zero, ℕ, ◌++◌, ◌+◌, ◌-◌, ◌<◌, ◌||◌, ◌∙◌, ◌∷◌, ◌≡◌, ◌≢◌, ◌≤◌}
use Rattle.sim_merge.proofs.FitLemmas.{IfNode, IfThere, IsGood, chain_root-resolved, if-all, there-resolved}
use Rattle.{sim_base.proofs.Tests.left_true, sim_base.proofs.Tests.right_true, std.proofs.lemmas.Bool.and_from}

-- Facts of parents and chains.

length-map' : {X Y : Type 0} (f : X → Y) (xs : List X) → length (map f xs) ≡ length xs
length-map' f [] = refl
length-map' f (x ∷ xs) = ap suc (length-map' f xs)

prefix_len-map : {X Y : Type 0} (f : X → Y) (p : Y → Bool) (xs : List X) → prefix_len (λ y. not (p y)) (map f xs) ≡ prefix_len (λ x. not (p (f x))) xs
prefix_len-map f p [] = refl
prefix_len-map f p (x ∷ xs) = ap (λ n. cond (not (p (f x))) (1 + n) 0) (prefix_len-map f p xs)

pub position-map : {X Y : Type 0} (f : X → Y) (p : Y → Bool) (xs : List X) → position p (map f xs) ≡ position (λ x. p (f x)) xs
position-map f p xs = rw (prefix_len-map f p xs, length-map' f xs)

-- ---- first places

pub position-at : {X : Type 0} (p : X → Bool) (xs : List X) (i : ℕ) (d : X) → i < length xs → p (get_or xs i d) ≡ true
    → ((k : ℕ) → k < i → p (get_or xs k d) ≡ false) →
    position p xs ≡ Some i
position-at p xs i d within here before =
    let at : position_or_len p xs ≡ i = position_or_len_is p xs i d (omega arith) before (λ h. here) in
    let less : nat_lt i (length xs) ≡ true = grind (arith, nat_tests) in
    ap (λ n. cond (nat_lt n (length xs)) (Some n) None) at ∙ cond-true (nat_lt i (length xs)) _ _ less

pub position-none : {X : Type 0} (p : X → Bool) (xs : List X) (d : X) → ((k : ℕ) → k < length xs → p (get_or xs k d) ≡ false) → position p xs ≡ None
position-none p xs d before =
    let at : position_or_len p xs ≡ length xs = position_or_len_is p xs (length xs) d (omega arith) before (λ h. absurd (omega arith)) in
    let no : nat_lt (length xs) (length xs) ≡ false = grind (arith, nat_tests) in
    ap (λ n. cond (nat_lt n (length xs)) (Some n) None) at ∙ cond-false (nat_lt (length xs) (length xs)) _ _ no

number-at : (n k d : ℕ) → k < n → get_or (range_with_len 0 n) k d ≡ k
number-at n k d h = get_or-range_with_len 0 n k d h ∙ zero-add k

pub position-number : (p : ℕ → Bool) (n i : ℕ) → i < n → p i ≡ true → ((k : ℕ) → k < i → p k ≡ false) → position p (range_with_len 0 n) ≡ Some i
position-number p n i within here before =
    position-at p (range_with_len 0 n) i 0 (omega (arith, length-range_with_len 0 n)) (ap p (number-at n i 0 within) ∙ here)
    (λ k h. ap p (number-at n k 0 (omega arith)) ∙ before k h)

pub position-no_number : (p : ℕ → Bool) (n : ℕ) → ((k : ℕ) → k < n → p k ≡ false) → position p (range_with_len 0 n) ≡ None
position-no_number p n before =
    position-none p (range_with_len 0 n) 0 (λ k h. let within : k < n = omega (arith, length-range_with_len 0 n) in ap p (number-at n k 0 within) ∙
    before k within)

-- ---- chains

pub chain_refusal-at : (parents : List (Option ℕ)) (number : ℕ) → number < length parents → is_endless (members parents number) ≡ true →
    ((k : ℕ) → k < number → is_endless (members parents k) ≡ false) → chain_refusal parents ≡ Some (chain_fault number (members parents number))
chain_refusal-at parents number within here before =
    ap (option_map (λ n. chain_fault n (members parents n))) (position-number (λ n. is_endless (members parents n)) (length parents) number within here before)

pub chain_refusal-none : (parents : List (Option ℕ)) → ((k : ℕ) → k < length parents → is_endless (members parents k) ≡ false) → chain_refusal parents ≡ None
chain_refusal-none parents before =
    ap (option_map (λ n. chain_fault n (members parents n))) (position-no_number (λ n. is_endless (members parents n)) (length parents) before)

pub chain_from-none : (parents : List (Option ℕ)) (more : ℕ) → chain_from parents more None ≡ []
chain_from-none parents zero = refl
chain_from-none parents (suc more) = refl

-- a refusal tells a fact that holds
pub IfRefusal-from : (fault : MergeFault) (P : Type 0) → P → IfRefusal fault P
IfRefusal-from (NoParent index) P p = p
IfRefusal-from (Cycle index) P p = p
IfRefusal-from (ChainTooLong index) P p = p
IfRefusal-from (BadOp index) P p = p
IfRefusal-from OutOfMemory P p = tt

-- one member more
pub chain_from-next : (parents : List (Option ℕ)) (seen member : ℕ) → seen < 17 →
    chain_from parents (17 - seen) (Some member) ≡ member ∷ chain_from parents (17 - (seen + 1)) (get_or parents member None)
chain_from-next parents seen member within =
    let one : 17 - seen ≡ suc (17 - (seen + 1)) = omega arith in
    ap (λ n. chain_from parents n (Some member)) one

-- ---- the chain of a parent

chain_from-more : (parents : List (Option ℕ)) (k : ℕ) (o : Option ℕ) → length (chain_from parents k o) < k → chain_from parents (suc k) o ≡ chain_from parents k
    o
chain_from-more parents zero o few = absurd (omega arith)
chain_from-more parents (suc k) None few = refl
chain_from-more parents (suc k) (Some number) few =
    ap (λ chain. number ∷ chain) (chain_from-more parents k (get_or parents number None) (omega (arith, few)))

few-members : (chain : List ℕ) → is_endless chain ≡ false → length chain ≤ 16
few-members chain e = by (repeats chain) e
  where
    by : (b : Bool) → (b || nat_lt 16 (length chain)) ≡ false → length chain ≤ 16
    by true e = absurd (true≢false e)
    by false e = grind (arith, nat_tests)

pub members-parent : (parents : List (Option ℕ)) (number parent : ℕ) → is_endless (members parents number) ≡ false → get_or parents number None ≡ Some parent →
    members parents number ≡ number ∷ members parents parent
unfolding members
members-parent parents number parent ended is =
    let first : chain_from parents 17 (Some number) ≡ number ∷ chain_from parents 16 (Some parent) = ap (λ o. number ∷ chain_from parents 16 o) is in
    let few : length (chain_from parents 17 (Some number)) ≤ 16 = few-members (chain_from parents 17 (Some number)) ended in
    let fewer : length (chain_from parents 16 (Some parent)) < 16 = omega (arith, few, ap length first) in
    first ∙ ap (λ chain. number ∷ chain) (sym (chain_from-more parents 16 (Some parent) fewer))

pub members-first : (parents : List (Option ℕ)) (number : ℕ) → get_or parents number None ≡ None → members parents number ≡ number ∷ []
unfolding members
members-first parents number is = ap (λ o. number ∷ chain_from parents 16 o) is

-- ---- chains

pub chain_root-first : (parents : List (Option ℕ)) (roots : List Node) (number : ℕ) → get_or parents number None ≡ None →
    chain_root roots (members parents number) ≡ inherited (there bare) (slice_get roots number)
chain_root-first parents roots number first = ap (chain_root roots) (members-first parents number first)

pub chain_root-parent : (parents : List (Option ℕ)) (roots : List Node) (number parent : ℕ) (lower : Node) → is_endless (members parents number) ≡ false →
    get_or parents number None ≡ Some parent → chain_root roots (members parents parent) ≡ there lower →
    chain_root roots (members parents number) ≡ inherited (there lower) (slice_get roots number)
chain_root-parent parents roots number parent lower ended next below =
    ap (chain_root roots) (members-parent parents number parent ended next) ∙ ap (λ l. inherited l (slice_get roots number)) below

pub chain_root-refused : (parents : List (Option ℕ)) (roots : List Node) (number parent : ℕ) → is_endless (members parents number) ≡ false →
    get_or parents number None ≡ Some parent → chain_root roots (members parents parent) ≡ refused → chain_root roots (members parents number) ≡ refused
chain_root-refused parents roots number parent ended next below =
    ap (chain_root roots) (members-parent parents number parent ended next) ∙ ap (λ l. inherited l (slice_get roots number)) below

pub IsTreeOf-same : (result : Result Tree OverlayFault) (l m : Laying) → l ≡ m → IsTreeOf result m → IsTreeOf result l
IsTreeOf-same result l m e is = let P : Laying → Type 0 = λ x. IsTreeOf result x in subst P (sym e) is

-- ---- own trees

pub roots_in-at : (sources : List Source) (number : ℕ) (source : Source) → number < length sources → source ≡ get_or sources number source →
    slice_get (roots_in (origins_of sources)) number ≡ Some (node_of source.tree)
roots_in-at sources number source within is =
    let counted : number < length (origins_of sources) = omega (arith, length-map sources origin_of) in
    let all : number < length (roots_in (origins_of sources)) = omega (arith, length-map (origins_of sources) root_in) in
    slice_get-get_or (roots_in (origins_of sources)) number (node_of source.tree) all
    ∙ ap Some (get_or-map root_in (origins_of sources) number (origin_of source) (node_of source.tree) counted
    ∙ ap root_in (get_or-map origin_of sources number source (origin_of source) within) ∙ ap (λ (s : Source). node_of s.tree) (sym is))

pub is_layable-at : (roots : List Node) (number : ℕ) (n : Node) → list_all is_layable roots ≡ true → slice_get roots number ≡ Some n → is_layable n ≡ true
is_layable-at roots number n all is =
    let P : Option Node → Type 0 = λ o. IfNode (λ m. is_layable m ≡ true) o in subst P is (if-all is_layable roots number all)

-- ---- keeping a tree more

has-set : (kept : List (Option Tree)) (number other : ℕ) (tree : Tree) → number < length kept → Has kept other → Has (set kept number (Some tree)) other
has-set kept number other tree within has = by (nat_eq other number) refl
  where
    by : (b : Bool) → nat_eq other number ≡ b → Has (set kept number (Some tree)) other
    by true e = let same : other ≡ number = grind (arith, nat_tests) in
        record { tree = tree; is = ap (λ k. get_or (set kept number (Some tree)) k None) same ∙ get_or-set_same kept number (Some tree) None within }
    by false e = let differ : other ≢ number = grind (arith, nat_tests) in
        record { tree = has.tree; is = get_or-set_other kept number other (Some tree) None differ ∙ has.is }

pub KeepsAll-set : (old kept : List (Option Tree)) (number : ℕ) (tree : Tree) → number < length kept → KeepsAll old kept
    → KeepsAll old (set kept number (Some tree))
KeepsAll-set old kept number tree within keeps = record { stays = λ other has. has-set kept number other tree within (keeps.stays other has) }

pub Has-set : (kept : List (Option Tree)) (number : ℕ) (tree : Tree) → number < length kept → Has (set kept number (Some tree)) number
Has-set kept number tree within = record { tree = tree; is = get_or-set_same kept number (Some tree) None within }

pub IsKept-set : (parents : List (Option ℕ)) (roots : List Node) (kept : List (Option Tree)) (number : ℕ) (tree : Tree) → number < length kept
    → IsKept parents roots kept →
    chain_root roots (members parents number) ≡ there (node_of tree) → IsKept parents roots (set kept number (Some tree))
IsKept-set parents roots kept number tree within is new = record {
  same = length-set kept number (Some tree) ∙ is.same;
  trees = λ other t e. by other t e (nat_eq other number) refl;
}
  where
    some-same : (s t : Tree) → Some s ≡ Some t → s ≡ t
    some-same s t e = cc

    by : (other : ℕ) (t : Tree) → get_or (set kept number (Some tree)) other None ≡ Some t → (b : Bool) → nat_eq other number ≡ b
        → chain_root roots (members parents other) ≡ there (node_of t)
    by other t e true f =
        let same : other ≡ number = grind (arith, nat_tests) in
        let tree-is : tree ≡ t =
        some-same tree t (sym (ap (λ k. get_or (set kept number (Some tree)) k None) same ∙ get_or-set_same kept number (Some tree) None within) ∙ e) in
        ap (λ k. chain_root roots (members parents k)) same ∙ new ∙ ap (λ s. there (node_of s)) tree-is
    by other t e false f =
        let differ : other ≢ number = grind (arith, nat_tests) in
        is.trees other t (sym (get_or-set_other kept number other (Some tree) None differ) ∙ e)

pub nothing-kept : (parents : List (Option ℕ)) (roots : List Node) (kept : List (Option Tree)) → kept ≡ replicate (length parents) None
    → IsKept parents roots kept
nothing-kept parents roots kept is = record {
  same = ap length is ∙ length-replicate (length parents) None;
  trees = λ number tree e. absurd (differ tree (sym (ap (λ ks. get_or ks number None) is ∙ none (length parents) number) ∙ e));
}
  where
    differ : (tree : Tree) → None ≡ Some tree → ⊥
    differ tree e = cc

    none : (n number : ℕ) → get_or (replicate {A = Option Tree} n None) number None ≡ None
    none zero number = refl
    none (suc n) zero = refl
    none (suc n) (suc number) = none n number

-- ---- the trees of all

pub filter_map-push : (kept : List (Option Tree)) (slot : Option Tree) → filter_map (λ s. s) (kept ++ slot ∷ []) ≡ filter_map (λ s. s) kept ++
    cons_option slot []
filter_map-push kept slot = filter_map-append (λ s. s) kept (slot ∷ [])

record IsCollected (n : ℕ) (ls : List Laying) (trees : List Tree) : Type 0 where
  pub count : length trees ≡ n
  pub is : map node_of trees ≡ filter_map root_there ls
  pub resolved : list_all is_resolved (map node_of trees) ≡ true

collected : (kept : List (Option Tree)) (a : ℕ) (f : ℕ → Laying) → ((k : ℕ) → k < length kept → Has kept k) →
    ((k : ℕ) (tree : Tree) → get_or kept k None ≡ Some tree → f (a + k) ≡ there (node_of tree)) → ((k : ℕ) → IfThere IsGood (f k)) →
    IsCollected (length kept) (map f (range_with_len a (length kept))) (filter_map (λ s. s) kept)
collected [] a f has are good = record { count = refl; is = refl; resolved = refl }
collected (None ∷ kept) a f has are good = absurd (differ (has 0 (omega arith)).tree (has 0 (omega arith)).is)
  where
    differ : (tree : Tree) → None ≡ Some tree → ⊥
    differ tree e = cc
collected (Some tree ∷ kept) a f has are good =
    let rest = collected kept (a + 1) f
    (λ k h. let there = has (suc k) (omega (arith, h)) in record { tree = there.tree; is = there.is })
    (λ k t e. ap f (let same : a + 1 + k ≡ a + suc k = omega arith in same) ∙ are (suc k) t e) good in
    let here : f a ≡ there (node_of tree) = ap f (let same : a ≡ a + 0 = omega arith in same) ∙ are 0 tree refl in
    record {
      count = ap suc rest.count;
      is = ap (λ ns. node_of tree ∷ ns) rest.is ∙ ap (λ l. cons_option (root_there l) (filter_map root_there (map f (range_with_len (a + 1) (length kept)))))
          (sym here);
      resolved = and_from (is_resolved (node_of tree)) (list_all is_resolved (map node_of (filter_map (λ s. s) kept)))
          (there-resolved (f a) (node_of tree) here (good a)) rest.resolved;
    }

pub all-collected : (parents : List (Option ℕ)) (roots : List Node) (kept : List (Option Tree)) (trees : List Tree) → IsKept parents roots kept
    → ((k : ℕ) → k < length parents → Has kept k) →
    list_all is_layable roots ≡ true → trees ≡ filter_map (λ s. s) kept → AreResolved parents roots trees
all-collected parents roots kept trees is has layable made =
    let all = collected kept 0 (λ n. chain_root roots (members parents n)) (λ k h. has k (omega (arith, is.same)))
    (λ k t e. ap (λ n. chain_root roots (members parents n)) (zero-add k) ∙ is.trees k t e) (λ k. chain_root-resolved roots (members parents k) layable) in
    record {
      count = ap length made ∙ all.count ∙ is.same;
      is = ap (map node_of) made ∙ all.is ∙ ap (λ n. filter_map root_there (map (λ k. chain_root roots (members parents k)) (range_with_len 0 n))) is.same;
      resolved = ap (λ ts. list_all is_resolved (map node_of ts)) made ∙ all.resolved;
    }

is_missing-kept : (parents : List (Option ℕ)) (roots : List Node) (kept : List (Option Tree)) → IsKept parents roots kept → (k : ℕ) → Has kept k
    → is_missing (chain_root roots (members parents k)) ≡ false
is_missing-kept parents roots kept is k has = ap is_missing (is.trees k has.tree has.is)

pub root_refusal-at : (parents : List (Option ℕ)) (roots : List Node) (kept : List (Option Tree)) (number : ℕ) → number < length parents
    → IsKept parents roots kept →
    ((k : ℕ) → k < number → Has kept k) → chain_root roots (members parents number) ≡ refused → root_refusal (layings parents roots) ≡ Some (merge.BadOp number)
root_refusal-at parents roots kept number within is has here =
    ap (option_map merge.BadOp)
    (position-map (λ n. chain_root roots (members parents n)) is_missing (range_with_len 0 (length parents))
    ∙ position-number (λ n. is_missing (chain_root roots (members parents n))) (length parents) number within (ap is_missing here)
    (λ k h. is_missing-kept parents roots kept is k (has k h)))

pub root_refusal-none : (parents : List (Option ℕ)) (roots : List Node) (kept : List (Option Tree)) → IsKept parents roots kept →
    ((k : ℕ) → k < length parents → Has kept k) → root_refusal (layings parents roots) ≡ None
root_refusal-none parents roots kept is has =
    ap (option_map merge.BadOp)
    (position-map (λ n. chain_root roots (members parents n)) is_missing (range_with_len 0 (length parents))
    ∙ position-no_number (λ n. is_missing (chain_root roots (members parents n))) (length parents) (λ k h. is_missing-kept parents roots kept is k (has k h)))

-- a template whose tree has a fault is the first one, where it is
pub IfRefusal-refused : (fault : OverlayFault) (number : ℕ) (P : Type 0) (first : Option MergeFault) → (P → first ≡ Some (merge.BadOp number))
    → IfBadOp fault P → IfRefusal (refusal_at number fault) (first ≡ Some (refusal_at number fault))
IfRefusal-refused overlay.BadOp number P first f p = f p
IfRefusal-refused overlay.OutOfMemory number P first f p = tt

-- ---- parents are templates

parent_among-within : (names : List (List ℕ)) (parent : Option (List ℕ)) (number : ℕ) → option_and_then (λ name. position (bytes_eq name) names) parent ≡
    Some number → number < length names
parent_among-within names None number e = absurd (differ number e)
  where
    differ : (number : ℕ) → None ≡ Some number → ⊥
    differ number e = cc
parent_among-within names (Some name) number e = (position-Some (bytes_eq name) names number [] e).0

within-map : {X : Type 0} (f : X → Option ℕ) (n : ℕ) → ((x : X) (r : ℕ) → f x ≡ Some r → r < n) → (xs : List X) (i r : ℕ) → get_or (map f xs) i None ≡ Some r
    → r < n
within-map f n bound [] i r e = absurd (differ r e)
  where
    differ : (r : ℕ) → None ≡ Some r → ⊥
    differ r e = cc
within-map f n bound (x ∷ xs) zero r e = bound x r e
within-map f n bound (x ∷ xs) (suc i) r e = within-map f n bound xs i r e

pub AreWithin-parents_in : (origins : List Origin) → AreWithin (parents_in origins)
AreWithin-parents_in origins = record {
  within = λ number parent e.
      let small : parent < length (names_in origins) =
      within-map (parent_among (names_in origins)) (length (names_in origins)) (λ o r f. parent_among-within (names_in origins) o.parent r f) origins number
      parent e in
      omega (arith, length-map origins name_in, length-map origins (parent_among (names_in origins)));
}

-- a source more whose tree may be laid
pub layable-push : (sources : List Source) (source : Source) → list_all is_layable (roots_in (origins_of sources)) ≡ true → is_layable (node_of source.tree) ≡
    true →
    list_all is_layable (roots_in (origins_of (sources ++ source ∷ []))) ≡ true
layable-push [] source all one = and_from (is_layable (node_of source.tree)) true one refl
layable-push (s ∷ sources) source all one =
    and_from (is_layable (node_of s.tree)) (list_all is_layable (roots_in (origins_of (sources ++ source ∷ []))))
    (left_true (is_layable (node_of s.tree)) (list_all is_layable (roots_in (origins_of sources))) all)
    (layable-push sources source (right_true (is_layable (node_of s.tree)) (list_all is_layable (roots_in (origins_of sources))) all) one)
