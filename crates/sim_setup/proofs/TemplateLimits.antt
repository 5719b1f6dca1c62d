-- What holds of the templates of a match file.
use Rattle.sim_setup.proofs.Common.{All, All-cons, and_parts, and_then_some, ap, are_distinct, arith, Bool, bytes_eq, Err, false, if◌then◌else◌, length, List}
use Rattle.sim_setup.proofs.Common.{map, name_in, names_in, next_template, Node, numbered, numbered-keeps, Ok, Option, Origin, refl, Result, Some, subst, sym}
use Rattle.sim_setup.proofs.Common.{Template, template_at, template_in, true, true≢false, ℕ, [], ◌&&◌, ◌++◌, ◌∙◌, ◌∷◌, ◌≡◌, ◌≢◌}
use Rattle.sim_traits.specs.declared.fault.TraitFault.{TheVariants.{Clash, UnknownPart}, TraitFault}
use Rattle.sim_traits.specs.Values.{after, arms_in, attack_part, base_in, has_known_parts, health_in, health_part, motion_part, obstruct_part, part_of}
use Rattle.sim_traits.specs.Values.{resist_in, resist_part, speed_in, template_of_parts, train_in, train_part, unarmoured}
use Rattle.std.proofs.Common.{AllPairs, is_some, not, slice_get, unwrap_or, ◌||◌}
use Rattle.std.{proofs.lemmas.{Bool.not-true, List.{Kept.AllPairs-cons, map-append}, Slice.Eq.bytes_eq-Decides}, specs.{List.list_any, Result.result_ok}}

-- ---- a template that is read

part_ok : {X Y : Type 0} (r : Result X TraitFault) (next : X → Result Y TraitFault) (y : Y) → after r next ≡ Ok y → (x : X) × (next x ≡ Ok y)
part_ok (Err fault) next y e = absurd cc
part_ok (Ok x) next y e = (x, e)

no_clash : (clash : Bool) (t u : Template) → ◌≡◌ {A = Result Template TraitFault} (if clash then Err Clash else Ok t) (Ok u) → t ≡ u
no_clash true t u e = absurd cc
no_clash false t u e = cc

known : (fits : Bool) (r : Result Template TraitFault) (t : Template) → (if fits then r else Err UnknownPart) ≡ Ok t → r ≡ Ok t
known true r t e = e
known false r t e = absurd cc

parts-named : (name : List ℕ) (root : Node) (names : List (List ℕ)) (t : Template) → template_of_parts name root names ≡ Ok t → t.name ≡ name
parts-named name root names t e =
    let most = part_ok (part_of health_part health_in root) _ t e in
    let levels = part_ok (part_of resist_part resist_in root) _ t most.1 in
    let speed = part_ok (part_of motion_part speed_in root) _ t levels.1 in
    let base = part_ok (part_of obstruct_part base_in root) _ t speed.1 in
    let arms = part_ok (part_of attack_part arms_in root) _ t base.1 in
    let numbers = part_ok (part_of train_part (train_in names) root) _ t arms.1 in
    let made : Template =
    record {
      name = name;
      health = most.0;
      resist = unwrap_or levels.0 unarmoured;
      speed = speed.0;
      obstruct = base.0;
      arms = arms.0;
      train = numbers.0;
    } in
    ap (λ (u : Template). u.name) (sym (no_clash (is_some made.speed && is_some made.obstruct) made t numbers.1))

-- it goes by the name that was given
template_in-named : (name : List ℕ) (root : Node) (names : List (List ℕ)) (t : Template) → template_in name root names ≡ Ok t → t.name ≡ name
unfolding template_in
template_in-named name root names t e = parts-named name root names t (known (has_known_parts root) (template_of_parts name root names) t e)

ok_some : (r : Result Template TraitFault) (t : Template) → result_ok r ≡ Some t → r ≡ Ok t
ok_some (Err fault) t e = absurd cc
ok_some (Ok u) t e = let same : u ≡ t = cc in ap Ok same

-- a template that is read has the name of its source
pub template_at-named : (names : List (List ℕ)) (roots : List Node) (number : ℕ) (origin : Origin) (t : Template) → template_at names roots number origin ≡
    Some t → t.name ≡ origin.name
unfolding template_at
template_at-named names roots number origin t e =
    let root = and_then_some (slice_get roots number) (λ root. result_ok (template_in origin.name root names)) t e in
    template_in-named origin.name root.0 names t (ok_some (template_in origin.name root.0 names) t root.2)

-- one more record, where it is read
pub more_read : {X D : Type 0} (read : List X → D → Option X) (done : List X) (d : D) (x : X) (ds : List D) (all : Result (List X) ℕ)
    → read done d ≡ Some x → numbered read done (d ∷ ds) ≡ all → numbered read (done ++ x ∷ []) ds ≡ all
more_read read done d x ds all is e = rw is at e

-- ---- the names

abbrev name_of : Template → List ℕ
name_of t = t.name

-- the names of the templates are those of their sources
abbrev named : List Origin → List Template → Type 0
named front done = map name_in front ≡ map name_of done

more_named : (front : List Origin) (done : List Template) (origin : Origin) (t : Template) → t.name ≡ origin.name → named front done
    → named (front ++ origin ∷ []) (done ++ t ∷ [])
more_named front done origin t is so_far =
    map-append name_in front (origin ∷ []) ∙ ap (λ names. names ++ origin.name ∷ []) so_far ∙ ap (λ name. map name_of done ++ name ∷ []) (sym is)
    ∙ sym (map-append name_of done (t ∷ []))

either_false : (a b : Bool) → (a || b) ≡ false → (a ≡ false) × (b ≡ false)
either_false true b e = absurd cc
either_false false b e = (refl, e)

differs : (text : List ℕ) (texts : List (List ℕ)) → list_any (bytes_eq text) texts ≡ false → All (λ other. text ≢ other) texts
differs text [] e = λ k d within. absurd (omega arith)
differs text (other ∷ texts) e =
    let parts = either_false (bytes_eq text other) (list_any (bytes_eq text) texts) e in
    All-cons (λ x. text ≢ x) other texts (λ same. true≢false (sym ((bytes_eq-Decides text other).1 same) ∙ parts.0)) (differs text texts parts.1)

differ : (texts : List (List ℕ)) → are_distinct texts ≡ true → AllPairs (λ a b. a ≢ b) texts
differ [] e = λ i j d before within. absurd (omega arith)
differ (text ∷ texts) e =
    let parts = and_parts (not (list_any (bytes_eq text) texts)) (are_distinct texts) e in
    AllPairs-cons (λ a b. a ≢ b) text texts (differs text texts (not-true (list_any (bytes_eq text) texts) parts.0)) (differ texts parts.1)

-- the templates of sources with different names have different names
pub names-differ : (names : List (List ℕ)) (roots : List Node) (origins : List Origin) (templates : List Template) → are_distinct (names_in origins) ≡ true
    → numbered (next_template names roots) [] origins ≡ Ok templates → AllPairs (λ a b. a ≢ b) (map (λ (t : Template). t.name) templates)
names-differ names roots origins templates distinct e =
    let same = numbered-keeps (next_template names roots) named
    (λ front done origin t is so_far. more_named front done origin t (template_at-named names roots (length done) origin t is) so_far) [] [] origins templates e
    refl in
    differ (map name_of templates) (subst (λ texts. are_distinct texts ≡ true) same distinct)
