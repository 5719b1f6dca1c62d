-- Worked examples of templates, computed from the definitions.
use Rattle.{serde_json.specs.Data.{member, no_members, null, object, string}, sim_merge.specs.{Overlay.text_by, Resolution.members}}
use Rattle.sim_setup.proofs.Common.{after, codes, Err, List, Node, None, Ok, Option, Origin, refl, roots_of, Some, source_of, Template, template_at}
use Rattle.sim_setup.{proofs.Common.{template_in, templates_from, ℕ, [], ◌∷◌, ◌≡◌}, specs.Refusals.{refusal, sources_from}}
use Rattle.sim_tree.specs.{declared.tree.TreeMark.{TheVariants.Mul, TreeMark}, Nodes.source_in, Trees.{child, no_children, node}}
use Rattle.std.{proofs.Common.pos, specs.Fmt.digits}

-- a part with one child
abbrev part : List ℕ → List ℕ → Option TreeMark → List ℕ → Node
part name key mark text = node None None (child name (node None None (child key (node (Some text) mark no_children) no_children)) no_children)

abbrev source : List ℕ → Option (List ℕ) → Node → Origin
source name parent root = record { name = name; parent = parent; root = root }

abbrev post : Origin
post = source (codes "post") None (part (codes "Health") (codes "Max") None (codes "50"))

-- half as much health again, or as much as `text` says
abbrev big : List ℕ → Origin
big text = source (codes "big") (Some (codes "post")) (part (codes "Health") (codes "Max") (Some Mul) text)

abbrev with_health : List ℕ → ℕ → Template
with_health name health =
    record {
      name = name;
      health = Some (pos health);
      resist = record { hack = 0; pierce = 0; crush = 0 };
      speed = None;
      obstruct = None;
      arms = None;
      train = None;
    }

-- ---- codes 4 to 7

half_again : after (roots_of (post ∷ big (codes "1.5") ∷ [])) (templates_from (post ∷ big (codes "1.5") ∷ []))
    ≡ Ok (with_health (codes "post") 3276800 ∷ with_health (codes "big") 4915200 ∷ [])
unfolding digits text_by members template_in template_at
half_again = refl

no_number : roots_of (post ∷ big (codes "x") ∷ []) ≡ Err (refusal 6 1)
unfolding digits text_by members
no_number = refl

no_parent : roots_of (big (codes "1.5") ∷ []) ≡ Err (refusal 4 0)
no_parent = refl

own_parent : roots_of (source (codes "a") (Some (codes "a")) (node None None no_children) ∷ []) ≡ Err (refusal 5 0)
unfolding members
own_parent = refl

-- one template walks, and no other thing is known of it
abbrev walker : Template
walker = record (with_health (codes "a") 0) { health = None; speed = Some (pos 589824) }

mover : templates_from (post ∷ source (codes "a") None (part (codes "Motion") (codes "Speed") None (codes "9")) ∷ [])
    (post.root ∷ part (codes "Motion") (codes "Speed") None (codes "9") ∷ []) ≡ Ok (with_health (codes "post") 3276800 ∷ walker ∷ [])
unfolding template_in template_at
mover = refl

-- ---- code 2

second_item : sources_from (object (member (codes "@name") (string (codes "a")) no_members) ∷ null ∷ []) ≡ Err (refusal 2 17)
unfolding source_of source_in
second_item = refl
