-- A command that is read names few entities, whatever its kind.
use Rattle.sim_base.specs.declared.command.Command.TheVariants.{Attack, Delete, Place, Resign, Stop, Train, Walk}
use Rattle.sim_json.{proofs.Readers.map_some, specs.Commands.{attack_from, command_by, delete_from, id_in, ids_from, ids_of, place_from, point_of, resign_from}}
use Rattle.{sim_json.specs.Commands.{stop_from, template_in, three, train_from, walk_from}, sim_setup.proofs.Common.{and_then_some, arith, as_str, Bool}}
use Rattle.sim_setup.proofs.Common.{bytes_eq, codes, Command, command_of, Data, false, HasFewIds, if◌then◌else◌, leb-true, length, List, list_of, nat_le}
use Rattle.sim_setup.proofs.Common.{next_some, numbered-length, numbered_from_records, Option, records, Some, subst, then_some, true, two, ℕ, [], ◌∷◌, ◌≡◌, ◌≤◌}

ids_of-few : (d : Data) (ids : List ℕ) → ids_of d ≡ Some ids → length ids ≤ 256
ids_of-few d ids e =
    let ds = and_then_some (list_of d) ids_from ids e in
    let kept = then_some (nat_le (length ds.0) 256) (records (λ done. id_in) [] ds.0) ids ds.2 in
    let few : length ds.0 ≤ 256 = leb-true (length ds.0) 256 kept.0 in
    omega (arith, few, numbered-length (λ done. id_in) [] ds.0 ids (numbered_from_records (λ done. id_in) [] ds.0 ids kept.1))

-- what is read is this command
is_few : (found command : Command) → HasFewIds found → ◌≡◌ {A = Option Command} (Some found) (Some command) → HasFewIds command
is_few found command few e = let same : found ≡ command = cc in subst HasFewIds same few

walk_from-few : (rest : List Data) (command : Command) → walk_from rest ≡ Some command → HasFewIds command
walk_from-few rest command e =
    let p = next_some (three rest) _ command e in
    let ids = next_some (ids_of p.0.0) _ command p.2 in
    let to = next_some (point_of p.0.1 p.0.2) _ command ids.2 in
    is_few (Walk ids.0 to.0) command (ids_of-few p.0.0 ids.0 ids.1) to.2

stop_from-few : (rest : List Data) (command : Command) → stop_from rest ≡ Some command → HasFewIds command
stop_from-few [] command e = absurd cc
stop_from-few (d ∷ []) command e =
    let ids = map_some (ids_of d) Stop command e in
    subst HasFewIds ids.2 (ids_of-few d ids.0 ids.1)
stop_from-few (d ∷ other ∷ rest) command e = absurd cc

attack_from-few : (rest : List Data) (command : Command) → attack_from rest ≡ Some command → HasFewIds command
attack_from-few rest command e =
    let p = next_some (two rest) _ command e in
    let ids = next_some (ids_of p.0.0) _ command p.2 in
    let target = next_some (id_in p.0.1) _ command ids.2 in
    is_few (Attack ids.0 target.0) command (ids_of-few p.0.0 ids.0 ids.1) target.2

delete_from-few : (rest : List Data) (command : Command) → delete_from rest ≡ Some command → HasFewIds command
delete_from-few [] command e = absurd cc
delete_from-few (d ∷ []) command e =
    let ids = map_some (ids_of d) Delete command e in
    subst HasFewIds ids.2 (ids_of-few d ids.0 ids.1)
delete_from-few (d ∷ other ∷ rest) command e = absurd cc

place_from-few : (rest : List Data) (command : Command) → place_from rest ≡ Some command → HasFewIds command
place_from-few rest command e =
    let p = next_some (three rest) _ command e in
    let template = next_some (template_in p.0.0) _ command p.2 in
    let at = next_some (point_of p.0.1 p.0.2) _ command template.2 in
    is_few (Place template.0 at.0) command tt at.2

train_from-few : (rest : List Data) (command : Command) → train_from rest ≡ Some command → HasFewIds command
train_from-few rest command e =
    let p = next_some (two rest) _ command e in
    let building = next_some (id_in p.0.0) _ command p.2 in
    let template = next_some (template_in p.0.1) _ command building.2 in
    is_few (Train building.0 template.0) command tt template.2

resign_from-few : (rest : List Data) (command : Command) → resign_from rest ≡ Some command → HasFewIds command
resign_from-few [] command e = is_few Resign command tt e
resign_from-few (d ∷ rest) command e = absurd cc

-- one kind, or another
either : (is : Bool) (these others : Option Command) (command : Command) → (these ≡ Some command → HasFewIds command)
    → (others ≡ Some command → HasFewIds command)
    → (if is then these else others) ≡ Some command → HasFewIds command
either true these others command first second e = first e
either false these others command first second e = second e

command_by-few : (kind : List ℕ) (rest : List Data) (command : Command) → command_by kind rest ≡ Some command → HasFewIds command
command_by-few kind rest command =
    either (bytes_eq kind (codes "walk")) _ _ command (walk_from-few rest command)
    (either (bytes_eq kind (codes "stop")) _ _ command (stop_from-few rest command)
    (either (bytes_eq kind (codes "attack")) _ _ command (attack_from-few rest command)
    (either (bytes_eq kind (codes "delete")) _ _ command (delete_from-few rest command)
    (either (bytes_eq kind (codes "place")) _ _ command (place_from-few rest command)
    (either (bytes_eq kind (codes "train")) _ _ command (train_from-few rest command)
    (either (bytes_eq kind (codes "resign")) _ _ command (resign_from-few rest command)
    (λ none. absurd cc)))))))

pub command_of-few : (items : List Data) (command : Command) → command_of items ≡ Some command → HasFewIds command
unfolding command_of
command_of-few [] command e = absurd cc
command_of-few (kind ∷ rest) command e =
    let word = next_some (as_str kind) _ command e in
    command_by-few word.0 rest command word.2
