-- Why a match file has no setup, and how the passes over it follow one another: the first refusal is the answer.
use Rattle.sim_setup.specs.Common.{Source, source_in}
use Rattle.sim_setup.specs.Common.{are_distinct, Data, is_sound, levels, list_at, mark_of, names_in, Node, node_of, numbered, Origin, origins_of, result_ok}
use Rattle.std.specs.Prelude.{[], All, codes, Err, length, List, None, Ok, Option, Result, Some, true, ℕ, ◌+◌, ◌≡◌, ◌≤◌}

-- a code from 1 to 10, and where in the file it applies
pub record Refusal : Type 0 where
  pub code : ℕ
  pub index : ℕ

abbrev pub refusal : ℕ → ℕ → Refusal
refusal code index = record { code = code; index = index }

-- what is needed goes on to the next pass, or else there is a refusal
abbrev pub need : {X Y : Type 0} → ℕ → ℕ → Option X → (X → Result Y Refusal) → Result Y Refusal
need code index None next = Err (refusal code index)
need code index (Some x) next = next x

-- a pass, and the next one where it refuses nothing
abbrev pub after : {X Y : Type 0} → Result X Refusal → (X → Result Y Refusal) → Result Y Refusal
after (Err r) next = Err r
after (Ok x) next = next x

-- refused at a place, if there is one
abbrev pub unless_at : {X : Type 0} → ℕ → Option ℕ → Result X Refusal → Result X Refusal
unless_at code None wanted = wanted
unless_at code (Some index) wanted = Err (refusal code index)

-- the number of an item that is refused is the index of a code
abbrev pub coded : {X : Type 0} → ℕ → Result X ℕ → Result X Refusal
coded code (Ok x) = Ok x
coded code (Err index) = Err (refusal code index)

-- the same, where items are counted from a number on
abbrev pub placed : {X : Type 0} → ℕ → ℕ → Result X ℕ → Result X Refusal
placed code first (Ok x) = Ok x
placed code first (Err index) = Err (refusal code (first + index))

-- The sources of the templates of a match file.

-- the source that an item is
unfoldable pub source_of : Data → Option Origin
source_of d = result_ok (source_in d)

-- the sources, or the first item that is none, counted behind the places of the keys
abbrev pub sources_from : List Data → Result (List Origin) Refusal
sources_from ds = placed 2 16 (numbered (λ done. source_of) [] ds)

-- those of the file; that the templates are a list was seen before
abbrev pub sources_in : Data → Result (List Origin) Refusal
sources_in d = need 2 7 (list_at (codes "templates") d) sources_from

-- a tree that can be laid over another one: its root has no mark, its children ascend, and its levels are few
pub record IsReady (n : Node) : Type 0 where
  pub unmarked : mark_of n ≡ None
  pub sound : is_sound n ≡ true
  pub levels : levels n ≤ 32

abbrev pub IsReadySource : Source → Type 0
IsReadySource source = IsReady (node_of source.tree)

-- no more sources than there may be templates, with different names, each of which can be laid over another
pub record AreResolvable (sources : List Source) : Type 0 where
  pub few : length sources ≤ 256
  pub distinct : are_distinct (names_in (origins_of sources)) ≡ true
  pub ready : All IsReadySource sources
