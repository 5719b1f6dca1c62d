-- A step of the pass over two lists of marks: the id that comes next, its marks, and the marks behind it.
use Rattle.std.specs.Prelude.{ℕ, min, List, [], ◌∷◌, if◌then◌else◌, ◌==◌, Some, None, Option}
use Rattle.sim_trail.specs.declared.mark.Mark.{Mark}

-- the lesser of the first ids
abbrev pub next_id : List Mark → List Mark → Option ℕ
next_id [] [] = None
next_id (old ∷ olds) [] = Some old.id
next_id [] (new ∷ news) = Some new.id
next_id (old ∷ olds) (new ∷ news) = Some (min old.id new.id)

-- the first mark, if it has this id
abbrev pub first_of : ℕ → List Mark → Option Mark
first_of id [] = None
first_of id (mark ∷ marks) = if mark.id == id then Some mark else None

-- the marks without a first one of this id
abbrev pub behind : ℕ → List Mark → List Mark
behind id [] = []
behind id (mark ∷ marks) = if mark.id == id then marks else mark ∷ marks
