-- The labels of all other cells are still right, and those that were opened have theirs.
use Rattle.sim_search.proofs.mend.mend_opened.Goals as goal
use Rattle.sim_search.proofs.{Added.not_empty, Common.{All-weaker, AreLabels, Bool, Cell, Contains, Contains-get_or, field_of_grid, get_or, inl, inr}}
use Rattle.sim_search.proofs.Common.{is_open_at, is_some, length, List, Option, place_of, Size, sym, true≢false, ℕ, ◌<◌, ◌≡◌, ◌⊎◌}
use Rattle.sim_search.{proofs.Regions.{IsRoot, opened-labels, root-alone, root-beside}, specs.Floods.{AreJoined, HasRoom, IsBeside, label_in, Suits}}
use Rattle.std.proofs.lemmas.List.Elements.{All-contains}

pub give-requires : goal.give-requires
give-requires c = All-weaker (Suits c.args.labels.now c.args.grid.now.size c.label_for-label.result) (HasRoom c.args.labels.now) (λ e s. s.room)
    c.args.cells.now
    (c.suits_all.ensures c.if-not-suits_all.false)

pub are_joined-requires : goal.are_joined-requires
are_joined-requires c = λ e h. (c.requires.opened.on e h, c.requires.opened.opens e h)

pub returns : goal.returns
returns c = record { mended = λ _. mended; same = λ e. absurd (true≢false e) }
  where
    size : Size
    size = c.args.grid.now.size

    label : Cell → Option ℕ
    label = label_in c.args.labels.now

    value : ℕ
    value = c.label_for-label.result

    p : Cell → Bool
    p = is_open_at c.args.grid.now

    q : Cell → Bool
    q e = is_some (label e)

    xs : List Cell
    xs = c.args.cells.now

    suits : (e : Cell) → Contains xs e → Suits c.args.labels.now size value e
    suits e h = All-contains (Suits c.args.labels.now size value) xs e (c.suits_all.ensures c.if-not-suits_all.false) h

    joint : AreJoined (field_of_grid c.args.grid.now) xs
    joint = c.are_joined.ensures c.if-not-are_joined.false

    source : IsBeside size label xs value ⊎ (value ≡ place_of size (get_or xs 0 (record { x = 0; z = 0 }))) → (e : Cell) → Contains xs e
        → IsRoot size p q xs c.requires.opened label (label_in c.give.new.self) c.requires.labels value joint (λ v h. (suits v h).least)
        (λ v h. (suits v h).alike) e
    source (inl b) e h = root-beside size p q xs c.requires.opened label (label_in c.give.new.self) c.requires.labels value joint (λ v k. (suits v k).least)
        (λ v k. (suits v k).alike) e h b
    source (inr is) e h =
        let lt : 0 < length xs = not_empty (length c.args.cells.now) c.is_empty.result c.is_empty.ensures c.if-is_empty.false in
        root-alone size p q xs c.requires.opened label (label_in c.give.new.self) c.requires.labels value joint (λ v k. (suits v k).least)
        (λ v k. (suits v k).alike) e (get_or xs 0 (record { x = 0; z = 0 })) h (Contains-get_or xs 0 (record { x = 0; z = 0 }) lt) (sym is)

    mended : AreLabels (field_of_grid c.args.grid.now) (label_in c.give.new.self)
    mended = opened-labels size p q xs c.requires.opened label (label_in c.give.new.self) c.requires.labels value joint (λ v h. (suits v h).least)
        (λ v h. (suits v h).alike) (source c.label_for-label.ensures) c.give.ensures.here c.give.ensures.elsewhere
