-- Over the grid of the open cells, ways and spots are those over the facts.
use Rattle.sim_ground.proofs.Common.{inr, is_open_among, is_open_at, IsOver, Land, least_of, OpenCells, Point, Size, size_of, spot_among, spot_key, way_of}
use Rattle.sim_ground.proofs.Common.{way_of-same, ◌∙◌}
use Rattle.sim_ground.proofs.Common.{◌≡◌, Bool, cond, List, [], ◌∷◌, filter, refl, ap, cells_of, Fact, field_among, field_of_grid, Has, Has-of_cells_of, inl}

-- two tests that agree on the members keep the same
filter_where : {X : Type 0} (p q : X → Bool) (xs : List X) → ((x : X) → Has xs x → p x ≡ q x) → filter p xs ≡ filter q xs
filter_where p q [] same = refl
filter_where p q (x ∷ xs) same = ap (λ (b : Bool). cond b (x ∷ filter p xs) (filter p xs)) (same x (inl refl)) ∙ ap (λ (ys : List _). cond (q x) (x ∷ ys) ys)
    (filter_where p q xs (λ y h. same y (inr h)))

module _ (land : Land) (facts : List Fact) (g : OpenCells) (over : IsOver land facts g) where
  pub same_way : (start goal : Point) → way_of (field_of_grid g) start goal ≡ way_of (field_among land facts) start goal
  same_way start goal =
      ap (λ (s : Size). way_of (record { size = s; is_open = is_open_at g }) start goal) over.size ∙ way_of-same (size_of land) (is_open_at g)
      (is_open_among land facts) over.opens start goal

  pub spot_is : (at : Point) → least_of (spot_key at) (filter (is_open_at g) (cells_of g.size)) ≡ spot_among land facts at
  spot_is at =
      ap (λ (s : Size). least_of (spot_key at) (filter (is_open_at g) (cells_of s))) over.size
      ∙ ap (least_of (spot_key at)) (filter_where (is_open_at g) (is_open_among land facts) (cells_of (size_of land))
      (λ c h. over.opens c (Has-of_cells_of (size_of land) c h)))
