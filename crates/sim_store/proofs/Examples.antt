-- Small cases of the definitions, each with the value that a reader expects, found by computing.
use Rattle.sim_store.specs.{Held.File, Held.file_in, Reading.reading_of, Shelf.after_giving, Shelf.after_miss, Shelf.no_counts, Shelf.raised}
use Rattle.std.proofs.Common.{Err, List, Ok, Some, [], codes, refl, ◌*◌, ◌-◌, ◌^◌, ◌∷◌, ◌≡◌}
use Rattle.{sim_base.specs.Limits.file_limit, sim_store.specs.declared.fault.StoreFault.TheVariants.NoFile, sim_store.specs.declared.read.TheConstants.MAX_FILE}

files : List File
files =
    record { name = codes "a"; bytes = 1 ∷ 2 ∷ [] }
    ∷ record { name = codes "b"; bytes = [] }
    ∷ record { name = codes "a"; bytes = 3 ∷ [] }
    ∷ []

first_of_a_name : file_in files (codes "a") ≡ Some (1 ∷ 2 ∷ [])
unfolding files
first_of_a_name = refl

empty_and_held : reading_of (file_in files (codes "b")) ≡ Ok []
unfolding files
empty_and_held = refl

not_held : reading_of (file_in files (codes "c")) ≡ Err NoFile
unfolding files
not_held = refl

limit_of_the_code : MAX_FILE ≡ file_limit
limit_of_the_code = refl

sixteen_mebibytes : file_limit ≡ 16 * 2 ^ 20
sixteen_mebibytes = refl

one_more : raised 1 6 ≡ 7
one_more = refl

up_to_the_last_value : raised 5 (2 ^ 64 - 3) ≡ 2 ^ 64 - 1
up_to_the_last_value = refl

still_at_the_last_value : raised 1 (2 ^ 64 - 1) ≡ 2 ^ 64 - 1
still_at_the_last_value = refl

counted : after_miss (after_giving 9 no_counts) ≡ record { given = 9; misses = 1; read_faults = 0; write_faults = 0 }
counted = refl
