-- Worked examples, computed from the definitions: each value was worked out by hand or by another program.
use Rattle.sim_base.{proofs.RootLemmas.root_is, specs.{declared.place.Point.Point, Names.is_name, NumberText.{number_of, text_of}, Places.{cell_of, cells_of}}}
use Rattle.sim_base.specs.{Places.{centre_of, covers, is_inside, is_raw, is_rect_inside, next_word, product, quotient, rect_of, root, square}, Ways.least_of}
use Rattle.std.{proofs.Common.{false, lit<, lit≤, neg_ℤ, None, pos, refl, replicate, Some, true, [], ◌%◌, ◌∷◌, ◌≡◌}, specs.{Fmt.digits, Prelude.codes}}

-- ---- products and quotients

product_of_halves : product (pos 98304) (pos 98304) ≡ pos 147456
product_of_halves = refl

-- rounded down, and not towards zero
product_below_zero : product (neg_ℤ (pos 1)) (pos 32768) ≡ neg_ℤ (pos 1)
product_below_zero = refl

product_out_of_range : is_raw (product (pos 2147483647) (pos 131072)) ≡ false
product_out_of_range = refl

quotient_third : quotient (pos 65536) (pos 196608) ≡ pos 21845
quotient_third = refl

-- truncated towards zero, and not rounded down
quotient_below_zero : quotient (neg_ℤ (pos 1)) (pos 131072) ≡ pos 0
quotient_below_zero = refl

quotient_out_of_range : is_raw (quotient (neg_ℤ (pos 2147483648)) (neg_ℤ (pos 65536))) ≡ false
quotient_out_of_range = refl

least_raw : is_raw (neg_ℤ (pos 2147483648)) ≡ true
least_raw = refl

-- ---- the root and the random word

-- the root of 2 metres squared
root_of_two : root 8589934592 ≡ 92681
root_of_two = root_is 8589934592 92681 (record { within = lit≤ tt; above = lit< tt })

first_word : next_word 7 ≡ 176504327430
first_word = refl

second_word : next_word 176504327430 ≡ 33146457173913
second_word = refl

-- ---- numbers read

read_whole : number_of (codes "15") ≡ Some (pos 983040)
read_whole = refl

read_leading_zeros : number_of (codes "0000000015.500000") ≡ Some (pos 1015808)
read_leading_zeros = refl

read_greatest : number_of (codes "32767.99999") ≡ Some (pos 2147483647)
read_greatest = refl

read_least : number_of (codes "-32768") ≡ Some (neg_ℤ (pos 2147483648))
read_least = refl

read_rounded_down : number_of (codes "40.00001") ≡ Some (pos 2621440)
read_rounded_down = refl

read_minus_zero : number_of (codes "-0") ≡ Some (pos 0)
read_minus_zero = refl

read_less_than_a_unit : number_of (codes "-0.00001") ≡ Some (pos 0)
read_less_than_a_unit = refl

read_too_great : number_of (codes "32768") ≡ None
read_too_great = refl

read_no_digit_behind : number_of (codes "1.") ≡ None
read_no_digit_behind = refl

read_no_digit_before : number_of (codes ".5") ≡ None
read_no_digit_before = refl

read_two_points : number_of (codes "1.2.3") ≡ None
read_two_points = refl

read_plus : number_of (codes "+1") ≡ None
read_plus = refl

read_two_signs : number_of (codes "--1") ≡ None
read_two_signs = refl

read_nothing : number_of (codes "") ≡ None
read_nothing = refl

read_eleven_digits : number_of (codes "00000000001") ≡ None
read_eleven_digits = refl

read_seven_digits_behind : number_of (codes "1.0000000") ≡ None
read_seven_digits_behind = refl

-- ---- numbers printed

print_unit : text_of (pos 1) ≡ codes "0.00002"
unfolding digits
print_unit = refl

print_negative : text_of (neg_ℤ (pos 98304)) ≡ codes "-1.50000"
unfolding digits
print_negative = refl

print_whole : text_of (pos 983040) ≡ codes "15"
unfolding digits
print_whole = refl

print_least : text_of (neg_ℤ (pos 2147483648)) ≡ codes "-32768"
unfolding digits
print_least = refl

-- ---- names

name_of_words : is_name (codes "units/infantry") ≡ true
name_of_words = refl

name_of_nothing : is_name [] ≡ false
name_of_nothing = refl

name_with_space : is_name (codes "two words") ≡ false
name_with_space = refl

name_of_64_bytes : is_name (replicate 64 0x7E) ≡ true
name_of_64_bytes = refl

name_of_65_bytes : is_name (replicate 65 0x21) ≡ false
name_of_65_bytes = refl

name_with_delete : is_name (0x61 ∷ 0x7F ∷ []) ≡ false
name_with_delete = refl

-- ---- places

-- the point that is 5.5 metres from both sides
abbrev spot : Point
spot = record { x = pos 360448; z = pos 360448 }

cell_of_spot : cell_of spot ≡ record { x = 5; z = 5 }
cell_of_spot = refl

-- x and z keep their order
cell_of_border : cell_of (record { x = pos 131071; z = pos 131072 }) ≡ record { x = 1; z = 2 }
cell_of_border = refl

centre_of_cell : centre_of (record { x = 5; z = 5 }) ≡ spot
centre_of_cell = refl

-- three metres one way and four the other
square_of_distance : square spot (record { x = pos 557056; z = pos 98304 }) ≡ 107374182400
square_of_distance = refl

root_of_distance : root 107374182400 ≡ 327680
root_of_distance = root_is 107374182400 327680 (record { within = lit≤ tt; above = lit< tt })

rect_of_one_cell : rect_of spot 1 1 ≡ record { x0 = pos 5; z0 = pos 5; x1 = pos 5; z1 = pos 5 }
rect_of_one_cell = refl

rect_of_two_cells : rect_of spot 2 2 ≡ record { x0 = pos 4; z0 = pos 4; x1 = pos 5; z1 = pos 5 }
rect_of_two_cells = refl

rect_of_three_cells : rect_of spot 3 3 ≡ record { x0 = pos 4; z0 = pos 4; x1 = pos 6; z1 = pos 6 }
rect_of_three_cells = refl

-- it may reach past the ground
rect_past_the_ground : rect_of (record { x = pos 0; z = pos 360448 }) 4 1 ≡ record { x0 = neg_ℤ (pos 2); z0 = pos 5; x1 = pos 1; z1 = pos 5 }
rect_past_the_ground = refl

rect_outside : is_rect_inside (record { width = 16; depth = 16 }) (rect_of (record { x = pos 0; z = pos 360448 }) 4 1) ≡ false
rect_outside = refl

covers_both_ends : covers (rect_of spot 2 2) (record { x = 4; z = 5 }) ≡ true
covers_both_ends = refl

covers_no_more : covers (rect_of spot 2 2) (record { x = 6; z = 5 }) ≡ false
covers_no_more = refl

inside_to_the_last_unit : is_inside (record { width = 2; depth = 1 }) (record { x = pos 131071; z = pos 65535 }) ≡ true
inside_to_the_last_unit = refl

outside_from_the_border : is_inside (record { width = 2; depth = 1 }) (record { x = pos 0; z = pos 65536 }) ≡ false
outside_from_the_border = refl

cells_by_rows : cells_of (record { width = 2; depth = 2 }) ≡ record { x = 0; z = 0 } ∷ record { x = 1; z = 0 } ∷ record { x = 0; z = 1 } ∷
    record { x = 1; z = 1 } ∷ []
cells_by_rows = refl

-- ---- the least member

-- of two that are equally low, the first
least_by_last_digit : least_of (λ n. n % 10 ∷ []) (21 ∷ 40 ∷ 11 ∷ 30 ∷ []) ≡ Some 40
least_by_last_digit = refl

least_by_second_number : least_of (λ n. n % 10 ∷ n ∷ []) (21 ∷ 40 ∷ 11 ∷ 30 ∷ []) ≡ Some 30
least_by_second_number = refl
