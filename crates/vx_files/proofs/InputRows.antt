-- What an input's text reads as, worked out by hand.
use Rattle.std.proofs.Common.{◌≡◌, refl, pos, negsuc, [], ◌∷◌, Ok, Err, codes}
use Rattle.vx_files.specs.InputText.{number_of, input_reading}

two_numbers : input_reading (codes " 12\t-7 ") ≡ Ok (pos 12 ∷ negsuc 6 ∷ [])
unfolding number_of
two_numbers = refl

bad_word : input_reading (codes "12 x") ≡ Err 3
unfolding number_of
bad_word = refl

too_large : input_reading (codes "2147483648") ≡ Err 0
unfolding number_of
too_large = refl

least : input_reading (codes "-2147483648") ≡ Ok (negsuc 2147483647 ∷ [])
unfolding number_of
least = refl
