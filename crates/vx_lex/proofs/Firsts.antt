-- What stands first, behind the tests that fail.
use Rattle.std.proofs.Common.{◌≡◌, ℕ, true, false, List, nat_eq, codes, slice_index, ◌∙◌}
use Rattle.std.specs.List.{starts_with}
use Rattle.vx_ast.specs.Tokens.{begins_hex, first_piece, is_blank, is_digit, is_letter, string_piece, word_piece}
use Rattle.vx_lex.proofs.Numbers.{chosen, other}

pub word_first : (text : List ℕ) → is_blank (slice_index text 0) ≡ false → starts_with nat_eq text (codes "/*") ≡ false → starts_with nat_eq text (codes "//") ≡ false
    → is_letter (slice_index text 0) ≡ true → word_piece text ≡ first_piece text
unfolding first_piece
word_first text blank comment line letter = chosen _ _ _ letter ∙ other _ _ _ line ∙ other _ _ _ comment ∙ other _ _ _ blank

pub string_first : (text : List ℕ) → is_blank (slice_index text 0) ≡ false → starts_with nat_eq text (codes "/*") ≡ false → starts_with nat_eq text (codes "//") ≡ false
    → is_letter (slice_index text 0) ≡ false → begins_hex text ≡ false → is_digit (slice_index text 0) ≡ false → nat_eq (slice_index text 0) 34 ≡ true → string_piece text ≡ first_piece text
unfolding first_piece
string_first text blank comment line letter hex digit quote =
    chosen _ _ _ quote ∙ other _ _ _ digit ∙ other _ _ _ hex ∙ other _ _ _ letter ∙ other _ _ _ line ∙ other _ _ _ comment ∙ other _ _ _ blank
