-- Tokens and faults of worked texts, by computation.
use Rattle.std.proofs.Common.{◌≡◌, ℕ, pos, List, [], ◌∷◌, ◌++◌, codes, refl, lit<}
use Rattle.vx_ast.specs.declared.token.Keyword.TheVariants.{Int, Return}
use Rattle.vx_ast.specs.declared.token.Mark.TheVariants.{ShiftLeftEqual, ShiftLeft, PlusPlus, Less, Semicolon}
use Rattle.vx_ast.specs.declared.token.TokenKind.TheVariants.{Keyword, Name, Number, Text, Mark, End}
use Rattle.vx_ast.specs.declared.token.Token.{Token}
use Rattle.vx_ast.specs.declared.token.Piece.{Piece}
use Rattle.vx_ast.specs.declared.token.Piece.TheVariants.{Skipped, Spelled, Faulty}
use Rattle.vx_ast.specs.declared.fault.SourceFault.TheVariants.{Bad}
use Rattle.vx_ast.specs.Tokens.{first_piece, piece_at, keyword_of, word_piece, mark_at, mark_piece, behind_word, hex_piece, decimal_piece, quoted_piece, string_piece, before_quote, before_bad_escape, escapes_read, before_close, comment_piece, is_include_line, line_at, column_at, Lexes, Refuses, LexesFrom, RefusesFrom}

-- what stands first in a text
abbrev first : List ℕ → Piece
unfolding first_piece keyword_of word_piece mark_at mark_piece hex_piece decimal_piece quoted_piece string_piece before_quote before_bad_escape escapes_read before_close comment_piece
first text = first_piece text

abbrev at : List ℕ → ℕ → Piece
unfolding piece_at behind_word is_include_line first_piece keyword_of word_piece mark_at mark_piece hex_piece decimal_piece quoted_piece string_piece before_quote before_bad_escape escapes_read before_close comment_piece
at bytes place = piece_at bytes place

-- blanks are skipped one by one
blanks : (first (codes " x") ≡ Skipped 1) × (first (codes "\r\n") ≡ Skipped 1) × (first (11 ∷ 12 ∷ []) ≡ Skipped 1)
unfolding first
blanks = (refl, refl, refl)

-- a comment runs to the next `*/`, which stands behind its `/*`
comments : (first (codes "/* a */ b */") ≡ Skipped 7) × (first (codes "/*/ */") ≡ Skipped 6) × (first (codes "/*/") ≡ Faulty 2 0) × (first (codes "/*") ≡ Faulty 2 0)
unfolding first
comments = (refl, refl, refl, refl)

-- or to the end of its line
line_comments : (first (codes "// a\nb") ≡ Skipped 4) × (first (codes "///*") ≡ Skipped 4)
unfolding first
line_comments = (refl, refl)

-- a line of `#`, `include`, `<stdio.h>` and blanks is skipped
include_lines : (at (codes " #\tinclude  <stdio.h> \nint") 0 ≡ Skipped 22) × (at (codes ";\n#include<stdio.h>") 2 ≡ Skipped 17)
unfolding at
include_lines = (refl, refl)

-- any other `#` is a fault
other_lines : (at (codes "#include <stdio.h>;") 0 ≡ Faulty 1 0) × (at (codes ";#include <stdio.h>") 1 ≡ Faulty 1 0) × (at (codes "#include <math.h>") 0 ≡ Faulty 1 0)
unfolding at
other_lines = (refl, refl, refl)

-- names and keywords
words : (first (codes "_a1+2") ≡ Spelled (Name (codes "_a1")) 3) × (first (codes "int x") ≡ Spelled (Keyword Int) 3) × (first (codes "intx") ≡ Spelled (Name (codes "intx")) 4)
unfolding first
words = (refl, refl, refl)

-- numbers by their values
numbers : (first (codes "0;") ≡ Spelled (Number (pos 0)) 1) × (first (codes "2147483647") ≡ Spelled (Number (pos 2147483647)) 10) × (first (codes "2147483648") ≡ Faulty 3 0) × (first (codes "0X7fFF]") ≡ Spelled (Number (pos 32767)) 6)
unfolding first
numbers = (refl, refl, refl, refl)

-- what may not stand directly behind a number is the fault, also where the number is too large
behind_numbers : (first (codes "08") ≡ Faulty 1 1) × (first (codes "1a") ≡ Faulty 1 1) × (first (codes "99999999999_") ≡ Faulty 1 11) × (first (codes "0x") ≡ Faulty 1 1) × (first (codes "0x;") ≡ Faulty 1 2) × (first (codes "0x1g") ≡ Faulty 1 3)
unfolding first
behind_numbers = (refl, refl, refl, refl, refl, refl)

-- strings, their escapes read; bytes past ASCII are kept
strings : (first (codes "\"a\\n\\t\\\\\\\"\" b\"") ≡ Spelled (Text (97 ∷ 10 ∷ 9 ∷ 92 ∷ 34 ∷ [])) 11) × (first (34 ∷ 200 ∷ 34 ∷ []) ≡ Spelled (Text (200 ∷ [])) 3) × (first (200 ∷ []) ≡ Faulty 1 0)
unfolding first
strings = (refl, refl, refl)

-- a string that is not ended on its line is the fault before a bad escape in it
bad_strings : (first (codes "\"a\\q\"") ≡ Faulty 1 3) × (first (codes "\"a\\q") ≡ Faulty 2 0) × (first (codes "\"a\n\"") ≡ Faulty 2 0) × (first (codes "\"a\\") ≡ Faulty 2 0) × (first (codes "\"a\\\"") ≡ Faulty 2 0)
unfolding first
bad_strings = (refl, refl, refl, refl, refl)

-- the longest mark is taken; a byte that begins nothing is a fault
marks : (first (codes "<<=1") ≡ Spelled (Mark ShiftLeftEqual) 3) × (first (codes "<<1") ≡ Spelled (Mark ShiftLeft) 2) × (first (codes "+++") ≡ Spelled (Mark PlusPlus) 2) × (first (codes "<") ≡ Spelled (Mark Less) 1) × (first (codes "@") ≡ Faulty 1 0)
unfolding first
marks = (refl, refl, refl, refl, refl)

-- lines end with a line feed alone, and columns are counted in bytes
places : (line_at (codes "a\r\n\tb") 4 ≡ 2) × (column_at (codes "a\r\n\tb") 4 ≡ 2) × (column_at (codes "a\r\n\tb") 2 ≡ 3) × (line_at (codes "a\r\n") 3 ≡ 2) × (column_at (codes "a\r\n") 3 ≡ 1)
places = (refl, refl, refl, refl, refl)

-- the end token stands at the end of the source
ended : Lexes (codes "x ;\n") (record { kind = Name (codes "x"); start = 0; end = 1; line = 1; column = 1 } ∷ record { kind = Mark Semicolon; start = 2; end = 3; line = 1; column = 3 } ∷ record { kind = End; start = 4; end = 4; line = 2; column = 1 } ∷ [])
unfolding at
ended = LexesFrom.token (Name (codes "x")) 1 (lit< tt) refl (LexesFrom.skip 1 (lit< tt) refl (LexesFrom.token (Mark Semicolon) 1 (lit< tt) refl (LexesFrom.skip 1 (lit< tt) refl (LexesFrom.end refl))))

-- a literal over 2147483647
too_large : Refuses (codes "return 2147483648;") (Bad 3 1 8)
unfolding at
too_large = RefusesFrom.token (Keyword Return) 6 (lit< tt) refl (RefusesFrom.skip 1 (lit< tt) refl (RefusesFrom.fault 3 0 (lit< tt) refl))
