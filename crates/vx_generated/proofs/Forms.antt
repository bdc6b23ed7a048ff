-- What is drawn, as data, and how it is spelled: tokens and blanks.
use Rattle.std.proofs.Common.{ℕ, ◌+◌, pos, List, [], ◌∷◌, ◌++◌, length, codes}
use Rattle.vx_ast.specs.declared.token.Keyword.TheVariants as words
use Rattle.vx_ast.specs.declared.token.Mark.TheVariants as marks
use Rattle.vx_ast.specs.declared.token.TokenKind.{TokenKind}
use Rattle.vx_ast.specs.declared.token.TokenKind.TheVariants as kinds
use Rattle.vx_ast.specs.declared.token.Token.{Token}
use Rattle.vx_ast.specs.Tokens.{token_at}

-- one of the variables a, b, c and d
pub data Variable : Type 0 where
  InA : Variable
  InB : Variable
  InC : Variable
  InD : Variable

abbrev pub byte_of : Variable → ℕ
byte_of InA = 97
byte_of InB = 98
byte_of InC = 99
byte_of InD = 100

-- the five expressions, and the same behind a variable and `+`
pub data Drawn : Type 0 where
  Sum : Variable → Variable → Drawn
  Thrice : Variable → Variable → Drawn
  Quotient : Variable → Variable → Drawn
  Remainder : Variable → Variable → Drawn
  Half : Variable → Variable → Drawn

pub data Formula : Type 0 where
  Alone : Drawn → Formula
  Added : Variable → Drawn → Formula

pub data Line : Type 0 where
  Set : Variable → Drawn → Line
  Store : Variable → Drawn → Line
  Load : Variable → Variable → Line
  IfLess : Variable → Variable → Variable → Drawn → Line
  Repeat : Variable → Variable → Drawn → Line
  IfMore : Variable → Variable → Variable → Drawn → Variable → Drawn → Line

-- a blank, or a token with its text
pub data Bit : Type 0 where
  Space : Bit
  Ended : Bit
  Spelt : TokenKind → ℕ → List ℕ → Bit

abbrev pub spelt : TokenKind → List ℕ → Bit
spelt k [] = Space
spelt k (b ∷ bs) = Spelt k b bs

abbrev pub text_in : Bit → List ℕ
text_in Space = 32 ∷ []
text_in Ended = 10 ∷ []
text_in (Spelt k b bs) = b ∷ bs

abbrev pub text_of : List Bit → List ℕ
text_of [] = []
text_of (s ∷ ss) = text_in s ++ text_of ss

abbrev pub tokens_of : (bytes : List ℕ) (place : ℕ) → List Bit → List Token
tokens_of bytes place [] = []
tokens_of bytes place (Space ∷ ss) = tokens_of bytes (place + 1) ss
tokens_of bytes place (Ended ∷ ss) = tokens_of bytes (place + 1) ss
tokens_of bytes place (Spelt k b bs ∷ ss) = token_at bytes k place (length (b ∷ bs)) ∷ tokens_of bytes (place + length (b ∷ bs)) ss

-- pieces

abbrev pub space : Bit
space = Space

abbrev pub line_end : Bit
line_end = Ended

abbrev pub named : List ℕ → Bit
named x = spelt (kinds.Name x) x

abbrev pub of_variable : Variable → Bit
of_variable v = named (byte_of v ∷ [])

abbrev pub plus : Bit
plus = spelt (kinds.Mark marks.Plus) (codes "+")

abbrev pub minus : Bit
minus = spelt (kinds.Mark marks.Minus) (codes "-")

abbrev pub star : Bit
star = spelt (kinds.Mark marks.Star) (codes "*")

abbrev pub slash : Bit
slash = spelt (kinds.Mark marks.Slash) (codes "/")

abbrev pub percent : Bit
percent = spelt (kinds.Mark marks.Percent) (codes "%")

abbrev pub ampersand : Bit
ampersand = spelt (kinds.Mark marks.Ampersand) (codes "&")

abbrev pub caret : Bit
caret = spelt (kinds.Mark marks.Caret) (codes "^")

abbrev pub right : Bit
right = spelt (kinds.Mark marks.ShiftRight) (codes ">>")

abbrev pub less : Bit
less = spelt (kinds.Mark marks.Less) (codes "<")

abbrev pub greater : Bit
greater = spelt (kinds.Mark marks.Greater) (codes ">")

abbrev pub equal : Bit
equal = spelt (kinds.Mark marks.Equal) (codes "=")

abbrev pub twice : Bit
twice = spelt (kinds.Mark marks.PlusPlus) (codes "++")

abbrev pub comma : Bit
comma = spelt (kinds.Mark marks.Comma) (codes ",")

abbrev pub semicolon : Bit
semicolon = spelt (kinds.Mark marks.Semicolon) (codes ";")

abbrev pub opening : Bit
opening = spelt (kinds.Mark marks.OpenParenthesis) (codes "(")

abbrev pub closing : Bit
closing = spelt (kinds.Mark marks.CloseParenthesis) (codes ")")

abbrev pub bracket : Bit
bracket = spelt (kinds.Mark marks.OpenBracket) (codes "[")

abbrev pub bracket_end : Bit
bracket_end = spelt (kinds.Mark marks.CloseBracket) (codes "]")

abbrev pub brace : Bit
brace = spelt (kinds.Mark marks.OpenBrace) (codes "{")

abbrev pub brace_end : Bit
brace_end = spelt (kinds.Mark marks.CloseBrace) (codes "}")

abbrev pub word_if : Bit
word_if = spelt (kinds.Keyword words.If) (codes "if")

abbrev pub word_else : Bit
word_else = spelt (kinds.Keyword words.Else) (codes "else")

abbrev pub word_for : Bit
word_for = spelt (kinds.Keyword words.For) (codes "for")

abbrev pub word_int : Bit
word_int = spelt (kinds.Keyword words.Int) (codes "int")

abbrev pub word_void : Bit
word_void = spelt (kinds.Keyword words.Void) (codes "void")

abbrev pub word_return : Bit
word_return = spelt (kinds.Keyword words.Return) (codes "return")

abbrev pub digit : ℕ → Bit
digit n = spelt (kinds.Number (pos n)) ((48 + n) ∷ [])

abbrev pub fifteen : Bit
fifteen = spelt (kinds.Number (pos 15)) (codes "15")

-- expressions

abbrev pub drawn_pieces : Drawn → List Bit
drawn_pieces (Sum v w) = of_variable v ∷ space ∷ plus ∷ space ∷ of_variable w ∷ []
drawn_pieces (Thrice v w) = of_variable v ∷ space ∷ star ∷ space ∷ digit 3 ∷ space ∷ minus ∷ space ∷ of_variable w ∷ []
drawn_pieces (Quotient v w) = of_variable v ∷ space ∷ slash ∷ space ∷ opening ∷ opening ∷ of_variable w ∷ space ∷ ampersand ∷ space ∷ digit 7 ∷ closing ∷ space ∷ plus ∷ space ∷ digit 1 ∷ closing ∷ []
drawn_pieces (Remainder v w) = of_variable v ∷ space ∷ percent ∷ space ∷ opening ∷ opening ∷ of_variable w ∷ space ∷ ampersand ∷ space ∷ digit 7 ∷ closing ∷ space ∷ plus ∷ space ∷ digit 1 ∷ closing ∷ []
drawn_pieces (Half v w) = opening ∷ of_variable v ∷ space ∷ caret ∷ space ∷ of_variable w ∷ closing ∷ space ∷ right ∷ space ∷ digit 1 ∷ []

abbrev pub pieces_of : Formula → List Bit
pieces_of (Alone e) = drawn_pieces e
pieces_of (Added v e) = of_variable v ∷ space ∷ plus ∷ space ∷ drawn_pieces e

-- lines, in three or five parts

abbrev pub set_front : Variable → List Bit
set_front v = of_variable v ∷ space ∷ equal ∷ space ∷ []

abbrev pub set_back : List Bit
set_back = semicolon ∷ line_end ∷ []

abbrev pub store_front : Variable → List Bit
store_front v = named (codes "m") ∷ bracket ∷ of_variable v ∷ space ∷ ampersand ∷ space ∷ fifteen ∷ bracket_end ∷ space ∷ equal ∷ space ∷ []

abbrev pub load_bits : Variable → Variable → List Bit
load_bits v w = of_variable v ∷ space ∷ equal ∷ space ∷ named (codes "m") ∷ bracket ∷ of_variable w ∷ space ∷ ampersand ∷ space ∷ fifteen ∷ bracket_end ∷ semicolon ∷ line_end ∷ []

abbrev pub less_front : Variable → Variable → Variable → List Bit
less_front u v w = word_if ∷ space ∷ opening ∷ of_variable u ∷ space ∷ less ∷ space ∷ of_variable v ∷ closing ∷ space ∷ brace ∷ space ∷ of_variable w ∷ space ∷ equal ∷ space ∷ []

abbrev pub more_front : Variable → Variable → Variable → List Bit
more_front u v w = word_if ∷ space ∷ opening ∷ of_variable u ∷ space ∷ greater ∷ space ∷ of_variable v ∷ closing ∷ space ∷ brace ∷ space ∷ of_variable w ∷ space ∷ equal ∷ space ∷ []

abbrev pub block_back : List Bit
block_back = semicolon ∷ space ∷ brace_end ∷ line_end ∷ []

abbrev pub loop_front : Variable → List Bit
loop_front w = word_for ∷ space ∷ opening ∷ named (codes "i") ∷ space ∷ equal ∷ space ∷ digit 0 ∷ semicolon ∷ space ∷ named (codes "i") ∷ space ∷ less ∷ space ∷ digit 8 ∷ semicolon ∷ space ∷ named (codes "i") ∷ twice ∷ closing ∷ space ∷ brace ∷ space ∷ of_variable w ∷ space ∷ equal ∷ space ∷ []

abbrev pub else_middle : Variable → List Bit
else_middle w = semicolon ∷ space ∷ brace_end ∷ space ∷ word_else ∷ space ∷ brace ∷ space ∷ of_variable w ∷ space ∷ equal ∷ space ∷ []

abbrev pub between : List Bit → Formula → List Bit → List ℕ
between front e back = text_of front ++ (text_of (pieces_of e) ++ text_of back)

abbrev pub line_text : Line → List ℕ
line_text (Set v e) = between (set_front v) (Alone e) set_back
line_text (Store v e) = between (store_front v) (Alone e) set_back
line_text (Load v w) = text_of (load_bits v w)
line_text (IfLess u v w e) = between (less_front u v w) (Alone e) block_back
line_text (Repeat v w e) = between (loop_front v) (Added w e) block_back
line_text (IfMore u v w e x f) = text_of (more_front u v w) ++ (text_of (pieces_of (Alone e)) ++ between (else_middle x) (Alone f) block_back)
