-- The tokens of a source, and the first fault of a source that has none.
use Rattle.std.specs.Prelude.{◌≡◌, ◌≢◌, ◌<◌, ◌≤◌, ◌⊎◌, ◌+◌, ◌-◌, ◌*◌, ℕ, pos, Bool, true, false, not, ◌&&◌, ◌||◌, ◌==◌, nat_eq, nat_le, nat_lt, if◌then◌else◌, Option, None, Some, List, [], ◌∷◌, length, take, drop, codes, fold, find, count_by, slice_index, is_none, unwrap_or}
use Rattle.std.specs.List.{AllByRecursion, list_all, prefix_len, suffix_len, starts_with}
use Rattle.std.specs.Cmp.Lexicographic.{pointwise}
use Rattle.std.specs.Option.{option_map, option_map_or}
use Rattle.vx_ast.specs.declared.token.Keyword.{Keyword}
use Rattle.vx_ast.specs.declared.token.Keyword.TheVariants as keywords
use Rattle.vx_ast.specs.declared.token.Mark.{Mark}
use Rattle.vx_ast.specs.declared.token.Mark.TheVariants as marks
use Rattle.vx_ast.specs.declared.token.TokenKind.{TokenKind}
use Rattle.vx_ast.specs.declared.token.TokenKind.TheVariants as kinds
use Rattle.vx_ast.specs.declared.token.Token.{Token}
use Rattle.vx_ast.specs.declared.token.Piece.{Piece}
use Rattle.vx_ast.specs.declared.token.Piece.TheVariants.{Skipped, Spelled, Faulty}
use Rattle.vx_ast.specs.declared.fault.SourceFault.{SourceFault}
use Rattle.vx_ast.specs.declared.fault.SourceFault.TheVariants.{Bad}

-- bytes

-- space, tab, line feed, vertical tab, form feed, carriage return
abbrev pub is_blank : ℕ → Bool
is_blank b = (b == 32) || (nat_le 9 b && nat_le b 13)

abbrev pub is_digit : ℕ → Bool
is_digit b = nat_le 48 b && nat_le b 57

abbrev pub is_hex_digit : ℕ → Bool
is_hex_digit b = is_digit b || (nat_le 65 b && nat_le b 70) || (nat_le 97 b && nat_le b 102)

-- a letter or `_`
abbrev pub is_letter : ℕ → Bool
is_letter b = (nat_le 65 b && nat_le b 90) || (nat_le 97 b && nat_le b 122) || (b == 95)

abbrev pub is_name_byte : ℕ → Bool
is_name_byte b = is_letter b || is_digit b

-- no line feed
abbrev pub is_in_line : ℕ → Bool
is_in_line b = not (b == 10)

-- the longest front of a text of which each byte passes
abbrev pub front : (ℕ → Bool) → List ℕ → List ℕ
front p text = take (prefix_len p text) text

-- places in a source, from 1: the line feeds before the place count, and the bytes behind the last of them

abbrev pub line_at : List ℕ → ℕ → ℕ
line_at bytes place = 1 + count_by (λ b. b == 10) (take place bytes)

abbrev pub column_at : List ℕ → ℕ → ℕ
column_at bytes place = 1 + suffix_len is_in_line (take place bytes)

-- names: a letter or `_` and all letters, digits and `_` behind it; a keyword is no name

abbrev pub keyword_table : List (List ℕ × Keyword)
keyword_table =
    (codes "auto", keywords.Auto) ∷ (codes "break", keywords.Break) ∷ (codes "case", keywords.Case) ∷ (codes "char", keywords.Char)
    ∷ (codes "const", keywords.Const) ∷ (codes "continue", keywords.Continue) ∷ (codes "default", keywords.Default) ∷ (codes "do", keywords.Do)
    ∷ (codes "double", keywords.Double) ∷ (codes "else", keywords.Else) ∷ (codes "enum", keywords.Enum) ∷ (codes "extern", keywords.Extern)
    ∷ (codes "float", keywords.Float) ∷ (codes "for", keywords.For) ∷ (codes "goto", keywords.Goto) ∷ (codes "if", keywords.If)
    ∷ (codes "int", keywords.Int) ∷ (codes "long", keywords.Long) ∷ (codes "register", keywords.Register) ∷ (codes "return", keywords.Return)
    ∷ (codes "short", keywords.Short) ∷ (codes "signed", keywords.Signed) ∷ (codes "sizeof", keywords.Sizeof) ∷ (codes "static", keywords.Static)
    ∷ (codes "struct", keywords.Struct) ∷ (codes "switch", keywords.Switch) ∷ (codes "typedef", keywords.Typedef) ∷ (codes "union", keywords.Union)
    ∷ (codes "unsigned", keywords.Unsigned) ∷ (codes "void", keywords.Void) ∷ (codes "volatile", keywords.Volatile) ∷ (codes "while", keywords.While) ∷ []

-- the keyword of the entry that is spelled so
abbrev pub keyword_in : List (List ℕ × Keyword) → List ℕ → Option Keyword
keyword_in table name = option_map (λ k. k.1) (find (λ k. pointwise nat_eq name k.0) table)

unfoldable pub keyword_of : List ℕ → Option Keyword
keyword_of name = keyword_in keyword_table name

abbrev pub word_kind : List ℕ → TokenKind
word_kind name = option_map_or kinds.Keyword (keyword_of name) (kinds.Name name)

unfoldable pub word_piece : List ℕ → Piece
word_piece text = Spelled (word_kind (front is_name_byte text)) (prefix_len is_name_byte text)

-- marks, longer ones before shorter ones: the first that begins a text is the longest

abbrev pub mark_table : List (List ℕ × Mark)
mark_table =
    (codes "<<=", marks.ShiftLeftEqual) ∷ (codes ">>=", marks.ShiftRightEqual)
    ∷ (codes "++", marks.PlusPlus) ∷ (codes "--", marks.MinusMinus) ∷ (codes "+=", marks.PlusEqual) ∷ (codes "-=", marks.MinusEqual)
    ∷ (codes "*=", marks.StarEqual) ∷ (codes "/=", marks.SlashEqual) ∷ (codes "%=", marks.PercentEqual) ∷ (codes "&=", marks.AmpersandEqual)
    ∷ (codes "|=", marks.BarEqual) ∷ (codes "^=", marks.CaretEqual) ∷ (codes "<<", marks.ShiftLeft) ∷ (codes ">>", marks.ShiftRight)
    ∷ (codes "<=", marks.LessEqual) ∷ (codes ">=", marks.GreaterEqual) ∷ (codes "==", marks.EqualEqual) ∷ (codes "!=", marks.ExclamationEqual)
    ∷ (codes "&&", marks.AmpersandAmpersand) ∷ (codes "||", marks.BarBar)
    ∷ (codes "+", marks.Plus) ∷ (codes "-", marks.Minus) ∷ (codes "*", marks.Star) ∷ (codes "/", marks.Slash) ∷ (codes "%", marks.Percent)
    ∷ (codes "&", marks.Ampersand) ∷ (codes "|", marks.Bar) ∷ (codes "^", marks.Caret) ∷ (codes "~", marks.Tilde) ∷ (codes "!", marks.Exclamation)
    ∷ (codes "<", marks.Less) ∷ (codes ">", marks.Greater) ∷ (codes "=", marks.Equal) ∷ (codes "?", marks.Question) ∷ (codes ":", marks.Colon)
    ∷ (codes ",", marks.Comma) ∷ (codes ";", marks.Semicolon) ∷ (codes "(", marks.OpenParenthesis) ∷ (codes ")", marks.CloseParenthesis)
    ∷ (codes "[", marks.OpenBracket) ∷ (codes "]", marks.CloseBracket) ∷ (codes "{", marks.OpenBrace) ∷ (codes "}", marks.CloseBrace) ∷ []

unfoldable pub mark_at : List ℕ → Option (List ℕ × Mark)
mark_at text = find (λ m. starts_with nat_eq text m.0) mark_table

unfoldable pub mark_piece : List ℕ → Piece
mark_piece text = option_map_or (λ m. Spelled (kinds.Mark m.1) (length m.0)) (mark_at text) (Faulty 1 0)

-- numbers

abbrev pub digit_value : ℕ → ℕ
digit_value b = if is_digit b then b - 48 else if nat_le 97 b then b - 87 else b - 55

abbrev pub value_of_digits : (base : ℕ) → List ℕ → ℕ
value_of_digits base digits = fold (λ n d. base * n + digit_value d) 0 digits

-- a number of so many bytes: no letter, digit or `_` may stand directly behind it, and then its value may not be too large
abbrev pub number_of : List ℕ → (count value : ℕ) → Piece
number_of text count value =
    if is_name_byte (slice_index text count) then Faulty 1 count
    else if nat_lt 2147483647 value then Faulty 3 0
    else Spelled (kinds.Number (pos value)) count

-- `0x` or `0X` and at least one hexadecimal digit; without one the fault is behind the `x`, or at it where the source ends
unfoldable pub hex_piece : List ℕ → Piece
hex_piece text =
    let digits = front is_hex_digit (drop 2 text) in
    if length digits == 0 then Faulty 1 (if nat_lt 2 (length text) then 2 else 1)
    else number_of text (2 + length digits) (value_of_digits 16 digits)

-- `0`, or a digit from 1 to 9 and all digits behind it
unfoldable pub decimal_piece : List ℕ → Piece
decimal_piece text =
    let digits = if slice_index text 0 == 48 then codes "0" else front is_digit text in
    number_of text (length digits) (value_of_digits 10 digits)

abbrev pub begins_hex : List ℕ → Bool
begins_hex text = starts_with nat_eq text (codes "0x") || starts_with nat_eq text (codes "0X")

-- strings

-- an unescaped byte of this kind; `escaped`: a `\` stands before it that takes it along
abbrev pub is_free : (wanted : ℕ) (escaped : Bool) → ℕ → Bool
is_free wanted escaped b = not escaped && (b == wanted)

-- how many bytes stand before the closing `"` on this line
unfoldable pub before_quote : (escaped : Bool) → List ℕ → Option ℕ
before_quote escaped [] = None
before_quote escaped (b ∷ bs) =
    if b == 10 then None
    else if is_free 34 escaped b then Some 0
    else option_map (λ n. 1 + n) (before_quote (is_free 92 escaped b) bs)

-- what `\` and a byte stand for
abbrev pub escape_of : ℕ → Option ℕ
escape_of b =
    if b == 110 then Some 10 else if b == 116 then Some 9 else if b == 92 then Some 92 else if b == 34 then Some 34 else None

-- how many bytes stand before the first one that makes no escape with the `\` before it
unfoldable pub before_bad_escape : (escaped : Bool) → List ℕ → Option ℕ
before_bad_escape escaped [] = None
before_bad_escape escaped (b ∷ bs) =
    if escaped && is_none (escape_of b) then Some 0 else option_map (λ n. 1 + n) (before_bad_escape (is_free 92 escaped b) bs)

-- the bytes of a string, its escapes read
unfoldable pub escapes_read : (escaped : Bool) → List ℕ → List ℕ
escapes_read escaped [] = []
escapes_read escaped (b ∷ bs) =
    if is_free 92 escaped b then escapes_read true bs
    else ((if escaped then unwrap_or (escape_of b) b else b) ∷ escapes_read false bs)

-- what stands between the quotes
unfoldable pub quoted_piece : List ℕ → Piece
quoted_piece inner =
    option_map_or (λ n. Faulty 1 (1 + n)) (before_bad_escape false inner) (Spelled (kinds.Text (escapes_read false inner)) (2 + length inner))

unfoldable pub string_piece : List ℕ → Piece
string_piece text = option_map_or (λ n. quoted_piece (take n (drop 1 text))) (before_quote false (drop 1 text)) (Faulty 2 0)

-- comments, and the include line

-- how many bytes stand before the first `*/`
unfoldable pub before_close : List ℕ → Option ℕ
before_close [] = None
before_close (b ∷ bs) = if starts_with nat_eq (b ∷ bs) (codes "*/") then Some 0 else option_map (λ n. 1 + n) (before_close bs)

unfoldable pub comment_piece : List ℕ → Piece
comment_piece text = option_map_or (λ n. Skipped (4 + n)) (before_close (drop 2 text)) (Faulty 2 0)

-- the rest of the line
abbrev pub line_of : List ℕ → List ℕ
line_of text = front is_in_line text

-- what stands behind blanks and then this word, where they stand there
unfoldable pub behind_word : (word text : List ℕ) → Option (List ℕ)
behind_word word text =
    let rest = drop (prefix_len is_blank text) text in
    if starts_with nat_eq rest word then Some (drop (length word) rest) else None

-- the text holds, besides blanks, only these words in this order
abbrev pub holds_only : List (List ℕ) → List ℕ → Bool
holds_only [] text = list_all is_blank text
holds_only (word ∷ words) text = option_map_or (holds_only words) (behind_word word text) false

unfoldable pub is_include_line : List ℕ → Bool
is_include_line line = holds_only (codes "#" ∷ codes "include" ∷ codes "<stdio.h>" ∷ []) line

-- what stands first in a text that is not empty
unfoldable pub first_piece : List ℕ → Piece
first_piece text =
    let b = slice_index text 0 in
    if is_blank b then Skipped 1
    else if starts_with nat_eq text (codes "/*") then comment_piece text
    else if starts_with nat_eq text (codes "//") then Skipped (length (line_of text))
    else if is_letter b then word_piece text
    else if begins_hex text then hex_piece text
    else if is_digit b then decimal_piece text
    else if b == 34 then string_piece text
    else mark_piece text

-- what stands first from a place of a source on: where a line begins it may be an include line
unfoldable pub piece_at : (bytes : List ℕ) (place : ℕ) → Piece
piece_at bytes place =
    let text = drop place bytes in
    if (column_at bytes place == 1) && is_include_line (line_of text) then Skipped (length (line_of text)) else first_piece text

abbrev pub token_at : (bytes : List ℕ) → TokenKind → (place count : ℕ) → Token
token_at bytes kind place count = record { kind = kind; start = place; end = place + count; line = line_at bytes place; column = column_at bytes place }

-- the tokens from a place on, up to the end of the source
pub data LexesFrom (bytes : List ℕ) : ℕ → List Token → Type 0 where
  end : {place : ℕ} → place ≡ length bytes → LexesFrom bytes place (token_at bytes kinds.End place 0 ∷ [])
  skip : {place : ℕ} (count : ℕ) {ts : List Token} → place < length bytes → piece_at bytes place ≡ Skipped count
      → LexesFrom bytes (place + count) ts → LexesFrom bytes place ts
  token : {place : ℕ} (kind : TokenKind) (count : ℕ) {ts : List Token} → place < length bytes → piece_at bytes place ≡ Spelled kind count
      → LexesFrom bytes (place + count) ts → LexesFrom bytes place (token_at bytes kind place count ∷ ts)

-- the first fault from a place on
pub data RefusesFrom (bytes : List ℕ) : ℕ → SourceFault → Type 0 where
  fault : {place : ℕ} (code offset : ℕ) → place < length bytes → piece_at bytes place ≡ Faulty code offset
      → RefusesFrom bytes place (Bad code (line_at bytes (place + offset)) (column_at bytes (place + offset)))
  skip : {place : ℕ} (count : ℕ) {f : SourceFault} → place < length bytes → piece_at bytes place ≡ Skipped count
      → RefusesFrom bytes (place + count) f → RefusesFrom bytes place f
  token : {place : ℕ} (kind : TokenKind) (count : ℕ) {f : SourceFault} → place < length bytes → piece_at bytes place ≡ Spelled kind count
      → RefusesFrom bytes (place + count) f → RefusesFrom bytes place f

abbrev pub Lexes : List ℕ → List Token → Type 0
Lexes bytes ts = LexesFrom bytes 0 ts

abbrev pub Refuses : List ℕ → SourceFault → Type 0
Refuses bytes f = RefusesFrom bytes 0 f

-- laws, each the clause of a public function

-- it has at least one byte, is no end token and lies within a text of so many bytes; a fault stands at a byte of the text
abbrev pub IsWithin : Piece → ℕ → Type 0
IsWithin (Skipped count) bytes = (0 < count) × (count ≤ bytes)
IsWithin (Spelled kind count) bytes = (kind ≢ kinds.End) × (0 < count) × (count ≤ bytes)
IsWithin (Faulty code offset) bytes = offset < bytes

-- a source has tokens or a fault
abbrev pub ReadOrRefused : Type 0
ReadOrRefused = (bytes : List ℕ) → ((ts : List Token) × Lexes bytes ts) ⊎ ((f : SourceFault) × Refuses bytes f)

-- and not both
abbrev pub NeverBoth : Type 0
NeverBoth = (bytes : List ℕ) (ts : List Token) (f : SourceFault) → Lexes bytes ts → Refuses bytes f → ⊥

-- its tokens are told by it
abbrev pub OneReading : Type 0
OneReading = (bytes : List ℕ) (ts us : List Token) → Lexes bytes ts → Lexes bytes us → ts ≡ us

-- and so is its fault
abbrev pub OneFault : Type 0
OneFault = (bytes : List ℕ) (f g : SourceFault) → Refuses bytes f → Refuses bytes g → f ≡ g

-- from a place on each token begins behind the one before it, and the end token, which is the last one and no other,
-- stands at the end of the source
abbrev pub InOrder : (bytes : List ℕ) (place : ℕ) → List Token → Type 0
InOrder bytes place [] = ⊥
InOrder bytes place (t ∷ []) = t ≡ token_at bytes kinds.End (length bytes) 0
InOrder bytes place (t ∷ u ∷ ts) = (t.kind ≢ kinds.End) × (place ≤ t.start) × (t.start < t.end) × InOrder bytes t.end (u ∷ ts)

abbrev pub SpansInOrder : Type 0
SpansInOrder = (bytes : List ℕ) (ts : List Token) → Lexes bytes ts → InOrder bytes 0 ts

-- a token's text is what stands at its span: there its kind is spelled, with as many bytes as the span has
abbrev pub Stands : (bytes : List ℕ) → Token → Type 0
Stands bytes t = (t.kind ≢ kinds.End → piece_at bytes t.start ≡ Spelled t.kind (t.end - t.start)) × (t.line ≡ line_at bytes t.start) × (t.column ≡ column_at bytes t.start)

abbrev pub TextsAreSlices : Type 0
TextsAreSlices = (bytes : List ℕ) (ts : List Token) → Lexes bytes ts → AllByRecursion (Stands bytes) ts
