-- What stands first in a text lies within the text.
use Rattle.std.proofs.Common.{◌≡◌, ◌≢◌, ◌≤◌, ◌<◌, ◌+◌, ◌-◌, ◌⊎◌, ℕ, suc, Bool, true, false, cond, ◌&&◌, ◌||◌, nat_eq, nat_lt, List, [], ◌∷◌, length, take, drop, codes, get_or, Option, None, Some, IfSome, find, refl, sym, ap, inl, inr, arith, length-drop, length-take, pos}
use Rattle.std.specs.List.{prefix_len, starts_with, list_all}
use Rattle.std.specs.Option.{option_map, option_map_or}
use Rattle.std.specs.Cmp.Lexicographic.{pointwise}
use Rattle.std.proofs.lemmas.Bool.{cases_lt, eqb-true}
use Rattle.std.proofs.lemmas.List.{get_or_past}
use borrow.Author.Tests.{ltb-true}
use Rattle.vx_ast.specs.declared.token.TokenKind.TheVariants as kinds
use Rattle.vx_ast.specs.declared.token.Keyword.{Keyword}
use Rattle.std.proofs.lemmas.List.Sums.{prefix_len-le-length}
use Rattle.std.proofs.lemmas.List.Folds.{length-prefix_len}
use Rattle.vx_ast.specs.declared.token.Mark.{Mark}
use Rattle.vx_ast.specs.declared.token.Piece.{Piece}
use Rattle.vx_ast.specs.declared.token.Piece.TheVariants.{Skipped, Spelled, Faulty}
use Rattle.vx_ast.specs.Tokens.{IsWithin, is_name_byte, is_digit, is_hex_digit, is_in_line, is_blank, is_free, front, mark_table, mark_at, mark_piece, keyword_of, word_piece, number_of, hex_piece, decimal_piece, begins_hex, value_of_digits, is_letter, escape_of, before_quote, before_bad_escape, escapes_read, quoted_piece, string_piece, before_close, comment_piece, line_of, behind_word, is_include_line, first_piece, piece_at, column_at}

choose : (len : ℕ) (t : Bool) (p q : Piece) → (t ≡ true → IsWithin p len) → (t ≡ false → IsWithin q len) → IsWithin (cond t p q) len
choose len true p q yes' no' = yes' refl
choose len false p q yes' no' = no' refl

from_option : {X : Type 0} (len : ℕ) (f : X → Piece) (o : Option X) (p : Piece) → IfSome o (λ x. IsWithin (f x) len) → IsWithin p len → IsWithin (option_map_or f o p) len
from_option len f None p h q = q
from_option len f (Some x) p h q = h

both_hold : (a b : Bool) → (a && b) ≡ true → (a ≡ true) × (b ≡ true)
both_hold true b h = (refl, h)
both_hold false b h = cc

front_within : (p : ℕ → Bool) (text : List ℕ) → p (get_or text 0 0) ≡ true → 0 < length text → (0 < prefix_len p text) × (prefix_len p text ≤ length text)
front_within p [] h l = absurd (omega arith)
front_within p (b ∷ bs) h l = (rw h (omega arith), prefix_len-le-length p (b ∷ bs))

needle_fits : (needle text : List ℕ) → starts_with nat_eq text needle ≡ true → length needle ≤ length text
needle_fits [] text h = omega arith
needle_fits (x ∷ xs) [] h = cc
needle_fits (x ∷ xs) (y ∷ ys) h = omega (arith, needle_fits xs ys (both_hold _ _ h).1)

-- marks

abbrev Fit : List ℕ → List ℕ × Mark → Type 0
Fit text m = (kinds.Mark m.1 ≢ kinds.End) × (0 < length m.0) × (length m.0 ≤ length text)

one_more : (text : List ℕ) (m : List ℕ × Mark) (rest : Option (List ℕ × Mark)) (t : Bool) → starts_with nat_eq text m.0 ≡ t → nat_lt 0 (length m.0) ≡ true → IfSome rest (Fit text)
    → IfSome (cond t (Some m) rest) (Fit text)
one_more text m rest true is some h = ((λ (e : kinds.Mark m.1 ≡ kinds.End). cc), ltb-true 0 (length m.0) some, needle_fits m.0 text is)
one_more text m rest false is some h = h

entry_fits : (text : List ℕ) (table : List (List ℕ × Mark)) → list_all (λ m. nat_lt 0 (length m.0)) table ≡ true → IfSome (find (λ m. starts_with nat_eq text m.0) table) (Fit text)
entry_fits text [] h = tt
entry_fits text (m ∷ ms) h = let both = both_hold _ _ h in one_more text m _ _ refl both.0 (entry_fits text ms both.1)

mark_within : (text : List ℕ) → 0 < length text → IsWithin (mark_piece text) (length text)
unfolding mark_piece mark_at
mark_within text h = from_option {X = List ℕ × Mark} (length text) (λ m. Spelled (kinds.Mark m.1) (length m.0)) (find (λ m. starts_with nat_eq text m.0) mark_table) (Faulty 1 0) (entry_fits text mark_table refl) h

no_end : (name : List ℕ) (k : Option Keyword) → option_map_or kinds.Keyword k (kinds.Name name) ≢ kinds.End
no_end name None e = cc
no_end name (Some k) e = cc

word_within : (text : List ℕ) → 0 < length text → is_name_byte (get_or text 0 0) ≡ true → IsWithin (word_piece text) (length text)
unfolding word_piece
word_within text h is = let fits = front_within is_name_byte text is h in (no_end (front is_name_byte text) (keyword_of (front is_name_byte text)), fits.0, fits.1)

-- numbers

behind_within : (text : List ℕ) (count : ℕ) → is_name_byte (get_or text count 0) ≡ true → (count < length text) ⊎ (length text ≤ count) → count < length text
behind_within text count is (inl h) = h
behind_within text count is (inr h) = let past = get_or_past text count 0 h in let none : is_name_byte 0 ≡ true = rw past at is in cc none

number_within : (text : List ℕ) (count value : ℕ) → 0 < count → count ≤ length text → IsWithin (number_of text count value) (length text)
number_within text count value some h =
    let holds : 0 < length text = omega arith in
    let small : Piece = cond (nat_lt 2147483647 value) (Faulty 3 0) (Spelled (kinds.Number (pos value)) count) in
    choose (length text) (is_name_byte (get_or text count 0)) (Faulty 1 count) small (λ is. behind_within text count is (cases_lt _ _))
    (λ _. choose (length text) (nat_lt 2147483647 value) (Faulty 3 0) (Spelled (kinds.Number (pos value)) count) (λ _. holds) (λ _. ((λ (e : kinds.Number (pos value) ≡ kinds.End). cc), some, h)))

decimal_count : (text : List ℕ) (zero_first : Bool) → 0 < length text → is_digit (get_or text 0 0) ≡ true
    → (0 < length (cond zero_first (codes "0") (front is_digit text))) × (length (cond zero_first (codes "0") (front is_digit text)) ≤ length text)
decimal_count text true h is = (omega arith, omega arith)
decimal_count text false h is = rw (length-prefix_len is_digit text) (front_within is_digit text is h)

decimal_within : (text : List ℕ) → 0 < length text → is_digit (get_or text 0 0) ≡ true → IsWithin (decimal_piece text) (length text)
unfolding decimal_piece
decimal_within text h is = let both = decimal_count text (nat_eq (get_or text 0 0) 48) h is in number_within text _ _ both.0 both.1

either_holds : (a b : Bool) → (a || b) ≡ true → (a ≡ true) ⊎ (b ≡ true)
either_holds true b h = inl refl
either_holds false b h = inr h

hex_long : (text : List ℕ) → (starts_with nat_eq text (codes "0x") ≡ true) ⊎ (starts_with nat_eq text (codes "0X") ≡ true) → 2 ≤ length text
hex_long text (inl h) = needle_fits (codes "0x") text h
hex_long text (inr h) = needle_fits (codes "0X") text h

hex_within : (text : List ℕ) → begins_hex text ≡ true → IsWithin (hex_piece text) (length text)
unfolding hex_piece
hex_within text is =
    let long = hex_long text (either_holds _ _ is) in
    let digits : length (front is_hex_digit (drop 2 text)) ≤ length text - 2 = omega (arith, length-prefix_len is_hex_digit (drop 2 text), prefix_len-le-length is_hex_digit (drop 2 text), length-drop 2 text) in
    choose (length text) (nat_eq (length (front is_hex_digit (drop 2 text))) 0) (Faulty 1 (cond (nat_lt 2 (length text)) 2 1))
    (number_of text (2 + length (front is_hex_digit (drop 2 text))) (value_of_digits 16 (front is_hex_digit (drop 2 text))))
    (λ _. offset (nat_lt 2 (length text)) refl long) (λ some. number_within text _ _ (omega arith) (omega arith))
  where
    offset : (t : Bool) → nat_lt 2 (length text) ≡ t → 2 ≤ length text → cond t 2 1 < length text
    offset true e h = ltb-true 2 (length text) e
    offset false e h = omega arith

-- strings

also_more : (o : Option ℕ) (n : ℕ) (t : Bool) → IfSome o (λ k. k < n) → IfSome (cond t (Some 0) (option_map (λ k. 1 + k) o)) (λ k. k < suc n)
also_more o n true h = omega arith
also_more None n false h = tt
also_more (Some k) n false h = omega arith

unless : (t : Bool) (o : Option ℕ) (n : ℕ) → IfSome o (λ k. k < n) → IfSome (cond t None o) (λ k. k < n)
unless true o n h = tt
unless false o n h = h

quote_within : (e : Bool) (text : List ℕ) → IfSome (before_quote e text) (λ n. n < length text)
unfolding before_quote
quote_within e [] = tt
quote_within e (b ∷ bs) = unless (nat_eq b 10) _ _ (also_more _ _ (is_free 34 e b) (quote_within (is_free 92 e b) bs))

escape_within : (e : Bool) (text : List ℕ) → IfSome (before_bad_escape e text) (λ n. n < length text)
unfolding before_bad_escape
escape_within e [] = tt
escape_within e (b ∷ bs) = also_more _ _ _ (escape_within (is_free 92 e b) bs)

quoted_within : (inner : List ℕ) (len : ℕ) → length inner + 2 ≤ len → IsWithin (quoted_piece inner) len
unfolding quoted_piece
quoted_within inner len h = split (before_bad_escape false inner) (escape_within false inner)
  where
    split : (o : Option ℕ) → IfSome o (λ k. k < length inner) → IsWithin (option_map_or (λ n. Faulty 1 (1 + n)) o (Spelled (kinds.Text (escapes_read false inner)) (2 + length inner))) len
    split None k = ((λ (e : kinds.Text (escapes_read false inner) ≡ kinds.End). cc), omega arith, omega arith)
    split (Some n) k = omega arith

string_within : (text : List ℕ) → 0 < length text → IsWithin (string_piece text) (length text)
unfolding string_piece
string_within text h = split (before_quote false (drop 1 text)) (quote_within false (drop 1 text))
  where
    split : (o : Option ℕ) → IfSome o (λ k. k < length (drop 1 text)) → IsWithin (option_map_or (λ n. quoted_piece (take n (drop 1 text))) o (Faulty 2 0)) (length text)
    split None k = h
    split (Some n) k = quoted_within (take n (drop 1 text)) (length text) (simp (length-take, length-drop) (omega (arith, length-drop 1 text)))

-- comments

also_close : (o : Option ℕ) (n : ℕ) (t : Bool) → (t ≡ true → 2 ≤ suc n) → IfSome o (λ k. k + 2 ≤ n) → IfSome (cond t (Some 0) (option_map (λ k. 1 + k) o)) (λ k. k + 2 ≤ suc n)
also_close o n true two h = omega (arith, two refl)
also_close None n false two h = tt
also_close (Some k) n false two h = omega arith

close_within : (text : List ℕ) → IfSome (before_close text) (λ n. n + 2 ≤ length text)
unfolding before_close
close_within [] = tt
close_within (b ∷ bs) = also_close _ _ _ (needle_fits (codes "*/") (b ∷ bs)) (close_within bs)

comment_within : (text : List ℕ) → 2 ≤ length text → IsWithin (comment_piece text) (length text)
unfolding comment_piece
comment_within text h = split (before_close (drop 2 text)) (close_within (drop 2 text))
  where
    split : (o : Option ℕ) → IfSome o (λ k. k + 2 ≤ length (drop 2 text)) → IsWithin (option_map_or (λ n. Skipped (4 + n)) o (Faulty 2 0)) (length text)
    split None k = omega arith
    split (Some n) k = (omega arith, omega (arith, length-drop 2 text))

slash_first : (text : List ℕ) → starts_with nat_eq text (codes "//") ≡ true → is_in_line (get_or text 0 0) ≡ true
slash_first [] h = cc
slash_first (b ∷ bs) h = let is : b ≡ 47 = sym (eqb-true 47 b (both_hold _ _ h).0) in rw is refl

line_within : (text : List ℕ) → 0 < length text → is_in_line (get_or text 0 0) ≡ true → IsWithin (Skipped (length (line_of text))) (length text)
line_within text h is = rw (length-prefix_len is_in_line text) (front_within is_in_line text is h)

-- what stands first

pub first_within : (text : List ℕ) → 0 < length text → IsWithin (first_piece text) (length text)
unfolding first_piece
first_within text h =
    let len : ℕ = length text in
    let b : ℕ = get_or text 0 0 in
    let seventh : Piece = cond (nat_eq b 34) (string_piece text) (mark_piece text) in
    let sixth : Piece = cond (is_digit b) (decimal_piece text) seventh in
    let fifth : Piece = cond (begins_hex text) (hex_piece text) sixth in
    let fourth : Piece = cond (is_letter b) (word_piece text) fifth in
    let third : Piece = cond (starts_with nat_eq text (codes "//")) (Skipped (length (line_of text))) fourth in
    let second : Piece = cond (starts_with nat_eq text (codes "/*")) (comment_piece text) third in
    choose len (is_blank b) (Skipped 1) second (λ _. (omega arith, h)) (λ _.
    choose len (starts_with nat_eq text (codes "/*")) (comment_piece text) third (λ opens. comment_within text (needle_fits (codes "/*") text opens)) (λ _.
    choose len (starts_with nat_eq text (codes "//")) (Skipped (length (line_of text))) fourth (λ opens. line_within text h (slash_first text opens)) (λ _.
    choose len (is_letter b) (word_piece text) fifth (λ letter. word_within text h (rw letter refl)) (λ _.
    choose len (begins_hex text) (hex_piece text) sixth (λ hex. hex_within text hex) (λ _.
    choose len (is_digit b) (decimal_piece text) seventh (λ digit. decimal_within text h digit) (λ _.
    choose len (nat_eq b 34) (string_piece text) (mark_piece text) (λ _. string_within text h) (λ _. mark_within text h)))))))

-- what stands first from a place on

include_some : (line : List ℕ) → is_include_line line ≡ true → 0 < length line
unfolding is_include_line behind_word
include_some [] is = cc
include_some (b ∷ bs) is = omega arith

pub at_within : (bytes : List ℕ) (place : ℕ) → place < length bytes → IsWithin (piece_at bytes place) (length bytes - place)
unfolding piece_at
at_within bytes place h =
    let text : List ℕ = drop place bytes in
    let line : List ℕ = line_of text in
    let left : length text ≡ length bytes - place = length-drop place bytes in
    let some : 0 < length text = omega arith in
    rw (← left) (choose (length text) (nat_eq (column_at bytes place) 1 && is_include_line line) (Skipped (length line)) (first_piece text)
    (λ is. (include_some line (both_hold _ _ is).1, omega (arith, length-prefix_len is_in_line text, prefix_len-le-length is_in_line text)))
    (λ _. first_within text some))
