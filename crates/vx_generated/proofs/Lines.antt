-- The tokens of each line.
use Rattle.std.proofs.Common.{◌≡◌, ℕ, true, List, [], ◌∷◌, ◌++◌, refl, append_assoc, subst, sym}
use Rattle.vx_ast.specs.declared.token.Piece.TheVariants.{Spelled}
use Rattle.vx_ast.specs.declared.token.TokenKind.TheVariants as kinds
use Rattle.vx_ast.specs.Tokens.{first_piece, word_piece, keyword_of, mark_piece, mark_at, decimal_piece}
use Rattle.vx_generated.proofs.Forms.{Variable, InA, InB, InC, InD, byte_of, Drawn, Sum, Thrice, Quotient, Remainder, Half, Formula, Alone, Added, Line, Set, Store, Load, IfLess, Repeat, IfMore, Bit, of_variable, text_of, drawn_pieces, pieces_of, set_front, set_back, store_front, load_bits, less_front, more_front, block_back, loop_front, else_middle, between, line_text}
use Rattle.vx_generated.proofs.Spelling.{is_plain, begins_plain, Lexed, Spells, Tokens, bits_tokens, followed, of_bits, of_both}

-- what stands behind a variable

data Behind : Type 0 where
  ASpace : Behind
  ASemicolon : Behind
  AClosing : Behind
  ABracket : Behind

abbrev behind_byte : Behind → ℕ
behind_byte ASpace = 32
behind_byte ASemicolon = 59
behind_byte AClosing = 41
behind_byte ABracket = 93

variable_first : (v : Variable) (b : Behind) (after : List ℕ) → first_piece (byte_of v ∷ behind_byte b ∷ after) ≡ Spelled (kinds.Name (byte_of v ∷ [])) 1
unfolding first_piece word_piece keyword_of
variable_first InA ASpace after = refl
variable_first InA ASemicolon after = refl
variable_first InA AClosing after = refl
variable_first InA ABracket after = refl
variable_first InB ASpace after = refl
variable_first InB ASemicolon after = refl
variable_first InB AClosing after = refl
variable_first InB ABracket after = refl
variable_first InC ASpace after = refl
variable_first InC ASemicolon after = refl
variable_first InC AClosing after = refl
variable_first InC ABracket after = refl
variable_first InD ASpace after = refl
variable_first InD ASemicolon after = refl
variable_first InD AClosing after = refl
variable_first InD ABracket after = refl

variable_plain : (v : Variable) → is_plain (byte_of v) ≡ true
variable_plain InA = refl
variable_plain InB = refl
variable_plain InC = refl
variable_plain InD = refl

a_variable : {after : List ℕ} {ss : List Bit} (v : Variable) (b : Behind) (more : List ℕ) → text_of ss ++ after ≡ behind_byte b ∷ more → Lexed after ss → Lexed after (of_variable v ∷ ss)
a_variable {after = after} {ss = ss} v b more e h = Lexed.token (subst (λ (l : List ℕ). first_piece (byte_of v ∷ l) ≡ Spelled (kinds.Name (byte_of v ∷ [])) 1) (sym e) (variable_first v b more)) (variable_plain v) h

-- an expression and what stands behind it, a `;`
drawn_lexed : (e : Drawn) (after : List ℕ) → Lexed (59 ∷ after) (drawn_pieces e)
unfolding first_piece word_piece keyword_of mark_piece mark_at decimal_piece
drawn_lexed (Sum v w) after = (a_variable v ASpace _ refl (Lexed.blank refl (Lexed.token refl refl (Lexed.blank (variable_plain w) (a_variable w ASemicolon _ refl Lexed.done)))))
drawn_lexed (Thrice v w) after = (a_variable v ASpace _ refl (Lexed.blank refl (Lexed.token refl refl (Lexed.blank refl (Lexed.token refl refl (Lexed.blank refl (Lexed.token refl refl (Lexed.blank (variable_plain w) (a_variable w ASemicolon _ refl Lexed.done)))))))))
drawn_lexed (Quotient v w) after = (a_variable v ASpace _ refl (Lexed.blank refl (Lexed.token refl refl (Lexed.blank refl (Lexed.token refl refl (Lexed.token refl refl (a_variable w ASpace _ refl (Lexed.blank refl (Lexed.token refl refl (Lexed.blank refl (Lexed.token refl refl (Lexed.token refl refl (Lexed.blank refl (Lexed.token refl refl (Lexed.blank refl (Lexed.token refl refl (Lexed.token refl refl Lexed.done)))))))))))))))))
drawn_lexed (Remainder v w) after = (a_variable v ASpace _ refl (Lexed.blank refl (Lexed.token refl refl (Lexed.blank refl (Lexed.token refl refl (Lexed.token refl refl (a_variable w ASpace _ refl (Lexed.blank refl (Lexed.token refl refl (Lexed.blank refl (Lexed.token refl refl (Lexed.token refl refl (Lexed.blank refl (Lexed.token refl refl (Lexed.blank refl (Lexed.token refl refl (Lexed.token refl refl Lexed.done)))))))))))))))))
drawn_lexed (Half v w) after = (Lexed.token refl refl (a_variable v ASpace _ refl (Lexed.blank refl (Lexed.token refl refl (Lexed.blank (variable_plain w) (a_variable w AClosing _ refl (Lexed.token refl refl (Lexed.blank refl (Lexed.token refl refl (Lexed.blank refl (Lexed.token refl refl Lexed.done)))))))))))

drawn_plain : (e : Drawn) (after : List ℕ) → begins_plain (text_of (drawn_pieces e) ++ after) ≡ true
drawn_plain (Sum v w) after = variable_plain v
drawn_plain (Thrice v w) after = variable_plain v
drawn_plain (Quotient v w) after = variable_plain v
drawn_plain (Remainder v w) after = variable_plain v
drawn_plain (Half v w) after = refl

formula_lexed : (e : Formula) (after : List ℕ) → Lexed (59 ∷ after) (pieces_of e)
unfolding first_piece word_piece keyword_of mark_piece mark_at decimal_piece
formula_lexed (Alone e) after = drawn_lexed e after
formula_lexed (Added v e) after = a_variable v ASpace _ refl (Lexed.blank refl (Lexed.token refl refl (Lexed.blank (drawn_plain e (59 ∷ after)) (drawn_lexed e after))))

formula_plain : (e : Formula) (after : List ℕ) → begins_plain (text_of (pieces_of e) ++ after) ≡ true
formula_plain (Alone e) after = drawn_plain e after
formula_plain (Added v e) after = variable_plain v

-- parts of lines: each front ends in a blank before an expression

set_front_lexed : (v : Variable) (after : List ℕ) → begins_plain after ≡ true → Lexed after (set_front v)
unfolding first_piece word_piece keyword_of mark_piece mark_at decimal_piece
set_front_lexed v after h = (a_variable v ASpace _ refl (Lexed.blank refl (Lexed.token refl refl (Lexed.blank h Lexed.done))))

set_back_lexed : (after : List ℕ) → Lexed after (set_back)
unfolding first_piece word_piece keyword_of mark_piece mark_at decimal_piece
set_back_lexed after = (Lexed.token refl refl (Lexed.end Lexed.done))

store_front_lexed : (v : Variable) (after : List ℕ) → begins_plain after ≡ true → Lexed after (store_front v)
unfolding first_piece word_piece keyword_of mark_piece mark_at decimal_piece
store_front_lexed v after h = (Lexed.token refl refl (Lexed.token refl refl (a_variable v ASpace _ refl (Lexed.blank refl (Lexed.token refl refl (Lexed.blank refl (Lexed.token refl refl (Lexed.token refl refl (Lexed.blank refl (Lexed.token refl refl (Lexed.blank h Lexed.done)))))))))))

load_bits_lexed : (v w : Variable) (after : List ℕ) → Lexed after (load_bits v w)
unfolding first_piece word_piece keyword_of mark_piece mark_at decimal_piece
load_bits_lexed v w after = (a_variable v ASpace _ refl (Lexed.blank refl (Lexed.token refl refl (Lexed.blank refl (Lexed.token refl refl (Lexed.token refl refl (a_variable w ASpace _ refl (Lexed.blank refl (Lexed.token refl refl (Lexed.blank refl (Lexed.token refl refl (Lexed.token refl refl (Lexed.token refl refl (Lexed.end Lexed.done))))))))))))))

less_front_lexed : (u v w : Variable) (after : List ℕ) → begins_plain after ≡ true → Lexed after (less_front u v w)
unfolding first_piece word_piece keyword_of mark_piece mark_at decimal_piece
less_front_lexed u v w after h = (Lexed.token refl refl (Lexed.blank refl (Lexed.token refl refl (a_variable u ASpace _ refl (Lexed.blank refl (Lexed.token refl refl (Lexed.blank (variable_plain v) (a_variable v AClosing _ refl (Lexed.token refl refl (Lexed.blank refl (Lexed.token refl refl (Lexed.blank (variable_plain w) (a_variable w ASpace _ refl (Lexed.blank refl (Lexed.token refl refl (Lexed.blank h Lexed.done))))))))))))))))

more_front_lexed : (u v w : Variable) (after : List ℕ) → begins_plain after ≡ true → Lexed after (more_front u v w)
unfolding first_piece word_piece keyword_of mark_piece mark_at decimal_piece
more_front_lexed u v w after h = (Lexed.token refl refl (Lexed.blank refl (Lexed.token refl refl (a_variable u ASpace _ refl (Lexed.blank refl (Lexed.token refl refl (Lexed.blank (variable_plain v) (a_variable v AClosing _ refl (Lexed.token refl refl (Lexed.blank refl (Lexed.token refl refl (Lexed.blank (variable_plain w) (a_variable w ASpace _ refl (Lexed.blank refl (Lexed.token refl refl (Lexed.blank h Lexed.done))))))))))))))))

block_back_lexed : (after : List ℕ) → Lexed after (block_back)
unfolding first_piece word_piece keyword_of mark_piece mark_at decimal_piece
block_back_lexed after = (Lexed.token refl refl (Lexed.blank refl (Lexed.token refl refl (Lexed.end Lexed.done))))

loop_front_lexed : (w : Variable) (after : List ℕ) → begins_plain after ≡ true → Lexed after (loop_front w)
unfolding first_piece word_piece keyword_of mark_piece mark_at decimal_piece
loop_front_lexed w after h = (Lexed.token refl refl (Lexed.blank refl (Lexed.token refl refl (Lexed.token refl refl (Lexed.blank refl (Lexed.token refl refl (Lexed.blank refl (Lexed.token refl refl (Lexed.token refl refl (Lexed.blank refl (Lexed.token refl refl (Lexed.blank refl (Lexed.token refl refl (Lexed.blank refl (Lexed.token refl refl (Lexed.token refl refl (Lexed.blank refl (Lexed.token refl refl (Lexed.token refl refl (Lexed.token refl refl (Lexed.blank refl (Lexed.token refl refl (Lexed.blank (variable_plain w) (a_variable w ASpace _ refl (Lexed.blank refl (Lexed.token refl refl (Lexed.blank h Lexed.done)))))))))))))))))))))))))))

else_middle_lexed : (w : Variable) (after : List ℕ) → begins_plain after ≡ true → Lexed after (else_middle w)
unfolding first_piece word_piece keyword_of mark_piece mark_at decimal_piece
else_middle_lexed w after h = (Lexed.token refl refl (Lexed.blank refl (Lexed.token refl refl (Lexed.blank refl (Lexed.token refl refl (Lexed.blank refl (Lexed.token refl refl (Lexed.blank (variable_plain w) (a_variable w ASpace _ refl (Lexed.blank refl (Lexed.token refl refl (Lexed.blank h Lexed.done))))))))))))

abbrev pub between_tokens : List Bit → Formula → List Bit → Tokens
between_tokens front e back = followed (text_of front) (bits_tokens front) (followed (text_of (pieces_of e)) (bits_tokens (pieces_of e)) (bits_tokens back))

abbrev pub line_tokens : Line → Tokens
line_tokens (Set v e) = between_tokens (set_front v) (Alone e) set_back
line_tokens (Store v e) = between_tokens (store_front v) (Alone e) set_back
line_tokens (Load v w) = bits_tokens (load_bits v w)
line_tokens (IfLess u v w e) = between_tokens (less_front u v w) (Alone e) block_back
line_tokens (Repeat v w e) = between_tokens (loop_front v) (Added w e) block_back
line_tokens (IfMore u v w e x f) =
    followed (text_of (more_front u v w)) (bits_tokens (more_front u v w)) (followed (text_of (pieces_of (Alone e))) (bits_tokens (pieces_of (Alone e))) (between_tokens (else_middle x) (Alone f) block_back))

-- a formula, and behind it a text that begins with `;`
formula_spells : (e : Formula) (behind : List ℕ) (more : List ℕ) → behind ≡ 59 ∷ more → Spells behind (text_of (pieces_of e)) (bits_tokens (pieces_of e))
formula_spells e behind more is = of_bits behind (pieces_of e) (subst (λ (l : List ℕ). Lexed l (pieces_of e)) (sym is) (formula_lexed e more))

between_spells : (front : List Bit) (e : Formula) (back : List Bit) (after more : List ℕ) → ((a : List ℕ) → begins_plain a ≡ true → Lexed a front) → Lexed after back → text_of back ++ after ≡ 59 ∷ more → Spells after (between front e back) (between_tokens front e back)
between_spells front e back after more f b is =
    of_both after (text_of front) (text_of (pieces_of e) ++ text_of back) (bits_tokens front) (followed (text_of (pieces_of e)) (bits_tokens (pieces_of e)) (bits_tokens back))
    (of_bits ((text_of (pieces_of e) ++ text_of back) ++ after) front (f ((text_of (pieces_of e) ++ text_of back) ++ after) (subst (λ (l : List ℕ). begins_plain l ≡ true) (sym (append_assoc (text_of (pieces_of e)) (text_of back) after)) (formula_plain e (text_of back ++ after)))))
    (of_both after (text_of (pieces_of e)) (text_of back) (bits_tokens (pieces_of e)) (bits_tokens back) (formula_spells e (text_of back ++ after) more is) (of_bits after back b))

pub line_spells : (l : Line) (after : List ℕ) → Spells after (line_text l) (line_tokens l)
line_spells (Set v e) after = between_spells (set_front v) (Alone e) set_back after _ (set_front_lexed v) (set_back_lexed after) refl
line_spells (Store v e) after = between_spells (store_front v) (Alone e) set_back after _ (store_front_lexed v) (set_back_lexed after) refl
line_spells (Load v w) after = of_bits after (load_bits v w) (load_bits_lexed v w after)
line_spells (IfLess u v w e) after = between_spells (less_front u v w) (Alone e) block_back after _ (less_front_lexed u v w) (block_back_lexed after) refl
line_spells (Repeat v w e) after = between_spells (loop_front v) (Added w e) block_back after _ (loop_front_lexed v) (block_back_lexed after) refl
line_spells (IfMore u v w e x f) after =
    let rest : List ℕ = between (else_middle x) (Alone f) block_back in
    of_both after (text_of (more_front u v w)) (text_of (pieces_of (Alone e)) ++ rest) (bits_tokens (more_front u v w)) (followed (text_of (pieces_of (Alone e))) (bits_tokens (pieces_of (Alone e))) (between_tokens (else_middle x) (Alone f) block_back))
    (of_bits ((text_of (pieces_of (Alone e)) ++ rest) ++ after) (more_front u v w) (more_front_lexed u v w ((text_of (pieces_of (Alone e)) ++ rest) ++ after) (subst (λ (l : List ℕ). begins_plain l ≡ true) (sym (append_assoc (text_of (pieces_of (Alone e))) rest after)) (formula_plain (Alone e) (rest ++ after)))))
    (of_both after (text_of (pieces_of (Alone e))) rest (bits_tokens (pieces_of (Alone e))) (between_tokens (else_middle x) (Alone f) block_back) (formula_spells (Alone e) (rest ++ after) _ refl)
    (between_spells (else_middle x) (Alone f) block_back after _ (else_middle_lexed x) (block_back_lexed after) refl))
