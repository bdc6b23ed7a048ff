-- A number is told by its digits, and a capped value tells as much as the value.
use Rattle.std.proofs.Common.{◌≡◌, ◌≢◌, ℕ, ◌+◌, ◌≤◌, ◌<◌, Bool, true, false, cond, ◌||◌, ◌&&◌, nat_eq, nat_lt, min, pos, List, [], ◌∷◌, take, drop, length, codes, slice_index, refl, ap, sym, ◌∙◌, arith}
use Rattle.std.specs.List.{prefix_len}
use Rattle.std.proofs.lemmas.Bool.{ltb-true, ltb-false, eq-eqb, ne_eqb}
use Rattle.std.proofs.lemmas.List.Folds.{length-prefix_len}
use Rattle.vx_ast.specs.declared.token.TokenKind.TheVariants as kinds
use Rattle.vx_ast.specs.declared.token.Piece.{Piece}
use Rattle.vx_ast.specs.declared.token.Piece.TheVariants.{Spelled, Faulty}
use Rattle.vx_ast.specs.Tokens.{begins_hex, decimal_piece, front, hex_piece, is_digit, is_hex_digit, is_name_byte, number_of, value_of_digits}

abbrev spelled : (n v : ℕ) → Piece
spelled n v = cond (nat_lt 2147483647 v) (Faulty 3 0) (Spelled (kinds.Number (pos v)) n)

capped : (n v : ℕ) (t : Bool) → nat_lt 2147483647 v ≡ t → spelled n (min 2147483648 v) ≡ spelled n v
capped n v true h =
    let large : 2147483647 < v = ltb-true 2147483647 v h in
    let least : min 2147483648 v ≡ 2147483648 = omega arith in
    ap (spelled n) least ∙ sym (ap (λ t. cond t (Faulty 3 0) (Spelled (kinds.Number (pos v)) n)) h)
capped n v false h =
    let small : v ≤ 2147483647 = ltb-false 2147483647 v h in
    let same : min 2147483648 v ≡ v = omega arith in
    ap (spelled n) same

number_capped : (text : List ℕ) (n v : ℕ) → number_of text n (min 2147483648 v) ≡ number_of text n v
number_capped text n v = ap (cond (is_name_byte (slice_index text n)) (Faulty 1 n)) (capped n v _ refl)

-- a number by its digits, however they are written
by_digits : (text digits ds : List ℕ) (base n k value : ℕ) → n ≡ k → digits ≡ ds → value ≡ min 2147483648 (value_of_digits base digits) → number_of text n value ≡ number_of text k (value_of_digits base ds)
by_digits text digits ds base n k value e d is =
    ap (number_of text n) is ∙ number_capped text n (value_of_digits base digits) ∙ ap (λ j. number_of text j (value_of_digits base digits)) e ∙ ap (λ l. number_of text k (value_of_digits base l)) d

pub chosen : (t : Bool) (p q : Piece) → t ≡ true → p ≡ cond t p q
chosen true p q h = refl
chosen false p q h = cc

pub other : (t : Bool) (p q : Piece) → t ≡ false → q ≡ cond t p q
other true p q h = cc
other false p q h = refl

-- hexadecimal

short : (t : Bool) → ((t && false) || (t && false)) ≡ true → ⊥
short true h = cc
short false h = cc

pub hex_long : (text : List ℕ) → begins_hex text ≡ true → 2 ≤ length text
hex_long [] h = cc
hex_long (a ∷ []) h = absurd (short (nat_eq 48 a) h)
hex_long (a ∷ b ∷ rest) h = omega arith

pub hex_faulty : (text behind : List ℕ) (n k : ℕ) → behind ≡ drop 2 text → n ≡ prefix_len is_hex_digit behind → n ≡ 0 → k ≡ cond (nat_lt 2 (length text)) 2 1 → Faulty 1 k ≡ hex_piece text
unfolding hex_piece
hex_faulty text behind n k e is z place =
    let none : length (front is_hex_digit (drop 2 text)) ≡ 0 = length-prefix_len is_hex_digit (drop 2 text) ∙ sym (ap (prefix_len is_hex_digit) e) ∙ sym is ∙ z in
    ap (Faulty 1) place ∙ chosen _ _ _ (eq-eqb _ _ none)

pub hex_number : (text behind : List ℕ) (n value : ℕ) → behind ≡ drop 2 text → n ≡ prefix_len is_hex_digit behind → n ≢ 0 → value ≡ min 2147483648 (value_of_digits 16 (take n behind)) → number_of text (2 + n) value ≡ hex_piece text
unfolding hex_piece
hex_number text behind n value e is some v =
    let long : n ≡ length (front is_hex_digit (drop 2 text)) = is ∙ ap (prefix_len is_hex_digit) e ∙ sym (length-prefix_len is_hex_digit (drop 2 text)) in
    let digits : take n behind ≡ front is_hex_digit (drop 2 text) = ap (λ k. take k behind) is ∙ ap (front is_hex_digit) e in
    by_digits text (take n behind) (front is_hex_digit (drop 2 text)) 16 (2 + n) (2 + length (front is_hex_digit (drop 2 text))) value (ap (λ k. 2 + k) long) digits v
    ∙ other (nat_eq (length (front is_hex_digit (drop 2 text))) 0) _ _ (ap (λ k. nat_eq k 0) (sym long) ∙ ne_eqb n 0 some)

-- decimal

zero_chosen : (text : List ℕ) (t : Bool) → t ≡ true → number_of text 1 0 ≡ number_of text (length (cond t (codes "0") (front is_digit text))) (value_of_digits 10 (cond t (codes "0") (front is_digit text)))
zero_chosen text true h = refl
zero_chosen text false h = cc

pub decimal_zero : (text : List ℕ) (b : ℕ) → b ≡ slice_index text 0 → b ≡ 48 → number_of text 1 0 ≡ decimal_piece text
unfolding decimal_piece
decimal_zero text b is e = zero_chosen text _ (eq-eqb _ _ (sym is ∙ e))

digits_chosen : (text : List ℕ) (n value : ℕ) (t : Bool) → t ≡ false → n ≡ prefix_len is_digit text → value ≡ min 2147483648 (value_of_digits 10 (take n text))
    → number_of text n value ≡ number_of text (length (cond t (codes "0") (front is_digit text))) (value_of_digits 10 (cond t (codes "0") (front is_digit text)))
digits_chosen text n value true h is v = cc
digits_chosen text n value false h is v =
    by_digits text (take n text) (front is_digit text) 10 n (length (front is_digit text)) value (is ∙ sym (length-prefix_len is_digit text)) (ap (λ k. take k text) is) v

pub decimal_number : (text : List ℕ) (b n value : ℕ) → b ≡ slice_index text 0 → b ≢ 48 → n ≡ prefix_len is_digit text → value ≡ min 2147483648 (value_of_digits 10 (take n text)) → number_of text n value ≡ decimal_piece text
unfolding decimal_piece
decimal_number text b n value e some is v = digits_chosen text n value _ (ap (λ k. nat_eq k 48) (sym e) ∙ ne_eqb b 48 some) is v
