-- The names of functions and the numbers in main, each of which is read as what it is: worked out for each number.
use Rattle.std.proofs.Common.{◌≡◌, ℕ, zero, suc, ◌<◌, pos, true, List, ◌∷◌, ◌++◌, length, drop, get_or, refl, sym, subst, ◌⊎◌, inl, inr, arith}
use Rattle.std.proofs.lemmas.Bool.{cases_order}
use Rattle.std.specs.Prelude.{decimal}
use Rattle.std.specs.Fmt.{digits}
use Rattle.vx_ast.specs.declared.token.Piece.TheVariants.{Spelled}
use Rattle.vx_ast.specs.declared.token.TokenKind.TheVariants as kinds
use Rattle.vx_ast.specs.Tokens.{first_piece, word_piece, keyword_of, decimal_piece}
use Rattle.vx_generated.proofs.Forms.{Bit, Spelt}
use Rattle.vx_generated.proofs.Spelling.{is_plain}
use Rattle.vx_generated.proofs.Functions.{function_name}

data Each (P : ℕ → Type 0) : ℕ → Type 0 where
  none : Each P 0
  more : {n : ℕ} → P n → Each P n → Each P (suc n)

one_of : (P : ℕ → Type 0) (k n : ℕ) → Each P k → n < k → P n
one_of P zero n none h = absurd (omega arith)
one_of P (suc k) n (more here rest) h = by (cases_order n k) (λ l. one_of P k n rest l) where
  by : (n ≡ k) ⊎ ((n < k) ⊎ (k < n)) → ((n < k) → P n) → P n
  by (inl e) go = subst P (sym e) here
  by (inr (inl l)) go = go l
  by (inr (inr g)) go = absurd (omega (arith, h, g))

abbrev pub first_digit : ℕ → ℕ
first_digit n = get_or (decimal n) 0 0

abbrev pub other_digits : ℕ → List ℕ
other_digits n = drop 1 (decimal n)

abbrev pub number_bit : ℕ → Bit
number_bit n = Spelt (kinds.Number (pos n)) (first_digit n) (other_digits n)

record NameReads (n : ℕ) : Type 0 where
  is : (r : List ℕ) → first_piece ((102 ∷ decimal n) ++ (40 ∷ r)) ≡ Spelled (kinds.Name (function_name n)) (length (102 ∷ decimal n))

record NumberReads (n : ℕ) : Type 0 where
  cut : decimal n ≡ first_digit n ∷ other_digits n
  plain : is_plain (first_digit n) ≡ true
  comma : (r : List ℕ) → first_piece ((first_digit n ∷ other_digits n) ++ (44 ∷ r)) ≡ Spelled (kinds.Number (pos n)) (length (first_digit n ∷ other_digits n))
  closing : (r : List ℕ) → first_piece ((first_digit n ∷ other_digits n) ++ (41 ∷ r)) ≡ Spelled (kinds.Number (pos n)) (length (first_digit n ∷ other_digits n))

names : Each NameReads 100
unfolding digits first_piece word_piece keyword_of
names = (more {n = 99} (record { is = λ r. refl }) (more {n = 98} (record { is = λ r. refl }) (more {n = 97} (record { is = λ r. refl }) (more {n = 96} (record { is = λ r. refl }) (more {n = 95} (record { is = λ r. refl }) (more {n = 94} (record { is = λ r. refl }) (more {n = 93} (record { is = λ r. refl }) (more {n = 92} (record { is = λ r. refl }) (more {n = 91} (record { is = λ r. refl }) (more {n = 90} (record { is = λ r. refl }) (more {n = 89} (record { is = λ r. refl }) (more {n = 88} (record { is = λ r. refl }) (more {n = 87} (record { is = λ r. refl }) (more {n = 86} (record { is = λ r. refl }) (more {n = 85} (record { is = λ r. refl }) (more {n = 84} (record { is = λ r. refl }) (more {n = 83} (record { is = λ r. refl }) (more {n = 82} (record { is = λ r. refl }) (more {n = 81} (record { is = λ r. refl }) (more {n = 80} (record { is = λ r. refl }) (more {n = 79} (record { is = λ r. refl }) (more {n = 78} (record { is = λ r. refl }) (more {n = 77} (record { is = λ r. refl }) (more {n = 76} (record { is = λ r. refl }) (more {n = 75} (record { is = λ r. refl }) (more {n = 74} (record { is = λ r. refl }) (more {n = 73} (record { is = λ r. refl }) (more {n = 72} (record { is = λ r. refl }) (more {n = 71} (record { is = λ r. refl }) (more {n = 70} (record { is = λ r. refl }) (more {n = 69} (record { is = λ r. refl }) (more {n = 68} (record { is = λ r. refl }) (more {n = 67} (record { is = λ r. refl }) (more {n = 66} (record { is = λ r. refl }) (more {n = 65} (record { is = λ r. refl }) (more {n = 64} (record { is = λ r. refl }) (more {n = 63} (record { is = λ r. refl }) (more {n = 62} (record { is = λ r. refl }) (more {n = 61} (record { is = λ r. refl }) (more {n = 60} (record { is = λ r. refl }) (more {n = 59} (record { is = λ r. refl }) (more {n = 58} (record { is = λ r. refl }) (more {n = 57} (record { is = λ r. refl }) (more {n = 56} (record { is = λ r. refl }) (more {n = 55} (record { is = λ r. refl }) (more {n = 54} (record { is = λ r. refl }) (more {n = 53} (record { is = λ r. refl }) (more {n = 52} (record { is = λ r. refl }) (more {n = 51} (record { is = λ r. refl }) (more {n = 50} (record { is = λ r. refl }) (more {n = 49} (record { is = λ r. refl }) (more {n = 48} (record { is = λ r. refl }) (more {n = 47} (record { is = λ r. refl }) (more {n = 46} (record { is = λ r. refl }) (more {n = 45} (record { is = λ r. refl }) (more {n = 44} (record { is = λ r. refl }) (more {n = 43} (record { is = λ r. refl }) (more {n = 42} (record { is = λ r. refl }) (more {n = 41} (record { is = λ r. refl }) (more {n = 40} (record { is = λ r. refl }) (more {n = 39} (record { is = λ r. refl }) (more {n = 38} (record { is = λ r. refl }) (more {n = 37} (record { is = λ r. refl }) (more {n = 36} (record { is = λ r. refl }) (more {n = 35} (record { is = λ r. refl }) (more {n = 34} (record { is = λ r. refl }) (more {n = 33} (record { is = λ r. refl }) (more {n = 32} (record { is = λ r. refl }) (more {n = 31} (record { is = λ r. refl }) (more {n = 30} (record { is = λ r. refl }) (more {n = 29} (record { is = λ r. refl }) (more {n = 28} (record { is = λ r. refl }) (more {n = 27} (record { is = λ r. refl }) (more {n = 26} (record { is = λ r. refl }) (more {n = 25} (record { is = λ r. refl }) (more {n = 24} (record { is = λ r. refl }) (more {n = 23} (record { is = λ r. refl }) (more {n = 22} (record { is = λ r. refl }) (more {n = 21} (record { is = λ r. refl }) (more {n = 20} (record { is = λ r. refl }) (more {n = 19} (record { is = λ r. refl }) (more {n = 18} (record { is = λ r. refl }) (more {n = 17} (record { is = λ r. refl }) (more {n = 16} (record { is = λ r. refl }) (more {n = 15} (record { is = λ r. refl }) (more {n = 14} (record { is = λ r. refl }) (more {n = 13} (record { is = λ r. refl }) (more {n = 12} (record { is = λ r. refl }) (more {n = 11} (record { is = λ r. refl }) (more {n = 10} (record { is = λ r. refl }) (more {n = 9} (record { is = λ r. refl }) (more {n = 8} (record { is = λ r. refl }) (more {n = 7} (record { is = λ r. refl }) (more {n = 6} (record { is = λ r. refl }) (more {n = 5} (record { is = λ r. refl }) (more {n = 4} (record { is = λ r. refl }) (more {n = 3} (record { is = λ r. refl }) (more {n = 2} (record { is = λ r. refl }) (more {n = 1} (record { is = λ r. refl }) (more {n = 0} (record { is = λ r. refl }) none))))))))))))))))))))))))))))))))))))))))))))))))))))))))))))))))))))))))))))))))))))))))))))))))))))

numbers : Each NumberReads 102
unfolding digits first_piece decimal_piece
numbers = (more {n = 101} (record { cut = refl; plain = refl; comma = λ r. refl; closing = λ r. refl }) (more {n = 100} (record { cut = refl; plain = refl; comma = λ r. refl; closing = λ r. refl }) (more {n = 99} (record { cut = refl; plain = refl; comma = λ r. refl; closing = λ r. refl }) (more {n = 98} (record { cut = refl; plain = refl; comma = λ r. refl; closing = λ r. refl }) (more {n = 97} (record { cut = refl; plain = refl; comma = λ r. refl; closing = λ r. refl }) (more {n = 96} (record { cut = refl; plain = refl; comma = λ r. refl; closing = λ r. refl }) (more {n = 95} (record { cut = refl; plain = refl; comma = λ r. refl; closing = λ r. refl }) (more {n = 94} (record { cut = refl; plain = refl; comma = λ r. refl; closing = λ r. refl }) (more {n = 93} (record { cut = refl; plain = refl; comma = λ r. refl; closing = λ r. refl }) (more {n = 92} (record { cut = refl; plain = refl; comma = λ r. refl; closing = λ r. refl }) (more {n = 91} (record { cut = refl; plain = refl; comma = λ r. refl; closing = λ r. refl }) (more {n = 90} (record { cut = refl; plain = refl; comma = λ r. refl; closing = λ r. refl }) (more {n = 89} (record { cut = refl; plain = refl; comma = λ r. refl; closing = λ r. refl }) (more {n = 88} (record { cut = refl; plain = refl; comma = λ r. refl; closing = λ r. refl }) (more {n = 87} (record { cut = refl; plain = refl; comma = λ r. refl; closing = λ r. refl }) (more {n = 86} (record { cut = refl; plain = refl; comma = λ r. refl; closing = λ r. refl }) (more {n = 85} (record { cut = refl; plain = refl; comma = λ r. refl; closing = λ r. refl }) (more {n = 84} (record { cut = refl; plain = refl; comma = λ r. refl; closing = λ r. refl }) (more {n = 83} (record { cut = refl; plain = refl; comma = λ r. refl; closing = λ r. refl }) (more {n = 82} (record { cut = refl; plain = refl; comma = λ r. refl; closing = λ r. refl }) (more {n = 81} (record { cut = refl; plain = refl; comma = λ r. refl; closing = λ r. refl }) (more {n = 80} (record { cut = refl; plain = refl; comma = λ r. refl; closing = λ r. refl }) (more {n = 79} (record { cut = refl; plain = refl; comma = λ r. refl; closing = λ r. refl }) (more {n = 78} (record { cut = refl; plain = refl; comma = λ r. refl; closing = λ r. refl }) (more {n = 77} (record { cut = refl; plain = refl; comma = λ r. refl; closing = λ r. refl }) (more {n = 76} (record { cut = refl; plain = refl; comma = λ r. refl; closing = λ r. refl }) (more {n = 75} (record { cut = refl; plain = refl; comma = λ r. refl; closing = λ r. refl }) (more {n = 74} (record { cut = refl; plain = refl; comma = λ r. refl; closing = λ r. refl }) (more {n = 73} (record { cut = refl; plain = refl; comma = λ r. refl; closing = λ r. refl }) (more {n = 72} (record { cut = refl; plain = refl; comma = λ r. refl; closing = λ r. refl }) (more {n = 71} (record { cut = refl; plain = refl; comma = λ r. refl; closing = λ r. refl }) (more {n = 70} (record { cut = refl; plain = refl; comma = λ r. refl; closing = λ r. refl }) (more {n = 69} (record { cut = refl; plain = refl; comma = λ r. refl; closing = λ r. refl }) (more {n = 68} (record { cut = refl; plain = refl; comma = λ r. refl; closing = λ r. refl }) (more {n = 67} (record { cut = refl; plain = refl; comma = λ r. refl; closing = λ r. refl }) (more {n = 66} (record { cut = refl; plain = refl; comma = λ r. refl; closing = λ r. refl }) (more {n = 65} (record { cut = refl; plain = refl; comma = λ r. refl; closing = λ r. refl }) (more {n = 64} (record { cut = refl; plain = refl; comma = λ r. refl; closing = λ r. refl }) (more {n = 63} (record { cut = refl; plain = refl; comma = λ r. refl; closing = λ r. refl }) (more {n = 62} (record { cut = refl; plain = refl; comma = λ r. refl; closing = λ r. refl }) (more {n = 61} (record { cut = refl; plain = refl; comma = λ r. refl; closing = λ r. refl }) (more {n = 60} (record { cut = refl; plain = refl; comma = λ r. refl; closing = λ r. refl }) (more {n = 59} (record { cut = refl; plain = refl; comma = λ r. refl; closing = λ r. refl }) (more {n = 58} (record { cut = refl; plain = refl; comma = λ r. refl; closing = λ r. refl }) (more {n = 57} (record { cut = refl; plain = refl; comma = λ r. refl; closing = λ r. refl }) (more {n = 56} (record { cut = refl; plain = refl; comma = λ r. refl; closing = λ r. refl }) (more {n = 55} (record { cut = refl; plain = refl; comma = λ r. refl; closing = λ r. refl }) (more {n = 54} (record { cut = refl; plain = refl; comma = λ r. refl; closing = λ r. refl }) (more {n = 53} (record { cut = refl; plain = refl; comma = λ r. refl; closing = λ r. refl }) (more {n = 52} (record { cut = refl; plain = refl; comma = λ r. refl; closing = λ r. refl }) (more {n = 51} (record { cut = refl; plain = refl; comma = λ r. refl; closing = λ r. refl }) (more {n = 50} (record { cut = refl; plain = refl; comma = λ r. refl; closing = λ r. refl }) (more {n = 49} (record { cut = refl; plain = refl; comma = λ r. refl; closing = λ r. refl }) (more {n = 48} (record { cut = refl; plain = refl; comma = λ r. refl; closing = λ r. refl }) (more {n = 47} (record { cut = refl; plain = refl; comma = λ r. refl; closing = λ r. refl }) (more {n = 46} (record { cut = refl; plain = refl; comma = λ r. refl; closing = λ r. refl }) (more {n = 45} (record { cut = refl; plain = refl; comma = λ r. refl; closing = λ r. refl }) (more {n = 44} (record { cut = refl; plain = refl; comma = λ r. refl; closing = λ r. refl }) (more {n = 43} (record { cut = refl; plain = refl; comma = λ r. refl; closing = λ r. refl }) (more {n = 42} (record { cut = refl; plain = refl; comma = λ r. refl; closing = λ r. refl }) (more {n = 41} (record { cut = refl; plain = refl; comma = λ r. refl; closing = λ r. refl }) (more {n = 40} (record { cut = refl; plain = refl; comma = λ r. refl; closing = λ r. refl }) (more {n = 39} (record { cut = refl; plain = refl; comma = λ r. refl; closing = λ r. refl }) (more {n = 38} (record { cut = refl; plain = refl; comma = λ r. refl; closing = λ r. refl }) (more {n = 37} (record { cut = refl; plain = refl; comma = λ r. refl; closing = λ r. refl }) (more {n = 36} (record { cut = refl; plain = refl; comma = λ r. refl; closing = λ r. refl }) (more {n = 35} (record { cut = refl; plain = refl; comma = λ r. refl; closing = λ r. refl }) (more {n = 34} (record { cut = refl; plain = refl; comma = λ r. refl; closing = λ r. refl }) (more {n = 33} (record { cut = refl; plain = refl; comma = λ r. refl; closing = λ r. refl }) (more {n = 32} (record { cut = refl; plain = refl; comma = λ r. refl; closing = λ r. refl }) (more {n = 31} (record { cut = refl; plain = refl; comma = λ r. refl; closing = λ r. refl }) (more {n = 30} (record { cut = refl; plain = refl; comma = λ r. refl; closing = λ r. refl }) (more {n = 29} (record { cut = refl; plain = refl; comma = λ r. refl; closing = λ r. refl }) (more {n = 28} (record { cut = refl; plain = refl; comma = λ r. refl; closing = λ r. refl }) (more {n = 27} (record { cut = refl; plain = refl; comma = λ r. refl; closing = λ r. refl }) (more {n = 26} (record { cut = refl; plain = refl; comma = λ r. refl; closing = λ r. refl }) (more {n = 25} (record { cut = refl; plain = refl; comma = λ r. refl; closing = λ r. refl }) (more {n = 24} (record { cut = refl; plain = refl; comma = λ r. refl; closing = λ r. refl }) (more {n = 23} (record { cut = refl; plain = refl; comma = λ r. refl; closing = λ r. refl }) (more {n = 22} (record { cut = refl; plain = refl; comma = λ r. refl; closing = λ r. refl }) (more {n = 21} (record { cut = refl; plain = refl; comma = λ r. refl; closing = λ r. refl }) (more {n = 20} (record { cut = refl; plain = refl; comma = λ r. refl; closing = λ r. refl }) (more {n = 19} (record { cut = refl; plain = refl; comma = λ r. refl; closing = λ r. refl }) (more {n = 18} (record { cut = refl; plain = refl; comma = λ r. refl; closing = λ r. refl }) (more {n = 17} (record { cut = refl; plain = refl; comma = λ r. refl; closing = λ r. refl }) (more {n = 16} (record { cut = refl; plain = refl; comma = λ r. refl; closing = λ r. refl }) (more {n = 15} (record { cut = refl; plain = refl; comma = λ r. refl; closing = λ r. refl }) (more {n = 14} (record { cut = refl; plain = refl; comma = λ r. refl; closing = λ r. refl }) (more {n = 13} (record { cut = refl; plain = refl; comma = λ r. refl; closing = λ r. refl }) (more {n = 12} (record { cut = refl; plain = refl; comma = λ r. refl; closing = λ r. refl }) (more {n = 11} (record { cut = refl; plain = refl; comma = λ r. refl; closing = λ r. refl }) (more {n = 10} (record { cut = refl; plain = refl; comma = λ r. refl; closing = λ r. refl }) (more {n = 9} (record { cut = refl; plain = refl; comma = λ r. refl; closing = λ r. refl }) (more {n = 8} (record { cut = refl; plain = refl; comma = λ r. refl; closing = λ r. refl }) (more {n = 7} (record { cut = refl; plain = refl; comma = λ r. refl; closing = λ r. refl }) (more {n = 6} (record { cut = refl; plain = refl; comma = λ r. refl; closing = λ r. refl }) (more {n = 5} (record { cut = refl; plain = refl; comma = λ r. refl; closing = λ r. refl }) (more {n = 4} (record { cut = refl; plain = refl; comma = λ r. refl; closing = λ r. refl }) (more {n = 3} (record { cut = refl; plain = refl; comma = λ r. refl; closing = λ r. refl }) (more {n = 2} (record { cut = refl; plain = refl; comma = λ r. refl; closing = λ r. refl }) (more {n = 1} (record { cut = refl; plain = refl; comma = λ r. refl; closing = λ r. refl }) (more {n = 0} (record { cut = refl; plain = refl; comma = λ r. refl; closing = λ r. refl }) none))))))))))))))))))))))))))))))))))))))))))))))))))))))))))))))))))))))))))))))))))))))))))))))))))))))

pub name_reads : (n : ℕ) → n < 100 → (r : List ℕ) → first_piece ((102 ∷ decimal n) ++ (40 ∷ r)) ≡ Spelled (kinds.Name (function_name n)) (length (102 ∷ decimal n))
name_reads n h = (one_of NameReads 100 n names h).is

pub number_cut : (n : ℕ) → n < 102 → decimal n ≡ first_digit n ∷ other_digits n
number_cut n h = (one_of NumberReads 102 n numbers h).cut

pub number_plain : (n : ℕ) → n < 102 → is_plain (first_digit n) ≡ true
number_plain n h = (one_of NumberReads 102 n numbers h).plain

pub number_comma : (n : ℕ) → n < 102 → (r : List ℕ) → first_piece ((first_digit n ∷ other_digits n) ++ (44 ∷ r)) ≡ Spelled (kinds.Number (pos n)) (length (first_digit n ∷ other_digits n))
number_comma n h = (one_of NumberReads 102 n numbers h).comma

pub number_closing : (n : ℕ) → n < 102 → (r : List ℕ) → first_piece ((first_digit n ∷ other_digits n) ++ (41 ∷ r)) ≡ Spelled (kinds.Number (pos n)) (length (first_digit n ∷ other_digits n))
number_closing n h = (one_of NumberReads 102 n numbers h).closing
