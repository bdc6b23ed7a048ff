-- The text of an input: decimal words apart by blanks, or the place of the first word that is no number of 32 bits.
use Rattle.std.specs.Prelude.{◌≡◌, ℕ, zero, suc, ◌+◌, ◌-◌, ◌*◌, ◌==◌, ◌&&◌, ◌||◌, Bool, not, nat_le, nat_lt, if◌then◌else◌, ℤ, pos, negsuc, List, [], ◌∷◌, length, drop, fold, slice_index, Option, Some, None, Result, Ok, Err, Vec}
use Rattle.std.specs.List.{list_all}
use Rattle.std.specs.declared.alloc.Global.{Global}
use Rattle.vx_files.specs.declared.input.InputFault.{InputFault}
use Rattle.vx_files.specs.declared.input.InputFault.TheVariants.{Bad, NoMemory}

-- space, tab, line feed, carriage return
abbrev pub is_blank : ℕ → Bool
is_blank c = (c == 32) || (c == 9) || (c == 10) || (c == 13)

abbrev pub is_digit : ℕ → Bool
is_digit c = nat_le 48 c && nat_le c 57

-- the number of these decimal digits
abbrev pub value_of : List ℕ → ℕ
value_of digits = fold (λ n d. 10 * n + (d - 48)) 0 digits

-- at least one digit and nothing else; leading zeros are lawful
abbrev pub is_decimal : List ℕ → Bool
is_decimal text = nat_lt 0 (length text) && list_all is_digit text

abbrev pub negative : ℕ → ℤ
negative zero = pos 0
negative (suc n) = negsuc n

-- the number of a word, with its sign, where it is at most so great
abbrev pub number_within : ℕ → (ℕ → ℤ) → List ℕ → Option ℤ
number_within most signed digits = if is_decimal digits && nat_le (value_of digits) most then Some (signed (value_of digits)) else None

-- the number of a word of 32 bits: digits, behind a `-` or not
unfoldable pub number_of : List ℕ → Option ℤ
number_of text = if slice_index text 0 == 45 then number_within 2147483648 negative (drop 1 text) else number_within 2147483647 pos text

abbrev pub is_no_blank : ℕ → Bool
is_no_blank c = not (is_blank c)

-- the pieces between blanks; of two blanks side by side an empty one

abbrev pub cons_first : ℕ → List (List ℕ) → List (List ℕ)
cons_first c [] = (c ∷ []) ∷ []
cons_first c (piece ∷ pieces) = (c ∷ piece) ∷ pieces

abbrev pub pieces : List ℕ → List (List ℕ)
pieces [] = []
pieces (c ∷ cs) = if is_blank c then [] ∷ pieces cs else cons_first c (pieces cs)

-- the numbers of the pieces that are not empty, or the place of the first that has none, where the first piece begins
-- at this place

abbrev pub number_then : ℕ → Option ℤ → Result (List ℤ) ℕ → Result (List ℤ) ℕ
number_then place None rest = Err place
number_then place (Some z) (Ok zs) = Ok (z ∷ zs)
number_then place (Some z) (Err p) = Err p

abbrev pub numbers_from : ℕ → List (List ℕ) → Result (List ℤ) ℕ
numbers_from place [] = Ok []
numbers_from place ([] ∷ rest) = numbers_from (place + 1) rest
numbers_from place ((c ∷ cs) ∷ rest) = number_then place (number_of (c ∷ cs)) (numbers_from (place + length (c ∷ cs) + 1) rest)

-- the numbers of a text, or the place of its first bad word, counted in bytes from 0
abbrev pub input_reading : List ℕ → Result (List ℤ) ℕ
input_reading bytes = numbers_from 0 (pieces bytes)

-- the bytes are the text of these numbers
abbrev pub InputReads : List ℕ → List ℤ → Type 0
InputReads bytes numbers = input_reading bytes ≡ Ok numbers

-- the first word that is no number of 32 bits begins at this place
abbrev pub InputRefused : List ℕ → ℕ → Type 0
InputRefused bytes place = input_reading bytes ≡ Err place

-- what a reader of an input's text answers
abbrev pub Answers : Result (Vec ℤ Global) InputFault → Result (List ℤ) ℕ → Type 0
Answers (Ok numbers) reading = reading ≡ Ok numbers.items
Answers (Err (Bad place)) reading = reading ≡ Err place
Answers (Err NoMemory) reading = Unit {0}
