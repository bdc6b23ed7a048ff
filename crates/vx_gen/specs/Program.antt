-- The source that a seed and a size give: so many statements, each chosen by draws. What is drawn depends on nothing but the seed, and
-- draws are made in the order of the text, where the kind of a statement or of an expression is drawn before what stands in it.
use Rattle.std.specs.Prelude.{◌≡◌, ℕ, zero, suc, ◌+◌, ◌-◌, ◌*◌, ◌/◌, ◌%◌, ◌^◌, min, ◌==◌, if◌then◌else◌, List, [], ◌∷◌, ◌++◌, slice_get, codes, decimal}
use Rattle.std.specs.Option.{unwrap_or}

-- draws

-- the linear congruential generator of Knuth's MMIX: each draw makes the state x, a number below 2 ^ 64, into this one
unfoldable pub next_state : ℕ → ℕ
next_state x = (x * 6364136223846793005 + 1442695040888963407) % 2 ^ 64

-- and gives this one of n numbers, from 0 on
unfoldable pub drawn : (n x : ℕ) → ℕ
drawn n x = (next_state x / 2 ^ 33) % n

-- a text that was made, and the state behind its draws
pub record Made : Type 0 where
  pub text : List ℕ
  pub state : ℕ

-- what makes a text from the state on
abbrev pub Maker : Type 0
Maker = ℕ → Made

abbrev pub nothing : Maker
nothing x = record { text = []; state = x }

-- one text, and behind it what is made from its state on
abbrev pub and_then : Made → Maker → Made
and_then made more = record { text = made.text ++ (more made.state).text; state = (more made.state).state }

-- forms

-- a form whose letters this makes, one after the other
abbrev pub filled : (letter : ℕ → Maker) → (form : List ℕ) → Maker
filled letter [] x = nothing x
filled letter (c ∷ cs) x = and_then (letter c x) (filled letter cs)

-- the form of this number
abbrev pub form_at : List (List ℕ) → ℕ → List ℕ
form_at forms n = unwrap_or (slice_get forms n) []

-- one of a, b, c and d
unfoldable pub variable : Maker
variable x = record { text = (97 + drawn 4 x) ∷ []; state = next_state x }

-- each V is a variable by a draw of its own, each other letter stands for itself
unfoldable pub in_expression : ℕ → Maker
in_expression c x = if c == 86 then variable x else record { text = c ∷ []; state = x }

unfoldable pub expression_forms : List (List ℕ)
expression_forms = codes "V + V" ∷ codes "V * 3 - V" ∷ codes "V / ((V & 7) + 1)" ∷ codes "V % ((V & 7) + 1)" ∷ codes "(V ^ V) >> 1" ∷ []

unfoldable pub expression : Maker
expression x = filled in_expression (form_at expression_forms (drawn 5 x)) (next_state x)

-- each E is an expression
unfoldable pub in_statement : ℕ → Maker
in_statement c x = if c == 69 then expression x else in_expression c x

unfoldable pub statement_forms : List (List ℕ)
statement_forms =
    codes "V = E;\n"
    ∷ codes "m[V & 15] = E;\n"
    ∷ codes "V = m[V & 15];\n"
    ∷ codes "if (V < V) { V = E; }\n"
    ∷ codes "for (i = 0; i < 8; i++) { V = V + E; }\n"
    ∷ codes "if (V > V) { V = E; } else { V = E; }\n"
    ∷ []

unfoldable pub statement : Maker
statement x = filled in_statement (form_at statement_forms (drawn 6 x)) (next_state x)

-- so many statements
abbrev pub statements : (count : ℕ) → Maker
statements zero x = nothing x
statements (suc n) x = and_then (statement x) (statements n)

-- functions

-- how a function begins, before its statements
unfoldable pub opening : (number : ℕ) → List ℕ
opening j = codes "int f" ++ decimal j ++ codes "(int p, int q) {\nint i;\nint a = p;\nint b = q;\nint c = 1;\nint d = 2;\n"

-- and how it ends, behind them
unfoldable pub closing : List ℕ
closing = codes "return a + b + c + d;\n}\n"

-- a function with so many statements
unfoldable pub function : (number count : ℕ) → Maker
function j n x = record { text = opening j ++ (statements n x).text ++ closing; state = (statements n x).state }

-- of a source with size statements the functions from number j on, k of them: each has 100 statements, the last one the rest
abbrev pub functions : (size j k : ℕ) → Maker
functions size j zero x = nothing x
functions size j (suc k) x = and_then (function j (min 100 (size - 100 * j)) x) (functions size (j + 1) k)

-- main

-- what the function of this number is called with
abbrev pub arguments : (number : ℕ) → List ℕ
arguments j = codes "(" ++ decimal (j + 1) ++ codes ", " ++ decimal (j + 2) ++ codes ")"

-- a line of main up to the number of the function that it calls
unfoldable pub printed : List ℕ
printed = codes "printf(\"%d\\n\", f"

-- the line that prints what this function gives
abbrev pub call_line : (number : ℕ) → List ℕ
call_line j = printed ++ decimal j ++ arguments j ++ codes ");\n"

-- those of k functions from number j on
abbrev pub call_lines : (j k : ℕ) → List ℕ
call_lines j zero = []
call_lines j (suc k) = call_line j ++ call_lines (j + 1) k

-- for each hundred statements one function, and one for what is left
abbrev pub function_count : (size : ℕ) → ℕ
function_count size = (size + 99) / 100

-- how main begins
unfoldable pub main_opening : List ℕ
main_opening = codes "int main(void) {\n"

abbrev pub main_text : (size : ℕ) → List ℕ
main_text size = main_opening ++ call_lines 0 (function_count size) ++ codes "return 0;\n}\n"

-- the whole

-- the array that all functions share
unfoldable pub array : List ℕ
array = codes "int m[16];\n"

-- first the array, then the functions, whose draws begin at the seed, then main
abbrev pub program_text : (seed size : ℕ) → List ℕ
program_text seed size = array ++ (functions size 0 (function_count size) seed).text ++ main_text size

-- how a list of bytes that is filled goes on: by the text that was made
pub record Puts (made : Made) (before after : List ℕ) (next : ℕ) : Type 0 where
  pub text : after ≡ before ++ made.text
  pub state : next ≡ made.state
