-- How long the texts can be, whatever is drawn: a bound for each piece, summed.
use Rattle.std.proofs.Common.{ℕ, zero, suc, ◌+◌, ◌-◌, ◌*◌, ◌<◌, ◌≤◌, min, Bool, true, false, cond, ◌==◌, List, [], ◌∷◌, ◌++◌, length, length-append, arith}
use Rattle.std.specs.Prelude.{codes, decimal}
use Rattle.std.proofs.lemmas.Fmt.{length-decimal-le}
use Rattle.vx_gen.specs.Program.{Made, Maker, filled, form_at, next_state, drawn, variable, in_expression, expression_forms, expression, in_statement, statement_forms, statement, statements, opening, closing, function, functions, arguments, printed, call_line, call_lines, main_opening, array, main_text, function_count, program_text}

added : (a b : List ℕ) (m n : ℕ) → length a ≤ m → length b ≤ n → length (a ++ b) ≤ m + n
added a b m n h l =
    let sum = length-append a b in
    omega (arith, h, l, sum)

-- forms

-- the longest text of a form, where each letter gives no more than this
most_of : (most : ℕ → ℕ) → List ℕ → ℕ
most_of most [] = 0
most_of most (c ∷ cs) = most c + most_of most cs

filled_length : (letter : ℕ → Maker) (most : ℕ → ℕ) → ((c x : ℕ) → length (letter c x).text ≤ most c) → (form : List ℕ) (x : ℕ) → length (filled letter form x).text ≤ most_of most form
unfolding most_of
filled_length letter most h [] x = omega arith
filled_length letter most h (c ∷ cs) x =
    let here : length (letter c x).text ≤ most c = h c x in
    let rest : length (filled letter cs (letter c x).state).text ≤ most_of most cs = filled_length letter most h cs (letter c x).state in
    let sum = length-append (letter c x).text (filled letter cs (letter c x).state).text in
    omega (arith, here, rest, sum)

one : ℕ → ℕ
one c = 1

in_expression_length : (c x : ℕ) → length (in_expression c x).text ≤ one c
unfolding in_expression variable one
in_expression_length c x = by (c == 86) where
  by : (b : Bool) → length (cond b (variable x) (record { text = c ∷ []; state = x })).text ≤ 1
  by true = omega arith
  by false = omega arith

expression_forms_length : (k : ℕ) → most_of one (form_at expression_forms k) ≤ 17
unfolding most_of one expression_forms
expression_forms_length zero = omega arith
expression_forms_length (suc zero) = omega arith
expression_forms_length (suc (suc zero)) = omega arith
expression_forms_length (suc (suc (suc zero))) = omega arith
expression_forms_length (suc (suc (suc (suc zero)))) = omega arith
expression_forms_length (suc (suc (suc (suc (suc k))))) = omega arith

expression_length : (x : ℕ) → length (expression x).text ≤ 17
unfolding expression
expression_length x =
    let fill : length (filled in_expression (form_at expression_forms (drawn 5 x)) (next_state x)).text ≤ most_of one (form_at expression_forms (drawn 5 x)) = filled_length in_expression one in_expression_length (form_at expression_forms (drawn 5 x)) (next_state x) in
    let form : most_of one (form_at expression_forms (drawn 5 x)) ≤ 17 = expression_forms_length (drawn 5 x) in
    omega (arith, fill, form)

with_expression : ℕ → ℕ
with_expression c = cond (c == 69) 17 1

in_statement_length : (c x : ℕ) → length (in_statement c x).text ≤ with_expression c
unfolding in_statement with_expression one
in_statement_length c x = by (c == 69) where
  by : (b : Bool) → length (cond b (expression x) (in_expression c x)).text ≤ cond b 17 1
  by true = expression_length x
  by false = in_expression_length c x

statement_forms_length : (k : ℕ) → most_of with_expression (form_at statement_forms k) ≤ 70
unfolding most_of with_expression statement_forms
statement_forms_length zero = omega arith
statement_forms_length (suc zero) = omega arith
statement_forms_length (suc (suc zero)) = omega arith
statement_forms_length (suc (suc (suc zero))) = omega arith
statement_forms_length (suc (suc (suc (suc zero)))) = omega arith
statement_forms_length (suc (suc (suc (suc (suc zero))))) = omega arith
statement_forms_length (suc (suc (suc (suc (suc (suc k)))))) = omega arith

statement_length : (x : ℕ) → length (statement x).text ≤ 70
unfolding statement
statement_length x =
    let fill : length (filled in_statement (form_at statement_forms (drawn 6 x)) (next_state x)).text ≤ most_of with_expression (form_at statement_forms (drawn 6 x)) = filled_length in_statement with_expression in_statement_length (form_at statement_forms (drawn 6 x)) (next_state x) in
    let form : most_of with_expression (form_at statement_forms (drawn 6 x)) ≤ 70 = statement_forms_length (drawn 6 x) in
    omega (arith, fill, form)

statements_length : (n x : ℕ) → length (statements n x).text ≤ 70 * n
statements_length zero x = omega arith
statements_length (suc n) x =
    let here : length (statement x).text ≤ 70 = statement_length x in
    let rest : length (statements n (statement x).state).text ≤ 70 * n = statements_length n (statement x).state in
    let sum = length-append (statement x).text (statements n (statement x).state).text in
    omega (arith, here, rest, sum)

-- functions and main, whose numbers have three digits at most

number_length : (n : ℕ) → n < 1000 → length (decimal n) ≤ 3
number_length n h = length-decimal-le 3 n (omega arith) (omega (arith, h)) (omega (arith, h))

opening_length : (j : ℕ) → j < 1000 → length (opening j) ≤ 76
unfolding opening
opening_length j h =
    let number : length (decimal j) ≤ 3 = number_length j h in
    let sum = length-append (decimal j) (codes "(int p, int q) {\nint i;\nint a = p;\nint b = q;\nint c = 1;\nint d = 2;\n") in
    omega (arith, number, sum)

closing_length : length closing ≤ 24
unfolding closing
closing_length = omega arith

function_length : (j n x : ℕ) → j < 1000 → n ≤ 100 → length (function j n x).text ≤ 7100
unfolding function
function_length j n x h small =
    let whole : length (statements n x).text ≤ 70 * n = statements_length n x in
    let body : length (opening j ++ (statements n x).text) ≤ 7076 = added (opening j) (statements n x).text 76 7000 (opening_length j h) (omega (arith, small, whole)) in
    added (opening j ++ (statements n x).text) closing 7076 24 body closing_length

functions_length : (size j k x : ℕ) → j + k < 1000 → length (functions size j k x).text ≤ 7100 * k
functions_length size j zero x h = omega arith
functions_length size j (suc k) x h =
    let first : Made = function j (min 100 (size - 100 * j)) x in
    let here : length (function j (min 100 (size - 100 * j)) x).text ≤ 7100 = function_length j (min 100 (size - 100 * j)) x (omega (arith, h)) (omega arith) in
    let rest : length (functions size (j + 1) k (function j (min 100 (size - 100 * j)) x).state).text ≤ 7100 * k = functions_length size (j + 1) k (function j (min 100 (size - 100 * j)) x).state (omega (arith, h)) in
    let sum = length-append (function j (min 100 (size - 100 * j)) x).text (functions size (j + 1) k (function j (min 100 (size - 100 * j)) x).state).text in
    omega (arith, here, rest, sum)

arguments_length : (j : ℕ) → j + 2 < 1000 → length (arguments j) ≤ 10
arguments_length j h =
    let first : length (codes "(" ++ decimal (j + 1)) ≤ 4 = added (codes "(") (decimal (j + 1)) 1 3 (omega arith) (number_length (j + 1) (omega (arith, h))) in
    let comma : length (codes "(" ++ decimal (j + 1) ++ codes ", ") ≤ 6 = added (codes "(" ++ decimal (j + 1)) (codes ", ") 4 2 first (omega arith) in
    let second : length (codes "(" ++ decimal (j + 1) ++ codes ", " ++ decimal (j + 2)) ≤ 9 = added (codes "(" ++ decimal (j + 1) ++ codes ", ") (decimal (j + 2)) 6 3 comma (number_length (j + 2) (omega (arith, h))) in
    added (codes "(" ++ decimal (j + 1) ++ codes ", " ++ decimal (j + 2)) (codes ")") 9 1 second (omega arith)

printed_length : length printed ≤ 16
unfolding printed
printed_length = omega arith

call_length : (j : ℕ) → j + 2 < 1000 → length (call_line j) ≤ 32
call_length j h =
    let number : length (printed ++ decimal j) ≤ 19 = added printed (decimal j) 16 3 printed_length (number_length j (omega (arith, h))) in
    let inner : length (printed ++ decimal j ++ arguments j) ≤ 29 = added (printed ++ decimal j) (arguments j) 19 10 number (arguments_length j h) in
    added (printed ++ decimal j ++ arguments j) (codes ");\n") 29 3 inner (omega arith)

calls_length : (j k : ℕ) → j + k + 2 < 1000 → length (call_lines j k) ≤ 32 * k
calls_length j zero h = omega arith
calls_length j (suc k) h =
    let here : length (call_line j) ≤ 32 = call_length j (omega (arith, h)) in
    let rest : length (call_lines (j + 1) k) ≤ 32 * k = calls_length (j + 1) k (omega (arith, h)) in
    let sum = length-append (call_line j) (call_lines (j + 1) k) in
    omega (arith, here, rest, sum)

-- the whole

array_length : length array ≤ 11
unfolding array
array_length = omega arith

main_opening_length : length main_opening ≤ 17
unfolding main_opening
main_opening_length = omega arith

main_length : (size : ℕ) → size ≤ 10000 → length (main_text size) ≤ 3229
main_length size h =
    let few : function_count size ≤ 100 = omega (arith, h) in
    let lines : length (call_lines 0 (function_count size)) ≤ 32 * function_count size = calls_length 0 (function_count size) (omega (arith, few)) in
    let body : length (main_opening ++ call_lines 0 (function_count size)) ≤ 3217 = added main_opening (call_lines 0 (function_count size)) 17 3200 main_opening_length (omega (arith, few, lines)) in
    added (main_opening ++ call_lines 0 (function_count size)) (codes "return 0;\n}\n") 3217 12 body (omega arith)

pub program_length : (seed size : ℕ) → size ≤ 10000 → length (program_text seed size) < 1048576
program_length seed size h =
    let few : function_count size ≤ 100 = omega (arith, h) in
    let parts : length (functions size 0 (function_count size) seed).text ≤ 7100 * function_count size = functions_length size 0 (function_count size) seed (omega (arith, few)) in
    let body : length (array ++ (functions size 0 (function_count size) seed).text) ≤ 710011 = added array (functions size 0 (function_count size) seed).text 11 710000 array_length (omega (arith, few, parts)) in
    let whole : length (program_text seed size) ≤ 713240 = added (array ++ (functions size 0 (function_count size) seed).text) (main_text size) 710011 3229 body (main_length size h) in
    omega (arith, whole)
