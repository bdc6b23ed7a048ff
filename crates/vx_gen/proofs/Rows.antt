-- The first draws from the seed 0, and sources that draws give, worked out from the rule apart from the code.
use Rattle.std.proofs.Common.{◌≡◌, ℕ, codes, refl}
use Rattle.std.specs.Fmt.{digits}
use Rattle.vx_gen.specs.Program.{nothing, and_then, next_state, drawn, variable, in_expression, expression_forms, expression, in_statement, statement_forms, statement, statements, opening, closing, function, function_count, functions, printed, main_opening, main_text, array, program_text}

-- 1442695040888963407 / 2 ^ 33 is 167951807, which is 5 modulo 6
first_state : next_state 0 ≡ 1442695040888963407
unfolding next_state
first_state = refl

first_kind : drawn 6 0 ≡ 5
unfolding next_state drawn
first_kind = refl

-- 1876011003808476466 / 2 ^ 33 is 218396424, which is 0 modulo 4
second_state : next_state 1442695040888963407 ≡ 1876011003808476466
unfolding next_state
second_state = refl

first_variable : drawn 4 1442695040888963407 ≡ 0
unfolding next_state drawn
first_variable = refl

one_statement : program_text 0 1 ≡ codes "int m[16];\nint f0(int p, int q) {\nint i;\nint a = p;\nint b = q;\nint c = 1;\nint d = 2;\nif (a > b) { a = d + a; } else { d = (d ^ d) >> 1; }\nreturn a + b + c + d;\n}\nint main(void) {\nprintf(\"%d\\n\", f0(1, 2));\nreturn 0;\n}\n"
unfolding digits next_state drawn variable in_expression expression_forms expression in_statement statement_forms statement opening closing function printed main_opening array
one_statement = refl

six_statements : program_text 0 6 ≡ codes "int m[16];\nint f0(int p, int q) {\nint i;\nint a = p;\nint b = q;\nint c = 1;\nint d = 2;\nif (a > b) { a = d + a; } else { d = (d ^ d) >> 1; }\nc = a + c;\nm[c & 15] = d * 3 - c;\nif (d > c) { b = b % ((d & 7) + 1); } else { d = b / ((a & 7) + 1); }\nfor (i = 0; i < 8; i++) { a = b + c % ((d & 7) + 1); }\nfor (i = 0; i < 8; i++) { c = a + (b ^ b) >> 1; }\nreturn a + b + c + d;\n}\nint main(void) {\nprintf(\"%d\\n\", f0(1, 2));\nreturn 0;\n}\n"
unfolding digits next_state drawn variable in_expression expression_forms expression in_statement statement_forms statement opening closing function printed main_opening array
six_statements = refl

-- the two kinds that do not stand there
two_statements : (statements 2 32).text ≡ codes "a = m[a & 15];\nif (c < a) { c = d + a; }\n"
unfolding next_state drawn variable in_expression expression_forms expression in_statement statement_forms statement
two_statements = refl

-- a hundred and one statements are a function of a hundred and one of one
two_functions : (x : ℕ) → functions 101 0 (function_count 101) x ≡ and_then (function 0 100 x) (λ y. and_then (function 1 1 y) nothing)
two_functions x = refl

two_calls : main_text 101 ≡ codes "int main(void) {\nprintf(\"%d\\n\", f0(1, 2));\nprintf(\"%d\\n\", f1(2, 3));\nreturn 0;\n}\n"
unfolding digits printed main_opening
two_calls = refl
