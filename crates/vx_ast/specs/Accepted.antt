-- When a program of the tree is one that a source without faults and within its limits reads as: each name is in
-- force where it is used and of the kind that is wanted there, and nothing is over its limit.
use Rattle.std.specs.Prelude.{ℕ, zero, suc, ◌+◌, ◌-◌, ◌^◌, ℤ, pos, negsuc, Bool, true, false, ◌&&◌, not, if◌then◌else◌, nat_lt, nat_eq, List, [], ◌∷◌, ◌++◌, length, map, count_by, Option, Some, None, slice_get}
use Rattle.std.specs.List.{list_all, list_any, flat_map, sum}
use Rattle.vx_ast.specs.declared.tree.Gives.{Gives}
use Rattle.vx_ast.specs.declared.tree.Gives.TheVariants.{Int as GivesInt, Nothing as GivesNothing}
use Rattle.vx_ast.specs.declared.tree.Takes.{Takes}
use Rattle.vx_ast.specs.declared.tree.Takes.TheVariants.{Number as TakesNumber, Array as TakesArray}
use Rattle.vx_ast.specs.declared.tree.GlobalVariable.{GlobalVariable}
use Rattle.vx_ast.specs.declared.tree.GlobalVariable.TheVariants.{Scalar as ScalarGlobal, Array as ArrayGlobal}
use Rattle.vx_ast.specs.Tree.{Shape, One, Tree, Literal, Local, Global, Element, Unary, Binary, Both, Either, Choice, Apply, ReadInt, MoreInput, NoMore, Then, Hand, Place, InLocal, InGlobal, InElement, Action, Evaluate, Assign, Compound, Increase, Decrease, Code, Nothing, Seq, Empty, Block, Clear, Declare, ClearArray, Simply, Head, Print, If, IfElse, While, DoWhile, For, Break, Continue, Return, ReturnValue, Function, Program}
use Rattle.vx_ast.specs.Meaning.{Piece, AByte, ANumber, pieces_of}

-- small tests

abbrev pub is_in : ℕ → List ℕ → Bool
is_in x xs = list_any (nat_eq x) xs

abbrev pub at_most : ℕ → ℕ → Bool
at_most n most = nat_lt n (suc most)

-- the numbers below a number
abbrev pub below : ℕ → List ℕ
below zero = []
below (suc n) = n ∷ below n

-- a number of 32 bits
abbrev pub is_word : ℤ → Bool
is_word (pos n) = nat_lt n (2 ^ 31)
is_word (negsuc n) = nat_lt n (2 ^ 31)

abbrev pub gives_int : Gives → Bool
gives_int GivesInt = true
gives_int GivesNothing = false

abbrev pub is_scalar : Option GlobalVariable → Bool
is_scalar (Some (ScalarGlobal z)) = true
is_scalar (Some (ArrayGlobal n)) = false
is_scalar None = false

abbrev pub is_array : Option GlobalVariable → Bool
is_array (Some (ScalarGlobal z)) = false
is_array (Some (ArrayGlobal n)) = true
is_array None = false

-- the scalars of the function, and its array parameters and own arrays, that are in force at a place

pub record Scope : Type 0 where
  pub scalars : List ℕ
  pub arrays : List ℕ

-- a global array, or another one that is in force
abbrev pub names_array : Program → Scope → ℕ → Bool
names_array p sc a = if nat_lt a (length p.globals) then is_array (slice_get p.globals a) else is_in a sc.arrays

-- a row of so many arguments
abbrev pub row_length : {k : Shape} → Tree k → ℕ
row_length NoMore = 0
row_length (Then a rest) = suc (row_length rest)
row_length (Hand a rest) = suc (row_length rest)
row_length t = 0

-- a row in which each argument is a number
abbrev pub has_numbers : {k : Shape} → Tree k → Bool
has_numbers (Then a rest) = has_numbers rest
has_numbers (Hand a rest) = false
has_numbers t = true

-- what each argument of a row is
abbrev pub takes_of_row : {k : Shape} → Tree k → List Takes
takes_of_row NoMore = []
takes_of_row (Then a rest) = TakesNumber ∷ takes_of_row rest
takes_of_row (Hand a rest) = TakesArray ∷ takes_of_row rest
takes_of_row t = []

-- what parameters take, item by item
abbrev pub same_take : Takes → Takes → Bool
same_take TakesNumber TakesNumber = true
same_take TakesNumber TakesArray = false
same_take TakesArray TakesNumber = false
same_take TakesArray TakesArray = true

abbrev pub same_takes : List Takes → List Takes → Bool
same_takes [] [] = true
same_takes [] (y ∷ ys) = false
same_takes (x ∷ xs) [] = false
same_takes (x ∷ xs) (y ∷ ys) = same_take x y && same_takes xs ys

-- how many of them take a number, and how many an array

abbrev pub numbers_among : List Takes → ℕ
numbers_among [] = 0
numbers_among (TakesNumber ∷ rest) = suc (numbers_among rest)
numbers_among (TakesArray ∷ rest) = numbers_among rest

abbrev pub arrays_among : List Takes → ℕ
arrays_among [] = 0
arrays_among (TakesNumber ∷ rest) = arrays_among rest
arrays_among (TakesArray ∷ rest) = suc (arrays_among rest)

abbrev pub numbers_taken : Function → ℕ
numbers_taken f = numbers_among f.takes

abbrev pub arrays_taken : Function → ℕ
arrays_taken f = arrays_among f.takes

-- a function that is called with such arguments, and may be used so
abbrev pub can_call : (Gives → Bool) → List Takes → Option Function → Bool
can_call wanted takes None = false
can_call wanted takes (Some f) = wanted f.gives && same_takes takes f.takes

-- expressions, each of which is used as a number

abbrev pub suits : {k : Shape} → Program → Scope → Tree k → Bool
suits p sc (Literal z) = is_word z
suits p sc (Local x) = is_in x sc.scalars
suits p sc (Global a) = is_scalar (slice_get p.globals a)
suits p sc (Element a i) = names_array p sc a && suits p sc i
suits p sc (Unary operator a) = suits p sc a
suits p sc (Binary operator a b) = suits p sc a && suits p sc b
suits p sc (Both a b) = suits p sc a && suits p sc b
suits p sc (Either a b) = suits p sc a && suits p sc b
suits p sc (Choice c a b) = suits p sc c && (suits p sc a && suits p sc b)
suits p sc (Apply f row) = can_call gives_int (takes_of_row row) (slice_get p.functions f) && suits p sc row
suits p sc ReadInt = true
suits p sc MoreInput = true
suits p sc NoMore = true
suits p sc (Then a rest) = suits p sc a && suits p sc rest
suits p sc (Hand a rest) = names_array p sc a && suits p sc rest

abbrev pub suits_place : Program → Scope → Place → Bool
suits_place p sc (InLocal x) = is_in x sc.scalars
suits_place p sc (InGlobal a) = is_scalar (slice_get p.globals a)
suits_place p sc (InElement a i) = names_array p sc a && suits p sc i

-- the whole of an expression statement, which alone may be the call of a void function
abbrev pub suits_whole : Program → Scope → Tree One → Bool
suits_whole p sc (Apply f row) = can_call (λ gives. true) (takes_of_row row) (slice_get p.functions f) && suits p sc row
suits_whole p sc e = suits p sc e

abbrev pub suits_action : Program → Scope → Action → Bool
suits_action p sc (Evaluate e) = suits_whole p sc e
suits_action p sc (Assign t e) = suits_place p sc t && suits p sc e
suits_action p sc (Compound t operator e) = suits_place p sc t && suits p sc e
suits_action p sc (Increase t) = suits_place p sc t
suits_action p sc (Decrease t) = suits_place p sc t

-- formats: behind each `%` stands `d` or `%`

abbrev mutual
  pub is_format : List ℕ → Bool
  is_format [] = true
  is_format (b ∷ bs) = if nat_eq b 37 then is_directive bs else is_format bs

  pub is_directive : List ℕ → Bool
  is_directive [] = false
  is_directive (b ∷ bs) = list_any (nat_eq b) (37 ∷ 100 ∷ []) && is_format bs

abbrev pub is_number : Piece → Bool
is_number (AByte b) = false
is_number ANumber = true

-- how many arguments a format takes
abbrev pub numbers_of : List ℕ → ℕ
numbers_of format = count_by is_number (pieces_of format)

-- statements

-- what is in force behind a statement
abbrev pub scope_after : Code → Scope → Scope
scope_after (Seq a b) sc = scope_after b (scope_after a sc)
scope_after (Clear x) sc = record sc { scalars = x ∷ sc.scalars }
scope_after (Declare x e) sc = record sc { scalars = x ∷ sc.scalars }
scope_after (ClearArray a) sc = record sc { arrays = a ∷ sc.arrays }
scope_after s sc = sc

abbrev pub suits_test : Program → Scope → Option (Tree One) → Bool
suits_test p sc None = true
suits_test p sc (Some e) = suits p sc e

-- in a function that gives so, inside of a loop or not
abbrev pub suits_code : Program → Gives → Bool → Scope → Code → Bool
suits_code p gives loops sc Nothing = true
suits_code p gives loops sc (Seq a b) = suits_code p gives loops sc a && suits_code p gives loops (scope_after a sc) b
suits_code p gives loops sc Empty = true
suits_code p gives loops sc (Block a) = suits_code p gives loops sc a
suits_code p gives loops sc (Clear x) = true
suits_code p gives loops sc (Declare x e) = suits p sc e
suits_code p gives loops sc (ClearArray a) = true
suits_code p gives loops sc (Simply a) = suits_action p sc a
suits_code p gives loops sc (Head a) = suits_action p sc a
suits_code p gives loops sc (Print format row) =
    (is_format format && (nat_eq (numbers_of format) (row_length row) && has_numbers row)) && suits p sc row
suits_code p gives loops sc (If e a) = suits p sc e && suits_code p gives loops sc a
suits_code p gives loops sc (IfElse e a b) = suits p sc e && (suits_code p gives loops sc a && suits_code p gives loops sc b)
suits_code p gives loops sc (While e a) = suits p sc e && suits_code p gives true sc a
suits_code p gives loops sc (DoWhile a e) = suits_code p gives true sc a && suits p sc e
suits_code p gives loops sc (For first test step a) =
    suits_code p gives loops sc first && (suits_test p (scope_after first sc) test
    && (suits_code p gives loops (scope_after first sc) step && suits_code p gives true (scope_after first sc) a))
suits_code p gives loops sc Break = loops
suits_code p gives loops sc Continue = loops
suits_code p GivesInt loops sc Return = false
suits_code p GivesNothing loops sc Return = true
suits_code p GivesInt loops sc (ReturnValue e) = suits p sc e
suits_code p GivesNothing loops sc (ReturnValue e) = false

-- the scalars and the arrays that the items of a body declare, in the order of the source

abbrev pub scalars_of : Code → List ℕ
scalars_of (Seq a b) = scalars_of a ++ scalars_of b
scalars_of (Block a) = scalars_of a
scalars_of (Clear x) = x ∷ []
scalars_of (Declare x e) = x ∷ []
scalars_of (If e a) = scalars_of a
scalars_of (IfElse e a b) = scalars_of a ++ scalars_of b
scalars_of (While e a) = scalars_of a
scalars_of (DoWhile a e) = scalars_of a
scalars_of (For first test step a) = scalars_of first ++ scalars_of a
scalars_of s = []

abbrev pub arrays_of : Code → List ℕ
arrays_of (Seq a b) = arrays_of a ++ arrays_of b
arrays_of (Block a) = arrays_of a
arrays_of (ClearArray a) = a ∷ []
arrays_of (If e a) = arrays_of a
arrays_of (IfElse e a b) = arrays_of a ++ arrays_of b
arrays_of (While e a) = arrays_of a
arrays_of (DoWhile a e) = arrays_of a
arrays_of (For first test step a) = arrays_of first ++ arrays_of a
arrays_of s = []

-- each of so many numbers from a first one on occurs, and no other does
abbrev pub are_all_from : (first count : ℕ) → List ℕ → Bool
are_all_from first count xs = list_all (λ k. is_in (first + k) xs) (below count) && list_all (λ x. at_most first x && nat_lt x (first + count)) xs

-- functions and globals

-- its parameters
abbrev pub in_force_at_start : Program → Function → Scope
in_force_at_start p f = record { scalars = below f.parameters; arrays = map (λ k. length p.globals + k) (below (arrays_taken f)) }

-- the items of the function have its scalars behind those that are parameters, and its arrays behind the globals and the
-- array parameters, each of which some item has; an array has at least one word
abbrev pub suits_function : Program → Function → Bool
suits_function p f =
    (suits_code p f.gives false (in_force_at_start p f) f.body && (at_most f.parameters f.scalars && nat_eq f.parameters (numbers_taken f)))
    && (are_all_from f.parameters (f.scalars - f.parameters) (scalars_of f.body)
    && (are_all_from (length p.globals + arrays_taken f) (length f.arrays) (arrays_of f.body) && list_all (nat_lt 0) f.arrays))

abbrev pub suits_global : GlobalVariable → Bool
suits_global (ScalarGlobal z) = is_word z
suits_global (ArrayGlobal n) = nat_lt 0 n

-- an `int` function without parameters
abbrev pub is_main : Option Function → Bool
is_main None = false
is_main (Some f) = gives_int f.gives && nat_eq (length f.takes) 0

-- limits

-- nodes of expressions, of targets, of statements

abbrev pub nodes_of : {k : Shape} → Tree k → ℕ
nodes_of (Literal z) = 1
nodes_of (Local x) = 1
nodes_of (Global a) = 1
nodes_of (Element a i) = 1 + nodes_of i
nodes_of (Unary operator a) = 1 + nodes_of a
nodes_of (Binary operator a b) = 1 + nodes_of a + nodes_of b
nodes_of (Both a b) = 1 + nodes_of a + nodes_of b
nodes_of (Either a b) = 1 + nodes_of a + nodes_of b
nodes_of (Choice c a b) = 1 + nodes_of c + nodes_of a + nodes_of b
nodes_of (Apply f row) = 1 + nodes_of row
nodes_of ReadInt = 1
nodes_of MoreInput = 1
nodes_of NoMore = 0
nodes_of (Then a rest) = nodes_of a + nodes_of rest
nodes_of (Hand a rest) = 1 + nodes_of rest

abbrev pub target_nodes : Place → ℕ
target_nodes (InLocal x) = 1
target_nodes (InGlobal a) = 1
target_nodes (InElement a i) = 1 + nodes_of i

abbrev pub action_nodes : Action → ℕ
action_nodes (Evaluate e) = nodes_of e
action_nodes (Assign t e) = target_nodes t + nodes_of e
action_nodes (Compound t operator e) = target_nodes t + nodes_of e
action_nodes (Increase t) = target_nodes t
action_nodes (Decrease t) = target_nodes t

abbrev pub test_nodes : Option (Tree One) → ℕ
test_nodes None = 0
test_nodes (Some e) = nodes_of e

-- a part of the head of a `for` is no statement
abbrev pub code_nodes : Code → ℕ
code_nodes Nothing = 0
code_nodes (Seq a b) = code_nodes a + code_nodes b
code_nodes Empty = 1
code_nodes (Block a) = 1 + code_nodes a
code_nodes (Clear x) = 1
code_nodes (Declare x e) = 1 + nodes_of e
code_nodes (ClearArray a) = 1
code_nodes (Simply a) = 1 + action_nodes a
code_nodes (Head a) = action_nodes a
code_nodes (Print format row) = 1 + nodes_of row
code_nodes (If e a) = 1 + nodes_of e + code_nodes a
code_nodes (IfElse e a b) = 1 + nodes_of e + code_nodes a + code_nodes b
code_nodes (While e a) = 1 + nodes_of e + code_nodes a
code_nodes (DoWhile a e) = 1 + code_nodes a + nodes_of e
code_nodes (For first test step a) = 1 + code_nodes first + test_nodes test + code_nodes step + code_nodes a
code_nodes Break = 1
code_nodes Continue = 1
code_nodes Return = 1
code_nodes (ReturnValue e) = 1 + nodes_of e

-- its body, its parameters, and all in the body
abbrev pub function_nodes : Function → ℕ
function_nodes f = 1 + length f.takes + code_nodes f.body

-- the formats of a body, in the order of the source
abbrev pub formats_of : Code → List (List ℕ)
formats_of (Seq a b) = formats_of a ++ formats_of b
formats_of (Block a) = formats_of a
formats_of (Print format row) = format ∷ []
formats_of (If e a) = formats_of a
formats_of (IfElse e a b) = formats_of a ++ formats_of b
formats_of (While e a) = formats_of a
formats_of (DoWhile a e) = formats_of a
formats_of (For first test step a) = formats_of a
formats_of s = []

abbrev pub global_words : GlobalVariable → ℕ
global_words (ScalarGlobal z) = 1
global_words (ArrayGlobal n) = n

-- a limit that a count is over

pub record Over : Type 0 where
  pub number : ℕ
  pub count : ℕ

-- the first of the counts that is over the greatest one allowed
abbrev pub over : (number most : ℕ) → List ℕ → Option Over
over number most [] = None
over number most (n ∷ ns) = if at_most n most then over number most ns else Some (record { number = number; count = n })

abbrev pub or_else : Option Over → Option Over → Option Over
or_else (Some o) other = Some o
or_else None other = other

-- the lowest of the limits L3 to L8 that is not kept, with the count of the first function or format that is over
abbrev pub limit_of : Program → Option Over
limit_of p =
    or_else (over 3 256 (length p.functions ∷ []))
    (or_else (over 4 8 (map (λ f. length f.takes) p.functions))
    (or_else (over 5 4000 (map function_nodes p.functions))
    (or_else (over 6 8192 (map (λ f. sum f.arrays) p.functions))
    (or_else (over 7 262144 (sum (map global_words p.globals) ∷ []))
    (over 8 4096 (flat_map (λ f. map (λ format. length format) (formats_of f.body)) p.functions))))))

abbrev pub is_none : Option Over → Bool
is_none None = true
is_none (Some o) = false

-- programs

abbrev pub is_suited : Program → Bool
is_suited p = (list_all (suits_function p) p.functions && list_all suits_global p.globals) && is_main (slice_get p.functions p.main)

unfoldable pub is_accepted : Program → Bool
is_accepted p = is_suited p && is_none (limit_of p)
