-- What a program does: by recursion on the active functions that may still come, the turns that a loop may still
-- take since it was entered, and the tree.
use Rattle.std.specs.Prelude.{◌≡◌, ℕ, zero, suc, ◌+◌, ◌-◌, ℤ, pos, negsuc, Bool, true, false, ◌==◌, if◌then◌else◌, nat_lt, map, replicate, take, List, [], ◌∷◌, ◌++◌, length, Option, Some, None, slice_get, slice_set, slice_index_or, unwrap_or}
use Rattle.std.specs.Fmt.{signed_decimal}
use Rattle.vx_base.specs.Arithmetic.{sum_of, difference_of, product_of, quotient_of, remainder_of, shl_of, shr_of, and_of, or_of, xor_of, compare_of, one_if}
use Rattle.vx_base.specs.Outcome.{Outcome, Ends, Traps, Goes}
use Rattle.vx_base.specs.declared.arithmetic.Compare.TheVariants.{Eq, Ne, Lt, Le, Gt, Ge}
use Rattle.vx_base.specs.declared.outcome.Trap.{Trap}
use Rattle.vx_base.specs.declared.outcome.Trap.TheVariants.{Divide as ByDivide, Index as ByIndex, Input as ByInput, Depth as ByDepth}
use Rattle.vx_ast.specs.declared.tree.UnaryOperator.{UnaryOperator}
use Rattle.vx_ast.specs.declared.tree.UnaryOperator.TheVariants.{Minus, Plus, Not, Complement}
use Rattle.vx_ast.specs.declared.tree.BinaryOperator.{BinaryOperator}
use Rattle.vx_ast.specs.declared.tree.BinaryOperator.TheVariants.{Multiply, Divide, Remainder, Add, Subtract, ShiftLeft, ShiftRight, Less, LessEqual, Greater, GreaterEqual, Equal, NotEqual, BitAnd, BitXor, BitOr}
use Rattle.vx_ast.specs.declared.tree.GlobalVariable.{GlobalVariable}
use Rattle.vx_ast.specs.declared.tree.GlobalVariable.TheVariants.{Scalar as ScalarGlobal, Array as ArrayGlobal}
use Rattle.vx_ast.specs.Tree.{Shape, One, Row, Tree, Literal, Local, Global, Element, Unary, Binary, Both, Either, Choice, Apply, ReadInt, MoreInput, NoMore, Then, Hand, Place, InLocal, InGlobal, InElement, Action, Evaluate, Assign, Compound, Increase, Decrease, Code, Nothing, Seq, Empty, Block, Clear, Declare, ClearArray, Simply, Head, Print, If, IfElse, While, DoWhile, For, Break, Continue, Return, ReturnValue, Function, Program}

pub record Store : Type 0 where
  -- the scalars of the active function, by their numbers
  pub scalars : ℕ → ℤ
  -- the globals, then the own arrays of each active function, the first active one's first
  pub arrays : List (List ℤ)
  pub input : List ℤ
  pub out : List ℕ

-- how a part of a program ends: with a value, by a trap, or not within the bound
pub data Part (A : Type 0) : Type 0 where
  With : A → Store → Part A
  Trapped : Trap → (out : List ℕ) → Part A
  Going : (out : List ℕ) → Part A

-- how a statement is left
pub data Leaves : Type 0 where
  Falls : Leaves
  Breaks : Leaves
  Continues : Leaves
  Returns : ℤ → Leaves

abbrev pub and_then : {A B : Type 0} → Part A → (A → Store → Part B) → Part B
and_then (With a s) f = f a s
and_then (Trapped k out) f = Trapped k out
and_then (Going out) f = Going out

-- what a call gives for a parameter: a number, or an array, by its spot in the list of the arrays that are there
pub data Argument : Type 0 where
  NumberArgument : ℤ → Argument
  ArrayArgument : (spot : ℕ) → Argument

-- the numbers among arguments, and the spots of the arrays among them
abbrev pub numbers_given : List Argument → List ℤ
numbers_given [] = []
numbers_given (NumberArgument z ∷ rest) = z ∷ numbers_given rest
numbers_given (ArrayArgument spot ∷ rest) = numbers_given rest

abbrev pub arrays_given : List Argument → List ℕ
arrays_given [] = []
arrays_given (NumberArgument z ∷ rest) = arrays_given rest
arrays_given (ArrayArgument spot ∷ rest) = spot ∷ arrays_given rest

-- what a call does, by the number of the function and its arguments
abbrev pub Calls : Type 0
Calls = ℕ → List Argument → Store → Part ℤ

-- a condition holds where its value is not 0
abbrev pub unless_zero : {A : Type 0} → ℤ → A → A → A
unless_zero (pos zero) a b = b
unless_zero (pos (suc n)) a b = a
unless_zero (negsuc n) a b = a

-- arrays

abbrev pub array_at : Store → ℕ → List ℤ
array_at s a = slice_index_or s.arrays a []

abbrev pub word_at : Store → ℕ → ℕ → ℤ
word_at s a i = slice_index_or (array_at s a) i (pos 0)

abbrev pub with_word : Store → ℕ → ℕ → ℤ → Store
with_word s a i v = record s { arrays = slice_set s.arrays a (slice_set (array_at s a) i v) }

abbrev pub cleared : Store → ℕ → Store
cleared s a = record s { arrays = slice_set s.arrays a (map (λ z. pos 0) (array_at s a)) }

abbrev pub with_scalar : Store → ℕ → ℤ → Store
with_scalar s x v = record s { scalars = λ y. if y == x then v else s.scalars y }

-- an index traps where it is below 0 or not below the array's size
abbrev pub index_in : ℕ → ℤ → Option ℕ
index_in size (negsuc n) = None
index_in size (pos i) = if nat_lt i size then Some i else None

abbrev pub at_index : {A : Type 0} → Option ℕ → Store → (ℕ → Part A) → Part A
at_index None s f = Trapped ByIndex s.out
at_index (Some i) s f = f i

abbrev pub at_element : {A : Type 0} → ℕ → ℤ → Store → (ℕ → Part A) → Part A
at_element a index s f = at_index (index_in (length (array_at s a)) index) s f

-- operators

abbrev pub unary_value : UnaryOperator → ℤ → ℤ
unary_value Minus x = difference_of (pos 0) x
unary_value Plus x = x
unary_value Not x = one_if (compare_of Eq x (pos 0))
unary_value Complement x = xor_of x (negsuc 0)

abbrev pub binary_value : BinaryOperator → ℤ → ℤ → ℤ
binary_value Multiply x y = product_of x y
binary_value Divide x y = quotient_of x y
binary_value Remainder x y = remainder_of x y
binary_value Add x y = sum_of x y
binary_value Subtract x y = difference_of x y
binary_value ShiftLeft x y = shl_of x y
binary_value ShiftRight x y = shr_of x y
binary_value Less x y = one_if (compare_of Lt x y)
binary_value LessEqual x y = one_if (compare_of Le x y)
binary_value Greater x y = one_if (compare_of Gt x y)
binary_value GreaterEqual x y = one_if (compare_of Ge x y)
binary_value Equal x y = one_if (compare_of Eq x y)
binary_value NotEqual x y = one_if (compare_of Ne x y)
binary_value BitAnd x y = and_of x y
binary_value BitXor x y = xor_of x y
binary_value BitOr x y = or_of x y

-- `/` and `%` trap where the right operand is 0
abbrev pub divides : BinaryOperator → Bool
divides Divide = true
divides Remainder = true
divides operator = false

abbrev pub combined : BinaryOperator → ℤ → ℤ → Store → Part ℤ
combined operator x y s =
    if divides operator then unless_zero y (With (binary_value operator x y) s) (Trapped ByDivide s.out) else With (binary_value operator x y) s

-- expressions

abbrev pub next_input : List ℤ → Store → Part ℤ
next_input [] s = Trapped ByInput s.out
next_input (x ∷ xs) s = With x (record s { input = xs })

abbrev pub is_left : List ℤ → Bool
is_left [] = false
is_left (x ∷ xs) = true

abbrev pub Result : Shape → Type 0
Result One = ℤ
Result Row = List Argument

-- spot: the array that each number of an array names, by where it stands in the list of arrays
abbrev pub value : {k : Shape} → (ℕ → ℕ) → Calls → Tree k → Store → Part (Result k)
value spot calls (Literal z) s = With z s
value spot calls (Local x) s = With (s.scalars x) s
value spot calls (Global a) s = With (word_at s (spot a) 0) s
value spot calls (Element a i) s = and_then (value spot calls i s) (λ index t. at_element (spot a) index t (λ j. With (word_at t (spot a) j) t))
value spot calls (Unary operator a) s = and_then (value spot calls a s) (λ x t. With (unary_value operator x) t)
value spot calls (Binary operator a b) s = and_then (value spot calls a s) (λ x t. and_then (value spot calls b t) (λ y u. combined operator x y u))
value spot calls (Both a b) s =
    and_then (value spot calls a s) (λ x t. unless_zero x (and_then (value spot calls b t) (λ y u. With (unless_zero y (pos 1) (pos 0)) u)) (With (pos 0) t))
value spot calls (Either a b) s =
    and_then (value spot calls a s) (λ x t. unless_zero x (With (pos 1) t) (and_then (value spot calls b t) (λ y u. With (unless_zero y (pos 1) (pos 0)) u)))
value spot calls (Choice c a b) s = and_then (value spot calls c s) (λ x t. unless_zero x (value spot calls a t) (value spot calls b t))
value spot calls (Apply f row) s = and_then (value spot calls row s) (λ xs t. calls f xs t)
value spot calls ReadInt s = next_input s.input s
value spot calls MoreInput s = With (one_if (is_left s.input)) s
value spot calls NoMore s = With [] s
value spot calls (Then a rest) s = and_then (value spot calls a s) (λ x t. and_then (value spot calls rest t) (λ xs u. With (NumberArgument x ∷ xs) u))
value spot calls (Hand a rest) s = and_then (value spot calls rest s) (λ xs u. With (ArrayArgument (spot a) ∷ xs) u)

-- simple statements: the place of the target is found first, and read where the form needs it

abbrev pub changes : (ℕ → ℕ) → Calls → Place → (ℤ → Store → Part ℤ) → Store → Part Leaves
changes spot calls (InLocal x) new s = and_then (new (s.scalars x) s) (λ v t. With Falls (with_scalar t x v))
changes spot calls (InGlobal a) new s = and_then (new (word_at s (spot a) 0) s) (λ v t. With Falls (with_word t (spot a) 0 v))
changes spot calls (InElement a i) new s =
    and_then (value spot calls i s) (λ index t. at_element (spot a) index t (λ j. and_then (new (word_at t (spot a) j) t) (λ v u. With Falls (with_word u (spot a) j v))))

abbrev pub acts : (ℕ → ℕ) → Calls → Action → Store → Part Leaves
acts spot calls (Evaluate e) s = and_then (value spot calls e s) (λ v t. With Falls t)
acts spot calls (Assign p e) s = changes spot calls p (λ old t. value spot calls e t) s
acts spot calls (Compound p operator e) s = changes spot calls p (λ old t. and_then (value spot calls e t) (λ v u. combined operator old v u)) s
acts spot calls (Increase p) s = changes spot calls p (λ old t. With (sum_of old (pos 1)) t) s
acts spot calls (Decrease p) s = changes spot calls p (λ old t. With (difference_of old (pos 1)) t) s

-- printing: `%d` is the next argument in signed decimal, `%%` is `%`, every other byte is itself

pub data Piece : Type 0 where
  AByte : ℕ → Piece
  ANumber : Piece

abbrev mutual
  pub pieces_of : List ℕ → List Piece
  pieces_of [] = []
  pieces_of (b ∷ bs) = if b == 37 then directive_of bs else AByte b ∷ pieces_of bs

  pub directive_of : List ℕ → List Piece
  directive_of [] = []
  directive_of (b ∷ bs) = (if b == 100 then ANumber else AByte b) ∷ pieces_of bs

abbrev pub printed : List Piece → List ℤ → List ℕ
printed [] xs = []
printed (AByte b ∷ ps) xs = b ∷ printed ps xs
printed (ANumber ∷ ps) [] = printed ps []
printed (ANumber ∷ ps) (x ∷ xs) = signed_decimal x ++ printed ps xs

abbrev pub prints : List ℕ → Store → Store
prints text s = record s { out = s.out ++ text }

-- statements

abbrev pub go_on : Part Leaves → (Store → Part Leaves) → Part Leaves
go_on (With Falls s) f = f s
go_on (With Breaks s) f = With Breaks s
go_on (With Continues s) f = With Continues s
go_on (With (Returns r) s) f = With (Returns r) s
go_on (Trapped k out) f = Trapped k out
go_on (Going out) f = Going out

-- behind the body of a loop that falls or continues
abbrev pub after_body : Part Leaves → (Store → Part Leaves) → Part Leaves
after_body (With Falls s) f = f s
after_body (With Breaks s) f = With Breaks s
after_body (With Continues s) f = f s
after_body (With (Returns r) s) f = With (Returns r) s
after_body (Trapped k out) f = Trapped k out
after_body (Going out) f = Going out

-- behind a turn of a loop: on with the others, or out of the loop
abbrev pub after_turn : Part Leaves → (Store → Part Leaves) → Part Leaves
after_turn (With Falls s) f = f s
after_turn (With Breaks s) f = With Falls s
after_turn (With Continues s) f = f s
after_turn (With (Returns r) s) f = With (Returns r) s
after_turn (Trapped k out) f = Trapped k out
after_turn (Going out) f = Going out

-- a test, where there is one, and then either part
abbrev pub tests : Part ℤ → (Store → Part Leaves) → (Store → Part Leaves) → Part Leaves
tests test yes_part no_part = and_then test (λ c t. unless_zero c (yes_part t) (no_part t))

-- at most n turns, each with its test before it; it goes on where it would take one more
abbrev pub turns : ℕ → (Store → Part ℤ) → (Store → Part Leaves) → Store → Part Leaves
turns zero test turn s = tests (test s) (λ t. Going t.out) (λ t. With Falls t)
turns (suc n) test turn s = tests (test s) (λ t. after_turn (turn t) (turns n test turn)) (λ t. With Falls t)

-- at most n turns, each with its test behind it
abbrev pub turns_first : ℕ → (Store → Part ℤ) → (Store → Part Leaves) → Store → Part Leaves
turns_first zero test turn s = Going s.out
turns_first (suc n) test turn s = after_turn (turn s) (λ t. tests (test t) (turns_first n test turn) (λ u. With Falls u))

abbrev pub test_of : (ℕ → ℕ) → Calls → Option (Tree One) → Store → Part ℤ
test_of spot calls None s = With (pos 1) s
test_of spot calls (Some e) s = value spot calls e s

-- n: how many turns each loop may take since it was entered
abbrev pub does : (ℕ → ℕ) → Calls → ℕ → Code → Store → Part Leaves
does spot calls n Nothing s = With Falls s
does spot calls n (Seq a b) s = go_on (does spot calls n a s) (does spot calls n b)
does spot calls n Empty s = With Falls s
does spot calls n (Block a) s = does spot calls n a s
does spot calls n (Clear x) s = With Falls (with_scalar s x (pos 0))
does spot calls n (Declare x e) s = and_then (value spot calls e s) (λ v t. With Falls (with_scalar t x v))
does spot calls n (ClearArray a) s = With Falls (cleared s (spot a))
does spot calls n (Simply a) s = acts spot calls a s
does spot calls n (Head a) s = acts spot calls a s
does spot calls n (Print format row) s = and_then (value spot calls row s) (λ xs t. With Falls (prints (printed (pieces_of format) (numbers_given xs)) t))
does spot calls n (If e a) s = tests (value spot calls e s) (does spot calls n a) (λ t. With Falls t)
does spot calls n (IfElse e a b) s = tests (value spot calls e s) (does spot calls n a) (does spot calls n b)
does spot calls n (While e a) s = turns n (value spot calls e) (does spot calls n a) s
does spot calls n (DoWhile a e) s = turns_first n (value spot calls e) (does spot calls n a) s
does spot calls n (For first test step a) s =
    go_on (does spot calls n first s) (turns n (test_of spot calls test) (λ t. after_body (does spot calls n a t) (does spot calls n step)))
does spot calls n Break s = With Breaks s
does spot calls n Continue s = With Continues s
does spot calls n Return s = With (Returns (pos 0)) s
does spot calls n (ReturnValue e) s = and_then (value spot calls e s) (λ v t. With (Returns v) t)

-- calls

-- where array k behind the globals stands: the first are those that were given to the function, whosever they are, and its own
-- stand behind them from base on
abbrev pub spot_behind : (given : List ℕ) → (base : ℕ) → ℕ → ℕ
spot_behind [] base k = base + k
spot_behind (spot ∷ rest) base zero = spot
spot_behind (spot ∷ rest) base (suc k) = spot_behind rest base k

-- where array a of a function stands that sees g globals
abbrev pub spot_in : (g : ℕ) → (given : List ℕ) → (base : ℕ) → ℕ → ℕ
spot_in g given base a = if nat_lt a g then a else spot_behind given base (a - g)

-- the same where no array was given
abbrev pub spot_of : (g base : ℕ) → ℕ → ℕ
spot_of g base a = spot_in g [] base a

abbrev pub back_in : Store → ℤ → Store → Part ℤ
back_in caller r s = With r (record s { scalars = caller.scalars; arrays = take (length caller.arrays) s.arrays })

-- the end of a function's body: 0 without a return
abbrev pub result_of : Store → Part Leaves → Part ℤ
result_of caller (With Falls s) = back_in caller (pos 0) s
result_of caller (With Breaks s) = back_in caller (pos 0) s
result_of caller (With Continues s) = back_in caller (pos 0) s
result_of caller (With (Returns r) s) = back_in caller r s
result_of caller (Trapped k out) = Trapped k out
result_of caller (Going out) = Going out

-- the numbers that are given are its first scalars, and its own arrays begin as 0
abbrev pub entered : Function → List Argument → Store → Store
entered f args s = record s { scalars = λ x. slice_index_or (numbers_given args) x (pos 0); arrays = s.arrays ++ map (λ size. replicate size (pos 0)) f.arrays }

-- a function that is not there, which no accepted program calls, never ends
abbrev pub activate : (g : ℕ) → Option Function → Calls → ℕ → List Argument → Store → Part ℤ
activate g None calls n args s = Going s.out
activate g (Some f) calls n args s = result_of s (does (spot_in g (arrays_given args) (length s.arrays)) calls n f.body (entered f args s))

-- at most so many functions active from here on
abbrev pub active : Program → (depth : ℕ) → ℕ → Calls
active p zero n f args s = Trapped ByDepth s.out
active p (suc depth) n f args s = activate (length p.globals) (slice_get p.functions f) (active p depth n) n args s

-- the most functions that are active at a time
unfoldable pub deepest : ℕ
deepest = 512

abbrev pub words_at_start : GlobalVariable → List ℤ
words_at_start (ScalarGlobal z) = z ∷ []
words_at_start (ArrayGlobal words) = replicate words (pos 0)

abbrev pub at_start : Program → List ℤ → Store
at_start p input = record { scalars = λ x. pos 0; arrays = map words_at_start p.globals; input = input; out = [] }

abbrev pub outcome_of : Part ℤ → Outcome
outcome_of (With r s) = Ends r s.out
outcome_of (Trapped k out) = Traps k out
outcome_of (Going out) = Goes out

-- what the program does with an input, where each loop may take n turns since it was entered
abbrev pub source : Program → List ℤ → ℕ → Outcome
source p input n = outcome_of (active p deepest n p.main [] (at_start p input))
