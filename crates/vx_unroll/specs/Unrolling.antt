-- Loop unrolling on the tree of a program, with the test kept at each turn. The loops in question are the `while` and
-- `for` loops that contain no loop. They are taken in the order of the source, and each is unrolled exactly where its
-- function, with the earlier ones as decided, then has at most 4,000 nodes and declares at most 8,192 words of arrays. A
-- declaration in a body that is repeated counts each time, although its scalar or array stays the same one.
use Rattle.std.specs.Prelude.{◌≡◌, ℕ, zero, suc, ◌+◌, ◌-◌, Bool, true, false, ◌&&◌, if◌then◌else◌, nat_lt, List, length, map, Option, Some, None, slice_index_or}
use Rattle.std.specs.List.{sum_by}
use Rattle.vx_ast.specs.declared.tree.UnaryOperator.TheVariants.{Not}
use Rattle.vx_unroll.specs.declared.size.Size.{Size}
use Rattle.vx_ast.specs.Tree.{One, Tree, Unary, Action, Code, Nothing, Seq, Block, Simply, Head, If, IfElse, While, DoWhile, For, Break, Function, Program}
use Rattle.vx_ast.specs.Accepted.{at_most, arrays_taken, arrays_of, code_nodes, function_nodes}

-- turns

-- a turn of a loop: its body where that is a block, else a block of it alone
abbrev pub block_of : Code → Code
block_of (Block a) = Block a
block_of a = Block (Seq a Nothing)

-- what stands behind each turn but the last: the step of a `for` as a statement, and `if (!(c)) break;`
abbrev pub step_before : Option Action → Code → Code
step_before None rest = rest
step_before (Some a) rest = Seq (Simply a) rest

abbrev pub test_before : Option (Tree One) → Code → Code
test_before None rest = rest
test_before (Some c) rest = Seq (If (Unary Not c) Break) rest

-- so many turns, each with the step and the test behind it, and a last one
abbrev pub turns_of : (more : ℕ) → Option (Tree One) → Option Action → Code → Code
turns_of zero test step body = Seq (block_of body) Nothing
turns_of (suc more) test step body = Seq (block_of body) (step_before step (test_before test (turns_of more test step body)))

-- the body of an unrolled `while`
abbrev pub while_body : (more : ℕ) → Tree One → Code → Code
while_body more test body = Block (turns_of more (Some test) None body)

-- that of a `for`, by its step, which is nothing or a part of the head in every tree of the code
abbrev pub for_body : (more : ℕ) → Option (Tree One) → (step body : Code) → Code
for_body more test Nothing body = Block (turns_of more test None body)
for_body more test (Head a) body = Block (turns_of more test (Some a) body)
for_body more test step body = body

-- loops

abbrev pub has_loop : Code → Bool
has_loop (Seq a b) = if has_loop a then true else has_loop b
has_loop (Block a) = has_loop a
has_loop (If e a) = has_loop a
has_loop (IfElse e a b) = if has_loop a then true else has_loop b
has_loop (While e a) = true
has_loop (DoWhile a e) = true
has_loop (For first test step a) = true
has_loop c = false

-- room

-- the words of all arrays that code declares, each time it does; words: the words of each array
abbrev pub declared_words : (words : ℕ → ℕ) → Code → ℕ
declared_words words c = sum_by words (arrays_of c)

-- what it has where one part of it is exchanged for another
abbrev pub exchanged : (words : ℕ → ℕ) → Size → (old new : Code) → Size
exchanged words now old new = record { nodes = now.nodes + code_nodes new - code_nodes old; words = now.words + declared_words words new - declared_words words old }

abbrev pub keeps_limits : Size → Bool
keeps_limits size = at_most size.nodes 4000 && at_most size.words 8192

-- code with its loops as decided, and what the function has then
pub record Decided : Type 0 where
  pub code : Code
  pub size : Size

abbrev pub inside : (Code → Code) → Decided → Decided
inside around d = record { code = around d.code; size = d.size }

-- one part, and then another
abbrev pub and_then : (Code → Code → Code) → Decided → (Size → Decided) → Decided
and_then around d more = record { code = around d.code (more d.size).code; size = (more d.size).size }

-- the one body or the other
abbrev pub where_it_fits : (words : ℕ → ℕ) → Size → (old new : Code) → Decided
where_it_fits words now old new = if keeps_limits (exchanged words now old new) then record { code = new; size = exchanged words now old new } else record { code = old; size = now }

abbrev pub unrolled_in : (more : ℕ) → (words : ℕ → ℕ) → Size → Code → Decided
unrolled_in more words now (Seq a b) = and_then Seq (unrolled_in more words now a) (λ size. unrolled_in more words size b)
unrolled_in more words now (Block a) = inside Block (unrolled_in more words now a)
unrolled_in more words now (If e a) = inside (If e) (unrolled_in more words now a)
unrolled_in more words now (IfElse e a b) = and_then (IfElse e) (unrolled_in more words now a) (λ size. unrolled_in more words size b)
unrolled_in more words now (While e a) = inside (While e) (if has_loop a then unrolled_in more words now a else where_it_fits words now a (while_body more e a))
unrolled_in more words now (DoWhile a e) = inside (λ body. DoWhile body e) (unrolled_in more words now a)
unrolled_in more words now (For first test step a) = inside (For first test step) (if has_loop a then unrolled_in more words now a else where_it_fits words now a (for_body more test step a))
unrolled_in more words now c = record { code = c; size = now }

-- functions and programs

-- the words of an array, where it is one of a function's own, which are numbered from this number on
abbrev pub own_words : (own : ℕ) → List ℕ → ℕ → ℕ
own_words own arrays a = if nat_lt a own then 0 else slice_index_or arrays (a - own) 0

-- the number of the first of them, which stands behind the globals and the array parameters
abbrev pub first_own : (globals : ℕ) → Function → ℕ
first_own globals f = globals + arrays_taken f

-- the words that the arrays of a function's declarations have
abbrev pub function_words : (globals : ℕ) → Function → ℕ
function_words globals f = declared_words (own_words (first_own globals f) f.arrays) f.body

abbrev pub size_of : (globals : ℕ) → Function → Size
size_of globals f = record { nodes = function_nodes f; words = function_words globals f }

-- with k turns in one
abbrev pub unrolled_function : (k globals : ℕ) → Function → Function
unrolled_function k globals f = record f { body = (unrolled_in (k - 1) (own_words (first_own globals f) f.arrays) (size_of globals f) f.body).code }

abbrev pub unrolled_program : (k : ℕ) → Program → Program
unrolled_program k p = record p { functions = map (unrolled_function k (length p.globals)) p.functions }

-- q is p with its loops unrolled to k turns each, wherever they are to be
abbrev pub Unrolled : Program → (k : ℕ) → Program → Type 0
Unrolled p k q = q ≡ unrolled_program k p

-- q is p, with its loops unrolled to so many turns each where that is asked
abbrev pub UnrolledBy : Option ℕ → Program → Program → Type 0
UnrolledBy None p q = q ≡ p
UnrolledBy (Some k) p q = Unrolled p k q
