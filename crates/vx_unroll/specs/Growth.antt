-- What a function has where one loop of it is unrolled, by numbers: the nodes of its body, of a turn and of what stands
-- behind each turn but the last, and the words that the body declares.
use Rattle.std.specs.Prelude.{ℕ, ◌+◌, ◌-◌, ◌*◌, Bool, true, false, ◌&&◌, if◌then◌else◌, List, [], ◌∷◌, length, Option, Some, None}
use Rattle.std.specs.List.{list_all, sum}
use Rattle.vx_ast.specs.declared.tree.Statement.{Statement}
use Rattle.vx_ast.specs.Tree.{One, Tree, Action, Code, Seq, Block, Function, Program}
use Rattle.vx_ast.specs.View.{code_of}
use Rattle.vx_ast.specs.Accepted.{at_most, nodes_of, action_nodes, code_nodes, function_nodes}
use Rattle.vx_unroll.specs.declared.size.Size.{Size}
use Rattle.vx_unroll.specs.Unrolling.{block_of, declared_words, function_words, keeps_limits, Decided}

abbrev pub fitting : Size → Option Size
fitting size = if keeps_limits size then Some size else None

abbrev pub step_cost : Option Action → ℕ
step_cost None = 0
step_cost (Some a) = 1 + action_nodes a

abbrev pub test_cost : Option (Tree One) → ℕ
test_cost None = 0
test_cost (Some c) = 3 + nodes_of c

abbrev pub grown_by : (more : ℕ) → Size → (body turn behind words : ℕ) → Size
grown_by more now body turn behind words = record { nodes = now.nodes + (1 + turn - body) + more * (turn + behind); words = now.words + more * words }

abbrev pub grown : (more : ℕ) → (words : ℕ → ℕ) → Size → Code → (behind : ℕ) → Size
grown more words now body behind = grown_by more now (code_nodes body) (code_nodes (block_of body)) behind (declared_words words body)

abbrev pub is_block : Code → Bool
is_block (Block a) = true
is_block a = false

-- a list of statements with code behind it
abbrev pub code_onto : List Statement → Code → Code
code_onto [] rest = rest
code_onto (s ∷ ss) rest = Seq (code_of s) (code_onto ss rest)

abbrev pub decided_as : Code → Size → Decided
decided_as code size = record { code = code; size = size }

-- a function within the limits of its nodes and of the words of its arrays
abbrev pub is_small_function : Function → Bool
is_small_function f = at_most (function_nodes f) 4000 && at_most (sum f.arrays) 8192

-- programs whose functions declare no more words of arrays than they may
abbrev pub has_few_words : Program → Bool
has_few_words p = list_all (λ f. at_most (function_words (length p.globals) f) 8192) p.functions
