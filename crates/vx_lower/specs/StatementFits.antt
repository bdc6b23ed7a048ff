-- The code of statements keeps a graph that is being made well shaped, and takes few values.
use Rattle.std.specs.Prelude.{ℕ, ◌+◌, ◌*◌, ◌≤◌, Option, Some, None, List, length}
use Rattle.vx_ast.specs.Accepted.{code_nodes, scalars_of, test_nodes}
use Rattle.vx_ast.specs.Tree.{One, Tree, Code}
use Rattle.vx_flow.specs.declared.graph.Operand.{Operand}
use Rattle.vx_lower.specs.Seen.{Sees}
use Rattle.vx_lower.specs.Emits.{Spare}
use Rattle.vx_lower.specs.Named.{Known, IsOwn, TestNamed, CodeNamed}
use Rattle.vx_lower.specs.Fits.{Role, Scalar, HasRole, AllFit, Shaped, Free, Keeps}
use Rattle.vx_lower.specs.declared.builder.Builder.{Builder}

-- the code of a statement; the scalars that it declares were there before
pub record MadeBy {words : Sees} (k : Known words) (texts : ℕ) (roles : List Role) (s : Code) (old new : Builder) : Type 0 where
  pub later : List Role
  pub generals : ℕ
  pub branches : ℕ
  pub keeps : Keeps k texts roles later generals branches old new
  pub few_generals : generals + length (scalars_of s) ≤ 3 * code_nodes s
  pub few_branches : branches ≤ 2 * code_nodes s

-- the code of what neither prints nor is left but at its end
abbrev pub PlainWell : (words : Sees) → Code → (old new : Builder) → Type 0
PlainWell words s old new = (k : Known words) (texts : ℕ) (roles : List Role) → Shaped k texts roles old → CodeNamed k s → MadeBy k texts roles s old new

-- where a break or a continue leads, jumps may go
abbrev pub WayFree : Builder → Option ℕ → Type 0
WayFree b None = Unit {0}
WayFree b (Some c) = Free b c

-- the code of a statement, where so many texts are there before it and after it
abbrev pub StatementWell : (words : Sees) → Code → (leaves again : Option ℕ) → (old new : Builder) → (before after : List (List ℕ)) → Type 0
StatementWell words s leaves again old new before after = (k : Known words) (roles : List Role) → Shaped k (length before) roles old → CodeNamed k s → WayFree old leaves → WayFree old again → MadeBy k (length after) roles s old new

-- the test of a loop: n waits
pub record LoopAsks {words : Sees} (k : Known words) (texts : ℕ) (roles : List Role) (test : Option (Tree One)) (n : ℕ) (old new : Builder) : Type 0 where
  pub later : List Role
  pub generals : ℕ
  pub branches : ℕ
  pub keeps : Keeps k texts roles later generals branches old new
  pub waits : Spare new n
  pub late : length old.blocks ≤ n
  pub few_generals : generals ≤ 3 * test_nodes test
  pub few_branches : branches ≤ 2 * test_nodes test

abbrev pub LoopTestWell : (words : Sees) → Option (Tree One) → (n : ℕ) → (old new : Builder) → Type 0
LoopTestWell words test n old new = (k : Known words) (texts : ℕ) (roles : List Role) → Shaped k texts roles old → TestNamed k test → LoopAsks k texts roles test n old new

-- a word of array a is set to 0, at the place in i
pub record Clears {words : Sees} (k : Known words) (texts : ℕ) (roles : List Role) (old new : Builder) : Type 0 where
  pub later : List Role
  pub keeps : Keeps k texts roles later 2 0 old new

abbrev pub WordWell : (words : Sees) → (a i : ℕ) → (old new : Builder) → Type 0
WordWell words a i old new = (k : Known words) (texts : ℕ) (roles : List Role) → Shaped k texts roles old → IsOwn k a → HasRole roles i Scalar → Clears k texts roles old new

-- texts and numbers are shown
abbrev pub ShowsWell : List Operand → (old new : Builder) → (before after : List (List ℕ)) → Type 0
ShowsWell os old new before after = (words : Sees) (k : Known words) (roles : List Role) → Shaped k (length before) roles old → AllFit roles os → Keeps k (length after) roles roles 0 0 old new
