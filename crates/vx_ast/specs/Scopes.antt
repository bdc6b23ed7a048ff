-- Which names are known at a place of a parsed source, and what they stand for. The scopes are the file with the
-- predeclared names, each function with its parameters and the items of its body, each inner block, branch and body of
-- a loop, and each `for`. An inner name hides an outer one; of two names of one scope the first one stands.
use Rattle.std.specs.Prelude.{ℕ, zero, suc, ◌+◌, Bool, true, false, if◌then◌else◌, nat_eq, List, [], ◌∷◌, ◌++◌, length, map, slice_index_or, Option, Some, None, codes}
use Rattle.std.specs.List.{list_any}
use lib.Pointwise.{pointwise}
use Rattle.vx_ast.specs.declared.tree.GlobalVariable.{GlobalVariable}
use Rattle.vx_ast.specs.declared.tree.GlobalVariable.TheVariants.{Scalar as ScalarGlobal, Array as ArrayGlobal}
use Rattle.vx_ast.specs.declared.tree.Takes.{Takes}
use Rattle.vx_ast.specs.declared.tree.Takes.TheVariants.{Number as TakesNumber, Array as TakesArray}
use Rattle.vx_ast.specs.declared.syntax.Name.{Name}
use Rattle.vx_ast.specs.declared.syntax.Size.{Size}
use Rattle.vx_ast.specs.declared.syntax.Parameter.{Parameter}
use Rattle.vx_ast.specs.declared.names.Named.{Named}
use Rattle.vx_ast.specs.declared.names.Named.TheVariants.{Scalar as AScalar, Global as AGlobal, Array as AnArray, Function as AFunctionNamed, ReadInt as Reads, MoreInput as AsksMore, Print as Prints}
use Rattle.vx_ast.specs.declared.names.Meant.{Meant}
use Rattle.vx_ast.specs.declared.names.FileName.{FileName}
use Rattle.vx_ast.specs.Syntax.{Code, Nothing, Seq, Empty, Block, Scalar, ScalarWith, Array, Simply, Head, Print, If, IfElse, While, DoWhile, For, Break, Continue, Return, ReturnValue, Definition, GlobalScalar, GlobalArray, AFunction, Program}

abbrev pub same_name : List ℕ → List ℕ → Bool
same_name x y = pointwise nat_eq x y

-- a name that is known, and what it stands for
pub record Known : Type 0 where
  pub name : List ℕ
  pub meant : Meant

-- what the first entry of a name says
abbrev pub find : List ℕ → List Known → Option Meant
find x [] = None
find x (k ∷ ks) = if same_name x k.name then Some k.meant else find x ks

-- the file

-- the predeclared names, which stand before all others of the file

abbrev pub in_file : List ℕ → Named → Known
in_file x n = record { name = x; meant = record { depth = 0; named = n } }

unfoldable pub predeclared : List Known
predeclared = in_file (codes "read_int") Reads ∷ in_file (codes "more_input") AsksMore ∷ in_file (codes "printf") Prints ∷ []

abbrev pub is_predeclared : List ℕ → Bool
is_predeclared x = list_any (λ k. same_name x k.name) predeclared

-- the names that are known in a definition with so many others above it: those of the others, and every function
abbrev pub known_of : (above : ℕ) → List FileName → List Known
known_of above [] = []
known_of zero (n ∷ ns) = if n.everywhere then in_file n.name n.named ∷ known_of zero ns else known_of zero ns
known_of (suc above) (n ∷ ns) = in_file n.name n.named ∷ known_of above ns

-- what is known at a place
pub record Environment : Type 0 where
  -- how many scopes stand round the scope of the place
  pub depth : ℕ
  -- the names of the function that are known, the latest one first
  pub locals : List Known
  -- all names of the file, in the order of the source, and how many of their declarations stand above the function
  pub names : List FileName
  pub above : ℕ
  -- what the parameters of each function of the file take, by the number of the function
  pub takes : List (List Takes)
  -- how many scalars the function has so far
  pub scalars : ℕ
  -- the number of its next array, and the words of each array that it has so far
  pub arrays : ℕ
  pub sizes : List ℕ

abbrev pub file_in : Environment → List Known
file_in env = predeclared ++ known_of env.above env.names

unfoldable pub look : List ℕ → Environment → Option Meant
look x env = find x (env.locals ++ file_in env)

abbrev pub named_in : Option Meant → Option Named
named_in None = None
named_in (Some m) = Some m.named

-- what a name stands for
abbrev pub named : List ℕ → Environment → Option Named
named x env = named_in (look x env)

-- what the parameters of a called function take, where a function of the file is named
abbrev pub wanted_by : Environment → Option Named → List Takes
wanted_by env (Some (AFunctionNamed f gives count)) = slice_index_or env.takes f []
wanted_by env n = []

-- a name of this depth
abbrev pub is_at : ℕ → Option Meant → Bool
is_at depth None = false
is_at depth (Some m) = nat_eq m.depth depth

-- declarations

-- a name that may not be declared at the place, since it is predeclared or its scope has it already
abbrev pub is_taken : List ℕ → Environment → Bool
is_taken x env = if is_predeclared x then true else is_at env.depth (look x env)

-- what is known behind a declaration: of two in one scope the first one stands
unfoldable pub declared : List ℕ → Named → Environment → Environment
declared x n env =
    if is_at env.depth (look x env) then env else record env { locals = (record { name = x; meant = record { depth = env.depth; named = n } }) ∷ env.locals }

abbrev pub with_scalar : Name → Environment → Environment
with_scalar x env = record (declared x.bytes (AScalar env.scalars) env) { scalars = env.scalars + 1 }

abbrev pub with_array : Name → Size → Environment → Environment
with_array a size env = record (declared a.bytes (AnArray env.arrays) env) { arrays = env.arrays + 1; sizes = env.sizes ++ size.words ∷ [] }

-- a parameter is a scalar, or an array that has no words of its own, but those of the one that is handed over
abbrev pub with_handed : Name → Environment → Environment
with_handed a env = record (declared a.bytes (AnArray env.arrays) env) { arrays = env.arrays + 1 }

abbrev pub with_taken : Takes → Name → Environment → Environment
with_taken TakesNumber x env = with_scalar x env
with_taken TakesArray a env = with_handed a env

abbrev pub with_parameter : Parameter → Environment → Environment
with_parameter q env = with_taken q.takes q.name env

abbrev pub with_parameters : List Parameter → Environment → Environment
with_parameters [] env = env
with_parameters (q ∷ qs) env = with_parameters qs (with_parameter q env)

-- in a scope of its own, and behind it
abbrev pub inside : Environment → Environment
inside env = record env { depth = env.depth + 1 }

abbrev pub outside : Environment → Environment → Environment
outside env inner = record inner { depth = env.depth; locals = env.locals }

-- what is known behind a statement. A name is known from the end of its own item on
abbrev pub behind : Code → Environment → Environment
behind Nothing env = env
behind (Seq a b) env = behind b (behind a env)
behind Empty env = env
behind (Block a) env = outside env (behind a (inside env))
behind (Scalar x) env = with_scalar x env
behind (ScalarWith x e) env = with_scalar x env
behind (Array a size) env = with_array a size env
behind (Simply a) env = env
behind (Head a) env = env
behind (Print at at_format format row) env = env
behind (If e a) env = outside env (behind a (inside env))
behind (IfElse e a b) env = outside env (behind b (inside (outside env (behind a (inside env)))))
behind (While e a) env = outside env (behind a (inside env))
behind (DoWhile a e) env = outside env (behind a (inside env))
behind (For first test step a) env = outside env (behind a (inside (behind first (inside env))))
behind (Break at) env = env
behind (Continue at) env = env
behind (Return at) env = env
behind (ReturnValue at e) env = env

-- programs

-- the names of definitions, with the numbers of their arrays and functions
abbrev pub names_from : (arrays functions : ℕ) → List Definition → List FileName
names_from a f [] = []
names_from a f (GlobalScalar x z ∷ ds) = (record { name = x.bytes; everywhere = false; named = AGlobal a }) ∷ names_from (a + 1) f ds
names_from a f (GlobalArray x size ∷ ds) = (record { name = x.bytes; everywhere = false; named = AnArray a }) ∷ names_from (a + 1) f ds
names_from a f (AFunction g ∷ ds) = (record { name = g.name.bytes; everywhere = true; named = AFunctionNamed f g.gives (length g.parameters) }) ∷ names_from a (f + 1) ds

-- what parameters take, and those of each function among definitions
abbrev pub takes_of : List Parameter → List Takes
takes_of qs = map (λ q. q.takes) qs

abbrev pub takes_from : List Definition → List (List Takes)
takes_from [] = []
takes_from (GlobalScalar x z ∷ ds) = takes_from ds
takes_from (GlobalArray x size ∷ ds) = takes_from ds
takes_from (AFunction g ∷ ds) = takes_of g.parameters ∷ takes_from ds

abbrev pub names_of : Program → List FileName
names_of p = names_from 0 0 p.definitions

abbrev pub global_of : Definition → List GlobalVariable
global_of (GlobalScalar x z) = ScalarGlobal z ∷ []
global_of (GlobalArray x size) = ArrayGlobal size.words ∷ []
global_of (AFunction g) = []

abbrev pub globals_of : List Definition → List GlobalVariable
globals_of [] = []
globals_of (d ∷ ds) = global_of d ++ globals_of ds

-- at the start of the function with so many definitions above it, before its parameters: its arrays have the numbers
-- behind the globals
abbrev pub at_function : Program → (above : ℕ) → Environment
at_function p above = record {
  depth = 1;
  locals = [];
  names = names_of p;
  above = above;
  takes = takes_from p.definitions;
  scalars = 0;
  arrays = length (globals_of p.definitions);
  sizes = [];
}
