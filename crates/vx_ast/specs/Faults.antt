-- All faults S5 to S13 of a parsed source, each with its place, and the first of them. Nothing depends on an order of
-- visiting: the first fault is the least by its place and then by its code.
use Rattle.std.specs.Prelude.{ℕ, ◌+◌, Bool, true, false, ◌&&◌, not, if◌then◌else◌, nat_lt, nat_eq, List, [], ◌∷◌, ◌++◌, length, take, Option, Some, None, codes}
use Rattle.std.specs.List.{list_any}
use Rattle.vx_ast.specs.declared.tree.Gives.{Gives}
use Rattle.vx_ast.specs.declared.tree.Takes.{Takes}
use Rattle.vx_ast.specs.declared.tree.Takes.TheVariants.{Number as TakesNumber, Array as TakesArray}
use Rattle.vx_ast.specs.declared.syntax.Place.{Place}
use Rattle.vx_ast.specs.declared.syntax.Name.{Name}
use Rattle.vx_ast.specs.declared.syntax.Size.{Size}
use Rattle.vx_ast.specs.declared.syntax.Parameter.{Parameter}
use Rattle.vx_ast.specs.declared.names.Named.{Named}
use Rattle.vx_ast.specs.declared.names.Named.TheVariants.{Scalar as AScalar, Global as AGlobal, Array as AnArray, Function as AFunctionNamed, ReadInt as Reads, MoreInput as AsksMore, Print as Prints}
use Rattle.vx_ast.specs.declared.names.Fault.{Fault}
use Rattle.vx_ast.specs.Tree.{One, Row}
use Rattle.vx_ast.specs.Syntax.{Phrase, Number, Use, Element, Call, Unary, Binary, Both, Either, Choice, NoMore, Then, Action, Evaluate, Assign, Compound, Increase, Decrease, Code, Nothing, Seq, Empty, Block, Scalar, ScalarWith, Array, Simply, Head, Print, If, IfElse, While, DoWhile, For, Break, Continue, Return, ReturnValue, Function, Definition, GlobalScalar, GlobalArray, AFunction, Program}
use Rattle.vx_ast.specs.Accepted.{gives_int, is_format, numbers_of}
use Rattle.vx_ast.specs.declared.names.FileName.{FileName}
use Rattle.vx_ast.specs.Scopes.{Environment, named, same_name, is_predeclared, is_taken, wanted_by, with_parameter, with_parameters, inside, outside, behind, names_of, at_function}

-- a fault of this code, where the test holds
abbrev pub fault_if : Bool → ℕ → Place → List Fault
fault_if test code place = if test then (record { code = code; place = place }) ∷ [] else []

-- names, by what they stand for

-- used as a number
abbrev pub used : Name → Option Named → List Fault
used x None = fault_if true 5 x.place
used x (Some (AScalar n)) = []
used x (Some (AGlobal a)) = []
used x (Some (AnArray a)) = fault_if true 7 x.place
used x (Some (AFunctionNamed f gives count)) = fault_if true 7 x.place
used x (Some Reads) = fault_if true 7 x.place
used x (Some AsksMore) = fault_if true 7 x.place
used x (Some Prints) = fault_if true 7 x.place

-- with an index, or handed over as an array
abbrev pub indexed : Name → Option Named → List Fault
indexed x None = fault_if true 5 x.place
indexed x (Some (AScalar n)) = fault_if true 7 x.place
indexed x (Some (AGlobal a)) = fault_if true 7 x.place
indexed x (Some (AnArray a)) = []
indexed x (Some (AFunctionNamed f gives count)) = fault_if true 7 x.place
indexed x (Some Reads) = fault_if true 7 x.place
indexed x (Some AsksMore) = fault_if true 7 x.place
indexed x (Some Prints) = fault_if true 7 x.place

-- called with so many arguments; only as the whole of a statement may it be a void function
abbrev pub called : (whole : Bool) → (arguments : ℕ) → Name → Option Named → List Fault
called whole n x None = fault_if true 5 x.place
called whole n x (Some (AScalar m)) = fault_if true 7 x.place
called whole n x (Some (AGlobal a)) = fault_if true 7 x.place
called whole n x (Some (AnArray a)) = fault_if true 7 x.place
called whole n x (Some (AFunctionNamed f gives count)) =
    fault_if (if whole then false else not (gives_int gives)) 7 x.place ++ fault_if (not (nat_eq n count)) 8 x.place
called whole n x (Some Reads) = fault_if (not (nat_eq n 0)) 8 x.place
called whole n x (Some AsksMore) = fault_if (not (nat_eq n 0)) 8 x.place
called whole n x (Some Prints) = fault_if true 7 x.place

-- the target of an assignment, whose first token stands at the place: no scalar, and undeclared or `printf` besides
abbrev pub changed : Place → Name → Option Named → List Fault
changed place x None = fault_if true 5 x.place ++ fault_if true 12 place
changed place x (Some (AScalar n)) = []
changed place x (Some (AGlobal a)) = []
changed place x (Some (AnArray a)) = fault_if true 12 place
changed place x (Some (AFunctionNamed f gives count)) = fault_if true 12 place
changed place x (Some Reads) = fault_if true 12 place
changed place x (Some AsksMore) = fault_if true 12 place
changed place x (Some Prints) = fault_if true 7 x.place ++ fault_if true 12 place

-- expressions

-- how many arguments a row has
abbrev pub row_length : Phrase Row → ℕ
row_length NoMore = 0
row_length (Then place a rest) = row_length rest + 1

abbrev pub same_place : Place → Place → Bool
same_place a b = nat_eq a.line b.line && nat_eq a.column b.column

-- an argument where an array is taken, whose first token stands at the place: one bare name, without parentheses. Any other one
-- is a fault, and has those that it has as a number besides
abbrev pub handed : Environment → Place → Phrase One → List Fault → List Fault
handed env place (Use x) others = if same_place place x.place then indexed x (named x.bytes env) else (fault_if true 7 place ++ others)
handed env place e others = fault_if true 7 place ++ others

abbrev mutual
  -- used as a number
  pub phrase_faults : Environment → Phrase One → List Fault
  phrase_faults env (Number z) = []
  phrase_faults env (Use x) = used x (named x.bytes env)
  phrase_faults env (Element a i) = indexed a (named a.bytes env) ++ phrase_faults env i
  phrase_faults env (Call f row) = called false (row_length row) f (named f.bytes env) ++ row_faults env (wanted_by env (named f.bytes env)) row
  phrase_faults env (Unary operator a) = phrase_faults env a
  phrase_faults env (Binary operator a b) = phrase_faults env a ++ phrase_faults env b
  phrase_faults env (Both a b) = phrase_faults env a ++ phrase_faults env b
  phrase_faults env (Either a b) = phrase_faults env a ++ phrase_faults env b
  phrase_faults env (Choice c a b) = phrase_faults env c ++ (phrase_faults env a ++ phrase_faults env b)

  -- arguments, where this is taken: each one behind the last parameter is a number
  pub row_faults : Environment → List Takes → Phrase Row → List Fault
  row_faults env takes NoMore = []
  row_faults env [] (Then place a rest) = phrase_faults env a ++ row_faults env [] rest
  row_faults env (TakesNumber ∷ takes) (Then place a rest) = phrase_faults env a ++ row_faults env takes rest
  row_faults env (TakesArray ∷ takes) (Then place a rest) = handed env place a (phrase_faults env a) ++ row_faults env takes rest

-- the whole of an expression statement, which alone may be the call of a void function
abbrev pub whole_faults : Environment → Phrase One → List Fault
whole_faults env (Call f row) = called true (row_length row) f (named f.bytes env) ++ row_faults env (wanted_by env (named f.bytes env)) row
whole_faults env e = phrase_faults env e

-- a target is a scalar or an element
abbrev pub target_faults : Environment → Place → Phrase One → List Fault
target_faults env place (Use x) = changed place x (named x.bytes env)
target_faults env place (Element a i) = indexed a (named a.bytes env) ++ phrase_faults env i
target_faults env place e = fault_if true 12 place ++ phrase_faults env e

abbrev pub action_faults : Environment → Action → List Fault
action_faults env (Evaluate e) = whole_faults env e
action_faults env (Assign t e) = target_faults env t.place t.phrase ++ phrase_faults env e
action_faults env (Compound t operator e) = target_faults env t.place t.phrase ++ phrase_faults env e
action_faults env (Increase t) = target_faults env t.place t.phrase
action_faults env (Decrease t) = target_faults env t.place t.phrase

abbrev pub test_faults : Environment → Option (Phrase One) → List Fault
test_faults env None = []
test_faults env (Some e) = phrase_faults env e

-- statements, in a function that gives so, inside of a loop or not

abbrev pub declares : Environment → Name → List Fault
declares env x = fault_if (is_taken x.bytes env) 6 x.place

abbrev pub sizes_faults : Size → List Fault
sizes_faults size = fault_if (nat_eq size.words 0) 13 size.place

abbrev pub prints : Place → Place → List ℕ → ℕ → List Fault
prints at at_format format n = fault_if (not (nat_eq n (numbers_of format))) 8 at ++ fault_if (not (is_format format)) 9 at_format

abbrev pub code_faults : Gives → (loops : Bool) → Environment → Code → List Fault
code_faults gives loops env Nothing = []
code_faults gives loops env (Seq a b) = code_faults gives loops env a ++ code_faults gives loops (behind a env) b
code_faults gives loops env Empty = []
code_faults gives loops env (Block a) = code_faults gives loops (inside env) a
code_faults gives loops env (Scalar x) = declares env x
code_faults gives loops env (ScalarWith x e) = phrase_faults env e ++ declares env x
code_faults gives loops env (Array a size) = declares env a ++ sizes_faults size
code_faults gives loops env (Simply a) = action_faults env a
code_faults gives loops env (Head a) = action_faults env a
code_faults gives loops env (Print at at_format format row) = prints at at_format format (row_length row) ++ row_faults env [] row
code_faults gives loops env (If e a) = phrase_faults env e ++ code_faults gives loops (inside env) a
code_faults gives loops env (IfElse e a b) =
    phrase_faults env e ++ (code_faults gives loops (inside env) a ++ code_faults gives loops (inside (outside env (behind a (inside env)))) b)
code_faults gives loops env (While e a) = phrase_faults env e ++ code_faults gives true (inside env) a
code_faults gives loops env (DoWhile a e) = phrase_faults env e ++ code_faults gives true (inside env) a
code_faults gives loops env (For first test step a) =
    code_faults gives loops (inside env) first
    ++ (test_faults (behind first (inside env)) test
    ++ (code_faults gives loops (behind first (inside env)) step ++ code_faults gives true (inside (behind first (inside env))) a))
code_faults gives loops env (Break at) = fault_if (not loops) 11 at
code_faults gives loops env (Continue at) = fault_if (not loops) 11 at
code_faults gives loops env (Return at) = fault_if (gives_int gives) 7 at
code_faults gives loops env (ReturnValue at e) = fault_if (not (gives_int gives)) 7 at ++ phrase_faults env e

-- functions and globals

abbrev pub parameter_faults : Environment → List Parameter → List Fault
parameter_faults env [] = []
parameter_faults env (q ∷ qs) = declares env q.name ++ parameter_faults (with_parameter q env) qs

abbrev pub function_faults : Environment → Function → List Fault
function_faults env f = parameter_faults env f.parameters ++ code_faults f.gives false (with_parameters f.parameters env) f.body

-- a name of the file that is predeclared or stands already above
abbrev pub is_repeated : List FileName → List ℕ → Bool
is_repeated above x = if is_predeclared x then true else list_any (λ n. same_name x n.name) above

-- a definition with so many definitions above it
abbrev pub definition_faults : Program → (above : ℕ) → Definition → List Fault
definition_faults p above (GlobalScalar x z) = fault_if (is_repeated (take above (names_of p)) x.bytes) 6 x.place
definition_faults p above (GlobalArray x size) = fault_if (is_repeated (take above (names_of p)) x.bytes) 6 x.place ++ sizes_faults size
definition_faults p above (AFunction f) =
    fault_if (is_repeated (take above (names_of p)) f.name.bytes) 6 f.name.place ++ function_faults (at_function p above) f

abbrev pub definitions_faults : Program → (above : ℕ) → List Definition → List Fault
definitions_faults p above [] = []
definitions_faults p above (d ∷ ds) = definition_faults p above d ++ definitions_faults p (above + 1) ds

-- an `int` function `main` without parameters
abbrev pub is_main : Definition → Bool
is_main (GlobalScalar x z) = false
is_main (GlobalArray x size) = false
is_main (AFunction f) = same_name (codes "main") f.name.bytes && (gives_int f.gives && nat_eq (length f.parameters) 0)

-- all faults of a program
abbrev pub faults_of : Program → List Fault
faults_of p = definitions_faults p 0 p.definitions ++ fault_if (not (list_any is_main p.definitions)) 10 p.end

-- the first fault

-- by line, then by column, then by code
abbrev pub stands_before : Fault → Fault → Bool
stands_before a b =
    if nat_lt a.place.line b.place.line then true
    else if nat_lt b.place.line a.place.line then false
    else if nat_lt a.place.column b.place.column then true
    else if nat_lt b.place.column a.place.column then false
    else nat_lt a.code b.code

abbrev pub earlier : Option Fault → Fault → Option Fault
earlier None b = Some b
earlier (Some a) b = Some (if stands_before b a then b else a)

-- the least of a fault that is there already and of faults
abbrev pub least : Option Fault → List Fault → Option Fault
least first [] = first
least first (f ∷ fs) = least (earlier first f) fs

abbrev pub first_fault : Program → Option Fault
first_fault p = least None (faults_of p)
