-- The laws of unrolling. Some are of loops unrolled wherever they are, so that they say nothing of which ones are.
use Rattle.std.specs.Prelude.{◌≡◌, ℕ, ◌≤◌, ℤ, true, List, [], ◌∷◌, map, Option, Some, None}
use Rattle.vx_base.specs.Outcome.{Same, Begins}
use Rattle.vx_ast.specs.Tree.{One, Tree, Action, Code, Nothing, Seq, Block, Head, If, IfElse, While, DoWhile, For, Function, Program}
use Rattle.vx_ast.specs.Accepted.{is_accepted}
use Rattle.vx_ast.specs.Meaning.{Store, Part, With, Trapped, Going, Calls, Argument, does, source}
use Rattle.vx_unroll.specs.Unrolling.{turns_of, while_body, function_words, unrolled_function, unrolled_program, UnrolledBy}

-- the step of a `for` as a part of its head
abbrev pub step_code : Option Action → Code
step_code None = Nothing
step_code (Some a) = Head a

-- some loops unrolled, whichever
pub data Unrolls (more : ℕ) : Code → Code → Type 0 where
  Kept : (c : Code) → Unrolls more c c
  InSeq : (a b c d : Code) → Unrolls more a c → Unrolls more b d → Unrolls more (Seq a b) (Seq c d)
  InBlock : (a c : Code) → Unrolls more a c → Unrolls more (Block a) (Block c)
  InIf : (e : Tree One) (a c : Code) → Unrolls more a c → Unrolls more (If e a) (If e c)
  InIfElse : (e : Tree One) (a b c d : Code) → Unrolls more a c → Unrolls more b d → Unrolls more (IfElse e a b) (IfElse e c d)
  InWhile : (e : Tree One) (a c : Code) → Unrolls more a c → Unrolls more (While e a) (While e c)
  InDoWhile : (e : Tree One) (a c : Code) → Unrolls more a c → Unrolls more (DoWhile a e) (DoWhile c e)
  InFor : (first : Code) (test : Option (Tree One)) (step a c : Code) → Unrolls more a c → Unrolls more (For first test step a) (For first test step c)
  AWhile : (e : Tree One) (a : Code) → Unrolls more (While e a) (While e (while_body more e a))
  AFor : (first : Code) (test : Option (Tree One)) (step : Option Action) (a : Code) → Unrolls more (For first test (step_code step) a) (For first test (step_code step) (Block (turns_of more test step a)))

pub data AllUnroll (more : ℕ) : List Function → List Function → Type 0 where
  NoneLeft : AllUnroll more [] []
  AndMore : (f : Function) (body : Code) (fs gs : List Function) → Unrolls more f.body body → AllUnroll more fs gs → AllUnroll more (f ∷ fs) (record f { body = body } ∷ gs)

-- the output at the end of a part, and what ends alike within some other bound, or has printed no less
abbrev pub printed_by : {A : Type 0} → Part A → List ℕ
printed_by (With a s) = s.out
printed_by (Trapped k out) = out
printed_by (Going out) = out

abbrev pub EndsSo : {A : Type 0} → Part A → Part A → Type 0
EndsSo (With a s) y = y ≡ With a s
EndsSo (Trapped k out) y = y ≡ Trapped k out
EndsSo (Going out) y = Begins out (printed_by y)

-- a statement with loops unrolled, from every state: in as many turns it does no less, and the old one does as much in
-- some number of turns. What is called takes no output back
abbrev pub StatementsKeep : Type 0
StatementsKeep = (more : ℕ) (c d : Code) → Unrolls more c d → (spot : ℕ → ℕ) (calls : Calls) → ((f : ℕ) (xs : List Argument) (s : Store) → Begins s.out (printed_by (calls f xs s))) → (n : ℕ) (s : Store) → EndsSo (does spot calls n c s) (does spot calls n d s) × ((m : ℕ) × EndsSo (does spot calls n d s) (does spot calls m c s))

-- whichever loops of a program are unrolled, it ends and prints alike
abbrev pub UnrollingKeeps : Type 0
UnrollingKeeps = (more : ℕ) (p : Program) (functions : List Function) → AllUnroll more p.functions functions → (input : List ℤ) → Same (source p input) (source (record p { functions = functions }) input)

-- so does the program whose loops are unrolled where there is room
abbrev pub UnrolledIsSame : Type 0
UnrolledIsSame = (k : ℕ) (p : Program) (input : List ℤ) → Same (source p input) (source (unrolled_program k p) input)

-- it is accepted where the program was: no name of it is out of force, and nothing is over its limit
abbrev pub UnrolledIsAccepted : Type 0
UnrolledIsAccepted = (k : ℕ) (p : Program) → is_accepted p ≡ true → is_accepted (unrolled_program k p) ≡ true

-- nor do its functions declare more than 8,192 words of arrays where those of the program did not
abbrev pub WordsStayWithin : Type 0
WordsStayWithin = (k globals : ℕ) (f : Function) → function_words globals f ≤ 8192 → function_words globals (unrolled_function k globals f) ≤ 8192

-- its functions have their names and their numbers
abbrev pub names : Program → List (List ℕ)
names p = map (λ f. f.name) p.functions

abbrev pub NamesStay : Type 0
NamesStay = (k : ℕ) (p : Program) → names (unrolled_program k p) ≡ names p

-- where unrolling is asked or not: the program ends and prints alike, and its functions have their names
abbrev pub UnrolledByIsSame : Type 0
UnrolledByIsSame = (asked : Option ℕ) (p q : Program) → UnrolledBy asked p q → (input : List ℤ) → Same (source p input) (source q input)

abbrev pub NamesStayBy : Type 0
NamesStayBy = (asked : Option ℕ) (p q : Program) → UnrolledBy asked p q → names q ≡ names p
