-- A finished graph has the code of a tree, from the rest of one block to the rest of another.
use Rattle.std.specs.Prelude.{◌≡◌, ℕ, ◌<◌, ◌≤◌, ℤ, pos, negsuc, true, false, List, [], ◌∷◌, Option, Some, None, slice_get}
use Rattle.vx_base.specs.declared.arithmetic.Code.{Code as Operator}
use Rattle.vx_base.specs.declared.arithmetic.Code.TheVariants.{Add, Sub, And, Or, Xor, Shl, Shr, Mov, ToGeneral, ToBranch, Mpylu, Mpyhs, Div, Rem}
use Rattle.vx_base.specs.declared.arithmetic.Compare.{Compare}
use Rattle.vx_base.specs.declared.arithmetic.Compare.TheVariants.{Eq, Ne, Lt, Le, Gt, Ge, Ltu}
use Rattle.vx_base.specs.declared.outcome.Trap.TheVariants.{Divide as ByDivide, Index as ByIndex, Input as ByInput}
use Rattle.vx_ast.specs.declared.tree.UnaryOperator.{UnaryOperator}
use Rattle.vx_ast.specs.declared.tree.UnaryOperator.TheVariants.{Minus, Plus, Not, Complement}
use Rattle.vx_ast.specs.declared.tree.BinaryOperator.{BinaryOperator}
use Rattle.vx_ast.specs.declared.tree.BinaryOperator.TheVariants.{Multiply, Divide, Remainder, Add as Adds, Subtract, ShiftLeft, ShiftRight, Less, LessEqual, Greater, GreaterEqual, Equal, NotEqual, BitAnd, BitXor, BitOr}
use Rattle.vx_ast.specs.Tree.{Shape, One, Row, Tree, Literal, Local, Global, Element, Unary, Binary, Both, Either, Choice, Apply, ReadInt, MoreInput, NoMore, Then, Hand}
use Rattle.vx_ast.specs.Meaning.{divides}
use Rattle.vx_flow.specs.declared.graph.Operand.{Operand}
use Rattle.vx_flow.specs.declared.graph.Operand.TheVariants.{Held, Number, Stack}
use Rattle.vx_flow.specs.declared.graph.Op.{Op}
use Rattle.vx_flow.specs.declared.graph.Op.TheVariants.{Compute, Load, More, Input, Base}
use Rattle.vx_flow.specs.declared.graph.Exit.{Exit}
use Rattle.vx_flow.specs.declared.graph.Exit.TheVariants.{Goto, Split, Call, Ends}
use Rattle.vx_flow.specs.declared.graph.Block.{Block}
use Rattle.vx_lower.specs.declared.seen.Seen.{Seen}
use Rattle.vx_lower.specs.declared.seen.Seen.TheVariants.{GlobalArray, OwnArray, Handed}
use Rattle.vx_lower.specs.Seen.{Sees, seen_at, size_at, place_op}

-- a point of a graph is the rest of a block

abbrev pub then_op : Op → Block → Block
then_op op q = record { ops = op ∷ q.ops; exit = q.exit }

abbrev pub ends : Exit → Block
ends e = record { ops = []; exit = e }

abbrev pub jump : ℕ → Block
jump b = ends (Goto b)

-- p is q, or comes to it by jumps
pub data Goes (B : List Block) (q : Block) : Block → Type 0 where
  same : {p : Block} → p ≡ q → Goes B q p
  on : {p : Block} (b : ℕ) (r : Block) → p ≡ jump b → slice_get B b ≡ Some r → Goes B q r → Goes B q p

-- the operand is a number or a value below n
abbrev pub IsBelow : ℕ → Operand → Type 0
IsBelow n (Held v) = v < n
IsBelow n (Number z) = Unit {0}
IsBelow n Stack = ⊥

-- an operation answers a test in c, and there are two ways on
pub record Tests (B : List Block) (op : Op) (c : ℕ) (p yes no : Block) : Type 0 where
  pub test : Block
  pub y : ℕ
  pub n : ℕ
  pub goes : Goes B (then_op op test) p
  pub splits : Goes B (ends (Split c y n)) test
  pub at_yes : slice_get B y ≡ Some yes
  pub at_no : slice_get B n ≡ Some no

-- the index in o is tested against the size of array a, and its place is in t, which is below the test
pub record Checks (B : List Block) (words : Sees) (a lo t : ℕ) (o : Operand) (p q : Block) : Type 0 where
  pub place : Block
  pub no : Block
  pub c : ℕ
  pub goes : Goes B (then_op (place_op words t a o) place) p
  pub tests : Tests B (Compute (ToBranch Ltu) c o (size_at words a)) c place q no
  pub stops : Goes B (ends (Ends ByIndex)) no
  pub free : IsBelow t o
  pub above : t < c
  pub fresh : lo ≤ t

-- the operation of an operator
abbrev pub unary_op : UnaryOperator → ℕ → Operand → Op
unary_op Minus t o = Compute Sub t (Number (pos 0)) o
unary_op Plus t o = Compute Mov t o (Number (pos 0))
unary_op Not t o = Compute (ToGeneral Eq) t o (Number (pos 0))
unary_op Complement t o = Compute Xor t o (Number (negsuc 0))

-- a product is no single operation
abbrev pub operation_of : BinaryOperator → Option Operator
operation_of Multiply = None
operation_of Divide = Some Div
operation_of Remainder = Some Rem
operation_of Adds = Some Add
operation_of Subtract = Some Sub
operation_of ShiftLeft = Some Shl
operation_of ShiftRight = Some Shr
operation_of Less = Some (ToGeneral Lt)
operation_of LessEqual = Some (ToGeneral Le)
operation_of Greater = Some (ToGeneral Gt)
operation_of GreaterEqual = Some (ToGeneral Ge)
operation_of Equal = Some (ToGeneral Eq)
operation_of NotEqual = Some (ToGeneral Ne)
operation_of BitAnd = Some And
operation_of BitXor = Some Xor
operation_of BitOr = Some Or

abbrev pub comparison_of : BinaryOperator → Option Compare
comparison_of Less = Some Lt
comparison_of LessEqual = Some Le
comparison_of Greater = Some Gt
comparison_of GreaterEqual = Some Ge
comparison_of Equal = Some Eq
comparison_of NotEqual = Some Ne
comparison_of operator = None

-- from m on an operator is done to two operands below `at`, its result comes into t, and the code goes on at q
pub data Combines (B : List Block) (at : ℕ) : BinaryOperator → Operand → Operand → Block → ℕ → Block → Type 0 where
  single : {operator : BinaryOperator} {a b : Operand} {m q : Block} {t : ℕ} (code : Operator) → operation_of operator ≡ Some code → divides operator ≡ false → Goes B (then_op (Compute code t a b) q) m → Combines B at operator a b m t q
  product : {a b : Operand} {m n r q : Block} {t u v : ℕ} → at ≤ u → u < v → Goes B (then_op (Compute Mpylu u a b) n) m → Goes B (then_op (Compute Mpyhs v a b) r) n → Goes B (then_op (Compute Add t (Held u) (Held v)) q) r → Combines B at Multiply a b m t q
  quotient : {operator : BinaryOperator} {a b : Operand} {m y no q : Block} {t c : ℕ} (code : Operator) → operation_of operator ≡ Some code → divides operator ≡ true → at ≤ c → Tests B (Compute (ToBranch Ne) c b (Number (pos 0))) c m y no → Goes B (ends (Ends ByDivide)) no → Goes B (then_op (Compute code t a b) q) y → Combines B at operator a b m t q

-- what becomes of an expression's value: it stands in operands, or in a value that is named, or it is tested
pub data Way : Shape → Type 0 where
  To : {k : Shape} → List Operand → Block → Way k
  Into : ℕ → Block → Way One
  Tested : (yes no : Block) → Way One

-- the last operation writes t, and then q comes
pub data Lands (lo : ℕ) : Way One → ℕ → Block → Type 0 where
  fresh : {t : ℕ} {q : Block} → lo ≤ t → Lands lo (To (Held t ∷ []) q) t q
  into : {t : ℕ} {q : Block} → Lands lo (Into t q) t q

-- where array a stands is in v, which is one of the own values below mid, or was handed over
pub data Bases (B : List Block) (a lo mid : ℕ) : Seen → ℕ → Block → Block → Type 0 where
  of_global : {words v : ℕ} {p q : Block} → lo ≤ v → v < mid → Goes B (then_op (Base v a (Number (pos 0))) q) p → Bases B a lo mid (GlobalArray words) v p q
  of_own : {words v : ℕ} {p q : Block} → lo ≤ v → v < mid → Goes B (then_op (Base v a Stack) q) p → Bases B a lo mid (OwnArray words) v p q
  given : {base size : ℕ} {p : Block} → lo ≤ mid → Bases B a lo mid (Handed base size) base p p

-- the code of an expression, or of a row of arguments; its own values are not below lo
pub data Holds (B : List Block) (words : Sees) : (k : Shape) → Tree k → Block → Way k → ℕ → Type 0 where
  literal : {z : ℤ} {p : Block} {lo : ℕ} → Holds B words One (Literal z) p (To (Number z ∷ []) p) lo
  local : {x : ℕ} {p : Block} {lo : ℕ} → Holds B words One (Local x) p (To (Held x ∷ []) p) lo
  global : {a u lo : ℕ} {p q : Block} {w : Way One} → Goes B (then_op (Load u a (Number (pos 0)) false) q) p → Lands lo w u q → Holds B words One (Global a) p w lo
  element : {a t u lo : ℕ} {i : Tree One} {o : Operand} {p m y q : Block} {w : Way One} → Holds B words One i p (To (o ∷ []) m) lo → Checks B words a lo t o m y → Goes B (then_op (Load u a (Held t) false) q) y → Lands lo w u q → Holds B words One (Element a i) p w lo
  plus : {a : Tree One} {p : Block} {w : Way One} {lo : ℕ} → Holds B words One a p w lo → Holds B words One (Unary Plus a) p w lo
  unary : {operator : UnaryOperator} {a : Tree One} {o : Operand} {p m q : Block} {w : Way One} {t lo : ℕ} → Holds B words One a p (To (o ∷ []) m) lo → Goes B (then_op (unary_op operator t o) q) m → Lands lo w t q → Holds B words One (Unary operator a) p w lo
  binary : {operator : BinaryOperator} {a b : Tree One} {oa ob : Operand} {p m n q : Block} {w : Way One} {t lo mid at : ℕ} → Holds B words One a p (To (oa ∷ []) m) lo → lo ≤ mid → IsBelow mid oa → Holds B words One b m (To (ob ∷ []) n) mid → mid ≤ at → IsBelow at ob → Combines B at operator oa ob n t q → Lands lo w t q → Holds B words One (Binary operator a b) p w lo
  both : {a b : Tree One} {ob : Operand} {p y no z end last q : Block} {w : Way One} {t lo mid : ℕ} → Holds B words One a p (Tested y no) lo → lo ≤ mid → Holds B words One b y (To (ob ∷ []) z) mid → Goes B (then_op (Compute (ToGeneral Ne) t ob (Number (pos 0))) end) z → Goes B q end → Goes B (then_op (Compute Mov t (Number (pos 0)) (Number (pos 0))) last) no → Goes B q last → Lands lo w t q → Holds B words One (Both a b) p w lo
  either : {a b : Tree One} {ob : Operand} {p yes n z end last q : Block} {w : Way One} {t lo mid : ℕ} → Holds B words One a p (Tested yes n) lo → lo ≤ mid → Holds B words One b n (To (ob ∷ []) z) mid → Goes B (then_op (Compute (ToGeneral Ne) t ob (Number (pos 0))) end) z → Goes B q end → Goes B (then_op (Compute Mov t (Number (pos 1)) (Number (pos 0))) last) yes → Goes B q last → Lands lo w t q → Holds B words One (Either a b) p w lo
  choice : {c a b : Tree One} {p y n ya nb q : Block} {w : Way One} {t lo mid next : ℕ} → Holds B words One c p (Tested y n) lo → lo ≤ mid → Holds B words One a y (Into t ya) mid → Goes B q ya → lo ≤ next → Holds B words One b n (Into t nb) next → Goes B q nb → Lands lo w t q → Holds B words One (Choice c a b) p w lo
  apply : {f t next lo : ℕ} {row : Tree Row} {os : List Operand} {p m q : Block} {w : Way One} → Holds B words Row row p (To os m) lo → Goes B (ends (Call f os (Some t) next)) m → slice_get B next ≡ Some q → Lands lo w t q → Holds B words One (Apply f row) p w lo
  read_int : {t v c lo : ℕ} {p m y no q : Block} {w : Way One} → lo ≤ v → lo ≤ c → Goes B (then_op (More v) m) p → Tests B (Compute (ToBranch Ne) c (Held v) (Number (pos 0))) c m y no → Goes B (ends (Ends ByInput)) no → Goes B (then_op (Input t) q) y → Lands lo w t q → Holds B words One ReadInt p w lo
  more_input : {t lo : ℕ} {p q : Block} {w : Way One} → Goes B (then_op (More t) q) p → Lands lo w t q → Holds B words One MoreInput p w lo
  -- a value that is moved into another
  copied : {e : Tree One} {o : Operand} {p m q : Block} {t lo : ℕ} → Holds B words One e p (To (o ∷ []) m) lo → Goes B (then_op (Compute Mov t o (Number (pos 0))) q) m → Holds B words One e p (Into t q) lo
  -- tests
  tested : {e : Tree One} {o : Operand} {p m yes no : Block} {c lo : ℕ} → Holds B words One e p (To (o ∷ []) m) lo → lo ≤ c → Tests B (Compute (ToBranch Ne) c o (Number (pos 0))) c m yes no → Holds B words One e p (Tested yes no) lo
  compared : {operator : BinaryOperator} {a b : Tree One} {oa ob : Operand} {p m n yes no : Block} {c lo mid : ℕ} (compare : Compare) → comparison_of operator ≡ Some compare → Holds B words One a p (To (oa ∷ []) m) lo → lo ≤ mid → IsBelow mid oa → Holds B words One b m (To (ob ∷ []) n) mid → lo ≤ c → Tests B (Compute (ToBranch compare) c oa ob) c n yes no → Holds B words One (Binary operator a b) p (Tested yes no) lo
  turned : {a : Tree One} {p yes no : Block} {lo : ℕ} → Holds B words One a p (Tested no yes) lo → Holds B words One (Unary Not a) p (Tested yes no) lo
  both_tested : {a b : Tree One} {p y n yb nb yes no : Block} {lo mid : ℕ} → Holds B words One a p (Tested y n) lo → Goes B no n → lo ≤ mid → Holds B words One b y (Tested yb nb) mid → Goes B yes yb → Goes B no nb → Holds B words One (Both a b) p (Tested yes no) lo
  either_tested : {a b : Tree One} {p y n yb nb yes no : Block} {lo mid : ℕ} → Holds B words One a p (Tested y n) lo → Goes B yes y → lo ≤ mid → Holds B words One b n (Tested yb nb) mid → Goes B yes yb → Goes B no nb → Holds B words One (Either a b) p (Tested yes no) lo
  -- rows
  no_more : {p : Block} {lo : ℕ} → Holds B words Row NoMore p (To [] p) lo
  then : {a : Tree One} {rest : Tree Row} {o : Operand} {os : List Operand} {p m q : Block} {lo mid : ℕ} → Holds B words One a p (To (o ∷ []) m) lo → lo ≤ mid → IsBelow mid o → Holds B words Row rest m (To os q) mid → Holds B words Row (Then a rest) p (To (o ∷ os) q) lo
  -- an array that is handed over: where it stands, and how many words it has
  hand : {a v : ℕ} {rest : Tree Row} {os : List Operand} {p m q : Block} {lo mid : ℕ} → Bases B a lo mid (seen_at words a) v p m → lo ≤ mid → Holds B words Row rest m (To os q) mid → Holds B words Row (Hand a rest) p (To (Held v ∷ size_at words a ∷ os) q) lo
