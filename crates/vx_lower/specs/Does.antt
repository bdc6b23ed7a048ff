-- A finished graph has the code of a statement, from the rest of one block to the rest of another.
use Rattle.std.specs.Prelude.{◌≡◌, ℕ, ◌<◌, ◌≤◌, pos, List, [], ◌∷◌, ◌++◌, map, Bool, true, false, Option, Some, None, length, slice_get}
use Rattle.vx_base.specs.declared.arithmetic.Code.TheVariants.{Add, Sub, Mov, ToBranch}
use Rattle.vx_base.specs.declared.arithmetic.Compare.TheVariants.{Lt}
use Rattle.vx_ast.specs.declared.tree.BinaryOperator.{BinaryOperator}
use Rattle.vx_ast.specs.Tree.{Shape, One, Row, Tree, Apply, Place, InLocal, InGlobal, InElement, Action, Evaluate, Assign, Compound, Increase, Decrease, Code, Nothing, Seq, Empty, Block as Braces, Clear, Declare, ClearArray, Simply, Head, Print, If, IfElse, While, DoWhile, For, Break, Continue, Return, ReturnValue}
use Rattle.vx_ast.specs.Meaning.{Piece, AByte, ANumber, pieces_of}
use Rattle.vx_flow.specs.declared.graph.Operand.{Operand}
use Rattle.vx_flow.specs.declared.graph.Operand.TheVariants.{Held, Number}
use Rattle.vx_flow.specs.declared.graph.Op.TheVariants.{Compute, Place as Places, Load, Store, Text, Decimal}
use Rattle.vx_flow.specs.declared.graph.Exit.TheVariants.{Call, Return as Returns}
use Rattle.vx_flow.specs.declared.graph.Block.{Block}
use Rattle.vx_lower.specs.Seen.{Sees, size_at}
use Rattle.vx_lower.specs.Holds.{Goes, IsBelow, Tests, Checks, Combines, To, Into, Tested, Holds, then_op, ends, jump}

-- how the new value of a target follows from the old one
pub data Change : Type 0 where
  By : BinaryOperator → Tree One → Change
  Up : Change
  Down : Change

abbrev pub action_of : Place → Change → Action
action_of target (By operator e) = Compound target operator e
action_of target Up = Increase target
action_of target Down = Decrease target

-- from p on the new value is made of the old one, which is below lo, and comes into t
pub data Changes (B : List Block) (words : Sees) (lo : ℕ) (old : Operand) : Change → Block → ℕ → Block → Type 0 where
  by : {operator : BinaryOperator} {e : Tree One} {o : Operand} {p m q : Block} {t at : ℕ} → Holds B words One e p (To (o ∷ []) m) lo → lo ≤ at → IsBelow at o → Combines B at operator old o m t q → Changes B words lo old (By operator e) p t q
  up : {p q : Block} {t : ℕ} → Goes B (then_op (Compute Add t old (Number (pos 1))) q) p → Changes B words lo old Up p t q
  down : {p q : Block} {t : ℕ} → Goes B (then_op (Compute Sub t old (Number (pos 1))) q) p → Changes B words lo old Down p t q

abbrev pub is_call : {k : Shape} → Tree k → Bool
is_call (Apply f row) = true
is_call t = false

-- vars: the values from here on hold neither scalars nor what was handed over
pub data Acts (B : List Block) (words : Sees) (vars : ℕ) : Action → Block → Block → Type 0 where
  evaluate : {e : Tree One} {os : List Operand} {p q : Block} {lo : ℕ} → is_call e ≡ false → Holds B words One e p (To os q) lo → vars ≤ lo → Acts B words vars (Evaluate e) p q
  -- a call whose result is not used
  call : {f next lo : ℕ} {row : Tree Row} {os : List Operand} {p m q : Block} → Holds B words Row row p (To os m) lo → vars ≤ lo → Goes B (ends (Call f os None next)) m → slice_get B next ≡ Some q → Acts B words vars (Evaluate (Apply f row)) p q
  assign_local : {x lo : ℕ} {e : Tree One} {p q : Block} → Holds B words One e p (Into x q) lo → vars ≤ lo → Acts B words vars (Assign (InLocal x) e) p q
  assign_global : {a lo : ℕ} {e : Tree One} {o : Operand} {p m q : Block} → Holds B words One e p (To (o ∷ []) m) lo → vars ≤ lo → Goes B (then_op (Store a (Number (pos 0)) o) q) m → Acts B words vars (Assign (InGlobal a) e) p q
  assign_element : {a t lo next : ℕ} {i e : Tree One} {oi oe : Operand} {p m y z q : Block} → Holds B words One i p (To (oi ∷ []) m) lo → vars ≤ lo → Checks B words a vars t oi m y → t < next → vars ≤ next → Holds B words One e y (To (oe ∷ []) z) next → Goes B (then_op (Store a (Held t) oe) q) z → Acts B words vars (Assign (InElement a i) e) p q
  change_local : {x lo : ℕ} {c : Change} {p q : Block} → vars ≤ lo → x < lo → Changes B words lo (Held x) c p x q → Acts B words vars (action_of (InLocal x) c) p q
  change_global : {a u t lo : ℕ} {c : Change} {p m z q : Block} → Goes B (then_op (Load u a (Number (pos 0)) false) m) p → vars ≤ u → u < lo → vars ≤ lo → Changes B words lo (Held u) c m t z → vars ≤ t → Goes B (then_op (Store a (Number (pos 0)) (Held t)) q) z → Acts B words vars (action_of (InGlobal a) c) p q
  change_element : {a u t v lo next : ℕ} {i : Tree One} {c : Change} {oi : Operand} {p m y n z q : Block} → Holds B words One i p (To (oi ∷ []) m) lo → vars ≤ lo → Checks B words a vars t oi m y → Goes B (then_op (Load u a (Held t) false) n) y → t < u → u < next → vars ≤ next → Changes B words next (Held u) c n v z → t < v → vars ≤ v → Goes B (then_op (Store a (Held t) (Held v)) q) z → Acts B words vars (action_of (InElement a i) c) p q

-- all words of an array are set to 0, one after the other
pub record Zeroes (B : List Block) (size : Operand) (vars a : ℕ) (p q : Block) : Type 0 where
  pub i : ℕ
  pub t : ℕ
  pub c : ℕ
  pub h : ℕ
  pub first : Block
  pub head : Block
  pub yes : Block
  pub no : Block
  pub store : Block
  pub step : Block
  pub last : Block
  pub starts : Goes B (then_op (Compute Mov i (Number (pos 0)) (Number (pos 0))) first) p
  pub enters : Goes B (jump h) first
  pub at_head : slice_get B h ≡ Some head
  pub tests : Tests B (Compute (ToBranch Lt) c (Held i) size) c head yes no
  pub places : Goes B (then_op (Places t a (Held i)) store) yes
  pub stores : Goes B (then_op (Store a (Held t) (Number (pos 0))) step) store
  pub steps : Goes B (then_op (Compute Add i (Held i) (Number (pos 1))) last) step
  pub again : Goes B (jump h) last
  pub ends_at : Goes B q no
  pub above : vars ≤ i
  pub apart_c : i < c
  pub apart_t : i < t

-- the pieces of a format are printed, the numbers from operands, the bytes by texts of the program
pub data Shows (B : List Block) (texts : List (List ℕ)) : List Piece → List Operand → Block → Block → Type 0 where
  done : {os : List Operand} {p q : Block} → Goes B q p → Shows B texts [] os p q
  number : {pieces : List Piece} {o : Operand} {os : List Operand} {p m q : Block} → Goes B (then_op (Decimal o) m) p → Shows B texts pieces os m q → Shows B texts (ANumber ∷ pieces) (o ∷ os) p q
  bytes : {pieces : List Piece} {os : List Operand} {p m q : Block} (n : ℕ) (text : List ℕ) → slice_get texts n ≡ Some text → Goes B (then_op (Text n) m) p → Shows B texts pieces os m q → Shows B texts (map AByte text ++ pieces) os p q

-- the test of a loop, where there is one
pub data Asks (B : List Block) (words : Sees) (vars : ℕ) : Option (Tree One) → Block → Block → Block → Type 0 where
  always : {p yes no : Block} → Goes B yes p → Asks B words vars None p yes no
  asks : {e : Tree One} {p yes no : Block} {lo : ℕ} → Holds B words One e p (Tested yes no) lo → vars ≤ lo → Asks B words vars (Some e) p yes no

-- out: where a break leads; more: where a continue leads
pub data Does (B : List Block) (words : Sees) (texts : List (List ℕ)) (vars : ℕ) : Code → Block → Block → Block → Block → Type 0 where
  nothing : {p out more : Block} → Does B words texts vars Nothing p p out more
  seq : {a b : Code} {p m q out more : Block} → Does B words texts vars a p m out more → Does B words texts vars b m q out more → Does B words texts vars (Seq a b) p q out more
  empty : {p out more : Block} → Does B words texts vars Empty p p out more
  braces : {a : Code} {p q out more : Block} → Does B words texts vars a p q out more → Does B words texts vars (Braces a) p q out more
  clear : {x : ℕ} {p q out more : Block} → x < words.scalars → Goes B (then_op (Compute Mov x (Number (pos 0)) (Number (pos 0))) q) p → Does B words texts vars (Clear x) p q out more
  declare : {x lo : ℕ} {e : Tree One} {p q out more : Block} → Holds B words One e p (Into x q) lo → vars ≤ lo → x < words.scalars → Does B words texts vars (Declare x e) p q out more
  clear_array : {a : ℕ} {p q out more : Block} → a < length words.arrays → Zeroes B (size_at words a) vars a p q → Does B words texts vars (ClearArray a) p q out more
  simply : {a : Action} {p q out more : Block} → Acts B words vars a p q → Does B words texts vars (Simply a) p q out more
  head : {a : Action} {p q out more : Block} → Acts B words vars a p q → Does B words texts vars (Head a) p q out more
  print : {format : List ℕ} {row : Tree Row} {os : List Operand} {p m q out more : Block} {lo : ℕ} → Holds B words Row row p (To os m) lo → vars ≤ lo → Shows B texts (pieces_of format) os m q → Does B words texts vars (Print format row) p q out more
  choose : {e : Tree One} {a : Code} {p yes no m q out more : Block} {lo : ℕ} → Holds B words One e p (Tested yes no) lo → vars ≤ lo → Does B words texts vars a yes m out more → Goes B q m → Goes B q no → Does B words texts vars (If e a) p q out more
  choose_else : {e : Tree One} {a b : Code} {p yes no m n q out more : Block} {lo : ℕ} → Holds B words One e p (Tested yes no) lo → vars ≤ lo → Does B words texts vars a yes m out more → Goes B q m → Does B words texts vars b no n out more → Goes B q n → Does B words texts vars (IfElse e a b) p q out more
  while : {e : Tree One} {a : Code} {h : ℕ} {p head yes no m leaves q out more : Block} → Goes B (jump h) p → slice_get B h ≡ Some head → Asks B words vars (Some e) head yes no → Does B words texts vars a yes m leaves (jump h) → Goes B (jump h) m → Goes B q no → Goes B q leaves → Does B words texts vars (While e a) p q out more
  do_while : {e : Tree One} {a : Code} {h lo : ℕ} {p head m z yes no leaves again q out more : Block} → Goes B (jump h) p → slice_get B h ≡ Some head → Does B words texts vars a head m leaves again → Goes B z m → Goes B z again → Holds B words One e z (Tested yes no) lo → vars ≤ lo → Goes B (jump h) yes → Goes B q no → Goes B q leaves → Does B words texts vars (DoWhile a e) p q out more
  for : {first step a : Code} {test : Option (Tree One)} {h : ℕ} {p s head yes no m z n leaves again q out more : Block} → Does B words texts vars first p s out more → Goes B (jump h) s → slice_get B h ≡ Some head → Asks B words vars test head yes no → Does B words texts vars a yes m leaves again → Goes B z m → Goes B z again → Does B words texts vars step z n leaves (jump h) → Goes B (jump h) n → Goes B q no → Goes B q leaves → Does B words texts vars (For first test step a) p q out more
  break : {p q out more : Block} → Goes B out p → Does B words texts vars Break p q out more
  continue : {p q out more : Block} → Goes B more p → Does B words texts vars Continue p q out more
  return : {p q out more : Block} → Goes B (ends (Returns (Number (pos 0)))) p → Does B words texts vars Return p q out more
  return_value : {e : Tree One} {o : Operand} {p m q out more : Block} {lo : ℕ} → Holds B words One e p (To (o ∷ []) m) lo → vars ≤ lo → Goes B (ends (Returns o)) m → Does B words texts vars (ReturnValue e) p q out more
