-- A graph that is being made is well shaped at all times: what its operations and exits name is there and of its kind,
-- and where a split leads no other edge leads.
use Rattle.std.specs.Prelude.{◌≡◌, ◌⊎◌, ℕ, suc, ◌+◌, ◌*◌, ◌<◌, ◌≤◌, pos, false, Option, Some, None, List, [], ◌∷◌, ◌++◌, length, map, count_by, slice_get}
use Rattle.vx_base.specs.declared.arithmetic.Code.{Code}
use Rattle.vx_base.specs.declared.arithmetic.Code.TheVariants.{Mov, ToBranch}
use Rattle.vx_ast.specs.Accepted.{nodes_of, action_nodes, takes_of_row}
use Rattle.vx_ast.specs.declared.tree.Takes.{Takes as Kind}
use Rattle.vx_ast.specs.declared.tree.Takes.TheVariants.{Number as TakesNumber, Array as TakesArray}
use Rattle.vx_ast.specs.Tree.{One, Row, Tree, Action}
use Rattle.vx_flow.specs.declared.graph.Bank.{Bank}
use Rattle.vx_flow.specs.declared.graph.Bank.TheVariants.{General, Branch}
use Rattle.vx_flow.specs.declared.graph.Operand.{Operand}
use Rattle.vx_flow.specs.declared.graph.Operand.TheVariants.{Held, Number, Stack}
use Rattle.vx_flow.specs.declared.graph.Op.{Op}
use Rattle.vx_flow.specs.declared.graph.Op.TheVariants.{Compute, Place, Load, Store, More, Input, Text, Decimal, Base, PlaceIn}
use Rattle.vx_flow.specs.declared.graph.Exit.{Exit}
use Rattle.vx_flow.specs.declared.graph.Exit.TheVariants.{Goto, Split, Call, Return, Ends}
use Rattle.vx_flow.specs.declared.graph.Block.{Block}
use Rattle.vx_flow.specs.Effects.{IsIn}
use Rattle.vx_flow.specs.Sound.{MakesPlace, targets_of}
use Rattle.vx_lower.specs.FlowOf.{is_general, is_branch}
use Rattle.vx_lower.specs.declared.seen.Seen.{Seen}
use Rattle.vx_lower.specs.declared.seen.Seen.TheVariants.{GlobalArray, OwnArray, Handed}
use Rattle.vx_lower.specs.Seen.{Sees, seen_at}
use Rattle.vx_lower.specs.Builds.{Ready}
use Rattle.vx_lower.specs.Emits.{Spare}
use Rattle.vx_lower.specs.Does.{Change, By, Up, Down}
use Rattle.vx_lower.specs.Named.{Known, TakesArguments, IsThere, IsGlobal, IsNamed, ChangeNamed, ActionNamed}
use Rattle.vx_lower.specs.declared.builder.Builder.{Builder}

-- what a value is for: a number, the answer of a compare, the place of an element of an array, or where an array stands
pub data Role : Type 0 where
  Scalar : Role
  Test : Role
  PlaceOf : ℕ → Role
  Stand : Role

abbrev pub bank_of_role : Role → Bank
bank_of_role Scalar = General
bank_of_role Test = Branch
bank_of_role (PlaceOf a) = General
bank_of_role Stand = General

-- value v has this role
abbrev pub HasRole : List Role → ℕ → Role → Type 0
HasRole roles v role = slice_get roles v ≡ Some role

-- operations

abbrev pub OperandFits : List Role → Operand → Type 0
OperandFits roles (Held v) = HasRole roles v Scalar
OperandFits roles (Number n) = Unit {0}
OperandFits roles Stack = ⊥

-- array a is accessed at a place of its own, or, where it is a global, at a number
abbrev pub PlaceFits : {words : Sees} → Known words → List Role → ℕ → Operand → Type 0
PlaceFits k roles a (Held v) = HasRole roles v (PlaceOf a)
PlaceFits k roles a (Number n) = IsGlobal k a
PlaceFits k roles a Stack = ⊥

-- a place of this array is not made by a base
abbrev pub NotHanded : Seen → Type 0
NotHanded (GlobalArray n) = Unit {0}
NotHanded (OwnArray n) = Unit {0}
NotHanded (Handed base size) = ⊥

-- a base is made from 0 for a global, and from the stack pointer for an array of the function's own
abbrev pub FromFits : Seen → Operand → Type 0
FromFits (GlobalArray n) x = x ≡ Number (pos 0)
FromFits (OwnArray n) x = x ≡ Stack
FromFits (Handed base size) x = ⊥

-- value v is the base of an array that is handed over
abbrev pub IsHandedBase : Sees → ℕ → Type 0
IsHandedBase words v = (a : ℕ) × (size : ℕ) × (slice_get words.arrays a ≡ Some (Handed v size))

-- a place is made by the base of this array
abbrev pub BaseFits : Seen → ℕ → Type 0
BaseFits (GlobalArray n) u = ⊥
BaseFits (OwnArray n) u = ⊥
BaseFits (Handed base size) u = u ≡ base

abbrev pub role_written : Code → Role
role_written (ToBranch compare) = Test
role_written code = Scalar

-- what stands as the right operand of a move is 0
abbrev pub RightFits : List Role → Code → Operand → Type 0
RightFits roles Mov o = o ≡ Number (pos 0)
RightFits roles code o = OperandFits roles o

-- there are so many texts; what is named is there and of its kind
abbrev pub OpFits : {words : Sees} → Known words → (texts : ℕ) → List Role → Op → Type 0
OpFits k texts roles (Compute code t a b) = HasRole roles t (role_written code) × OperandFits roles a × RightFits roles code b
OpFits {words} k texts roles (Place t a i) = HasRole roles t (PlaceOf a) × IsThere k a × OperandFits roles i × NotHanded (seen_at words a)
OpFits k texts roles (Load t a p dismissible) = HasRole roles t Scalar × IsThere k a × PlaceFits k roles a p × (dismissible ≡ false)
OpFits k texts roles (Store a p o) = IsThere k a × PlaceFits k roles a p × OperandFits roles o
OpFits k texts roles (More t) = HasRole roles t Scalar
OpFits k texts roles (Input t) = HasRole roles t Scalar
OpFits k texts roles (Text n) = n < texts
OpFits k texts roles (Decimal o) = OperandFits roles o
OpFits {words} k texts roles (Base t a x) = HasRole roles t Stand × IsThere k a × FromFits (seen_at words a) x × (IsHandedBase words t → ⊥)
OpFits {words} k texts roles (PlaceIn t a u i) = HasRole roles t (PlaceOf a) × IsThere k a × BaseFits (seen_at words a) u × OperandFits roles i
OpFits k texts roles op = ⊥

-- an operation of the open block, or of one that is finished
pub data Has (blocks : List (Option Block)) (ops : List Op) (op : Op) : Type 0 where
  opened : IsIn op ops → Has blocks ops op
  finished : (i : ℕ) (x : Block) → slice_get blocks i ≡ Some (Some x) → IsIn op x.ops → Has blocks ops op

-- exits

abbrev pub TargetFits : (blocks : ℕ) → ℕ → Type 0
TargetFits blocks c = (0 < c) × (c < blocks)

abbrev pub ResultFits : List Role → Option ℕ → Type 0
ResultFits roles None = Unit {0}
ResultFits roles (Some v) = HasRole roles v Scalar

-- where an array stands
abbrev pub StandFits : List Role → Operand → Type 0
StandFits roles (Held v) = HasRole roles v Stand
StandFits roles (Number n) = ⊥
StandFits roles Stack = ⊥

abbrev pub AllFit : List Role → List Operand → Type 0
AllFit roles os = (o : Operand) → IsIn o os → OperandFits roles o

-- what is passed is what is taken: a number for a number, and for an array where it stands and how many words it has
abbrev pub ArgumentsFit : List Role → List Kind → List Operand → Type 0
ArgumentsFit roles [] [] = Unit {0}
ArgumentsFit roles [] (o ∷ os) = ⊥
ArgumentsFit roles (TakesNumber ∷ takes) [] = ⊥
ArgumentsFit roles (TakesNumber ∷ takes) (o ∷ os) = OperandFits roles o × ArgumentsFit roles takes os
ArgumentsFit roles (TakesArray ∷ takes) [] = ⊥
ArgumentsFit roles (TakesArray ∷ takes) (o ∷ []) = ⊥
ArgumentsFit roles (TakesArray ∷ takes) (b ∷ o ∷ os) = StandFits roles b × OperandFits roles o × ArgumentsFit roles takes os

abbrev pub ExitFits : {words : Sees} → Known words → List Role → (blocks : ℕ) → Exit → Type 0
ExitFits k roles blocks (Goto c) = TargetFits blocks c
ExitFits k roles blocks (Split test c d) = HasRole roles test Test × TargetFits blocks c × TargetFits blocks d × (c ≡ d → ⊥)
ExitFits k roles blocks (Call f os result c) = ((takes : List Kind) × TakesArguments k f takes × ArgumentsFit roles takes os) × ResultFits roles result × TargetFits blocks c
ExitFits k roles blocks (Return o) = OperandFits roles o
ExitFits k roles blocks (Ends trap) = Unit {0}

abbrev pub split_targets : Exit → List ℕ
split_targets (Split test c d) = c ∷ d ∷ []
split_targets exit = []

-- graphs

-- the operation makes value v a base
abbrev pub MakesStand : ℕ → Op → Type 0
MakesStand v op = (a : ℕ) × (x : Operand) × (op ≡ Base v a x)

pub record Fits {words : Sees} (k : Known words) (texts : ℕ) (roles : List Role) (b : Builder) : Type 0 where
  pub banks : b.banks ≡ map bank_of_role roles
  pub scalars : (v : ℕ) → v < words.scalars → HasRole roles v Scalar
  -- the values of what is handed over
  pub handed : (a base size : ℕ) → seen_at words a ≡ Handed base size → HasRole roles base Stand × HasRole roles size Scalar
  pub some : 0 < length b.blocks
  pub ops : (op : Op) → Has b.blocks b.ops op → OpFits k texts roles op
  pub exits : (i : ℕ) (x : Block) → slice_get b.blocks i ≡ Some (Some x) → ExitFits k roles (length b.blocks) x.exit
  pub traps : (i : ℕ) (x : Block) → slice_get b.blocks i ≡ Some (Some x) → (trap : _) → x.exit ≡ Ends trap → x.ops ≡ []
  -- where a split leads no other edge leads
  pub single : (i j : ℕ) (x y : Block) (c : ℕ) → slice_get b.blocks i ≡ Some (Some x) → slice_get b.blocks j ≡ Some (Some y) → IsIn c (split_targets x.exit) → IsIn c (targets_of y.exit) → i ≡ j
  -- each place is made, and each value that holds where an array stands, but those that are handed over
  pub made : (v a : ℕ) → HasRole roles v (PlaceOf a) → (op : Op) × MakesPlace v a op × Has b.blocks b.ops op
  pub stands : (v : ℕ) → HasRole roles v Stand → IsHandedBase words v ⊎ ((op : Op) × MakesStand v op × Has b.blocks b.ops op)

-- the graph fits, and the open block is not finished
pub record Shaped {words : Sees} (k : Known words) (texts : ℕ) (roles : List Role) (b : Builder) : Type 0 where
  pub ready : Ready b
  pub fits : Fits k texts roles b

-- no split leads to c, so that jumps may
pub record Free (b : Builder) (c : ℕ) : Type 0 where
  pub above : 0 < c
  pub below : c < length b.blocks
  pub unsplit : (i : ℕ) (x : Block) → slice_get b.blocks i ≡ Some (Some x) → IsIn c (split_targets x.exit) → ⊥

-- the graph still fits; at most so many values of each bank were taken
pub record Keeps {words : Sees} (k : Known words) (texts : ℕ) (roles later : List Role) (generals branches : ℕ) (old new : Builder) : Type 0 where
  pub shaped : Shaped k texts later new
  pub kept : (v : ℕ) (role : Role) → HasRole roles v role → HasRole later v role
  pub free : (c : ℕ) → Free old c → Free new c
  pub spare : (n : ℕ) → Spare old n → Spare new n
  pub longer : length old.blocks ≤ length new.blocks
  pub general_values : count_by is_general new.banks ≤ count_by is_general old.banks + generals
  pub branch_values : count_by is_branch new.banks ≤ count_by is_branch old.banks + branches

-- the value that is wanted is a scalar
abbrev pub DestFits : List Role → Option ℕ → Type 0
DestFits roles None = Unit {0}
DestFits roles (Some t) = HasRole roles t Scalar

-- value v has this role then
pub record Takes {words : Sees} (k : Known words) (texts : ℕ) (roles : List Role) (role : Role) (v generals branches : ℕ) (old new : Builder) : Type 0 where
  pub later : List Role
  pub keeps : Keeps k texts roles later generals branches old new
  pub has : HasRole later v role

-- the check of an index, whose place is in v
abbrev pub ChecksWell : (words : Sees) → (array : ℕ) (index : Operand) (v : ℕ) (old new : Builder) → Type 0
ChecksWell words array index v old new = (k : Known words) (texts : ℕ) (roles : List Role) → Shaped k texts roles old → IsThere k array → OperandFits roles index → Takes k texts roles (PlaceOf array) v 1 1 old new

-- where an array stands that is handed over
abbrev pub StandsWell : (words : Sees) → (array v : ℕ) (old new : Builder) → Type 0
StandsWell words array v old new = (k : Known words) (texts : ℕ) (roles : List Role) → Shaped k texts roles old → IsThere k array → Takes k texts roles Stand v 1 0 old new

-- an operator done to two operands
abbrev pub CombinesWell : (left right : Operand) (dest : Option ℕ) (v : ℕ) (old new : Builder) → Type 0
CombinesWell left right dest v old new = (words : Sees) (k : Known words) (texts : ℕ) (roles : List Role) → Shaped k texts roles old → OperandFits roles left → OperandFits roles right → DestFits roles dest → Takes k texts roles Scalar v 3 1 old new

-- an operand, made of so many nodes
pub record Gives {words : Sees} (k : Known words) (texts : ℕ) (roles : List Role) (nodes : ℕ) (o : Operand) (old new : Builder) : Type 0 where
  pub later : List Role
  pub generals : ℕ
  pub branches : ℕ
  pub keeps : Keeps k texts roles later generals branches old new
  pub operand : OperandFits later o
  pub few_generals : suc generals ≤ 3 * nodes
  pub few_branches : suc branches ≤ 2 * nodes

-- the code of an expression
abbrev pub EmitsWell : (words : Sees) → Tree One → Option ℕ → Operand → Builder → Builder → Type 0
EmitsWell words e dest o old new = (k : Known words) (texts : ℕ) (roles : List Role) → Shaped k texts roles old → IsNamed k e → DestFits roles dest → Gives k texts roles (nodes_of e) o old new

-- a test made of so many nodes: n waits
pub record Asks {words : Sees} (k : Known words) (texts : ℕ) (roles : List Role) (nodes n : ℕ) (old new : Builder) : Type 0 where
  pub later : List Role
  pub generals : ℕ
  pub branches : ℕ
  pub keeps : Keeps k texts roles later generals branches old new
  pub waits : Spare new n
  pub late : length old.blocks ≤ n
  pub moved : length old.blocks ≤ new.current
  pub few_generals : suc generals ≤ 3 * nodes
  pub few_branches : branches ≤ 2 * nodes

-- the code of a test
abbrev pub TestsWell : (words : Sees) → Tree One → (n : ℕ) → Builder → Builder → Type 0
TestsWell words e n old new = (k : Known words) (texts : ℕ) (roles : List Role) → Shaped k texts roles old → IsNamed k e → Asks k texts roles (nodes_of e) n old new

-- the operands of a row
pub record GivesAll {words : Sees} (k : Known words) (texts : ℕ) (roles : List Role) (row : Tree Row) (os : List Operand) (old new : Builder) : Type 0 where
  pub later : List Role
  pub generals : ℕ
  pub branches : ℕ
  pub keeps : Keeps k texts roles later generals branches old new
  pub operands : ArgumentsFit later (takes_of_row row) os
  pub few_generals : generals ≤ 3 * nodes_of row
  pub few_branches : branches ≤ 2 * nodes_of row

-- the code of a row of arguments
abbrev pub RowsWell : (words : Sees) → Tree Row → List Operand → Builder → Builder → Type 0
RowsWell words row os old new = (k : Known words) (texts : ℕ) (roles : List Role) → Shaped k texts roles old → IsNamed k row → GivesAll k texts roles row os old new

-- the code of more arguments, and what is passed with them
pub record GivesBehind {words : Sees} (k : Known words) (texts : ℕ) (roles : List Role) (row : Tree Row) (before after : List Operand) (old new : Builder) : Type 0 where
  pub own : List Operand
  pub is : after ≡ before ++ own
  pub gives : GivesAll k texts roles row own old new

abbrev pub BehindWell : (words : Sees) → Tree Row → (before after : List Operand) → Builder → Builder → Type 0
BehindWell words row before after old new = (k : Known words) (texts : ℕ) (roles : List Role) → Shaped k texts roles old → IsNamed k row → GivesBehind k texts roles row before after old new

abbrev pub change_nodes : Change → ℕ
change_nodes (By operator e) = nodes_of e
change_nodes Up = 0
change_nodes Down = 0

-- the new value of a target, which is made of the old one, in `from`
abbrev pub AltersWell : (words : Sees) → Change → (from : Operand) → Option ℕ → (t : ℕ) → Builder → Builder → Type 0
AltersWell words c from dest t old new = (k : Known words) (texts : ℕ) (roles : List Role) → Shaped k texts roles old → ChangeNamed k c → OperandFits roles from → DestFits roles dest → Takes k texts roles Scalar t (3 * change_nodes c + 2) (2 * change_nodes c) old new

-- what was made of so many nodes
pub record Made {words : Sees} (k : Known words) (texts : ℕ) (roles : List Role) (nodes : ℕ) (old new : Builder) : Type 0 where
  pub later : List Role
  pub keeps : Keeps k texts roles later (3 * nodes) (2 * nodes) old new

-- the code of a simple statement
abbrev pub ActsWell : (words : Sees) → Action → Builder → Builder → Type 0
ActsWell words a old new = (k : Known words) (texts : ℕ) (roles : List Role) → Shaped k texts roles old → ActionNamed k a → Made k texts roles (action_nodes a) old new
