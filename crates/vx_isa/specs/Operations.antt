-- What each operation names, which unit it takes and how long its result may take.
use Rattle.std.specs.Prelude.{ℕ, Bool, true, false, ◌&&◌, not, ◌==◌, if◌then◌else◌, List, [], ◌∷◌, ◌++◌, Option, Some, None}
use Rattle.vx_base.specs.declared.arithmetic.Code.{Code}
use Rattle.vx_base.specs.declared.arithmetic.Code.TheVariants.{ToBranch, Mpylu, Mpyhs, Div, Rem}
use Rattle.vx_isa.specs.declared.operation.Register.{Register}
use Rattle.vx_isa.specs.declared.operation.Register.TheVariants.{General, Branch, Link}
use Rattle.vx_isa.specs.declared.operation.UnitKind.{UnitKind}
use Rattle.vx_isa.specs.declared.operation.UnitKind.TheVariants.{Alu, Multiply, Memory, Copies, Control}
use Rattle.vx_isa.specs.declared.operation.Source.{Source}
use Rattle.vx_isa.specs.declared.operation.Source.TheVariants.{Held, Number}
use Rattle.vx_isa.specs.declared.operation.Operation.{Operation}
use Rattle.vx_isa.specs.declared.operation.Operation.TheVariants.{Compute, Move, Select, Load, Store, Input, More, OutText, OutDecimal, OutByte, Goto, BranchOn, Call, Return, FromLink, ToLink, EndByTrap, Halt}
use Rattle.vx_isa.specs.Numbers.{Numbers}

-- registers

abbrev pub same : Register → Register → Bool
same (General r) (General q) = (r.cluster == q.cluster) && (r.number == q.number)
same (General r) (Branch q) = false
same (General r) Link = false
same (Branch r) (General q) = false
same (Branch r) (Branch q) = (r.cluster == q.cluster) && (r.number == q.number)
same (Branch r) Link = false
same Link (General q) = false
same Link (Branch q) = false
same Link Link = true

-- general register 0 of a cluster
abbrev pub is_zero : Register → Bool
is_zero (General r) = r.number == 0
is_zero (Branch r) = false
is_zero Link = false

abbrev pub cluster_of_register : Register → ℕ
cluster_of_register (General r) = r.cluster
cluster_of_register (Branch r) = r.cluster
cluster_of_register Link = 0

abbrev pub is_general : Register → Bool
is_general (General r) = true
is_general (Branch r) = false
is_general Link = false

-- operations

abbrev pub cluster_of : Operation → ℕ
cluster_of (Compute k code to a b) = k
cluster_of (Move k to a) = k
cluster_of (Select k to t a b) = k
cluster_of (Load k to o r d) = k
cluster_of (Store k o r a) = k
cluster_of (Input to) = 0
cluster_of (More to) = 0
cluster_of (OutText n) = 0
cluster_of (OutDecimal a) = 0
cluster_of (OutByte a) = 0
cluster_of (Goto p) = 0
cluster_of (BranchOn t w p) = 0
cluster_of (Call p) = 0
cluster_of Return = 0
cluster_of (FromLink to) = 0
cluster_of (ToLink a) = 0
cluster_of (EndByTrap k) = 0
cluster_of (Halt a) = 0

abbrev pub read_of : Source → List Register
read_of (Held r) = General r ∷ []
read_of (Number z) = []

-- the registers that an operation reads, in the order of its form, repeats kept
abbrev pub reads_of : Operation → List Register
reads_of (Compute k code to a b) = read_of a ++ read_of b
reads_of (Move k to a) = read_of a
reads_of (Select k to t a b) = Branch t ∷ (read_of a ++ read_of b)
reads_of (Load k to o r d) = General r ∷ []
reads_of (Store k o r a) = General r ∷ read_of a
reads_of (Input to) = []
reads_of (More to) = []
reads_of (OutText n) = []
reads_of (OutDecimal a) = read_of a
reads_of (OutByte a) = read_of a
reads_of (Goto p) = []
reads_of (BranchOn t w p) = Branch (record { cluster = 0; number = t }) ∷ []
reads_of (Call p) = []
reads_of Return = Link ∷ []
reads_of (FromLink to) = Link ∷ []
reads_of (ToLink a) = read_of a
reads_of (EndByTrap k) = []
reads_of (Halt a) = read_of a

-- the register that an operation writes
abbrev pub destination_of : Operation → Option Register
destination_of (Compute k code to a b) = Some to
destination_of (Move k to a) = Some (General to)
destination_of (Select k to t a b) = Some (General to)
destination_of (Load k to o r d) = Some (General to)
destination_of (Store k o r a) = None
destination_of (Input to) = Some (General to)
destination_of (More to) = Some (General to)
destination_of (OutText n) = None
destination_of (OutDecimal a) = None
destination_of (OutByte a) = None
destination_of (Goto p) = None
destination_of (BranchOn t w p) = None
destination_of (Call p) = Some Link
destination_of Return = None
destination_of (FromLink to) = Some (General to)
destination_of (ToLink a) = Some Link
destination_of (EndByTrap k) = None
destination_of (Halt a) = None

abbrev pub list_of : Option Register → List Register
list_of None = []
list_of (Some r) = r ∷ []

abbrev pub is_call : Operation → Bool
is_call (Call p) = true
is_call op = false

-- units

abbrev pub same_unit : UnitKind → UnitKind → Bool
same_unit Alu Alu = true
same_unit Multiply Multiply = true
same_unit Memory Memory = true
same_unit Copies Copies = true
same_unit Control Control = true
same_unit a b = false

abbrev pub unit_of_code : Code → UnitKind
unit_of_code Mpylu = Multiply
unit_of_code Mpyhs = Multiply
unit_of_code Div = Multiply
unit_of_code Rem = Multiply
unit_of_code code = Alu

-- a move whose source stands on another cluster is a copy across
abbrev pub comes_from : ℕ → Source → Bool
comes_from k (Held r) = r.cluster == k
comes_from k (Number z) = true

abbrev pub unit_of : Operation → UnitKind
unit_of (Compute k code to a b) = unit_of_code code
unit_of (Move k to a) = if comes_from k a then Alu else Copies
unit_of (Select k to t a b) = Alu
unit_of (Load k to o r d) = Memory
unit_of (Store k o r a) = Memory
unit_of (Input to) = Memory
unit_of (More to) = Memory
unit_of (OutText n) = Memory
unit_of (OutDecimal a) = Memory
unit_of (OutByte a) = Memory
unit_of (Goto p) = Control
unit_of (BranchOn t w p) = Control
unit_of (Call p) = Control
unit_of Return = Control
unit_of (FromLink to) = Alu
unit_of (ToLink a) = Alu
unit_of (EndByTrap k) = Control
unit_of (Halt a) = Control

-- the operations by which a program meets its input and its output
abbrev pub is_observable : Operation → Bool
is_observable (Input to) = true
is_observable (More to) = true
is_observable (OutText n) = true
is_observable (OutDecimal a) = true
is_observable (OutByte a) = true
is_observable op = false

abbrev pub is_control : Operation → Bool
is_control op = same_unit (unit_of op) Control

-- `br` and `brf`
abbrev pub is_branch : Operation → Bool
is_branch (BranchOn t w p) = true
is_branch op = false

-- the control operations that no other one may stand beside: a goto, a call, a return and an end
abbrev pub is_lone : Operation → Bool
is_lone op = is_control op && not (is_branch op)

-- cycles from the issue of an operation until its result has landed at the latest; 0 where it has none
abbrev pub latency_of_code : Numbers → Code → ℕ
latency_of_code m (ToBranch compare) = m.latency_compare
latency_of_code m Mpylu = m.latency_multiply
latency_of_code m Mpyhs = m.latency_multiply
latency_of_code m Div = m.latency_divide
latency_of_code m Rem = m.latency_divide
latency_of_code m code = m.latency_alu

abbrev pub latency_of : Numbers → Operation → ℕ
latency_of m (Compute k code to a b) = latency_of_code m code
latency_of m (Move k to a) = if comes_from k a then m.latency_alu else m.latency_copy
latency_of m (Select k to t a b) = m.latency_alu
latency_of m (Load k to o r d) = m.latency_load
latency_of m (Store k o r a) = 0
latency_of m (Input to) = m.latency_load
latency_of m (More to) = m.latency_load
latency_of m (OutText n) = 0
latency_of m (OutDecimal a) = 0
latency_of m (OutByte a) = 0
latency_of m (Goto p) = 0
latency_of m (BranchOn t w p) = 0
latency_of m (Call p) = 0
latency_of m Return = 0
latency_of m (FromLink to) = m.latency_alu
latency_of m (ToLink a) = m.latency_alu
latency_of m (EndByTrap k) = 0
latency_of m (Halt a) = 0
