-- Items: operations on values and splits, as a word of a trace holds them; what each needs of a machine.
use Rattle.std.specs.Prelude.{ℕ, Bool, true, false, List, [], ◌∷◌}
use Rattle.vx_base.specs.declared.arithmetic.Code.TheVariants.{ToBranch}
use Rattle.vx_flow.specs.declared.graph.Operand.{Operand}
use Rattle.vx_flow.specs.declared.graph.Operand.TheVariants.{Held, Number, Stack}
use Rattle.vx_flow.specs.declared.graph.Op.{Op}
use Rattle.vx_flow.specs.declared.graph.Op.TheVariants.{Compute, Select, Place, Load, Store, More, Input, Text, Decimal, Across, Base, PlaceIn}
use Rattle.vx_flow.specs.declared.trace.TraceOp.{TraceOp}
use Rattle.vx_flow.specs.declared.trace.TraceOp.TheVariants.{Plain as PlainOf, Split as SplitOf}
use Rattle.vx_flow.specs.Operands.{is_observable}
use Rattle.vx_flow.specs.Sound.{operands_of}
use Rattle.vx_isa.specs.declared.operation.UnitKind.{UnitKind}
use Rattle.vx_isa.specs.declared.operation.UnitKind.TheVariants.{Alu, Memory, Copies, Control}
use Rattle.vx_isa.specs.Numbers.{Numbers}
use Rattle.vx_isa.specs.Operations.{unit_of_code, latency_of_code}
use Rattle.vx_room.specs.declared.items.Item.{Item}
use Rattle.vx_room.specs.declared.items.Item.TheVariants.{Plain, Split}

-- an operation of a trace, without what its edge says
abbrev pub item_of : TraceOp → Item
item_of (PlainOf op) = Plain op
item_of (SplitOf test leaves_when edge live) = Split test

-- the unit that an operation takes
abbrev pub unit_of_op : Op → UnitKind
unit_of_op (Compute code v a b) = unit_of_code code
unit_of_op (Select v p a b) = Alu
unit_of_op (Place v a i) = Alu
unit_of_op (Load v a p dismissible) = Memory
unit_of_op (Store a p x) = Memory
unit_of_op (More v) = Memory
unit_of_op (Input v) = Memory
unit_of_op (Text n) = Memory
unit_of_op (Decimal x) = Memory
unit_of_op (Across v u) = Copies
unit_of_op (Base v a x) = Alu
unit_of_op (PlaceIn v a u i) = Alu

abbrev pub unit_of_item : Item → UnitKind
unit_of_item (Plain op) = unit_of_op op
unit_of_item (Split p) = Control

-- the cycles until its result has landed at the latest; 0 where it has none
abbrev pub latency_of_op : Numbers → Op → ℕ
latency_of_op m (Compute code v a b) = latency_of_code m code
latency_of_op m (Select v p a b) = m.latency_alu
latency_of_op m (Place v a i) = m.latency_alu
latency_of_op m (Load v a p dismissible) = m.latency_load
latency_of_op m (Store a p x) = 0
latency_of_op m (More v) = m.latency_load
latency_of_op m (Input v) = m.latency_load
latency_of_op m (Text n) = 0
latency_of_op m (Decimal x) = 0
latency_of_op m (Across v u) = m.latency_copy
latency_of_op m (Base v a x) = m.latency_alu
latency_of_op m (PlaceIn v a u i) = m.latency_alu

abbrev pub latency_of_item : Numbers → Item → ℕ
latency_of_item m (Plain op) = latency_of_op m op
latency_of_item m (Split p) = 0

-- a program meets its input and its output by it
abbrev pub is_observable_item : Item → Bool
is_observable_item (Plain op) = is_observable op
is_observable_item (Split p) = false

abbrev pub is_split : Item → Bool
is_split (Plain op) = false
is_split (Split p) = true

-- the register of an address: the stack pointer where the place is a number
abbrev pub base_of : Operand → Operand
base_of (Number n) = Stack
base_of x = x

-- what an item reads of general registers, numbers and repeats kept; a place adds its index to the stack pointer, a
-- base is made from the stack pointer or 0, and a test is no general value
abbrev pub general_reads_of_op : Op → List Operand
general_reads_of_op (Place v a i) = i ∷ Stack ∷ []
general_reads_of_op (Load v a p dismissible) = base_of p ∷ []
general_reads_of_op (Store a p x) = base_of p ∷ x ∷ []
general_reads_of_op (Across v u) = Held u ∷ []
general_reads_of_op (Base v a x) = x ∷ []
general_reads_of_op op = operands_of op

abbrev pub general_reads : Item → List Operand
general_reads (Plain op) = general_reads_of_op op
general_reads (Split p) = []

-- a number takes no read port
abbrev pub takes_port : Operand → Bool
takes_port (Held v) = true
takes_port (Number n) = false
takes_port Stack = true

-- it writes a general value
abbrev pub writes_general_op : Op → Bool
writes_general_op (Compute (ToBranch compare) v a b) = false
writes_general_op (Store a p x) = false
writes_general_op (Text n) = false
writes_general_op (Decimal x) = false
writes_general_op op = true

abbrev pub writes_general : Item → Bool
writes_general (Plain op) = writes_general_op op
writes_general (Split p) = false
