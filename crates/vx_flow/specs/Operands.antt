-- What an operation is made of, for whoever asks nothing else of it: the values that it reads and the one that it writes, in
-- the order of its operands, and the same operation with other operands or other values. As lists the values are the `reads`
-- and `writes` of Effects (proofs/OperandLaws).
use Rattle.std.specs.Prelude.{ℕ, pos, Bool, true, false, if◌then◌else◌, Option, Some, None, List, [], ◌∷◌, ◌++◌}
use Rattle.vx_flow.specs.declared.graph.Operand.{Operand}
use Rattle.vx_flow.specs.declared.graph.Operand.TheVariants.{Held, Number, Stack}
use Rattle.vx_flow.specs.declared.graph.Op.{Op}
use Rattle.vx_flow.specs.declared.graph.Op.TheVariants.{Compute, Select, Place, Load, Store, More, Input, Text, Decimal, Across, Base, PlaceIn}
use Rattle.vx_flow.specs.declared.operands.Reads.{Reads}
use Rattle.vx_flow.specs.Effects.{is_unary}

-- the value that an operation writes

abbrev pub written_by : Op → Option ℕ
written_by (Compute code v a b) = Some v
written_by (Select v p a b) = Some v
written_by (Place v a i) = Some v
written_by (Load v a p dismissible) = Some v
written_by (Store a p x) = None
written_by (More v) = Some v
written_by (Input v) = Some v
written_by (Text n) = None
written_by (Decimal x) = None
written_by (Across v u) = Some v
written_by (Base v a x) = Some v
written_by (PlaceIn v a u i) = Some v

-- the values that an operation reads, at most three

abbrev pub held_by : Operand → Option ℕ
held_by (Held v) = Some v
held_by (Number n) = None
held_by Stack = None

abbrev pub reads_three : Option ℕ → Option ℕ → Option ℕ → Reads
reads_three u v w = record { first = u; second = v; third = w }

abbrev pub read_by : Op → Reads
read_by (Compute code v a b) = if is_unary code then reads_three (held_by a) None None else reads_three (held_by a) (held_by b) None
read_by (Select v p a b) = reads_three (Some p) (held_by a) (held_by b)
read_by (Place v a i) = reads_three (held_by i) None None
read_by (Load v a p dismissible) = reads_three (held_by p) None None
read_by (Store a p x) = reads_three (held_by p) (held_by x) None
read_by (More v) = reads_three None None None
read_by (Input v) = reads_three None None None
read_by (Text n) = reads_three None None None
read_by (Decimal x) = reads_three (held_by x) None None
read_by (Across v u) = reads_three (Some u) None None
read_by (Base v a x) = reads_three None None None
read_by (PlaceIn v a u i) = reads_three (held_by i) (Some u) None

-- the same as lists

abbrev pub value_list : Option ℕ → List ℕ
value_list None = []
value_list (Some v) = v ∷ []

abbrev pub values_read : Reads → List ℕ
values_read r = value_list r.first ++ (value_list r.second ++ value_list r.third)

-- the operands that an operation reads, in their order, and 0 for one that it has not. The right operand of a move is not read,
-- but is there; the test of a choice, the value of a copy across and the base of a place are no operands, nor is what a base is made from

abbrev pub first_operand : Op → Operand
first_operand (Compute code v a b) = a
first_operand (Select v p a b) = a
first_operand (Place v a i) = i
first_operand (PlaceIn v a u i) = i
first_operand (Load v a p dismissible) = p
first_operand (Store a p x) = p
first_operand (Decimal x) = x
first_operand op = Number (pos 0)

abbrev pub second_operand : Op → Operand
second_operand (Compute code v a b) = b
second_operand (Select v p a b) = b
second_operand (Store a p x) = x
second_operand op = Number (pos 0)

-- the operation with others in their places; the right operand of a move stays

abbrev pub with_two : Op → (first second : Operand) → Op
with_two (Compute code v a b) x y = Compute code v x (if is_unary code then b else y)
with_two (Select v p a b) x y = Select v p x y
with_two (Place v a i) x y = Place v a x
with_two (PlaceIn v a u i) x y = PlaceIn v a u x
with_two (Load v a p dismissible) x y = Load v a x dismissible
with_two (Store a p z) x y = Store a x y
with_two (Decimal z) x y = Decimal x
with_two op x y = op

abbrev pub with_operands : (Operand → Operand) → Op → Op
with_operands f op = with_two op (f (first_operand op)) (f (second_operand op))

-- the operation with other values throughout

abbrev pub with_value_in : (ℕ → ℕ) → Operand → Operand
with_value_in to (Held v) = Held (to v)
with_value_in to (Number n) = Number n
with_value_in to Stack = Stack

abbrev pub with_values : (ℕ → ℕ) → Op → Op
with_values to (Compute code v a b) = Compute code (to v) (with_value_in to a) (with_value_in to b)
with_values to (Select v p a b) = Select (to v) (to p) (with_value_in to a) (with_value_in to b)
with_values to (Place v a i) = Place (to v) a (with_value_in to i)
with_values to (Load v a p dismissible) = Load (to v) a (with_value_in to p) dismissible
with_values to (Store a p x) = Store a (with_value_in to p) (with_value_in to x)
with_values to (More v) = More (to v)
with_values to (Input v) = Input (to v)
with_values to (Text n) = Text n
with_values to (Decimal x) = Decimal (with_value_in to x)
with_values to (Across v u) = Across (to v) (to u)
with_values to (Base v a x) = Base (to v) a x
with_values to (PlaceIn v a u i) = PlaceIn (to v) a (to u) (with_value_in to i)

-- it reads or writes the streams of the program, so that its order among others can be seen

abbrev pub is_observable : Op → Bool
is_observable (More v) = true
is_observable (Input v) = true
is_observable (Text n) = true
is_observable (Decimal x) = true
is_observable op = false

-- the value that an operation writes on cluster 0 alone, if any: a choice's, whether input is left, the number read

abbrev pub binds : Op → Option ℕ
binds (Select v p a b) = Some v
binds op = if is_observable op then written_by op else None
