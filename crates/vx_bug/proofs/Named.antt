-- What an operation names, by its value and its kind.
use Rattle.std.proofs.Common.{◌≡◌, refl, sym, ◌∙◌, ap, Bool, true, false, ◌||◌, nat_eq, if◌then◌else◌, Option, Some, None, List, [], ◌++◌, ℕ}
use Rattle.std.specs.List.{list_any}
use Rattle.vx_flow.specs.declared.graph.Operand.{Operand}
use Rattle.vx_flow.specs.declared.graph.Operand.TheVariants.{Held, Number, Stack}
use Rattle.vx_flow.specs.declared.graph.Op.{Op}
use Rattle.vx_flow.specs.declared.graph.Op.TheVariants.{Compute, Select, Place, Load, Store, More, Input, Text, Decimal, Across, Base, PlaceIn}
use Rattle.vx_flow.specs.declared.operands.Reads.{Reads}
use Rattle.vx_flow.specs.declared.trace.TraceOp.{TraceOp}
use Rattle.vx_flow.specs.declared.trace.TraceOp.TheVariants.{Plain, Split}
use Rattle.vx_flow.specs.Effects.{is_unary, value_in}
use Rattle.vx_flow.specs.Operands.{held_by, reads_three, read_by, value_list, values_read}
use Rattle.vx_flow.proofs.OperandLaws.{held_is}
use Rattle.vx_room.specs.Items.{item_of, writes_general}
use Rattle.vx_linear.specs.Followed.{writes_it}
use Rattle.vx_dep.specs.Delays.{reads_of, writes_of}
use Rattle.vx_dep.specs.Traits.{read, written}
use Rattle.vx_dep.proofs.Written.{reads_are, writes_are}
use Rattle.vx_bug.specs.Clusters.{general_reads, general_writes, some_of}
use Rattle.vx_bug.specs.Naming.{has_test}

pub reads_by : (op : TraceOp) (r : Reads) → r ≡ read op → reads_of op ≡ values_read r
reads_by op r e = sym (reads_are op) ∙ sym (ap values_read e)

pub writes_by : (op : TraceOp) (w : Option ℕ) → w ≡ written op → some_of w ≡ writes_of op
writes_by op w e = ap value_list e ∙ writes_are op

-- the general values among those that it reads

abbrev general_of : Bool → Reads → List ℕ
general_of true r = value_list r.second ++ value_list r.third
general_of false r = value_list r.first ++ value_list r.second

one : (x : Operand) → value_in x ≡ value_list (held_by x) ++ []
one (Held v) = refl
one (Number n) = refl
one Stack = refl

two : (x y : Operand) → value_in x ++ value_in y ≡ value_list (held_by x) ++ value_list (held_by y)
two x y = ap (λ vs. vs ++ value_in y) (sym (held_is x)) ∙ ap (λ vs. value_list (held_by x) ++ vs) (sym (held_is y))

computed : (unary : Bool) (x y : Operand) → (if unary then value_in x else value_in x ++ value_in y) ≡ general_of false (if unary then reads_three (held_by x) None None else reads_three (held_by x) (held_by y) None)
computed true x y = one x
computed false x y = two x y

general_is : (op : Op) → general_reads (Plain op) ≡ general_of (has_test (Plain op)) (read_by op)
general_is (Compute code v a b) = computed (is_unary code) a b
general_is (Select v test a b) = two a b
general_is (Place v a i) = one i
general_is (Load v a p dismissible) = one p
general_is (Store a p x) = two p x
general_is (More v) = refl
general_is (Input v) = refl
general_is (Text n) = refl
general_is (Decimal x) = one x
general_is (Across v u) = refl
general_is (Base v a x) = refl
general_is (PlaceIn v a u i) = two i (Held u)

general_by : (op : TraceOp) (r : Reads) → r ≡ read op → general_reads op ≡ general_of (has_test op) r
general_by (Plain op) r e = general_is op ∙ ap (general_of (has_test (Plain op))) (sym e)
general_by (Split test leaves_when edge live) r e = ap (general_of true) (sym e)

pub behind_test : (op : TraceOp) (r : Reads) → r ≡ read op → has_test op ≡ true → general_reads op ≡ some_of r.second ++ some_of r.third
behind_test op r e t = general_by op r e ∙ ap (λ b. general_of b r) t

pub without_test : (op : TraceOp) (r : Reads) → r ≡ read op → has_test op ≡ false → general_reads op ≡ some_of r.first ++ some_of r.second
without_test op r e t = general_by op r e ∙ ap (λ b. general_of b r) t

-- what it writes

pub general_writes_are : (op : TraceOp) (w : Option ℕ) → some_of w ≡ writes_of op → writes_general (item_of op) ≡ true → some_of w ≡ general_writes op
general_writes_are (Plain op) w e g = e ∙ sym (ap (λ b. if b then writes_of (Plain op) else []) g)
general_writes_are (Split test leaves_when edge live) w e g = e

pub no_general_writes : (op : TraceOp) → writes_general (item_of op) ≡ false → some_of None ≡ general_writes op
no_general_writes (Plain op) g = sym (ap (λ b. if b then writes_of (Plain op) else []) g)
no_general_writes (Split test leaves_when edge live) g = refl

any_of : (v : ℕ) (w : Option ℕ) (vs : List ℕ) → some_of w ≡ vs → list_any (nat_eq v) (some_of w) ≡ list_any (nat_eq v) vs
any_of v w vs e = ap (list_any (nat_eq v)) e

or_false : (b : Bool) → (b || false) ≡ b
or_false true = refl
or_false false = refl

-- whether it writes a value, by the value that it writes
pub writes_some : (v w : ℕ) (op : TraceOp) → some_of (Some w) ≡ writes_of op → nat_eq v w ≡ writes_it v op
writes_some v w (Plain op) e = sym (or_false (nat_eq v w)) ∙ any_of v (Some w) (writes_of (Plain op)) e
writes_some v w (Split test leaves_when edge live) e = absurd cc

pub writes_none : (v : ℕ) (op : TraceOp) → some_of None ≡ writes_of op → false ≡ writes_it v op
writes_none v (Plain op) e = any_of v None (writes_of (Plain op)) e
writes_none v (Split test leaves_when edge live) e = refl
