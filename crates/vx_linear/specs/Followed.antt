-- The index form of each access of a trace. A form follows sums, differences, moves, shifts by a number and
-- multiplications by a number, each only where no join of the trace stands between the operation that reads a value and
-- the last one above that wrote it; every other value is a symbol.
use Rattle.std.specs.Prelude.{ℕ, zero, suc, ℤ, pos, Bool, true, false, ◌&&◌, not, nat_eq, if◌then◌else◌, Option, Some, None, List, [], ◌∷◌, slice_get}
use Rattle.std.specs.List.{list_any}
use Rattle.std.specs.Ordering.{int_eq}
use Rattle.vx_base.specs.Arithmetic.{quotient_of, value_of}
use Rattle.vx_base.specs.declared.arithmetic.Code.{Code}
use Rattle.vx_base.specs.declared.arithmetic.Code.TheVariants.{Add, Sub, Shl, Mov, Mpylu, Mpyhs}
use Rattle.vx_flow.specs.declared.graph.Operand.{Operand}
use Rattle.vx_flow.specs.declared.graph.Operand.TheVariants.{Held, Number, Stack}
use Rattle.vx_flow.specs.declared.graph.Op.TheVariants.{Compute, Place, Load, Store, PlaceIn}
use Rattle.vx_flow.specs.declared.graph.Array.{Array}
use Rattle.vx_flow.specs.declared.trace.TraceOp.{TraceOp}
use Rattle.vx_flow.specs.declared.trace.TraceOp.TheVariants.{Plain, Split}
use Rattle.vx_flow.specs.declared.trace.Trace.{Trace}
use Rattle.vx_flow.specs.Effects.{writes}
use Rattle.vx_flow.specs.Apart.{array_in}
use Rattle.vx_linear.specs.declared.form.Symbol.{Symbol}
use Rattle.vx_linear.specs.declared.form.Symbol.TheVariants.{Entry, Made, EntryPlace, MadePlace}
use Rattle.vx_linear.specs.declared.form.Form.{Form}
use Rattle.vx_linear.specs.declared.linear.Linear.{Linear}
use Rattle.vx_linear.specs.declared.known_values.Half.{Half}
use Rattle.vx_linear.specs.declared.known_values.Known.{Known}
use Rattle.vx_linear.specs.Linear.{constant, symbol, plus, minus, times, same}

-- what stands above a place of a trace, the nearest first: operations with their places, and joins
pub data Above : Type 0 where
  At : (place : ℕ) → TraceOp → Above
  Joined : Above

abbrev pub writes_it : ℕ → TraceOp → Bool
writes_it v (Plain op) = list_any (nat_eq v) (writes op)
writes_it v (Split test leaves_when edge live) = false

-- what a value is where it is not followed: what the last operation above that wrote it made, else what it held at the
-- start

abbrev pub made_or_entry : List Above → ℕ → Symbol
made_or_entry [] v = Entry v
made_or_entry (Joined ∷ above) v = made_or_entry above v
made_or_entry (At i op ∷ above) v = if writes_it v op then Made i else made_or_entry above v

abbrev pub made_or_entry_place : List Above → ℕ → Symbol
made_or_entry_place [] v = EntryPlace v
made_or_entry_place (Joined ∷ above) v = made_or_entry_place above v
made_or_entry_place (At i op ∷ above) v = if writes_it v op then MadePlace i else made_or_entry_place above v

abbrev pub plain : Linear → Known
plain a = record { linear = a; half = None }

abbrev pub number_in : Operand → Option ℤ
number_in (Held v) = None
number_in (Number n) = Some n
number_in Stack = None

-- the number that both are
abbrev pub common : Option ℤ → Option ℤ → Option ℤ
common None b = None
common (Some n) None = None
common (Some n) (Some m) = if int_eq n m then Some n else None

-- a low and a high half multiplication of operands with equal forms
abbrev pub are_two : Bool → Bool → Bool
are_two true b = not b
are_two false b = b

abbrev pub are_halves : Half → Half → Bool
are_halves h k = are_two h.is_high k.is_high && (same h.left.linear k.left.linear && same h.right.linear k.right.linear)

-- the product, where both left operands are one number, or both right operands
abbrev pub by_number : Option ℤ → Option ℤ → Half → Linear → Linear
by_number (Some n) right h sum = times n h.right.linear
by_number None (Some n) h sum = times n h.left.linear
by_number None None h sum = sum

abbrev pub product_or : Option Half → Option Half → Linear → Linear
product_or None k sum = sum
product_or (Some h) None sum = sum
product_or (Some h) (Some k) sum =
    if are_halves h k then by_number (common h.left.number k.left.number) (common h.right.number k.right.number) h sum else sum

-- by a number: times what the operation makes of 1 and the number
abbrev pub times_or : Option ℤ → Code → Linear → Linear → Linear
times_or None code a other = other
times_or (Some n) code a other = times (value_of code (pos 1) n) a

abbrev pub by_half : Bool → ℕ → Code → Operand → Operand → Known → Known → Known
by_half is_high i code a b x y = record {
  linear = times_or (number_in b) code x.linear (symbol (Made i));
  half = Some (record {
    is_high = is_high;
    left = record { number = number_in a; linear = x.linear };
    right = record { number = number_in b; linear = y.linear };
  });
}

-- the value that the operation at place i makes of two operands, by what is known of them
abbrev pub computed : ℕ → Code → Operand → Operand → Known → Known → Known
computed i Add a b x y = plain (product_or x.half y.half (plus x.linear y.linear))
computed i Sub a b x y = plain (minus x.linear y.linear)
computed i Mov a b x y = plain x.linear
computed i Shl a b x y = plain (times_or (number_in b) Shl x.linear (symbol (Made i)))
computed i Mpylu a b x y = by_half false i Mpylu a b x y
computed i Mpyhs a b x y = by_half true i Mpyhs a b x y
computed i code a b x y = plain (symbol (Made i))

abbrev pub made : ℕ → TraceOp → (Operand → Known) → Known
made i (Plain (Compute code v a b)) known = computed i code a b (known a) (known b)
made i op known = plain (symbol (Made i))

-- what is known of an operand below what stands above. No graph has the stack pointer as an operand
abbrev pub known : List Above → Operand → Known
known above (Number n) = plain (constant n)
known above Stack = plain (constant (pos 0))
known [] (Held v) = plain (symbol (Entry v))
known (Joined ∷ above) (Held v) = plain (symbol (made_or_entry above v))
known (At i op ∷ above) (Held v) = if writes_it v op then made i op (known above) else known above (Held v)

-- the index of a place: that of the operation that made the place of an element, else the place divided by 4 as a symbol

abbrev pub index_made : ℕ → TraceOp → List Above → Linear
index_made i (Plain (Place v a index)) above = (known above index).linear
index_made i (Plain (PlaceIn v a u index)) above = (known above index).linear
index_made i op above = symbol (MadePlace i)

abbrev pub index_of : List Above → Operand → Linear
index_of above (Number n) = constant (quotient_of n (pos 4))
index_of above Stack = constant (pos 0)
index_of [] (Held v) = symbol (EntryPlace v)
index_of (Joined ∷ above) (Held v) = symbol (made_or_entry_place above v)
index_of (At i op ∷ above) (Held v) = if writes_it v op then index_made i op above else index_of above (Held v)

-- traces

-- a join stands above the operation at this place, and below the one before it
abbrev pub is_join : Trace → ℕ → Bool
is_join t i = list_any (λ j. nat_eq j.place i) t.joins

abbrev pub join_at : Bool → List Above → List Above
join_at true above = Joined ∷ above
join_at false above = above

abbrev pub at_place : ℕ → Option TraceOp → List Above → List Above
at_place i None above = above
at_place i (Some op) above = At i op ∷ above

abbrev pub above_of : Trace → ℕ → List Above
above_of t zero = join_at (is_join t 0) []
above_of t (suc i) = join_at (is_join t (suc i)) (at_place i (slice_get t.ops i) (above_of t i))

abbrev pub form_with : Array → Linear → Form
form_with array a = record { array = array; constant = a.constant; terms = a.terms }

-- of the operation at place i, which names the array at p
abbrev pub access_form : Trace → ℕ → ℕ → Operand → Form
access_form t i a p = form_with (array_in t.arrays a) (index_of (above_of t i) p)

abbrev pub form_at : Trace → ℕ → TraceOp → Option Form
form_at t i (Plain (Load v a p dismissible)) = Some (access_form t i a p)
form_at t i (Plain (Store a p x)) = Some (access_form t i a p)
form_at t i op = None

-- the forms of the loads and stores, by their places
abbrev pub forms_from : Trace → ℕ → List TraceOp → List (Option Form)
forms_from t i [] = []
forms_from t i (op ∷ ops) = form_at t i op ∷ forms_from t (suc i) ops

unfoldable pub forms_of : Trace → List (Option Form)
forms_of t = forms_from t 0 t.ops
