-- The symbols of each form of a trace ascend.
use Rattle.std.proofs.Common.{◌≡◌, ℕ, zero, suc, ℤ, pos, negsuc, refl, sym, ◌∙◌, ap, subst, Bool, true, false, not, ◌&&◌, if◌then◌else◌, Option, Some, None, List, [], ◌∷◌, slice_get}
use Rattle.std.specs.Ordering.{int_eq}
use Rattle.vx_base.specs.declared.arithmetic.Code.{Code}
use Rattle.vx_base.specs.declared.arithmetic.Code.TheVariants.{Add, Sub, And, Or, Xor, Shl, Shr, Shru, Sh2add, Max, Min, Mov, ToGeneral, ToBranch, Mpylu, Mpyhs, Div, Rem}
use Rattle.vx_base.specs.Arithmetic.{sum_of, product_of, value_of}
use Rattle.vx_flow.specs.declared.graph.Operand.{Operand}
use Rattle.vx_flow.specs.declared.graph.Operand.TheVariants.{Held, Number, Stack}
use Rattle.vx_flow.specs.declared.graph.Op.TheVariants.{Compute, Select, Place, Load, Store, More, Input, Text, Decimal, Across, Base, PlaceIn}
use Rattle.vx_flow.specs.declared.trace.TraceOp.{TraceOp}
use Rattle.vx_flow.specs.declared.trace.TraceOp.TheVariants.{Plain, Split}
use Rattle.vx_flow.specs.declared.trace.Trace.{Trace}
use Rattle.vx_linear.specs.declared.form.Symbol.{Symbol}
use Rattle.vx_linear.specs.declared.form.Symbol.TheVariants.{Entry, Made}
use Rattle.vx_linear.specs.declared.form.Term.{Term}
use Rattle.vx_linear.specs.declared.form.Form.{Form}
use Rattle.vx_linear.specs.declared.linear.Linear.{Linear}
use Rattle.vx_linear.specs.declared.known_values.Half.{Half}
use Rattle.vx_linear.specs.declared.known_values.Known.{Known}
use Rattle.vx_linear.specs.Forms.{is_before, is_same, is_before_all, is_ordered, AreOrdered}
use Rattle.vx_linear.specs.Linear.{constant, symbol, unless_zero, with_term, with_terms, scaled, plus, minus}
use Rattle.vx_linear.specs.Followed.{Above, At, Joined, writes_it, made_or_entry, plain, number_in, common, are_halves, by_number, product_or, times_or, by_half, computed, made, known, index_made, index_of, above_of, access_form, form_at, forms_from, forms_of}
use Rattle.vx_linear.proofs.Symbols.{ordered_rest, ordered_first, before_all_trans}
use Rattle.vx_linear.proofs.Merging.{before_back}

and_true : (x y : Bool) → x ≡ true → y ≡ true → (x && y) ≡ true
and_true x y e f = ap (λ b. b && y) e ∙ f

first_of : (x y : Bool) → (x && y) ≡ true → x ≡ true
first_of true y e = refl
first_of false y e = e

not_zero : (x : Bool) → not x ≡ true → x ≡ false
not_zero true e = sym e
not_zero false e = refl

-- terms

cons_ordered : (t : Term) (ts : List Term) → int_eq t.factor (pos 0) ≡ false → is_before_all t.symbol ts ≡ true → is_ordered ts ≡ true → is_ordered (t ∷ ts) ≡ true
cons_ordered t ts e b o = and_true (not (int_eq t.factor (pos 0)) && is_before_all t.symbol ts) (is_ordered ts) (and_true (not (int_eq t.factor (pos 0))) (is_before_all t.symbol ts) (ap not e) b) o

factor_of : (t : Term) (ts : List Term) → is_ordered (t ∷ ts) ≡ true → int_eq t.factor (pos 0) ≡ false
factor_of t ts o = not_zero (int_eq t.factor (pos 0)) (first_of (not (int_eq t.factor (pos 0))) (is_before_all t.symbol ts) (first_of (not (int_eq t.factor (pos 0)) && is_before_all t.symbol ts) (is_ordered ts) o))

unless_zero_ordered : (t : Term) (ts : List Term) → is_before_all t.symbol ts ≡ true → is_ordered ts ≡ true → is_ordered (unless_zero t ts) ≡ true
unless_zero_ordered t ts b o = by (int_eq t.factor (pos 0)) refl
  where
    by : (x : Bool) → int_eq t.factor (pos 0) ≡ x → is_ordered (if x then ts else t ∷ ts) ≡ true
    by true e = o
    by false e = cons_ordered t ts e b o

unless_zero_before : (x : Symbol) (t : Term) (ts : List Term) → is_before x t.symbol ≡ true → is_before_all x ts ≡ true → is_before_all x (unless_zero t ts) ≡ true
unless_zero_before x t ts b all = by (int_eq t.factor (pos 0))
  where
    by : (z : Bool) → is_before_all x (if z then ts else t ∷ ts) ≡ true
    by true = all
    by false = and_true (is_before x t.symbol) (is_before_all x ts) b all

abbrev joined : Term → Term → Term
joined t u = record { symbol = u.symbol; factor = sum_of t.factor u.factor }

first_before : (x : Symbol) (u : Term) (us : List Term) → is_before_all x (u ∷ us) ≡ true → is_before x u.symbol ≡ true
first_before x u us all = first_of (is_before x u.symbol) (is_before_all x us) all

rest_before : (x : Symbol) (u : Term) (us : List Term) → is_before_all x (u ∷ us) ≡ true → is_before_all x us ≡ true
rest_before x u us all = second (is_before x u.symbol) (is_before_all x us) all
  where
    second : (x y : Bool) → (x && y) ≡ true → y ≡ true
    second true y e = e
    second false y e = absurd (clash e)
      where
        clash : false ≡ true → ⊥
        clash e = cc

with_term_before : (x : Symbol) (t : Term) (ts : List Term) → is_before x t.symbol ≡ true → is_before_all x ts ≡ true → is_before_all x (with_term t ts) ≡ true
with_term_before x t [] b all = unless_zero_before x t [] b refl
with_term_before x t (u ∷ us) b all = by (is_before t.symbol u.symbol) (is_same t.symbol u.symbol) (with_term_before x t us b (rest_before x u us all))
  where
    by : (y z : Bool) → is_before_all x (with_term t us) ≡ true → is_before_all x (if y then unless_zero t (u ∷ us) else (if z then unless_zero (joined t u) us else u ∷ with_term t us)) ≡ true
    by true z more = unless_zero_before x t (u ∷ us) b all
    by false true more = unless_zero_before x (joined t u) us (first_before x u us all) (rest_before x u us all)
    by false false more = and_true (is_before x u.symbol) (is_before_all x (with_term t us)) (first_before x u us all) more

with_term_ordered : (t : Term) (ts : List Term) → is_ordered ts ≡ true → is_ordered (with_term t ts) ≡ true
with_term_ordered t [] o = unless_zero_ordered t [] refl refl
with_term_ordered t (u ∷ us) o = by (is_before t.symbol u.symbol) (is_same t.symbol u.symbol) refl refl (with_term_ordered t us (ordered_rest u us o))
  where
    by : (y z : Bool) → is_before t.symbol u.symbol ≡ y → is_same t.symbol u.symbol ≡ z → is_ordered (with_term t us) ≡ true → is_ordered (if y then unless_zero t (u ∷ us) else (if z then unless_zero (joined t u) us else u ∷ with_term t us)) ≡ true
    by true z e f more = unless_zero_ordered t (u ∷ us) (and_true (is_before t.symbol u.symbol) (is_before_all t.symbol us) e (before_all_trans t.symbol u.symbol us e (ordered_first u us o))) o
    by false true e f more = unless_zero_ordered (joined t u) us (ordered_first u us o) (ordered_rest u us o)
    by false false e f more = cons_ordered u (with_term t us) (factor_of u us o) (with_term_before u.symbol t us (before_back t.symbol u.symbol e f) (ordered_first u us o)) more

with_terms_ordered : (ts us : List Term) → is_ordered us ≡ true → is_ordered (with_terms ts us) ≡ true
with_terms_ordered [] us o = o
with_terms_ordered (t ∷ ts) us o = with_terms_ordered ts (with_term t us) (with_term_ordered t us o)

abbrev scaled_one : ℤ → Term → Term
scaled_one n t = record { symbol = t.symbol; factor = product_of n t.factor }

scaled_before : (x : Symbol) (n : ℤ) (ts : List Term) → is_before_all x ts ≡ true → is_before_all x (scaled n ts) ≡ true
scaled_before x n [] all = refl
scaled_before x n (t ∷ ts) all = unless_zero_before x (scaled_one n t) (scaled n ts) (first_before x t ts all) (scaled_before x n ts (rest_before x t ts all))

scaled_ordered : (n : ℤ) (ts : List Term) → is_ordered ts ≡ true → is_ordered (scaled n ts) ≡ true
scaled_ordered n [] o = refl
scaled_ordered n (t ∷ ts) o = unless_zero_ordered (scaled_one n t) (scaled n ts) (scaled_before t.symbol n ts (ordered_first t ts o)) (scaled_ordered n ts (ordered_rest t ts o))

-- what is known

record KnownOrdered (k : Known) : Type 0 where
  linear : is_ordered k.linear.terms ≡ true
  half : (h : Half) → k.half ≡ Some h → (is_ordered h.left.linear.terms ≡ true) × (is_ordered h.right.linear.terms ≡ true)

plain_ordered : (a : Linear) → is_ordered a.terms ≡ true → KnownOrdered (plain a)
plain_ordered a o = record { linear = o; half = λ h e. absurd (clash h e) }
  where
    clash : (h : Half) → Option.None ≡ Some h → ⊥
    clash h e = cc

symbol_ordered : (x : Symbol) → KnownOrdered (plain (symbol x))
symbol_ordered x = plain_ordered (symbol x) refl

by_number_ordered : (n m : Option ℤ) (h : Half) (sum : Linear) → is_ordered h.left.linear.terms ≡ true → is_ordered h.right.linear.terms ≡ true → is_ordered sum.terms ≡ true → is_ordered (by_number n m h sum).terms ≡ true
by_number_ordered (Some n) m h sum l r o = scaled_ordered n h.right.linear.terms r
by_number_ordered None (Some n) h sum l r o = scaled_ordered n h.left.linear.terms l
by_number_ordered None None h sum l r o = o

product_ordered : (h k : Option Half) (sum : Linear) → ((g : Half) → h ≡ Some g → (is_ordered g.left.linear.terms ≡ true) × (is_ordered g.right.linear.terms ≡ true)) → is_ordered sum.terms ≡ true → is_ordered (product_or h k sum).terms ≡ true
product_ordered None k sum halves o = o
product_ordered (Some h) None sum halves o = o
product_ordered (Some h) (Some k) sum halves o = by (are_halves h k)
  where
    by : (b : Bool) → is_ordered (if b then by_number (common h.left.number k.left.number) (common h.right.number k.right.number) h sum else sum).terms ≡ true
    by true = let p = halves h refl in by_number_ordered (common h.left.number k.left.number) (common h.right.number k.right.number) h sum p.0 p.1 o
    by false = o

times_or_ordered : (n : Option ℤ) (code : Code) (a other : Linear) → is_ordered a.terms ≡ true → is_ordered other.terms ≡ true → is_ordered (times_or n code a other).terms ≡ true
times_or_ordered None code a other o p = p
times_or_ordered (Some n) code a other o p = scaled_ordered (value_of code (pos 1) n) a.terms o

by_half_ordered : (is_high : Bool) (i : ℕ) (code : Code) (a b : Operand) (x y : Known) → KnownOrdered x → KnownOrdered y → KnownOrdered (by_half is_high i code a b x y)
by_half_ordered is_high i code a b x y ox oy = record {
  linear = times_or_ordered (number_in b) code x.linear (symbol (Made i)) ox.linear refl;
  half = λ h e. subst (λ (g : Half). (is_ordered g.left.linear.terms ≡ true) × (is_ordered g.right.linear.terms ≡ true)) (some e) (ox.linear, oy.linear);
}
  where
    some : {g h : Half} → Some g ≡ Some h → g ≡ h
    some e = cc

computed_ordered : (i : ℕ) (code : Code) (a b : Operand) (x y : Known) → KnownOrdered x → KnownOrdered y → KnownOrdered (computed i code a b x y)
computed_ordered i Add a b x y ox oy = plain_ordered (product_or x.half y.half (plus x.linear y.linear)) (product_ordered x.half y.half (plus x.linear y.linear) ox.half (with_terms_ordered x.linear.terms y.linear.terms oy.linear))
computed_ordered i Sub a b x y ox oy = plain_ordered (minus x.linear y.linear) (with_terms_ordered x.linear.terms (scaled (negsuc 0) y.linear.terms) (scaled_ordered (negsuc 0) y.linear.terms oy.linear))
computed_ordered i Mov a b x y ox oy = plain_ordered x.linear ox.linear
computed_ordered i Shl a b x y ox oy = plain_ordered (times_or (number_in b) Shl x.linear (symbol (Made i))) (times_or_ordered (number_in b) Shl x.linear (symbol (Made i)) ox.linear refl)
computed_ordered i Mpylu a b x y ox oy = by_half_ordered false i Mpylu a b x y ox oy
computed_ordered i Mpyhs a b x y ox oy = by_half_ordered true i Mpyhs a b x y ox oy
computed_ordered i And a b x y ox oy = symbol_ordered (Made i)
computed_ordered i Or a b x y ox oy = symbol_ordered (Made i)
computed_ordered i Xor a b x y ox oy = symbol_ordered (Made i)
computed_ordered i Shr a b x y ox oy = symbol_ordered (Made i)
computed_ordered i Shru a b x y ox oy = symbol_ordered (Made i)
computed_ordered i Sh2add a b x y ox oy = symbol_ordered (Made i)
computed_ordered i Max a b x y ox oy = symbol_ordered (Made i)
computed_ordered i Min a b x y ox oy = symbol_ordered (Made i)
computed_ordered i (ToGeneral compare) a b x y ox oy = symbol_ordered (Made i)
computed_ordered i (ToBranch compare) a b x y ox oy = symbol_ordered (Made i)
computed_ordered i Div a b x y ox oy = symbol_ordered (Made i)
computed_ordered i Rem a b x y ox oy = symbol_ordered (Made i)

made_ordered : (i : ℕ) (op : TraceOp) (know : Operand → Known) → ((x : Operand) → KnownOrdered (know x)) → KnownOrdered (made i op know)
made_ordered i (Plain (Compute code v a b)) know o = computed_ordered i code a b (know a) (know b) (o a) (o b)
made_ordered i (Plain (Select v p a b)) know o = symbol_ordered (Made i)
made_ordered i (Plain (Place v a k)) know o = symbol_ordered (Made i)
made_ordered i (Plain (Load v a p dismissible)) know o = symbol_ordered (Made i)
made_ordered i (Plain (Store a p x)) know o = symbol_ordered (Made i)
made_ordered i (Plain (More v)) know o = symbol_ordered (Made i)
made_ordered i (Plain (Input v)) know o = symbol_ordered (Made i)
made_ordered i (Plain (Text n)) know o = symbol_ordered (Made i)
made_ordered i (Plain (Decimal x)) know o = symbol_ordered (Made i)
made_ordered i (Plain (Across v u)) know o = symbol_ordered (Made i)
made_ordered i (Plain (Base v a x)) know o = symbol_ordered (Made i)
made_ordered i (Plain (PlaceIn v a u k)) know o = symbol_ordered (Made i)
made_ordered i (Split test leaves_when edge live) know o = symbol_ordered (Made i)

known_ordered : (above : List Above) (x : Operand) → KnownOrdered (known above x)
known_ordered above (Number n) = plain_ordered (constant n) refl
known_ordered above Stack = plain_ordered (constant (pos 0)) refl
known_ordered [] (Held v) = symbol_ordered (Entry v)
known_ordered (Joined ∷ above) (Held v) = symbol_ordered (made_or_entry above v)
known_ordered (At i op ∷ above) (Held v) = by (writes_it v op) (made_ordered i op (known above) (known_ordered above)) (known_ordered above (Held v))
  where
    by : (b : Bool) → KnownOrdered (made i op (known above)) → KnownOrdered (known above (Held v)) → KnownOrdered (if b then made i op (known above) else known above (Held v))
    by true o p = o
    by false o p = p

-- forms

index_made_ordered : (i : ℕ) (op : TraceOp) (above : List Above) → is_ordered (index_made i op above).terms ≡ true
index_made_ordered i (Plain (Place v a index)) above = (known_ordered above index).linear
index_made_ordered i (Plain (Compute code v a b)) above = refl
index_made_ordered i (Plain (Select v p a b)) above = refl
index_made_ordered i (Plain (Load v a p dismissible)) above = refl
index_made_ordered i (Plain (Store a p x)) above = refl
index_made_ordered i (Plain (More v)) above = refl
index_made_ordered i (Plain (Input v)) above = refl
index_made_ordered i (Plain (Text n)) above = refl
index_made_ordered i (Plain (Decimal x)) above = refl
index_made_ordered i (Plain (Across v u)) above = refl
index_made_ordered i (Plain (Base v a x)) above = refl
index_made_ordered i (Plain (PlaceIn v a u index)) above = (known_ordered above index).linear
index_made_ordered i (Split test leaves_when edge live) above = refl

index_ordered : (above : List Above) (x : Operand) → is_ordered (index_of above x).terms ≡ true
index_ordered above (Number n) = refl
index_ordered above Stack = refl
index_ordered [] (Held v) = refl
index_ordered (Joined ∷ above) (Held v) = refl
index_ordered (At i op ∷ above) (Held v) = by (writes_it v op) (index_ordered above (Held v))
  where
    by : (b : Bool) → is_ordered (index_of above (Held v)).terms ≡ true → is_ordered (if b then index_made i op above else index_of above (Held v)).terms ≡ true
    by true o = index_made_ordered i op above
    by false o = o

access_ordered : (t : Trace) (i a : ℕ) (x : Operand) (form : Form) → Some (access_form t i a x) ≡ Some form → is_ordered form.terms ≡ true
access_ordered t i a x form e = subst (λ (f : Form). is_ordered f.terms ≡ true) (some e) (index_ordered (above_of t i) x)
  where
    some : {f g : Form} → Some f ≡ Some g → f ≡ g
    some e = cc

no_form : (form : Form) → Option.None ≡ Some form → ⊥
no_form form e = cc

at_ordered : (t : Trace) (i : ℕ) (op : TraceOp) (form : Form) → form_at t i op ≡ Some form → is_ordered form.terms ≡ true
at_ordered t i (Plain (Load v a p dismissible)) form e = access_ordered t i a p form e
at_ordered t i (Plain (Store a p x)) form e = access_ordered t i a p form e
at_ordered t i (Plain (Compute code v a b)) form e = absurd (no_form form e)
at_ordered t i (Plain (Select v p a b)) form e = absurd (no_form form e)
at_ordered t i (Plain (Place v a k)) form e = absurd (no_form form e)
at_ordered t i (Plain (More v)) form e = absurd (no_form form e)
at_ordered t i (Plain (Input v)) form e = absurd (no_form form e)
at_ordered t i (Plain (Text n)) form e = absurd (no_form form e)
at_ordered t i (Plain (Decimal x)) form e = absurd (no_form form e)
at_ordered t i (Plain (Across v u)) form e = absurd (no_form form e)
at_ordered t i (Plain (Base v a x)) form e = absurd (no_form form e)
at_ordered t i (Plain (PlaceIn v a u k)) form e = absurd (no_form form e)
at_ordered t i (Split test leaves_when edge live) form e = absurd (no_form form e)

from_ordered : (t : Trace) (k : ℕ) (ops : List TraceOp) (i : ℕ) (form : Form) → slice_get (forms_from t k ops) i ≡ Some (Some form) → is_ordered form.terms ≡ true
from_ordered t k [] i form e = absurd cc
from_ordered t k (op ∷ ops) zero form e = at_ordered t k op form (some e)
  where
    some : {f g : Option Form} → Some f ≡ Some g → f ≡ g
    some e = cc
from_ordered t k (op ∷ ops) (suc i) form e = from_ordered t (suc k) ops i form e

forms_ordered : (t : Trace) → AreOrdered (forms_of t)
unfolding forms_of
forms_ordered t i form e = from_ordered t 0 t.ops i form e

pub all_ordered : (t : Trace) (forms : List (Option Form)) → forms ≡ forms_of t → AreOrdered forms
all_ordered t forms e = subst AreOrdered (sym e) (forms_ordered t)
