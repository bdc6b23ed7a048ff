-- Values that are bases and nothing else, and arrays that were handed over: the test and the words for it.
use Rattle.std.proofs.Common.{◌≡◌, inl, inr, ℕ, pos, Bool, true, false, ◌==◌, if◌then◌else◌, List, [], ◌∷◌, Option, Some, None, slice_get, refl, sym, ap, subst, ◌∙◌, eq-eqb}
use Rattle.std.proofs.lemmas.Bool.{and_parts, false≢true, eqb-true}
use Rattle.std.specs.Cmp.Derive.{both_true}
use Rattle.std.specs.Prelude.{not}
use Rattle.vx_base.specs.declared.arithmetic.Code.{Code}
use Rattle.vx_base.specs.declared.arithmetic.Code.TheVariants.{Mov}
use Rattle.vx_flow.specs.declared.graph.Operand.{Operand}
use Rattle.vx_flow.specs.declared.graph.Operand.TheVariants.{Held, Number, Stack}
use Rattle.vx_flow.specs.declared.graph.Op.{Op}
use Rattle.vx_flow.specs.declared.graph.Op.TheVariants.{Compute, Select, Place, Load, Store, More, Input, Text, Decimal, Across, Base, PlaceIn}
use Rattle.vx_flow.specs.declared.graph.Exit.{Exit}
use Rattle.vx_flow.specs.declared.graph.Exit.TheVariants.{Goto, Split, Call, Return, Ends}
use Rattle.vx_flow.specs.declared.graph.Array.{Array}
use Rattle.vx_flow.specs.declared.graph.Graph.{Graph}
use Rattle.vx_flow.specs.Effects.{IsIn, value_in, reads, writes}
use Rattle.vx_flow.specs.Sound.{is_given, is_zero, base_of, base_at, is_that, is_stack, is_made_from, is_based, is_value, is_result, keeps_base, leaves_base, is_parameter, tests_of_exit, results_of_exit, IsMadeFrom}
use Rattle.vx_flow.proofs.Members.{in_left, in_right, in_either}
use Rattle.vx_flow.proofs.SoundLists.{in_one, any_in, any_of, differs, differs_of}
use Rattle.vx_flow.proofs.SoundNames.{zero_is}
use Rattle.vx_flow.proofs.SoundPlaces.{unheld, unheld_of, read_is, read_of, none_of, compute_reads, writes_other}

-- ---- what an operation does with a base

abbrev pub WrittenAsBase : ℕ → Op → Type 0
WrittenAsBase v op = (a : ℕ) × (x : Operand) × (op ≡ Base v a x)

abbrev pub ReadAsBase : ℕ → Op → Type 0
ReadAsBase v op = (w a : ℕ) × (i : Operand) × (op ≡ PlaceIn w a v i) × (i ≡ Held v → ⊥)

pub base_reads : (v : ℕ) (op : Op) → keeps_base v op ≡ true → IsIn v (reads op) → ReadAsBase v op
base_reads v (Compute code u x y) h m =
    let (ab, c) = and_parts _ _ h in
    absurd (compute_reads code v u x y (and_parts _ _ ab).1 c m)
base_reads v (Select u p x y) h (inl e) =
    let (abc, d) = and_parts _ _ h in
    let (ab, c) = and_parts _ _ abc in
    absurd (differs p v (and_parts _ _ ab).1 (sym e))
base_reads v (Select u p x y) h (inr m) =
    let (abc, d) = and_parts _ _ h in
    absurd (none_of v x y (and_parts _ _ abc).1 d m)
base_reads v (Place u b i) h m = absurd (unheld v i (and_parts _ _ h).1 (read_is v i m))
base_reads v (Load u b p dismissible) h m = absurd (unheld v p (and_parts _ _ h).1 (read_is v p m))
base_reads v (Store b p x) h m = let (a, c) = and_parts _ _ h in absurd (none_of v p x a c m)
base_reads v (Decimal x) h m = absurd (unheld v x h (read_is v x m))
base_reads v (Across u w) h m = absurd (writes_other v w (and_parts _ _ h).1 m)
base_reads v (PlaceIn u b w i) h m =
    let apart : i ≡ Held v → ⊥ = unheld v i (and_parts _ _ h).1 in
    elim (in_either v (value_in i) (w ∷ []) m) [
      | inl k ↦ absurd (apart (read_is v i k))
      | inr k ↦ (u, b, i, ap (λ t. PlaceIn u b t i) (sym (in_one v w k)), apart)
    ]
base_reads v op h m = absurd m

pub base_writes : (v : ℕ) (op : Op) → keeps_base v op ≡ true → IsIn v (writes op) → WrittenAsBase v op
base_writes v (Compute code u x y) h m =
    let (ab, c) = and_parts _ _ h in
    absurd (writes_other v u (and_parts _ _ ab).0 m)
base_writes v (Select u p x y) h m =
    let (abc, d) = and_parts _ _ h in
    let (ab, c) = and_parts _ _ abc in
    absurd (writes_other v u (and_parts _ _ ab).0 m)
base_writes v (Store b p x) h m = absurd m
base_writes v (More u) h m = absurd (writes_other v u h m)
base_writes v (Input u) h m = absurd (writes_other v u h m)
base_writes v (Text n) h m = absurd m
base_writes v (Decimal x) h m = absurd m
base_writes v (Base u b x) h m = (b, x, ap (λ t. Base t b x) (sym (in_one v u m)))
base_writes v op h m = absurd (writes_other v _ (and_parts _ _ h).0 m)

-- ---- and back

unwritten : (v u : ℕ) (op : Op) → (IsIn v (u ∷ []) → WrittenAsBase v op) → ((a : ℕ) (x : Operand) → op ≡ Base v a x → ⊥) → not (u == v) ≡ true
unwritten v u op w f = differs_of u v (λ e. let (a, x, is) = w (inl (sym e)) in f a x is)

-- what is read by an operation that is no place from a base
unread : (v : ℕ) (op : Op) (x : Operand) → (x ≡ Held v → ReadAsBase v op) → ((w a : ℕ) (i : Operand) → op ≡ PlaceIn w a v i → ⊥) → not (is_value v x) ≡ true
unread v op x r f = unheld_of v x (λ e. let (w, a, i, is, apart) = r e in f w a i is)

untested : (v p : ℕ) (op : Op) → (v ≡ p → ReadAsBase v op) → ((w a : ℕ) (i : Operand) → op ≡ PlaceIn w a v i → ⊥) → not (p == v) ≡ true
untested v p op r f = differs_of p v (λ e. let (w, a, i, is, apart) = r (sym e) in f w a i is)

compute_keeps : (v : ℕ) (code : Code) (u : ℕ) (x y : Operand) → (IsIn v (u ∷ []) → WrittenAsBase v (Compute code u x y)) → (IsIn v (reads (Compute code u x y)) → ReadAsBase v (Compute code u x y)) → keeps_base v (Compute code u x y) ≡ true
compute_keeps v Mov u x y w r =
    both_true (both_true (unwritten v u (Compute Mov u x y) w (λ a z e. cc)) (unread v (Compute Mov u x y) x (λ e. r (read_of v x e)) (λ t a i e. cc))) refl
compute_keeps v code u x y w r =
    both_true
    (both_true (unwritten v u (Compute code u x y) w (λ a z e. cc)) (unread v (Compute code u x y) x (λ e. r (in_left v (value_in x) (value_in y) (read_of v x e))) (λ t a i e. cc)))
    (unread v (Compute code u x y) y (λ e. r (in_right v (value_in x) (value_in y) (read_of v y e))) (λ t a i e. cc))

-- the index of a place from a base is none
unindexed : (v u b t : ℕ) (i : Operand) → (i ≡ Held v → ReadAsBase v (PlaceIn u b t i)) → not (is_value v i) ≡ true
unindexed v u b t i r = unheld_of v i (λ e. let (w, a, j, is, apart) = r e in let same : j ≡ i = cc in apart (same ∙ e))

pub keeps_base_of : (v : ℕ) (op : Op) → (IsIn v (writes op) → WrittenAsBase v op) → (IsIn v (reads op) → ReadAsBase v op) → keeps_base v op ≡ true
keeps_base_of v (Compute code u x y) w r = compute_keeps v code u x y w r
keeps_base_of v (Select u p x y) w r =
    let op : Op = Select u p x y in
    both_true
    (both_true
    (both_true (unwritten v u op w (λ a z e. cc)) (untested v p op (λ e. r (inl e)) (λ t a i e. cc)))
    (unread v op x (λ e. r (inr (in_left v (value_in x) (value_in y) (read_of v x e)))) (λ t a i e. cc)))
    (unread v op y (λ e. r (inr (in_right v (value_in x) (value_in y) (read_of v y e)))) (λ t a i e. cc))
keeps_base_of v (Place u b j) w r = both_true (unwritten v u (Place u b j) w (λ a z e. cc)) (unread v (Place u b j) j (λ e. r (read_of v j e)) (λ t a i e. cc))
keeps_base_of v (Load u b p dismissible) w r =
    let op : Op = Load u b p dismissible in both_true (unwritten v u op w (λ a z e. cc)) (unread v op p (λ e. r (read_of v p e)) (λ t a i e. cc))
keeps_base_of v (Store b p x) w r =
    let op : Op = Store b p x in
    both_true (unread v op p (λ e. r (in_left v (value_in p) (value_in x) (read_of v p e))) (λ t a i e. cc)) (unread v op x (λ e. r (in_right v (value_in p) (value_in x) (read_of v x e))) (λ t a i e. cc))
keeps_base_of v (More u) w r = unwritten v u (More u) w (λ a z e. cc)
keeps_base_of v (Input u) w r = unwritten v u (Input u) w (λ a z e. cc)
keeps_base_of v (Text n) w r = refl
keeps_base_of v (Decimal x) w r = unread v (Decimal x) x (λ e. r (read_of v x e)) (λ t a i e. cc)
keeps_base_of v (Across u t) w r = both_true (unwritten v u (Across u t) w (λ a z e. cc)) (untested v t (Across u t) (λ e. r (inl e)) (λ s a i e. cc))
keeps_base_of v (Base u b x) w r = refl
keeps_base_of v (PlaceIn u b t i) w r =
    both_true (unwritten v u (PlaceIn u b t i) w (λ a z e. cc)) (unindexed v u b t i (λ e. r (in_left v (value_in i) (t ∷ []) (read_of v i e))))

-- ---- what an exit does with it

unresulting : (v : ℕ) (result : Option ℕ) → not (is_result v result) ≡ true → (g next : ℕ) (arguments : List Operand) → IsIn v (results_of_exit (Call g arguments result next)) → ⊥
unresulting v None h g next arguments m = m
unresulting v (Some u) h g next arguments m = differs u v h (sym (in_one v u m))

pub base_results : (v : ℕ) (exit : Exit) → leaves_base v exit ≡ true → IsIn v (results_of_exit exit) → ⊥
base_results v (Goto c) h m = m
base_results v (Split p c d) h m = m
base_results v (Call g arguments result next) h m = unresulting v result h g next arguments m
base_results v (Return x) h m = m
base_results v (Ends k) h m = m

unresulting_of : (v : ℕ) (result : Option ℕ) (g next : ℕ) (arguments : List Operand) → (IsIn v (results_of_exit (Call g arguments result next)) → ⊥) → not (is_result v result) ≡ true
unresulting_of v None g next arguments f = refl
unresulting_of v (Some u) g next arguments f = differs_of u v (λ e. f (inl (sym e)))

pub leaves_base_of : (v : ℕ) (exit : Exit) → (IsIn v (tests_of_exit exit) → ⊥) → (IsIn v (results_of_exit exit) → ⊥) → ((x : Operand) → Return x ≡ exit → x ≡ Held v → ⊥) → leaves_base v exit ≡ true
leaves_base_of v (Goto c) t f r = refl
leaves_base_of v (Split p c d) t f r = differs_of p v (λ e. t (inl (sym e)))
leaves_base_of v (Call g arguments result next) t f r = unresulting_of v result g next arguments f
leaves_base_of v (Return x) t f r = unheld_of v x (r x refl)
leaves_base_of v (Ends k) t f r = refl

-- ---- bases of arrays

pub none_given : (o : Option ℕ) → not (is_given o) ≡ true → o ≡ None
none_given None h = refl
none_given (Some v) h = absurd (false≢true h)

pub none_given_of : (o : Option ℕ) → o ≡ None → not (is_given o) ≡ true
none_given_of o e = subst (λ z. not (is_given z) ≡ true) (sym e) refl

pub that_is : (v : ℕ) (o : Option ℕ) → is_that v o ≡ true → o ≡ Some v
that_is v None h = absurd (false≢true h)
that_is v (Some u) h = ap Some (eqb-true u v h)

pub that_of : (v : ℕ) (o : Option ℕ) → o ≡ Some v → is_that v o ≡ true
that_of v o e = subst (λ z. is_that v z ≡ true) (sym e) (eq-eqb v v refl)

pub given_of : (o : Option ℕ) (v : ℕ) → o ≡ Some v → is_given o ≡ true
given_of o v e = subst (λ z. is_given z ≡ true) (sym e) refl

pub parameter_is : (g : Graph) (v : ℕ) → is_parameter g v ≡ true → IsIn v g.parameters
parameter_is g v h = let found = any_in (λ p. p == v) g.parameters h in subst (λ p. IsIn p g.parameters) (eqb-true found.item v found.holds) found.has

pub parameter_of : (g : Graph) (v : ℕ) → IsIn v g.parameters → is_parameter g v ≡ true
parameter_of g v m = any_of (λ p. p == v) g.parameters v m (eq-eqb v v refl)

stack_is : (x : Operand) → is_stack x ≡ true → x ≡ Stack
stack_is (Held v) h = absurd (false≢true h)
stack_is (Number n) h = absurd (false≢true h)
stack_is Stack h = refl

from_is : (global : Bool) (x : Operand) → (if global then is_zero x else is_stack x) ≡ true → x ≡ (if global then Number (pos 0) else Stack)
from_is true x h = zero_is x h
from_is false x h = stack_is x h

from_of : (global : Bool) (x : Operand) → x ≡ (if global then Number (pos 0) else Stack) → (if global then is_zero x else is_stack x) ≡ true
from_of true x e = subst (λ y. is_zero y ≡ true) (sym e) refl
from_of false x e = subst (λ y. is_stack y ≡ true) (sym e) refl

made_from_by : (g : Graph) (a : ℕ) (x : Operand) (o : Option Array) → slice_get g.arrays a ≡ o → is_made_from o x ≡ true → IsMadeFrom g a x
made_from_by g a x None e h = absurd (false≢true h)
made_from_by g a x (Some array) e h =
    let (bare, from) = and_parts _ _ h in record { array = array; is = e; bare = none_given array.base bare; from = from_is array.global x from }

pub made_from_is : (g : Graph) (a : ℕ) (x : Operand) → is_made_from (slice_get g.arrays a) x ≡ true → IsMadeFrom g a x
made_from_is g a x h = made_from_by g a x (slice_get g.arrays a) refl h

pub made_from_of : (g : Graph) (a : ℕ) (x : Operand) → IsMadeFrom g a x → is_made_from (slice_get g.arrays a) x ≡ true
made_from_of g a x m = subst (λ o. is_made_from o x ≡ true) (sym m.is) (both_true (none_given_of m.array.base m.bare) (from_of m.array.global x m.from))

-- ---- where operations and arrays agree

-- what the words say of an operation and the bases of arrays
pub record Based (g : Graph) (op : Op) : Type 0 where
  pub bare : (v a : ℕ) (i : Operand) → op ≡ Place v a i → base_at g.arrays a ≡ None
  pub from : (v a : ℕ) (x : Operand) → op ≡ Base v a x → IsMadeFrom g a x
  pub by : (v a u : ℕ) (i : Operand) → op ≡ PlaceIn v a u i → base_at g.arrays a ≡ Some u

pub based_of : (g : Graph) (op : Op) → Based g op → is_based g.arrays op ≡ true
based_of g (Place v a i) b = none_given_of (base_at g.arrays a) (b.bare v a i refl)
based_of g (Base v a x) b = made_from_of g a x (b.from v a x refl)
based_of g (PlaceIn v a u i) b = that_of u (base_at g.arrays a) (b.by v a u i refl)
based_of g op b = refl

-- the array with a base v
pub array_of_base : (arrays : List Array) (a v : ℕ) → base_at arrays a ≡ Some v → (array : Array) × (slice_get arrays a ≡ Some array) × (array.base ≡ Some v)
array_of_base arrays a v e = by (slice_get arrays a) refl e
  where
    by : (o : Option Array) → slice_get arrays a ≡ o → base_of o ≡ Some v → (array : Array) × (slice_get arrays a ≡ Some array) × (array.base ≡ Some v)
    by None f k = absurd (cc)
    by (Some array) f k = (array, f, k)

pub base_of_array : (arrays : List Array) (a : ℕ) (array : Array) (v : ℕ) → slice_get arrays a ≡ Some array → array.base ≡ Some v → base_at arrays a ≡ Some v
base_of_array arrays a array v e f = ap base_of e ∙ f
