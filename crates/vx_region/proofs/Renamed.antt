-- What an operation with other operands names.
use Rattle.std.proofs.Common.{◌≡◌, inl, inr, ⊎_elim, not, refl, sym, ◌∙◌, ap, subst, Bool, true, false, if◌then◌else◌, ℕ, Option, Some, None, List, [], ◌∷◌, ◌++◌, map}
use Rattle.vx_base.specs.declared.arithmetic.Code.{Code}
use Rattle.vx_base.specs.declared.arithmetic.Code.TheVariants.{Add, ToBranch}
use Rattle.vx_flow.specs.declared.graph.Operand.{Operand}
use Rattle.vx_flow.specs.declared.graph.Operand.TheVariants.{Held, Number, Stack}
use Rattle.vx_flow.specs.declared.graph.Op.TheVariants.{Compute, Select, Store, More, Input, Text, Decimal, Across, PlaceIn}
use Rattle.vx_flow.specs.declared.trace.TraceOp.{TraceOp}
use Rattle.vx_flow.specs.declared.trace.TraceOp.TheVariants.{Plain, Split}
use Rattle.vx_flow.specs.Effects.{IsIn, is_unary, value_in}
use Rattle.vx_flow.specs.Operands.{with_value_in, first_operand, written_by, value_list}
use Rattle.vx_flow.proofs.OperandLaws.{writes_are}
use Rattle.vx_room.specs.Items.{writes_general_op}
use Rattle.vx_dep.specs.Delays.{writes_of}
use Rattle.vx_bug.specs.CanAssign.{bound_writes}
use Rattle.vx_bug.specs.Clusters.{general_reads, general_writes, is_bound, is_across}
use Rattle.vx_bug.specs.Copies.{reads_copies, renamed_op}

-- what is read is what stands for a value that was read

pub record IsNamed (to : ℕ → ℕ) (vs : List ℕ) (x : ℕ) : Type 0 where
  pub value : ℕ
  pub member : IsIn value vs
  pub is : x ≡ to value

pub named : (to : ℕ → ℕ) (vs : List ℕ) (x : ℕ) → IsIn x (map to vs) → IsNamed to vs x
named to [] x h = absurd h
named to (v ∷ vs) x (inl e) = record { value = v; member = inl refl; is = e }
named to (v ∷ vs) x (inr h) = let n = named to vs x h in record { value = n.value; member = inr n.member; is = n.is }

value_renamed : (to : ℕ → ℕ) (x : Operand) → value_in (with_value_in to x) ≡ map to (value_in x)
value_renamed to (Held v) = refl
value_renamed to (Number n) = refl
value_renamed to Stack = refl

both_renamed : (to : ℕ → ℕ) (a b : Operand) → value_in (with_value_in to a) ++ value_in (with_value_in to b) ≡ map to (value_in a ++ value_in b)
both_renamed to (Held v) b = ap (λ vs. to v ∷ vs) (value_renamed to b)
both_renamed to (Number n) b = value_renamed to b
both_renamed to Stack b = value_renamed to b

computed_renamed : (to : ℕ → ℕ) (a b : Operand) (u : Bool) →
    (if u then value_in (with_value_in to a) else value_in (with_value_in to a) ++ value_in (if u then b else with_value_in to b)) ≡ map to (if u then value_in a else value_in a ++ value_in b)
computed_renamed to a b true = value_renamed to a
computed_renamed to a b false = both_renamed to a b

-- the general values that it reads are those that stand for what was read, in their order
pub values_renamed : (to : ℕ → ℕ) (op : TraceOp) → is_across op ≡ false → general_reads (renamed_op to op) ≡ map to (general_reads op)
values_renamed to (Plain (Compute code v a b)) n = computed_renamed to a b (is_unary code)
values_renamed to (Plain (Select v test a b)) n = both_renamed to a b
values_renamed to (Plain (Store a p y)) n = both_renamed to p y
values_renamed to (Plain (Across v u)) n = absurd cc
values_renamed to (Plain (PlaceIn v a u i)) n = both_renamed to i (Held u)
values_renamed to (Plain op) n = value_renamed to (first_operand op)
values_renamed to (Split test leaves_when edge live) n = refl

pub reads_named : (to : ℕ → ℕ) (op : TraceOp) (x : ℕ) → is_across op ≡ false → IsIn x (general_reads (renamed_op to op)) → IsNamed to (general_reads op) x
reads_named to op x n h = named to (general_reads op) x (subst (IsIn x) (values_renamed to op n) h)

-- a computation that makes a branch value, and all others

abbrev makes_branch : Code → Bool
makes_branch (ToBranch compare) = true
makes_branch code = false

kind : (code : Code) (v : ℕ) (a b : Operand) → (writes_general_op (Compute code v a b) ≡ not (makes_branch code)) × (is_bound (Plain (Compute code v a b)) ≡ makes_branch code)
kind Add v a b = (refl, refl)
kind code v a b = (refl, refl)

-- what is written, and where it can stand, stays

pub writes_stay : (to : ℕ → ℕ) (op : TraceOp) → general_writes (renamed_op to op) ≡ general_writes op
writes_stay to (Plain (Compute code v a b)) =
    ap (λ x. if x then v ∷ [] else []) ((kind code v (with_value_in to a) (if is_unary code then b else with_value_in to b)).0 ∙ sym ((kind code v a b).0))
writes_stay to (Plain op) = refl
writes_stay to (Split test leaves_when edge live) = refl

pub bound_stays : (to : ℕ → ℕ) (op : TraceOp) → is_bound (renamed_op to op) ≡ is_bound op
bound_stays to (Plain (Compute code v a b)) = (kind code v (with_value_in to a) (if is_unary code then b else with_value_in to b)).1 ∙ sym ((kind code v a b).1)
bound_stays to (Plain op) = refl
bound_stays to (Split test leaves_when edge live) = refl

pub across_stays : (to : ℕ → ℕ) (op : TraceOp) → is_across op ≡ true → renamed_op to op ≡ op
across_stays to (Plain (Across v u)) e = refl
across_stays to (Plain op) e = absurd cc
across_stays to (Split test leaves_when edge live) e = absurd cc

-- one value at most is written

only : (b : Bool) (x : Option ℕ) (w : ℕ) → IsIn w (if b then value_list x else []) → (if b then value_list x else []) ≡ w ∷ []
only true (Some v) w h = ⊎_elim (λ e. ap (λ x. x ∷ []) (sym e)) (λ z. absurd z) h
only true None w h = absurd h
only false x w h = absurd h

pub one_written : (op : TraceOp) (w : ℕ) → IsIn w (general_writes op) → general_writes op ≡ w ∷ []
one_written (Plain op) w h =
    subst (λ vs. IsIn w (if writes_general_op op then vs else []) → (if writes_general_op op then vs else []) ≡ w ∷ []) (writes_are op) (only (writes_general_op op) (written_by op) w) h
one_written (Split test leaves_when edge live) w h = absurd h

pub writes_in : (op : TraceOp) (w : ℕ) → IsIn w (general_writes op) → IsIn w (writes_of op)
writes_in (Plain op) w h = by (writes_general_op op) h
  where
    by : (b : Bool) → IsIn w (if b then writes_of (Plain op) else []) → IsIn w (writes_of (Plain op))
    by true g = g
    by false g = absurd g
writes_in (Split test leaves_when edge live) w h = absurd h

-- a general value written on cluster 0 alone is that of a selection or of an operation that meets the input
pub bound_written : (op : TraceOp) (w : ℕ) → is_bound op ≡ true → IsIn w (general_writes op) → IsIn w (bound_writes op)
bound_written (Plain (Compute code v a b)) w e h =
    let branch : makes_branch code ≡ true = sym ((kind code v a b).1) ∙ e in
    subst (λ x. IsIn w (if x then v ∷ [] else [])) ((kind code v a b).0 ∙ ap not branch) h
bound_written (Plain (Select v test a b)) w e h = h
bound_written (Plain (More v)) w e h = h
bound_written (Plain (Input v)) w e h = h
bound_written (Plain (Text k)) w e h = absurd h
bound_written (Plain (Decimal y)) w e h = absurd h
bound_written (Plain op) w e h = absurd cc
bound_written (Split test leaves_when edge live) w e h = absurd h

-- copies across

pub read_across : (op : TraceOp) (u : ℕ) → is_across op ≡ true → IsIn u (general_reads op) → (v : ℕ) × (op ≡ Plain (Across v u))
read_across (Plain (Across v w)) u e h = (v, ap (λ x. Plain (Across v x)) (⊎_elim (λ q. sym q) (λ z. absurd z) h))
read_across (Plain op) u e h = absurd cc
read_across (Split test leaves_when edge live) u e h = absurd cc

pub other_reads : (op : TraceOp) → reads_copies None op ≡ false → is_across op ≡ true
other_reads (Plain (Across v w)) e = refl
other_reads (Plain op) e = absurd cc
other_reads (Split test leaves_when edge live) e = absurd cc
