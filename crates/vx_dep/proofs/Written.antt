-- Which values operations read and write, as tests and as facts.
use Rattle.std.proofs.Common.{◌≡◌, ◌⊎◌, inl, inr, ℕ, refl, sym, ◌∙◌, ap, subst, true, ◌||◌, nat_eq, Option, Some, None, List, [], ◌∷◌, ◌++◌}
use Rattle.std.proofs.lemmas.Bool.{eqb-true, eq-eqb, or_cases, or_left, or_right, false≢true}
use Rattle.std.proofs.lemmas.List.Folds.{list_any-append}
use Rattle.std.specs.List.{list_any}
use Rattle.vx_flow.specs.declared.trace.TraceOp.{TraceOp}
use Rattle.vx_flow.specs.declared.trace.TraceOp.TheVariants.{Plain, Split}
use Rattle.vx_flow.specs.Effects.{IsIn}
use Rattle.vx_flow.specs.Operands.{value_list, values_read}
use Rattle.vx_flow.proofs.OperandLaws.{reads_are as op_reads_are, writes_are as op_writes_are}
use Rattle.vx_dep.specs.Delays.{reads_of, writes_of}
use Rattle.vx_dep.specs.Traits.{written, read, has}

pub reads_two : (v : ℕ) (xs ys : List ℕ) → list_any (nat_eq v) (xs ++ ys) ≡ (list_any (nat_eq v) xs || list_any (nat_eq v) ys)
reads_two v xs ys = list_any-append (nat_eq v) xs ys

-- the values that are kept of an operation are those that it reads and writes

pub reads_are : (op : TraceOp) → values_read (read op) ≡ reads_of op
reads_are (Plain op) = op_reads_are op
reads_are (Split test leaves_when edge live) = refl

pub writes_are : (op : TraceOp) → value_list (written op) ≡ writes_of op
writes_are (Plain op) = op_writes_are op
writes_are (Split test leaves_when edge live) = refl

pub is_in : (v : ℕ) (vs : List ℕ) → list_any (nat_eq v) vs ≡ true → IsIn v vs
is_in v [] e = absurd (false≢true e)
is_in v (u ∷ us) e = by (or_cases (nat_eq v u) (list_any (nat_eq v) us) e) (is_in v us)
  where
    by : (nat_eq v u ≡ true) ⊎ (list_any (nat_eq v) us ≡ true) → (list_any (nat_eq v) us ≡ true → IsIn v us) → IsIn v (u ∷ us)
    by (inl f) more = inl (eqb-true v u f)
    by (inr h) more = inr (more h)

pub in_is : (v : ℕ) (vs : List ℕ) → IsIn v vs → list_any (nat_eq v) vs ≡ true
in_is v [] i = absurd i
in_is v (u ∷ us) (inl e) = or_left (nat_eq v u) (list_any (nat_eq v) us) (eq-eqb v u e)
in_is v (u ∷ us) (inr i) = or_right (nat_eq v u) (list_any (nat_eq v) us) (in_is v us i)

pub written_in : (op : TraceOp) (v : ℕ) → written op ≡ Some v → IsIn v (writes_of op)
written_in op v e = subst (IsIn v) (sym (ap value_list e) ∙ writes_are op) (inl refl)

alone : (v : ℕ) (w : Option ℕ) → IsIn v (value_list w) → w ≡ Some v
alone v None i = absurd i
alone v (Some u) (inl e) = ap Some (sym e)
alone v (Some u) (inr i) = absurd i

pub in_written : (op : TraceOp) (v : ℕ) → IsIn v (writes_of op) → written op ≡ Some v
in_written op v i = alone v (written op) (subst (IsIn v) (sym (writes_are op)) i)

-- what an operation writes is among values
pub record IsWrittenIn (op : TraceOp) (vs : List ℕ) : Type 0 where
  pub value : ℕ
  pub writes : IsIn value (writes_of op)
  pub among : IsIn value vs

pub has_value : (op : TraceOp) (vs : List ℕ) → has (written op) vs ≡ true → IsWrittenIn op vs
has_value op vs e = by (written op) refl e
  where
    by : (o : Option ℕ) → written op ≡ o → has o vs ≡ true → IsWrittenIn op vs
    by None f h = absurd (false≢true h)
    by (Some v) f h = record { value = v; writes = written_in op v f; among = is_in v vs h }

pub value_has : (op : TraceOp) (vs : List ℕ) (v : ℕ) → IsIn v (writes_of op) → IsIn v vs → has (written op) vs ≡ true
value_has op vs v w i = ap (λ o. has o vs) (in_written op v w) ∙ in_is v vs i
