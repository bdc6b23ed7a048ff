-- What is known of an operation that comes from a sound graph: the banks of the values that it names, and its arrays.
use Rattle.std.proofs.Common.{◌≡◌, ◌⊎◌, inl, inr, ℕ, suc, ◌+◌, ◌*◌, ◌<◌, Bool, true, false, Some, List, [], ◌∷◌, ◌++◌, length, map, slice_get, refl, sym, ap, ◌∙◌, subst, arith}
use Rattle.std.specs.Prelude.{◌%◌, if◌then◌else◌}
use Rattle.std.proofs.Math.Nat.{mod-eq_of_lt}
use Rattle.std.proofs.lemmas.Nat.{mod-mul-add}
use Rattle.std.proofs.lemmas.Option.{slice_get_within}
use Rattle.vx_base.specs.declared.arithmetic.Code.{Code}
use Rattle.vx_base.specs.declared.arithmetic.Code.TheVariants.{ToBranch}
use Rattle.vx_flow.specs.declared.graph.Bank.TheVariants.{General, Branch}
use Rattle.vx_flow.specs.declared.graph.Graph.{Graph}
use Rattle.vx_flow.specs.declared.graph.Op.{Op}
use Rattle.vx_flow.specs.declared.graph.Op.TheVariants.{Compute, Select, Place, Load, Store, Decimal, Across, Base, PlaceIn}
use Rattle.vx_flow.specs.declared.graph.Operand.{Operand}
use Rattle.vx_flow.specs.declared.graph.Operand.TheVariants.{Held, Number, Stack}
use Rattle.vx_flow.specs.declared.trace.TraceOp.TheVariants.{Plain}
use Rattle.vx_flow.specs.Effects.{IsIn, dismissed, is_unary, value_in, reads, writes}
use Rattle.vx_flow.specs.Sound.{bank_written, operands_of, tests_of, arrays_of, HasOperation, Sound}
use Rattle.vx_flow.proofs.Members.{in_either}
use Rattle.vx_flow.proofs.OperandLaws.{first_operand_in, second_operand_in}
use Rattle.vx_layout.specs.Origins.{whole, whole_operand, whole_op, copy_of, ComesFrom, graph_op, copy}
use Rattle.vx_bug.specs.Clusters.{general_reads}

-- what does not depend on dismissals nor on values

code_bank : (code : Code) (v w : ℕ) (a b c d : Operand) → bank_written (Compute code v a b) ≡ bank_written (Compute code w c d)
code_bank (ToBranch compare) v w a b c d = refl
code_bank code v w a b c d = refl

bank_dismissed : (op : Op) → bank_written (dismissed op) ≡ bank_written op
bank_dismissed (Load v a p d) = refl
bank_dismissed op = refl

bank_whole : (n : ℕ) (op : Op) → bank_written (whole_op n op) ≡ bank_written op
bank_whole n (Compute code v a b) = code_bank code (whole n v) v (whole_operand n a) (whole_operand n b) a b
bank_whole n op = refl

arrays_dismissed : (op : Op) → arrays_of (dismissed op) ≡ arrays_of op
arrays_dismissed (Load v a p d) = refl
arrays_dismissed op = refl

arrays_whole : (n : ℕ) (op : Op) → arrays_of (whole_op n op) ≡ arrays_of op
arrays_whole n op = by op
  where
    by : (op : Op) → arrays_of (whole_op n op) ≡ arrays_of op
    by (Place v a i) = refl
    by (Load v a p d) = refl
    by (Store a p x) = refl
    by (Base v a x) = refl
    by (PlaceIn v a u i) = refl
    by op = refl

tests_dismissed : (op : Op) → tests_of (dismissed op) ≡ tests_of op
tests_dismissed (Load v a p d) = refl
tests_dismissed op = refl

tests_whole : (n : ℕ) (op : Op) → tests_of (whole_op n op) ≡ map (whole n) (tests_of op)
tests_whole n (Select v p a b) = refl
tests_whole n op = refl

operands_dismissed : (op : Op) → operands_of (dismissed op) ≡ operands_of op
operands_dismissed (Load v a p d) = refl
operands_dismissed op = refl

pub reads_dismissed : (op : Op) → reads (dismissed op) ≡ reads op
reads_dismissed (Load v a p d) = refl
reads_dismissed op = refl

in_map : {A B : Type 0} (f : A → B) (xs : List A) (x : A) → IsIn x xs → IsIn (f x) (map f xs)
in_map f [] x h = absurd h
in_map f (y ∷ ys) x (inl e) = inl (ap f e)
in_map f (y ∷ ys) x (inr h) = inr (in_map f ys x h)

-- a general value that is read is an operand, of the operation with values in place of their copies too

held_in : (n v : ℕ) (x : Operand) → IsIn v (value_in x) → Held (whole n v) ≡ whole_operand n x
held_in n v (Held u) (inl e) = ap (λ z. Held (whole n z)) e
held_in n v (Held u) (inr h) = absurd h
held_in n v (Number k) h = absurd h
held_in n v Stack h = absurd h

one_of : (n v : ℕ) (x : Operand) (xs : List Operand) → IsIn v (value_in x) → IsIn (whole_operand n x) xs → IsIn (Held (whole n v)) xs
one_of n v x xs h i = subst (λ z. IsIn z xs) (sym (held_in n v x h)) i

two_of : (n v : ℕ) (x y : Operand) (xs : List Operand) → IsIn v (value_in x ++ value_in y) → IsIn (whole_operand n x) xs → IsIn (whole_operand n y) xs → IsIn (Held (whole n v)) xs
two_of n v x y xs h i j = elim (in_either v (value_in x) (value_in y) h) [ inl a ↦ one_of n v x xs a i | inr b ↦ one_of n v y xs b j ]

abbrev NotAcross : Op → Type 0
NotAcross op = (v u : ℕ) → op ≡ Across v u → ⊥

held_operand : (n v : ℕ) (op : Op) → NotAcross op → IsIn v (general_reads (Plain op)) → IsIn (Held (whole n v)) (operands_of (whole_op n op))
held_operand n v (Compute code w a b) not h = by (is_unary code) refl h
  where
    by : (u : Bool) → is_unary code ≡ u → IsIn v (if u then value_in a else value_in a ++ value_in b) → IsIn (Held (whole n v)) (operands_of (whole_op n (Compute code w a b)))
    by true e i = one_of n v a (operands_of (whole_op n (Compute code w a b))) i (first_operand_in code (whole n w) (whole_operand n a) (whole_operand n b))
    by false e i = two_of n v a b (operands_of (whole_op n (Compute code w a b))) i (first_operand_in code (whole n w) (whole_operand n a) (whole_operand n b)) (second_operand_in code (whole n w) (whole_operand n a) (whole_operand n b) e)
held_operand n v (Select w p a b) not h = two_of n v a b (operands_of (whole_op n (Select w p a b))) h (inl refl) (inr (inl refl))
held_operand n v (Place w a i) not h = one_of n v i (operands_of (whole_op n (Place w a i))) h (inl refl)
held_operand n v (Load w a p d) not h = one_of n v p (operands_of (whole_op n (Load w a p d))) h (inl refl)
held_operand n v (Store a p x) not h = two_of n v p x (operands_of (whole_op n (Store a p x))) h (inl refl) (inr (inl refl))
held_operand n v (Decimal x) not h = one_of n v x (operands_of (whole_op n (Decimal x))) h (inl refl)
held_operand n v (Across w u) not h = absurd (not w u refl)
held_operand n v (PlaceIn w a u i) not h = two_of n v i (Held u) (operands_of (whole_op n (PlaceIn w a u i))) h (inl refl) (inr (inl refl))
held_operand n v op not h = absurd h

-- what is known: the bank of a copy is that of its value

pub record Known (graph : Graph) (op : Op) : Type 0 where
  pub results : (v : ℕ) → IsIn v (writes op) → slice_get graph.banks (v % length graph.banks) ≡ Some (bank_written op)
  pub operands : (v : ℕ) → IsIn v (general_reads (Plain op)) → slice_get graph.banks (v % length graph.banks) ≡ Some General
  pub tests : (v : ℕ) → IsIn v (tests_of op) → slice_get graph.banks (v % length graph.banks) ≡ Some Branch
  pub arrays : (a : ℕ) → IsIn a (arrays_of op) → a < length graph.arrays

not_across : (graph : Graph) → Sound graph → (op origin : Op) → dismissed (whole_op (length graph.banks) op) ≡ dismissed origin → ((v u : ℕ) → origin ≡ Across v u → ⊥) → NotAcross op
not_across graph sound op origin same not v u e = by origin not (ap (λ z. dismissed (whole_op (length graph.banks) z)) (sym e) ∙ same)
  where
    by : (o : Op) → ((v u : ℕ) → o ≡ Across v u → ⊥) → Across (whole (length graph.banks) v) (whole (length graph.banks) u) ≡ dismissed o → ⊥
    by (Across w x) n q = n w x refl
    by op n q = cc

pub copy_is_whole : (n u k : ℕ) → u < n → copy_of n u k % n ≡ u
copy_is_whole n u k lt = let e : suc k ≡ k + 1 = omega arith in ap (λ z. (z * n + u) % n) e ∙ mod-mul-add (k + 1) n u lt

pub known : (graph : Graph) → Sound graph → (op : Op) → ComesFrom graph op → Known graph op
known graph sound op (graph_op origin has same written names) =
    let n = length graph.banks in
    record {
      results = λ v h.
          let at : slice_get graph.banks v ≡ Some (bank_written origin) = sound.results origin v has (subst (IsIn v) written h) in
          ap (slice_get graph.banks) (mod-eq_of_lt (slice_get_within graph.banks v (bank_written origin) at)) ∙ at ∙ ap Some (sym (sym (bank_whole n op) ∙ sym (bank_dismissed (whole_op n op)) ∙ ap bank_written same ∙ bank_dismissed origin));
      operands = λ v h.
          let not : NotAcross op = not_across graph sound op origin same (λ x y e. sound.no_across x y (subst (HasOperation graph) e has)) in
          let i : IsIn (Held (whole n v)) (operands_of (whole_op n op)) = held_operand n v op not h in
          sound.operands origin (Held (whole n v)) has (subst (IsIn (Held (whole n v))) (sym (operands_dismissed (whole_op n op)) ∙ ap operands_of same ∙ operands_dismissed origin) i);
      tests = λ v h.
          let tests : map (whole n) (tests_of op) ≡ tests_of origin = sym (tests_whole n op) ∙ sym (tests_dismissed (whole_op n op)) ∙ ap tests_of same ∙ tests_dismissed origin in
          sound.tests origin (v % n) has (subst (IsIn (v % n)) tests (in_map (whole n) (tests_of op) v h));
      arrays = λ a h. sound.arrays origin a has (subst (IsIn a) (sym (arrays_whole n op) ∙ sym (arrays_dismissed (whole_op n op)) ∙ ap arrays_of same ∙ arrays_dismissed origin) h);
    }
known graph sound op (copy {u = u} {k = k} at low) =
    let n = length graph.banks in
    let lt : u < n = slice_get_within graph.banks u General at in
    record {
      results = λ v h. by_one (copy_of n u k) v h (ap (slice_get graph.banks) (copy_is_whole n u k lt) ∙ at);
      operands = λ v h. by_one u v h (ap (slice_get graph.banks) (mod-eq_of_lt lt) ∙ at);
      tests = λ v h. absurd h;
      arrays = λ a h. absurd h;
    }
  where
    by_one : (w v : ℕ) → IsIn v (w ∷ []) → slice_get graph.banks (w % length graph.banks) ≡ Some General → slice_get graph.banks (v % length graph.banks) ≡ Some General
    by_one w v (inl e) q = ap (λ z. slice_get graph.banks (z % length graph.banks)) e ∙ q
    by_one w v (inr h) q = absurd h

-- each value that is read is a general one or a test
pub read_kind : (v : ℕ) (op : Op) → IsIn v (reads op) → IsIn v (general_reads (Plain op)) ⊎ IsIn v (tests_of op)
read_kind v (Select w p a b) (inl e) = inr (inl e)
read_kind v (Select w p a b) (inr h) = inl h
read_kind v op h = inl h
