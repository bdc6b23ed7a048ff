-- What operations and exits name: the test and the words for it.
use Rattle.std.proofs.Common.{◌≡◌, inl, inr, ℕ, zero, suc, ◌<◌, pos, negsuc, true, List, [], ◌∷◌, length, slice_get, Option, Some, None, refl, sym, subst}
use Rattle.std.proofs.lemmas.Bool.{and_parts, false≢true, ltb-true, lt-ltb}
use Rattle.std.specs.Cmp.Derive.{both_true}
use Rattle.std.specs.Prelude.{nat_lt}
use Rattle.vx_base.specs.declared.arithmetic.Code.{Code}
use Rattle.vx_base.specs.declared.arithmetic.Code.TheVariants.{Mov, ToBranch}
use Rattle.vx_flow.specs.declared.graph.Operand.{Operand}
use Rattle.vx_flow.specs.declared.graph.Operand.TheVariants.{Held, Number, Stack}
use Rattle.vx_flow.specs.declared.graph.Bank.{Bank}
use Rattle.vx_flow.specs.declared.graph.Bank.TheVariants.{General, Branch}
use Rattle.vx_flow.specs.declared.graph.Op.{Op}
use Rattle.vx_flow.specs.declared.graph.Op.TheVariants.{Compute, Select, Place, Load, Store, More, Input, Text, Decimal, Across, Base, PlaceIn}
use Rattle.vx_flow.specs.declared.graph.Exit.{Exit}
use Rattle.vx_flow.specs.declared.graph.Exit.TheVariants.{Goto, Split, Call, Return, Ends}
use Rattle.vx_flow.specs.declared.graph.Graph.{Graph}
use Rattle.vx_flow.specs.Effects.{IsIn, writes}
use Rattle.vx_flow.specs.Sound.{is_bank, is_general, is_branch, is_operand, is_zero, is_right, is_written, is_sound_operation, is_general_or_none, is_sound_exit, operands_of, operands_of_exit, tests_of, tests_of_exit, bank_written, results_of_exit, targets_of, arrays_of, Has, IsOperandOf}
use Rattle.vx_flow.proofs.SoundLists.{in_one, all_in, all_of}

bank_is : (bank : Bank) (o : Option Bank) → is_bank bank o ≡ true → o ≡ Some bank
bank_is General None h = absurd (false≢true h)
bank_is General (Some General) h = refl
bank_is General (Some Branch) h = absurd (false≢true h)
bank_is Branch None h = absurd (false≢true h)
bank_is Branch (Some General) h = absurd (false≢true h)
bank_is Branch (Some Branch) h = refl

is_bank_of : (bank : Bank) (o : Option Bank) → o ≡ Some bank → is_bank bank o ≡ true
is_bank_of General o e = subst (λ x. is_bank General x ≡ true) (sym e) refl
is_bank_of Branch o e = subst (λ x. is_bank Branch x ≡ true) (sym e) refl

pub general_is : (g : Graph) (v : ℕ) → is_general g.banks v ≡ true → Has g v General
general_is g v h = bank_is General (slice_get g.banks v) h

pub general_of : (g : Graph) (v : ℕ) → Has g v General → is_general g.banks v ≡ true
general_of g v h = is_bank_of General (slice_get g.banks v) h

branch_is : (g : Graph) (v : ℕ) → is_branch g.banks v ≡ true → Has g v Branch
branch_is g v h = bank_is Branch (slice_get g.banks v) h

branch_of : (g : Graph) (v : ℕ) → Has g v Branch → is_branch g.banks v ≡ true
branch_of g v h = is_bank_of Branch (slice_get g.banks v) h

pub operand_is : (g : Graph) (x : Operand) → is_operand g.banks x ≡ true → IsOperandOf g x
operand_is g (Held v) h = general_is g v h
operand_is g (Number n) h = tt
operand_is g Stack h = false≢true h

pub operand_of : (g : Graph) (x : Operand) → IsOperandOf g x → is_operand g.banks x ≡ true
operand_of g (Held v) h = general_of g v h
operand_of g (Number n) h = refl
operand_of g Stack h = absurd h

pub zero_is : (x : Operand) → is_zero x ≡ true → x ≡ Number (pos 0)
zero_is (Held v) h = absurd (false≢true h)
zero_is (Number (pos zero)) h = refl
zero_is (Number (pos (suc n))) h = absurd (false≢true h)
zero_is (Number (negsuc n)) h = absurd (false≢true h)
zero_is Stack h = absurd (false≢true h)

zero_of : (x : Operand) → x ≡ Number (pos 0) → is_zero x ≡ true
zero_of x e = subst (λ y. is_zero y ≡ true) (sym e) refl

one_operand : (g : Graph) (a x : Operand) → IsOperandOf g a → IsIn x (a ∷ []) → IsOperandOf g x
one_operand g a x h (inl e) = subst (IsOperandOf g) (sym e) h
one_operand g a x h (inr z) = absurd z

two_operands : (g : Graph) (a b x : Operand) → IsOperandOf g a → IsOperandOf g b → IsIn x (a ∷ b ∷ []) → IsOperandOf g x
two_operands g a b x h k (inl e) = subst (IsOperandOf g) (sym e) h
two_operands g a b x h k (inr m) = one_operand g b x k m

-- what an operation names

compute_operands : (g : Graph) (code : Code) (v : ℕ) (a b x : Operand) → is_operand g.banks a ≡ true → is_right g.banks code b ≡ true → IsIn x (operands_of (Compute code v a b)) → IsOperandOf g x
compute_operands g Mov v a b x h k m = one_operand g a x (operand_is g a h) m
compute_operands g code v a b x h k m = two_operands g a b x (operand_is g a h) (operand_is g b k) m

pub operands_are : (g : Graph) (op : Op) (x : Operand) → is_sound_operation g.banks (length g.arrays) op ≡ true → IsIn x (operands_of op) → IsOperandOf g x
operands_are g (Compute code v a b) x h m =
    let (ab, c) = and_parts _ _ h in
    compute_operands g code v a b x (and_parts _ _ ab).1 c m
operands_are g (Select v p a b) x h m =
    let (abc, d) = and_parts _ _ h in
    two_operands g a b x (operand_is g a (and_parts _ _ abc).1) (operand_is g b d) m
operands_are g (Place v a i) x h m = one_operand g i x (operand_is g i (and_parts _ _ h).1) m
operands_are g (Load v a p dismissible) x h m = one_operand g p x (operand_is g p (and_parts _ _ h).1) m
operands_are g (Store a p y) x h m =
    let (ab, c) = and_parts _ _ h in
    two_operands g p y x (operand_is g p (and_parts _ _ ab).1) (operand_is g y c) m
operands_are g (Decimal y) x h m = one_operand g y x (operand_is g y h) m
operands_are g (PlaceIn v a u i) x h m =
    let (abc, d) = and_parts _ _ h in
    two_operands g i (Held u) x (operand_is g i d) (general_is g u (and_parts _ _ abc).1) m
operands_are g op x h m = absurd m

compute_result : (g : Graph) (code : Code) (v : ℕ) (a b : Operand) → is_written g.banks code v ≡ true → Has g v (bank_written (Compute code v a b))
compute_result g (ToBranch compare) v a b h = branch_is g v h
compute_result g code v a b h = general_is g v h

written_is : (g : Graph) (bank : Bank) (u v : ℕ) → Has g u bank → IsIn v (u ∷ []) → Has g v bank
written_is g bank u v h m = subst (λ w. Has g w bank) (sym (in_one v u m)) h

pub results_are : (g : Graph) (op : Op) (v : ℕ) → is_sound_operation g.banks (length g.arrays) op ≡ true → IsIn v (writes op) → Has g v (bank_written op)
results_are g (Compute code u a b) v h m =
    let (ab, c) = and_parts _ _ h in
    written_is g (bank_written (Compute code u a b)) u v (compute_result g code u a b (and_parts _ _ ab).0) m
results_are g (Select u p a b) v h m =
    let (abc, d) = and_parts _ _ h in
    let (ab, c) = and_parts _ _ abc in
    written_is g General u v (general_is g u (and_parts _ _ ab).0) m
results_are g (Place u a i) v h m =
    let (ab, c) = and_parts _ _ h in
    written_is g General u v (general_is g u (and_parts _ _ ab).0) m
results_are g (Load u a p dismissible) v h m =
    let (ab, c) = and_parts _ _ h in
    written_is g General u v (general_is g u (and_parts _ _ ab).0) m
results_are g (More u) v h m = written_is g General u v (general_is g u h) m
results_are g (Input u) v h m = written_is g General u v (general_is g u h) m
results_are g (Across u w) v h m = absurd (false≢true h)
results_are g (Base u a x) v h m = written_is g General u v (general_is g u (and_parts _ _ h).0) m
results_are g (PlaceIn u a w i) v h m =
    let (abc, d) = and_parts _ _ h in
    let (ab, c) = and_parts _ _ abc in
    written_is g General u v (general_is g u (and_parts _ _ ab).0) m
results_are g op v h m = absurd m

pub tests_are : (g : Graph) (op : Op) (v : ℕ) → is_sound_operation g.banks (length g.arrays) op ≡ true → IsIn v (tests_of op) → Has g v Branch
tests_are g (Select u p a b) v h m =
    let (abc, d) = and_parts _ _ h in
    let (ab, c) = and_parts _ _ abc in
    written_is g Branch p v (branch_is g p (and_parts _ _ ab).1) m
tests_are g op v h m = absurd m

array_is : (n a b : ℕ) → nat_lt a n ≡ true → IsIn b (a ∷ []) → b < n
array_is n a b h m = subst (λ c. c < n) (sym (in_one b a m)) (ltb-true a n h)

pub arrays_are : (g : Graph) (op : Op) (a : ℕ) → is_sound_operation g.banks (length g.arrays) op ≡ true → IsIn a (arrays_of op) → a < length g.arrays
arrays_are g (Place u b i) a h m =
    let (ab, c) = and_parts _ _ h in
    array_is (length g.arrays) b a (and_parts _ _ ab).1 m
arrays_are g (Load u b p dismissible) a h m =
    let (ab, c) = and_parts _ _ h in
    array_is (length g.arrays) b a (and_parts _ _ ab).1 m
arrays_are g (Store b p y) a h m =
    let (ab, c) = and_parts _ _ h in
    array_is (length g.arrays) b a (and_parts _ _ ab).0 m
arrays_are g (Base u b x) a h m = array_is (length g.arrays) b a (and_parts _ _ h).1 m
arrays_are g (PlaceIn u b w i) a h m =
    let (abc, d) = and_parts _ _ h in
    let (ab, c) = and_parts _ _ abc in
    array_is (length g.arrays) b a (and_parts _ _ ab).1 m
arrays_are g op a h m = absurd m

-- what is to be shown of an operation by itself
pub record Named (g : Graph) (op : Op) : Type 0 where
  pub operands : (x : Operand) → IsIn x (operands_of op) → IsOperandOf g x
  pub results : (v : ℕ) → IsIn v (writes op) → Has g v (bank_written op)
  pub tests : (v : ℕ) → IsIn v (tests_of op) → Has g v Branch
  pub arrays : (a : ℕ) → IsIn a (arrays_of op) → a < length g.arrays
  pub no_across : (v u : ℕ) → op ≡ Across v u → ⊥
  pub moves : (v : ℕ) (a b : Operand) → op ≡ Compute Mov v a b → b ≡ Number (pos 0)

compute_of : (g : Graph) (code : Code) (v : ℕ) (a b : Operand) → Named g (Compute code v a b) → is_sound_operation g.banks (length g.arrays) (Compute code v a b) ≡ true
compute_of g Mov v a b n = both_true (both_true (general_of g v (n.results v (inl refl))) (operand_of g a (n.operands a (inl refl)))) (zero_of b (n.moves v a b refl))
compute_of g (ToBranch compare) v a b n = both_true (both_true (branch_of g v (n.results v (inl refl))) (operand_of g a (n.operands a (inl refl)))) (operand_of g b (n.operands b (inr (inl refl))))
compute_of g code v a b n = both_true (both_true (general_of g v (n.results v (inl refl))) (operand_of g a (n.operands a (inl refl)))) (operand_of g b (n.operands b (inr (inl refl))))

pub operation_of : (g : Graph) (op : Op) → Named g op → is_sound_operation g.banks (length g.arrays) op ≡ true
operation_of g (Compute code v a b) n = compute_of g code v a b n
operation_of g (Select v p a b) n =
    both_true (both_true (both_true (general_of g v (n.results v (inl refl))) (branch_of g p (n.tests p (inl refl)))) (operand_of g a (n.operands a (inl refl)))) (operand_of g b (n.operands b (inr (inl refl))))
operation_of g (Place v a i) n =
    both_true (both_true (general_of g v (n.results v (inl refl))) (lt-ltb a (length g.arrays) (n.arrays a (inl refl)))) (operand_of g i (n.operands i (inl refl)))
operation_of g (Load v a p dismissible) n =
    both_true (both_true (general_of g v (n.results v (inl refl))) (lt-ltb a (length g.arrays) (n.arrays a (inl refl)))) (operand_of g p (n.operands p (inl refl)))
operation_of g (Store a p x) n =
    both_true (both_true (lt-ltb a (length g.arrays) (n.arrays a (inl refl))) (operand_of g p (n.operands p (inl refl)))) (operand_of g x (n.operands x (inr (inl refl))))
operation_of g (More v) n = general_of g v (n.results v (inl refl))
operation_of g (Input v) n = general_of g v (n.results v (inl refl))
operation_of g (Text number) n = refl
operation_of g (Decimal x) n = operand_of g x (n.operands x (inl refl))
operation_of g (Across v u) n = absurd (n.no_across v u refl)
operation_of g (Base v a x) n = both_true (general_of g v (n.results v (inl refl))) (lt-ltb a (length g.arrays) (n.arrays a (inl refl)))
operation_of g (PlaceIn v a u i) n =
    both_true (both_true (both_true (general_of g v (n.results v (inl refl))) (lt-ltb a (length g.arrays) (n.arrays a (inl refl)))) (general_of g u (n.operands (Held u) (inr (inl refl))))) (operand_of g i (n.operands i (inl refl)))

-- what an exit names

pub record Led (g : Graph) (exit : Exit) : Type 0 where
  pub operands : (x : Operand) → IsIn x (operands_of_exit exit) → IsOperandOf g x
  pub results : (v : ℕ) → IsIn v (results_of_exit exit) → Has g v General
  pub tests : (v : ℕ) → IsIn v (tests_of_exit exit) → Has g v Branch
  pub targets : (c : ℕ) → IsIn c (targets_of exit) → c < length g.blocks

two_targets : (n c d x : ℕ) → nat_lt c n ≡ true → nat_lt d n ≡ true → IsIn x (c ∷ d ∷ []) → x < n
two_targets n c d x h k (inl e) = subst (λ y. y < n) (sym e) (ltb-true c n h)
two_targets n c d x h k (inr m) = array_is n d x k m

result_is : (g : Graph) (h : ℕ) (arguments : List Operand) (result : Option ℕ) (next v : ℕ) → is_general_or_none g.banks result ≡ true → IsIn v (results_of_exit (Call h arguments result next)) → Has g v General
result_is g h arguments None next v k m = absurd m
result_is g h arguments (Some u) next v k m = written_is g General u v (general_is g u k) m

result_of : (g : Graph) (h : ℕ) (arguments : List Operand) (result : Option ℕ) (next : ℕ) → ((v : ℕ) → IsIn v (results_of_exit (Call h arguments result next)) → Has g v General) → is_general_or_none g.banks result ≡ true
result_of g h arguments None next f = refl
result_of g h arguments (Some u) next f = general_of g u (f u (inl refl))

pub exit_is : (g : Graph) (exit : Exit) → is_sound_exit g.banks (length g.blocks) exit ≡ true → Led g exit
exit_is g (Goto c) h = record { operands = λ x m. absurd m; results = λ v m. absurd m; tests = λ v m. absurd m; targets = λ x m. array_is (length g.blocks) c x h m }
exit_is g (Split p c d) h =
    let (ab, k) = and_parts _ _ h in
    let (a, b) = and_parts _ _ ab in
    record { operands = λ x m. absurd m; results = λ v m. absurd m; tests = λ v m. written_is g Branch p v (branch_is g p a) m; targets = λ x m. two_targets (length g.blocks) c d x b k m }
exit_is g (Call f arguments result next) h =
    let (ab, k) = and_parts _ _ h in
    let (a, b) = and_parts _ _ ab in
    record {
      operands = λ x m. operand_is g x (all_in (is_operand g.banks) arguments x a m);
      results = λ v m. result_is g f arguments result next v b m;
      tests = λ v m. absurd m;
      targets = λ x m. array_is (length g.blocks) next x k m;
    }
exit_is g (Return y) h = record { operands = λ x m. one_operand g y x (operand_is g y h) m; results = λ v m. absurd m; tests = λ v m. absurd m; targets = λ x m. absurd m }
exit_is g (Ends k) h = record { operands = λ x m. absurd m; results = λ v m. absurd m; tests = λ v m. absurd m; targets = λ x m. absurd m }

pub exit_of : (g : Graph) (exit : Exit) → Led g exit → is_sound_exit g.banks (length g.blocks) exit ≡ true
exit_of g (Goto c) l = lt-ltb c (length g.blocks) (l.targets c (inl refl))
exit_of g (Split p c d) l = both_true (both_true (branch_of g p (l.tests p (inl refl))) (lt-ltb c (length g.blocks) (l.targets c (inl refl)))) (lt-ltb d (length g.blocks) (l.targets d (inr (inl refl))))
exit_of g (Call f arguments result next) l =
    both_true (both_true (all_of (is_operand g.banks) arguments (λ x m. operand_of g x (l.operands x m))) (result_of g f arguments result next l.results)) (lt-ltb next (length g.blocks) (l.targets next (inl refl)))
exit_of g (Return x) l = operand_of g x (l.operands x (inl refl))
exit_of g (Ends k) l = refl
