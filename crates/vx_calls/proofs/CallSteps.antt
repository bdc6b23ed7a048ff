-- The steps by which the words of calls are put together: an operation on one cluster more, and words behind words.
use Rattle.std.proofs.Common.{◌≡◌, ℕ, zero, suc, ◌+◌, ◌==◌, ◌&&◌, true, false, neg_ℤ, Bool, sym, List, [], ◌∷◌, ◌++◌, map, drop, length, refl, ap, ◌∙◌, arith, append_assoc}
use Rattle.std.proofs.Math.Seq.{drop-append_seam}
use Rattle.std.proofs.lemmas.Bool.{ne_eqb}
use Rattle.std.specs.Prelude.{if◌then◌else◌}
use Rattle.vx_flow.specs.Walk.{numbers}
use Rattle.vx_flow.specs.declared.graph.Operand.{Operand}
use Rattle.vx_isa.specs.Fits.{fits}
use Rattle.vx_isa.specs.declared.operation.Operation.{Operation}
use Rattle.vx_isa.specs.declared.operation.Operation.TheVariants.{BranchOn, Call}
use Rattle.vx_isa.specs.declared.program.Word.{Word}
use Rattle.vx_target.specs.Target.{Target, argument_words, bytes, calls_beside, fetch_words, is_none, leave_or_lower, move_stack, on_clusters, one, passes, pause, stack_steps}

-- clusters

on_more : (op : ℕ → Operation) (b n : ℕ) → map op (numbers b (suc n)) ≡ map op (numbers b n) ++ op (b + n) ∷ []
on_more op b zero = let z : b ≡ b + 0 = omega arith in ap (λ k. op k ∷ []) z
on_more op b (suc n) = let z : b + 1 + n ≡ b + suc n = omega arith in ap (λ q. op b ∷ q) (on_more op (b + 1) n ∙ ap (λ k. map op (numbers (b + 1) n) ++ op k ∷ []) z)

pub clusters_none : (op : ℕ → Operation) → on_clusters 0 op ≡ []
clusters_none op = refl

pub clusters_more : (op : ℕ → Operation) (n : ℕ) → on_clusters (n + 1) op ≡ on_clusters n op ++ op n ∷ []
clusters_more op n = let s : n + 1 ≡ suc n = omega arith in let z : 0 + n ≡ n = omega arith in ap (λ k. map op (numbers 0 k)) s ∙ on_more op 0 n ∙ ap (λ k. map op (numbers 0 n) ++ op k ∷ []) z

-- words behind words

pub behind_both : (old more new xs ys : List Word) → more ≡ old ++ xs → new ≡ more ++ ys → new ≡ old ++ (xs ++ ys)
behind_both old more new xs ys a b = b ∙ ap (λ z. z ++ ys) a ∙ append_assoc old xs ys

-- and a pause as long as some function says of those that were added
pub waits_behind : (cycles : List Word → ℕ) (n : ℕ) (old new xs : List Word) → n ≡ length old → new ≡ old ++ xs → new ++ pause (cycles (drop n new)) ≡ old ++ (xs ++ pause (cycles xs))
waits_behind cycles n old new xs e a =
    ap (λ z. z ++ pause (cycles (drop n z))) a
    ∙ ap (λ k. (old ++ xs) ++ pause (cycles (drop k (old ++ xs)))) e
    ∙ ap (λ z. (old ++ xs) ++ pause (cycles z)) (drop-append_seam old xs)
    ∙ append_assoc old xs (pause (cycles xs))

-- a call leaves or lowers in one word, or in two

pub lowers_beside : (T : Target) → ((T.machine.latency_alu == 1) && fits T.machine (BranchOn 0 true T.depth_trap ∷ stack_steps T (neg_ℤ (bytes T.frame)))) ≡ true → leave_or_lower T ≡ record { ops = BranchOn 0 true T.depth_trap ∷ stack_steps T (neg_ℤ (bytes T.frame)); idle = 0 } ∷ []
lowers_beside T e = ap (λ b. if b then record { ops = BranchOn 0 true T.depth_trap ∷ stack_steps T (neg_ℤ (bytes T.frame)); idle = 0 } ∷ [] else one (BranchOn 0 true T.depth_trap) ∷ move_stack T (neg_ℤ (bytes T.frame))) e

pub lowers_behind : (T : Target) → ((T.machine.latency_alu == 1) && fits T.machine (BranchOn 0 true T.depth_trap ∷ stack_steps T (neg_ℤ (bytes T.frame)))) ≡ false → leave_or_lower T ≡ one (BranchOn 0 true T.depth_trap) ∷ move_stack T (neg_ℤ (bytes T.frame))
lowers_behind T e = ap (λ b. if b then record { ops = BranchOn 0 true T.depth_trap ∷ stack_steps T (neg_ℤ (bytes T.frame)); idle = 0 } ∷ [] else one (BranchOn 0 true T.depth_trap) ∷ move_stack T (neg_ℤ (bytes T.frame))) e

-- arguments and the call

pub none_is : (more : List ℕ) → (length more == 0) ≡ is_none more
none_is [] = refl
none_is (v ∷ vs) = ne_eqb (length (v ∷ vs)) 0 (λ e. let z : suc (length vs) ≡ 0 = e in omega arith)

module _ (T : Target) (f g v : ℕ) (x : Operand) (vs : List ℕ) (xs : List Operand) (old brought : List Word) (word : Word) (last : Bool) (is_brought : brought ≡ old ++ fetch_words T f T.frame x) (is_word : word ≡ record { ops = passes T f g v x ∷ Call (T.entry g) ∷ []; idle = 0 }) (is_last : last ≡ (is_none vs && fits T.machine word.ops)) where
  abbrev Either : Bool → List Word
  Either b = fetch_words T f T.frame x ++ (if b then record { ops = passes T f g v x ∷ Call (T.entry g) ∷ []; idle = 0 } ∷ [] else one (passes T f g v x) ∷ argument_words T f g vs xs)

  beside : calls_beside T g vs (passes T f g v x) ≡ last
  beside = ap (λ (w : Word). is_none vs && fits T.machine w.ops) (sym is_word) ∙ sym is_last

  pub passed_more : (new : List Word) (store : Operation) → store ≡ passes T f g v x → new ≡ brought ++ one store ∷ [] → last ≡ false → new ++ argument_words T f g vs xs ≡ old ++ argument_words T f g (v ∷ vs) (x ∷ xs)
  passed_more new store s e t =
      let rest : List Word = argument_words T f g vs xs in
      ap (λ z. z ++ rest) (e ∙ ap (λ z. z ++ one store ∷ []) is_brought) ∙ append_assoc (old ++ fetch_words T f T.frame x) (one store ∷ []) rest ∙ append_assoc old (fetch_words T f T.frame x) (one store ∷ rest)
      ∙ ap (λ (o : Operation). old ++ (fetch_words T f T.frame x ++ one o ∷ rest)) s
      ∙ ap (λ b. old ++ Either b) (sym (beside ∙ t))
