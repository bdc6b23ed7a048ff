-- Stack pointers are moved, and arguments passed to the slots of parameters.
use Rattle.std.proofs.Common.{◌≡◌, ◌≢◌, ◌<◌, ◌≤◌, ◌⊎◌, inl, inr, ⊎_elim, ◌+◌, ◌*◌, ◌^◌, ℕ, zero, suc, ℤ, pos, ◌+ℤ◌, neg_ℤ, Bool, true, false, ◌&&◌, ◌||◌, not, cond, Some, List, [], ◌∷◌, ◌++◌, map, refl, sym, ap, ◌∙◌, subst, arith}
use Rattle.std.specs.Prelude.{if◌then◌else◌, slice_get, drop, count_by, length}
use Rattle.std.specs.List.{list_any, flat_map}
use Rattle.std.proofs.lemmas.Int.{ints}
use Rattle.std.proofs.lemmas.List.{append-nil}
use Rattle.vx_base.specs.Arithmetic.{IsNumber, sum_of}
use Rattle.vx_base.proofs.WrapLaws.{sum_of-exact}
use Rattle.vx_flow.specs.Effects.{IsIn}
use Rattle.vx_flow.specs.Walk.{numbers}
use Rattle.vx_isa.specs.declared.operation.Register.{Register}
use Rattle.vx_isa.specs.declared.operation.Register.TheVariants.{General, Branch}
use Rattle.vx_isa.specs.declared.operation.Operation.{Operation}
use Rattle.vx_isa.specs.declared.operation.Operation.TheVariants.{BranchOn}
use Rattle.vx_isa.specs.declared.program.Word.{Word}
use Rattle.vx_isa.specs.declared.program.WordProgram.{WordProgram}
use Rattle.vx_isa.specs.Numbers.{Numbers}
use Rattle.vx_isa.specs.Operations.{cluster_of_register, destination_of}
use Rattle.vx_isa.specs.Machine.{State, To, register, is_one, number_of, memory_after, takes_input, print_of, has_bad_address, lead_of, is_left}
use Rattle.vx_isa.proofs.Lists.{count_by-cons}
use Rattle.vx_target.specs.Target.{stack_on, pause, in_flight, bytes}
use Rattle.vx_target.proofs.Forms.{Plainly, memory_on}
use Rattle.vx_target.proofs.Calm.{seen, put_to, put_at, put_off, given, after, AllFit}
use Rattle.vx_target.proofs.Slots.{in_or_not}
use Rattle.vx_target.proofs.Steps.{Stands, Quiet, quiet_on, Forth, forth_on, word_step, pause_step}

pub numbers_in : (b n k : ℕ) → b ≤ k → k < b + n → IsIn k (numbers b n)
numbers_in b zero k le lt = absurd (omega arith)
numbers_in b (suc n) k le lt = ⊎_elim (λ e. inl e) (λ l. inr (numbers_in (b + 1) n k (omega arith) (omega arith))) (first b k le)
  where
    first : (b k : ℕ) → b ≤ k → (k ≡ b) ⊎ (b < k)
    first zero zero h = inl refl
    first zero (suc k) h = inr (omega arith)
    first (suc b) zero h = absurd (omega arith)
    first (suc b) (suc k) h = ⊎_elim (λ e. inl (ap suc e)) (λ l. inr (omega arith)) (first b k (omega arith))

stack_one : (j k : ℕ) → General (stack_on j) ≡ General (stack_on k) → j ≡ k
stack_one j k e = ap cluster_of_register e

-- words whose operations set the stack pointer of each of some clusters
module _ (m : Numbers) (w : WordProgram) (fit : AllFit m w) (u : State) (op : ℕ → Operation) (value : ℕ → ℤ) (to_stack : (k : ℕ) → destination_of (op k) ≡ Some (General (stack_on k))) (number : (k : ℕ) → number_of w.memory u (op k) ≡ value k) (plainly : (k : ℕ) → Plainly w u (op k)) where
  or_both : (a b : Bool) → a ≡ false → b ≡ false → (a || b) ≡ false
  or_both a b e h = ap (λ x. x || b) e ∙ h

  no_bad : (ks : List ℕ) → list_any (has_bad_address w.memory u) (map op ks) ≡ false
  no_bad [] = refl
  no_bad (k ∷ ks) = or_both (has_bad_address w.memory u (op k)) (list_any (has_bad_address w.memory u) (map op ks)) (plainly k).bad (no_bad ks)

  no_take : (ks : List ℕ) → list_any takes_input (map op ks) ≡ false
  no_take [] = refl
  no_take (k ∷ ks) = or_both (takes_input (op k)) (list_any takes_input (map op ks)) (plainly k).takes (no_take ks)

  no_print : (ks : List ℕ) → flat_map (print_of w u) (map op ks) ≡ []
  no_print [] = refl
  no_print (k ∷ ks) = ap (λ xs. xs ++ flat_map (print_of w u) (map op ks)) (plainly k).prints ∙ no_print ks

  no_count : (ks : List ℕ) → count_by takes_input (map op ks) ≡ 0
  no_count [] = refl
  no_count (k ∷ ks) = let c : count_by takes_input (op k ∷ map op ks) ≡ 0 + count_by takes_input (map op ks) = count_by-cons takes_input (op k) (map op ks) ∙ ap (λ b. cond b 1 0 + count_by takes_input (map op ks)) (plainly k).takes in let h = no_count ks in omega arith

  no_store : (ks : List ℕ) (memory : ℕ → ℤ) → memory_after u (map op ks) memory ≡ memory
  no_store [] memory = refl
  no_store (k ∷ ks) memory = memory_on u (op k) (map op ks) memory ∙ ap (memory_after u (map op ks)) ((plainly k).stores memory) ∙ no_store ks memory

  straight_on : (ks : List ℕ) → lead_of u (map op ks) ≡ To (u.place + 1)
  straight_on [] = refl
  straight_on (k ∷ ks) = (plainly k).leads (map op ks) ∙ straight_on ks

  others_stay : (ks : List ℕ) (regs : Register → ℤ) (q : Register) → ((k : ℕ) → IsIn k ks → q ≢ General (stack_on k)) → seen (given u w.memory (map op ks) regs) q ≡ seen regs q
  others_stay [] regs q h = refl
  others_stay (k ∷ ks) regs q h =
      others_stay ks (put_to (destination_of (op k)) (number_of w.memory u (op k)) regs) q (λ j i. h j (inr i))
      ∙ ap (λ d. seen (put_to d (number_of w.memory u (op k)) regs) q) (to_stack k) ∙ put_off (General (stack_on k)) (number_of w.memory u (op k)) regs q (h k (inl refl))

  each_set : (ks : List ℕ) (regs : Register → ℤ) (k : ℕ) → IsIn k ks → seen (given u w.memory (map op ks) regs) (General (stack_on k)) ≡ value k
  each_set [] regs k i = absurd i
  each_set (j ∷ ks) regs k i = ⊎_elim
      (λ l. each_set ks (put_to (destination_of (op j)) (number_of w.memory u (op j)) regs) k l)
      (λ no_. let e : k ≡ j = ⊎_elim (λ q. q) (λ l. absurd (no_ l)) i in
      others_stay ks (put_to (destination_of (op j)) (number_of w.memory u (op j)) regs) (General (stack_on k)) (λ x l q. no_ (subst (λ y. IsIn y ks) (sym (stack_one k x q)) l))
      ∙ ap (λ x. seen (put_to (destination_of (op j)) (number_of w.memory u (op j)) regs) (General (stack_on x))) e
      ∙ ap (λ d. seen (put_to d (number_of w.memory u (op j)) regs) (General (stack_on j))) (to_stack j) ∙ put_at (General (stack_on j)) (number_of w.memory u (op j)) regs refl ∙ number j ∙ ap value (sym e))
      (in_or_not k ks)

  abbrev Moving : ℕ → Word
  Moving n = record { ops = map op (numbers 0 n); idle = 0 }

  abbrev pub MoveWords : ℕ → List Word
  MoveWords n = Moving n ∷ pause (in_flight m 0 (Moving n ∷ []))

  -- after the word, and a pause
  pub record Moved (clusters : ℕ) : Type 0 where
    pub to : State
    pub forth : Forth m w fit u to
    pub place : to.place ≡ u.place + length (MoveWords clusters)
    pub quiet : Quiet u to
    pub memory : to.memory ≡ u.memory
    pub stack : (k : ℕ) → k < clusters → register to (General (stack_on k)) ≡ value k
    pub others : (q : Register) → ((k : ℕ) → q ≢ General (stack_on k)) → seen to.registers q ≡ seen u.registers q

  pub move_run : (clusters : ℕ) → u.flying ≡ [] → Stands w.words u.place (MoveWords clusters) → Moved clusters
  move_run n calm st =
      let ks : List ℕ = numbers 0 n in
      let a : State = after w u (Moving n) (u.place + 1) in
      let f : Forth m w fit u a = word_step m w fit u (Moving n) (u.place + 1) calm st.0 (record { addresses = no_bad ks; input = ap (λ b. b && not (is_left u.input)) (no_take ks) }) (straight_on ks) in
      let b = pause_step m w fit a (in_flight m 0 (Moving n ∷ [])) refl st.1 in
      let pb = b.place in
      let q : Quiet u a = record { calm = refl; input = ap (λ c. drop c u.input) (no_count ks); out = ap (λ ys. u.out ++ ys) (no_print ks) ∙ append-nil u.out } in
      record {
        to = b.to;
        forth = forth_on m w fit u a b.to f b.comes;
        place = omega arith;
        quiet = quiet_on u a b.to q b.quiet;
        memory = b.memory ∙ no_store ks u.memory;
        stack = λ k lt. ap (λ g. seen g (General (stack_on k))) b.registers ∙ each_set ks u.registers k (numbers_in 0 n k (omega arith) (omega arith));
        others = λ x h. ap (λ g. seen g x) b.registers ∙ others_stay ks u.registers x (λ k i. h k);
      }

  -- the same operations behind a branch, in one word

  abbrev Branching : (t p clusters : ℕ) → Word
  Branching t p n = record { ops = BranchOn t true p ∷ map op (numbers 0 n); idle = 0 }

  -- after the word, which has led to a place
  pub record Branched (clusters place : ℕ) : Type 0 where
    pub to : State
    pub forth : Forth m w fit u to
    pub there : to.place ≡ place
    pub quiet : Quiet u to
    pub memory : to.memory ≡ u.memory
    pub stack : (k : ℕ) → k < clusters → register to (General (stack_on k)) ≡ value k
    pub others : (q : Register) → ((k : ℕ) → q ≢ General (stack_on k)) → seen to.registers q ≡ seen u.registers q

  pub branch_run : (t p n q : ℕ) → u.flying ≡ [] → slice_get w.words u.place ≡ Some (Branching t p n) → (if is_one (register u (Branch (record { cluster = 0; number = t }))) then To p else To (u.place + 1)) ≡ To q → Branched n q
  branch_run t p n q calm at leads =
      let ks : List ℕ = numbers 0 n in
      let c : count_by takes_input (BranchOn t true p ∷ map op ks) ≡ 0 + count_by takes_input (map op ks) = count_by-cons takes_input (BranchOn t true p) (map op ks) in
      let none : count_by takes_input (BranchOn t true p ∷ map op ks) ≡ 0 = (let h = no_count ks in omega arith) in
      record {
        to = after w u (Branching t p n) q;
        forth = word_step m w fit u (Branching t p n) q calm at (record { addresses = no_bad ks; input = ap (λ b. b && not (is_left u.input)) (no_take ks) })
            (ap (λ l. if is_one (register u (Branch (record { cluster = 0; number = t }))) then To p else l) (straight_on ks) ∙ leads);
        there = refl;
        quiet = record { calm = refl; input = ap (λ c. drop c u.input) none; out = ap (λ ys. u.out ++ ys) (no_print ks) ∙ append-nil u.out };
        memory = no_store ks u.memory;
        stack = λ k lt. each_set ks u.registers k (numbers_in 0 n k (omega arith) (omega arith));
        others = λ x h. others_stay ks u.registers x (λ k i. h k);
      }

-- the frame of the next function, and back

pub down : (sp base frame : ℕ) → base + frame ≡ sp → 4 * sp < 2 ^ 31 → sum_of (pos (4 * sp)) (neg_ℤ (bytes frame)) ≡ pos (4 * base)
down sp base frame e lt =
    let z : pos (4 * sp) +ℤ neg_ℤ (pos (4 * frame)) ≡ pos (4 * base) = omega (arith, ints) in
    sum_of-exact (pos (4 * sp)) (neg_ℤ (bytes frame)) (subst IsNumber (sym z) (record { sfits = omega arith })) ∙ z

pub up : (sp base frame : ℕ) → base + frame ≡ sp → 4 * sp < 2 ^ 31 → sum_of (pos (4 * base)) (bytes frame) ≡ pos (4 * sp)
up sp base frame e lt =
    let z : pos (4 * base) +ℤ pos (4 * frame) ≡ pos (4 * sp) = omega (arith, ints) in
    sum_of-exact (pos (4 * base)) (bytes frame) (subst IsNumber (sym z) (record { sfits = omega arith })) ∙ z
