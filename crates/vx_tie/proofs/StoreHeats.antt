-- Behind a planned word a pause, and the stores of results that it left in scratch registers, meet nothing in flight.
use Rattle.std.proofs.Common.{◌≡◌, inl, inr, ⊎_elim, ℕ, pos, Bool, true, false, List, [], ◌∷◌, ◌++◌, append_assoc, map, refl, sym, ap, ◌∙◌, subst, arith}
use Rattle.std.specs.Prelude.{if◌then◌else◌}
use Rattle.vx_flow.specs.Effects.{IsIn}
use Rattle.vx_isa.specs.declared.operation.Register.{Register}
use Rattle.vx_isa.specs.declared.operation.Register.TheVariants.{General as InGeneral, Branch as InBranch}
use Rattle.vx_isa.specs.declared.operation.Source.TheVariants.{Held, Number}
use Rattle.vx_isa.specs.declared.operation.Operation.{Operation}
use Rattle.vx_isa.specs.declared.operation.Operation.TheVariants.{Select, Store}
use Rattle.vx_isa.specs.declared.program.Word.{Word}
use Rattle.vx_target.specs.Target.{Target, answer, general_of, branch_of, register_of, stack_on, home, holds_branch, slotted, one, pause, in_flight, settled, store_slot, store_slots, if_some, bytes}
use Rattle.vx_tie.proofs.Early.{Touches}
use Rattle.vx_tie.proofs.Heats.{lift, stays, FineWords, word_fine, wait_fine}

module _ (T : Target) (heat : ℕ → Register → ℕ) (f : ℕ) (names : List ℕ) (b : Register → ℕ) where
  abbrev Fine : (Register → ℕ) → List Word → (Register → ℕ) → Type 0
  Fine h ws e = FineWords T.machine heat h ws e

  abbrev Reg : ℕ → Register
  Reg v = register_of T f names v

  module _ (stack : (k : ℕ) → b (InGeneral (stack_on k)) ≡ 0) (answered : b (InGeneral answer) ≡ 0) where
    one_store : (v : ℕ) (rest : List Word) (e : Register → ℕ) → b (Reg v) ≡ 0 → Fine b rest e → Fine b (store_slot T f v (general_of T f names v) (branch_of T f names v) ++ rest) e
    one_store v rest e z more = by (holds_branch T f v) refl
      where
        B : Register
        B = InBranch (record { cluster = 0; number = branch_of T f names v })

        pick : Operation
        pick = Select 0 answer (record { cluster = 0; number = branch_of T f names v }) (Number (pos 1)) (Number (pos 0))

        last : Operation
        last = Store 0 (bytes (T.slot f v)) (stack_on 0) (Held answer)

        store : Operation
        store = Store (home T f v) (bytes (T.slot f v)) (stack_on (home T f v)) (Held (general_of T f names v))

        is_general : holds_branch T f v ≡ false → InGeneral (general_of T f names v) ≡ Reg v
        is_general q = sym (ap (λ c. if c then B else InGeneral (general_of T f names v)) q)

        is_branch : holds_branch T f v ≡ true → B ≡ Reg v
        is_branch q = sym (ap (λ c. if c then B else InGeneral (general_of T f names v)) q)

        pick_meets : holds_branch T f v ≡ true → (r : Register) → Touches (pick ∷ []) r → b r ≡ 0
        pick_meets q r t = ⊎_elim
            (λ i. ⊎_elim (λ s. ap b (s ∙ is_branch q) ∙ z) (λ y. absurd y) i)
            (λ i. ⊎_elim (λ s. ap b s ∙ answered) (λ y. absurd y) i) t.0

        last_meets : (r : Register) → Touches (last ∷ []) r → b r ≡ 0
        last_meets r t = ⊎_elim
            (λ i. ⊎_elim (λ s. ap b s ∙ stack 0) (λ j. ⊎_elim (λ s. ap b s ∙ answered) (λ y. absurd y) j) i)
            (λ i. absurd i) t.0

        store_meets : holds_branch T f v ≡ false → (r : Register) → Touches (store ∷ []) r → b r ≡ 0
        store_meets q r t = ⊎_elim
            (λ i. ⊎_elim (λ s. ap b s ∙ stack (home T f v)) (λ j. ⊎_elim (λ s. ap b (s ∙ is_general q) ∙ z) (λ y. absurd y) j) i)
            (λ i. absurd i) t.0

        by : (c : Bool) → holds_branch T f v ≡ c → Fine b ((if c then settled T (one pick ∷ []) ++ one last ∷ [] else one store ∷ []) ++ rest) e
        by true q =
            let n : ℕ = in_flight T.machine 0 (one pick ∷ []) in
            subst (λ ws. Fine b (one pick ∷ ws) e) (sym (append_assoc (pause n) (one last ∷ []) rest))
            (word_fine T.machine heat 0 b b [] (pick ∷ []) (pause n ++ (one last ∷ rest)) e refl (stays 1 b) (λ p r j. absurd j) (pick_meets q)
            (wait_fine T.machine heat n n b b (InGeneral answer ∷ []) (one last ∷ rest) e (omega arith) (stays n b)
            (word_fine T.machine heat 0 b b [] (last ∷ []) rest e refl (stays 1 b) (λ p r j. absurd j) last_meets more)))
        by false q = word_fine T.machine heat 0 b b [] (store ∷ []) rest e refl (stays 1 b) (λ p r j. absurd j) (store_meets q) more

    stores_fine : (vs : List ℕ) (rest : List Word) (e : Register → ℕ) → ((v : ℕ) → IsIn v vs → b (Reg v) ≡ 0) → Fine b rest e → Fine b (store_slots T f names vs ++ rest) e
    stores_fine [] rest e z more = more
    stores_fine (v ∷ vs) rest e z more =
        subst (λ ws. Fine b ws e) (sym (append_assoc (store_slot T f v (general_of T f names v) (branch_of T f names v)) (store_slots T f names vs) rest))
        (one_store v (store_slots T f names vs ++ rest) e (z v (inl refl)) (stores_fine vs rest e (λ u i. z u (inr i)) more))

    behind_case : (n : ℕ) (vs us : List ℕ) (rest : List Word) (e : Register → ℕ) → ((v : ℕ) → IsIn v us → b (Reg v) ≡ 0) → Fine b rest e → Fine (lift n b (map Reg vs)) (if_some vs (pause n ++ store_slots T f names us) ++ rest) e
    behind_case n [] us rest e z more = more
    behind_case n (v ∷ vs) us rest e z more = subst (λ ws. Fine (lift n b (map Reg (v ∷ vs))) ws e) (sym (append_assoc (pause n) (store_slots T f names us) rest))
        (wait_fine T.machine heat n n b b (map Reg (v ∷ vs)) (store_slots T f names us ++ rest) e (omega arith) (stays n b) (stores_fine us rest e z more))

    -- results in slots land, and are stored
    pub behind_fine : (n : ℕ) (rest : List Word) (e : Register → ℕ) → ((v : ℕ) → IsIn v (slotted T f names) → b (Reg v) ≡ 0) → Fine b rest e → Fine (lift n b (map Reg (slotted T f names))) (if_some (slotted T f names) (pause n ++ store_slots T f names (slotted T f names)) ++ rest) e
    behind_fine n rest e z more = behind_case n (slotted T f names) (slotted T f names) rest e z more
