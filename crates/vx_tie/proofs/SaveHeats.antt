-- Values are saved while the result of the test of the depth is in flight, and a pause behind them is as long as it still is.
use Rattle.std.proofs.Common.{◌≡◌, ◌≢◌, ◌≤◌, inl, inr, ⊎_elim, ◌-◌, ℕ, pos, Bool, true, false, List, [], ◌∷◌, ◌++◌, append_assoc, refl, sym, ap, ◌∙◌, subst, arith}
use Rattle.std.specs.Prelude.{if◌then◌else◌, max}
use Rattle.vx_base.proofs.Pieces.{cold, fine_less}
use Rattle.vx_flow.specs.Effects.{IsIn}
use Rattle.vx_isa.specs.declared.operation.Register.{Register}
use Rattle.vx_isa.specs.declared.operation.Register.TheVariants.{General as InGeneral, Branch as InBranch}
use Rattle.vx_isa.specs.declared.operation.Source.TheVariants.{Held, Number}
use Rattle.vx_isa.specs.declared.operation.Operation.{Operation}
use Rattle.vx_isa.specs.declared.operation.Operation.TheVariants.{Select, Store}
use Rattle.vx_isa.specs.declared.program.Word.{Word}
use Rattle.vx_target.specs.Target.{Target, answer, general_of, branch_of, register_of, stack_on, home, holds_branch, one, pause, latest, in_flight, settled, store_slot, store_slots, bytes}
use Rattle.vx_tie.proofs.Early.{Touches, words_kind, words_cool}
use Rattle.vx_tie.proofs.Heats.{lift, lift_off, lift_fewer, lift_cooled, stays, FineWords, word_fine, wait_fine}
use Rattle.vx_tie.proofs.Loads.{not_any}
use Rattle.vx_target.proofs.Pauses.{flight_append, flight_pause}
use Rattle.vx_tie.proofs.PlanFits.{differ}

-- the register of the test
abbrev pub tested : Register
tested = InBranch (record { cluster = 0; number = 0 })

module _ (T : Target) (heat : ℕ → Register → ℕ) (f : ℕ) (names : List ℕ) where
  abbrev Fine : (Register → ℕ) → List Word → (Register → ℕ) → Type 0
  Fine h ws e = FineWords T.machine heat h ws e

  abbrev Reg : ℕ → Register
  Reg v = register_of T f names v

  abbrev Late : ℕ → Register → ℕ
  Late t = lift t cold (tested ∷ [])

  name_late : (t v : ℕ) → Reg v ≢ tested → Late t (Reg v) ≡ 0
  name_late t v h = lift_off t cold (tested ∷ []) (Reg v) refl (not_any (Reg v) [] tested (differ (Reg v) tested h) refl)

  less : (k l : ℕ) (ws : List Word) (e : Register → ℕ) → k ≤ l → Fine (Late l) ws e → Fine (Late k) ws e
  less k l ws e le more = fine_less (words_kind T.machine) (words_cool T.machine) heat (Late k) (Late l) e ws (λ r. lift_fewer k l cold (tested ∷ []) (tested ∷ []) r le (λ h. h)) more

  one_save : (t v : ℕ) (rest : List Word) (e : Register → ℕ) → Reg v ≢ tested → Fine (Late (in_flight T.machine t (store_slot T f v (general_of T f names v) (branch_of T f names v)))) rest e → Fine (Late t) (store_slot T f v (general_of T f names v) (branch_of T f names v) ++ rest) e
  one_save t v rest e other more = by (holds_branch T f v) refl more
    where
      B : Register
      B = InBranch (record { cluster = 0; number = branch_of T f names v })

      pick : Operation
      pick = Select 0 answer (record { cluster = 0; number = branch_of T f names v }) (Number (pos 1)) (Number (pos 0))

      last : Operation
      last = Store 0 (bytes (T.slot f v)) (stack_on 0) (Held answer)

      store : Operation
      store = Store (home T f v) (bytes (T.slot f v)) (stack_on (home T f v)) (Held (general_of T f names v))

      is_branch : holds_branch T f v ≡ true → B ≡ Reg v
      is_branch q = sym (ap (λ c. if c then B else InGeneral (general_of T f names v)) q)

      -- general registers are others than the one of the test
      pick_meets : holds_branch T f v ≡ true → (r : Register) → Touches (pick ∷ []) r → Late t r ≡ 0
      pick_meets q r h = ⊎_elim
          (λ i. ⊎_elim (λ s. ap (Late t) (s ∙ is_branch q) ∙ name_late t v other) (λ y. absurd y) i)
          (λ i. ⊎_elim (λ s. subst (λ y. Late t y ≡ 0) (sym s) refl) (λ y. absurd y) i) h.0

      last_meets : (k : ℕ) (r : Register) → Touches (last ∷ []) r → Late k r ≡ 0
      last_meets k r h = ⊎_elim
          (λ i. ⊎_elim (λ s. subst (λ y. Late k y ≡ 0) (sym s) refl) (λ j. ⊎_elim (λ s. subst (λ y. Late k y ≡ 0) (sym s) refl) (λ y. absurd y) j) i)
          (λ i. absurd i) h.0

      store_meets : (r : Register) → Touches (store ∷ []) r → Late t r ≡ 0
      store_meets r h = ⊎_elim
          (λ i. ⊎_elim (λ s. subst (λ y. Late t y ≡ 0) (sym s) refl) (λ j. ⊎_elim (λ s. subst (λ y. Late t y ≡ 0) (sym s) refl) (λ y. absurd y) j) i)
          (λ i. absurd i) h.0

      Words : Bool → List Word
      Words c = if c then settled T (one pick ∷ []) ++ one last ∷ [] else one store ∷ []

      by : (c : Bool) → holds_branch T f v ≡ c → Fine (Late (in_flight T.machine t (Words c))) rest e → Fine (Late t) (Words c ++ rest) e
      by true q rest_fine =
          let k : ℕ = in_flight T.machine 0 (one pick ∷ []) in
          let left : ℕ = (t - 1) - k in
          let n : ℕ = max t (latest T.machine (pick ∷ [])) - 1 in
          let all : in_flight T.machine t (Words true) ≡ max (n - k) (latest T.machine (last ∷ [])) - 1 = flight_append T.machine n (pause k) (one last ∷ []) ∙ ap (λ z. max z (latest T.machine (last ∷ [])) - 1) (flight_pause T.machine n k) in
          let le : left - 1 ≤ in_flight T.machine t (Words true) = omega arith in
          subst (λ ws. Fine (Late t) (one pick ∷ ws) e) (sym (append_assoc (pause k) (one last ∷ []) rest))
          (word_fine T.machine heat 0 (Late t) (Late (t - 1)) [] (pick ∷ []) (pause k ++ (one last ∷ rest)) e refl (lift_cooled t 1 cold (tested ∷ [])) (λ p r j. absurd j) (pick_meets q)
          (wait_fine T.machine heat k k (Late (t - 1)) (Late left) (InGeneral answer ∷ []) (one last ∷ rest) e (omega arith) (lift_cooled (t - 1) k cold (tested ∷ []))
          (word_fine T.machine heat 0 (Late left) (Late (left - 1)) [] (last ∷ []) rest e refl (lift_cooled left 1 cold (tested ∷ [])) (λ p r j. absurd j) (last_meets left)
          (less (left - 1) (in_flight T.machine t (Words true)) rest e le rest_fine))))
      by false q rest_fine =
          let le : t - 1 ≤ in_flight T.machine t (Words false) = (let all : in_flight T.machine t (Words false) ≡ max t (latest T.machine (store ∷ [])) - 1 = refl in omega arith) in
          word_fine T.machine heat 0 (Late t) (Late (t - 1)) [] (store ∷ []) rest e refl (lift_cooled t 1 cold (tested ∷ [])) (λ p r j. absurd j) store_meets
          (less (t - 1) (in_flight T.machine t (Words false)) rest e le rest_fine)

  pub saves_late : (t : ℕ) (vs : List ℕ) (rest : List Word) (e : Register → ℕ) → ((v : ℕ) → IsIn v vs → Reg v ≢ tested) → Fine cold rest e → Fine (Late t) (store_slots T f names vs ++ (pause (in_flight T.machine t (store_slots T f names vs)) ++ rest)) e
  saves_late t [] rest e others more = wait_fine T.machine heat t t cold cold (tested ∷ []) rest e (omega arith) (stays t cold) more
  saves_late t (v ∷ vs) rest e others more =
      let here : List Word = store_slot T f v (general_of T f names v) (branch_of T f names v) in
      let later : List Word = store_slots T f names vs in
      let k : ℕ = in_flight T.machine t here in
      let q : in_flight T.machine k later ≡ in_flight T.machine t (here ++ later) = sym (flight_append T.machine t here later) in
      let all : Fine (Late k) (later ++ (pause (in_flight T.machine k later) ++ rest)) e = saves_late k vs rest e (λ u i. others u (inr i)) more in
      subst (λ ws. Fine (Late t) ws e) (sym (append_assoc here later (pause (in_flight T.machine t (here ++ later)) ++ rest)))
      (one_save t v (later ++ (pause (in_flight T.machine t (here ++ later)) ++ rest)) e (others v (inl refl))
      (subst (λ z. Fine (Late k) (later ++ (pause z ++ rest)) e) q all))
