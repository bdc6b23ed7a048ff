-- Loads of slots to the registers by which a word names values, and a pause behind them, meet nothing in flight.
use Rattle.std.proofs.Common.{◌≡◌, ◌≢◌, ◌≤◌, inl, inr, ⊎_elim, ◌+◌, ◌-◌, ℕ, pos, Bool, true, false, ◌||◌, List, [], ◌∷◌, ◌++◌, append_assoc, map, refl, sym, ap, ◌∙◌, subst, arith}
use Rattle.std.specs.Prelude.{if◌then◌else◌, max}
use Rattle.std.specs.List.{list_any}
use Rattle.vx_base.specs.declared.arithmetic.Code.TheVariants.{ToBranch}
use Rattle.vx_base.specs.declared.arithmetic.Compare.TheVariants.{Ne}
use Rattle.vx_base.proofs.Pieces.{fine_less}
use Rattle.vx_flow.specs.Effects.{IsIn}
use Rattle.vx_isa.specs.declared.operation.Register.{Register}
use Rattle.vx_isa.specs.declared.operation.Register.TheVariants.{General as InGeneral, Branch as InBranch}
use Rattle.vx_isa.specs.declared.operation.Source.TheVariants.{Held, Number}
use Rattle.vx_isa.specs.declared.operation.Operation.{Operation}
use Rattle.vx_isa.specs.declared.operation.Operation.TheVariants.{Compute, Load}
use Rattle.vx_isa.specs.declared.program.Word.{Word}
use Rattle.vx_isa.specs.Operations.{same}
use Rattle.vx_mixed.specs.Settled.{NoTwice}
use Rattle.vx_target.specs.Target.{Target, answer, general_of, branch_of, register_of, stack_on, home, holds_branch, one, pause, latest, in_flight, settled, load_slot, load_slots, bytes}
use Rattle.vx_tie.proofs.Early.{Touches, words_kind, words_cool}
use Rattle.vx_tie.proofs.Heats.{lift, lift_off, lift_fewer, lift_cooled, stays, FineWords, word_fine, wait_fine}
use Rattle.vx_target.proofs.Pauses.{flight_append, flight_pause}
use Rattle.vx_tie.proofs.PlanFits.{differ}

pub not_any : (x : Register) (rs : List Register) (y : Register) → same x y ≡ false → list_any (same x) rs ≡ false → list_any (same x) (y ∷ rs) ≡ false
not_any x rs y e f = ap (λ b. b || list_any (same x) rs) e ∙ f

module _ (T : Target) (heat : ℕ → Register → ℕ) (f : ℕ) (names : List ℕ) (b : Register → ℕ) where
  abbrev Fine : (Register → ℕ) → List Word → (Register → ℕ) → Type 0
  Fine h ws e = FineWords T.machine heat h ws e

  abbrev Reg : ℕ → Register
  Reg v = register_of T f names v

  -- what the names are
  pub record Names : Type 0 where
    pub stack : (k : ℕ) → b (InGeneral (stack_on k)) ≡ 0
    pub answered : b (InGeneral answer) ≡ 0
    pub cold : (v : ℕ) → IsIn v names → b (Reg v) ≡ 0
    pub own : (v k : ℕ) → IsIn v names → Reg v ≢ InGeneral (stack_on k)
    pub not_answer : (v : ℕ) → IsIn v names → Reg v ≢ InGeneral answer
    pub apart : (x y : ℕ) → IsIn x names → IsIn y names → x ≢ y → Reg x ≢ Reg y

  module _ (n : Names) where
    pub off : (r : Register) (done : List ℕ) → ((u : ℕ) → IsIn u done → r ≢ Reg u) → list_any (same r) (map Reg done) ≡ false
    off r [] h = refl
    off r (u ∷ done) h = not_any r (map Reg done) (Reg u) (differ r (Reg u) (h u (inl refl))) (off r done (λ x i. h x (inr i)))

    -- those that are loaded may be in flight for so many cycles
    abbrev Lifted : ℕ → List ℕ → Register → ℕ
    Lifted k done = lift k b (map Reg done)

    stack_cold : (t k : ℕ) (done : List ℕ) → ((u : ℕ) → IsIn u done → IsIn u names) → Lifted t done (InGeneral (stack_on k)) ≡ 0
    stack_cold t k done sub = lift_off t b (map Reg done) (InGeneral (stack_on k)) (n.stack k) (off (InGeneral (stack_on k)) done (λ u i e. n.own u k (sub u i) (sym e)))

    answer_cold : (t : ℕ) (done : List ℕ) → ((u : ℕ) → IsIn u done → IsIn u names) → Lifted t done (InGeneral answer) ≡ 0
    answer_cold t done sub = lift_off t b (map Reg done) (InGeneral answer) n.answered (off (InGeneral answer) done (λ u i e. n.not_answer u (sub u i) (sym e)))

    name_cold : (t v : ℕ) (done : List ℕ) → IsIn v names → ((u : ℕ) → IsIn u done → IsIn u names) → (IsIn v done → ⊥) → Lifted t done (Reg v) ≡ 0
    name_cold t v done i sub no_ = lift_off t b (map Reg done) (Reg v) (n.cold v i) (off (Reg v) done (λ u j. n.apart v u i (sub u j) (λ e. no_ (subst (λ z. IsIn z done) (sym e) j))))

    one_load : (t v : ℕ) (done : List ℕ) (rest : List Word) (e : Register → ℕ) → IsIn v names → ((u : ℕ) → IsIn u done → IsIn u names) → (IsIn v done → ⊥) → Fine (Lifted (in_flight T.machine t (load_slot T f 0 v (general_of T f names v) (branch_of T f names v))) (v ∷ done)) rest e → Fine (Lifted t done) (load_slot T f 0 v (general_of T f names v) (branch_of T f names v) ++ rest) e
    one_load t v done rest e i sub no_ more = by (holds_branch T f v) refl more
      where
        load : Operation
        load = Load (home T f v) (general_of T f names v) (bytes (0 + T.slot f v)) (stack_on (home T f v)) false

        first : Operation
        first = Load 0 answer (bytes (0 + T.slot f v)) (stack_on 0) false

        B : Register
        B = InBranch (record { cluster = 0; number = branch_of T f names v })

        test : Operation
        test = Compute 0 (ToBranch Ne) B (Held answer) (Number (pos 0))

        is_general : holds_branch T f v ≡ false → InGeneral (general_of T f names v) ≡ Reg v
        is_general q = sym (ap (λ c. if c then B else InGeneral (general_of T f names v)) q)

        is_branch : holds_branch T f v ≡ true → B ≡ Reg v
        is_branch q = sym (ap (λ c. if c then B else InGeneral (general_of T f names v)) q)

        load_meets : holds_branch T f v ≡ false → (r : Register) → Touches (load ∷ []) r → Lifted t done r ≡ 0
        load_meets q r h = ⊎_elim
            (λ j. ⊎_elim (λ s. ap (Lifted t done) s ∙ stack_cold t (home T f v) done sub) (λ z. absurd z) j)
            (λ j. ⊎_elim (λ s. ap (Lifted t done) (s ∙ is_general q) ∙ name_cold t v done i sub no_) (λ z. absurd z) j) h.0

        first_meets : (r : Register) → Touches (first ∷ []) r → Lifted t done r ≡ 0
        first_meets r h = ⊎_elim
            (λ j. ⊎_elim (λ s. ap (Lifted t done) s ∙ stack_cold t 0 done sub) (λ z. absurd z) j)
            (λ j. ⊎_elim (λ s. ap (Lifted t done) s ∙ answer_cold t done sub) (λ z. absurd z) j) h.0

        test_meets : (k : ℕ) → holds_branch T f v ≡ true → (r : Register) → Touches (test ∷ []) r → Lifted k done r ≡ 0
        test_meets k q r h = ⊎_elim
            (λ j. ⊎_elim (λ s. ap (Lifted k done) s ∙ answer_cold k done sub) (λ z. absurd z) j)
            (λ j. ⊎_elim (λ s. ap (Lifted k done) (s ∙ is_branch q) ∙ name_cold k v done i sub no_) (λ z. absurd z) j) h.0

        tail : (k l : ℕ) → k ≤ l → holds_branch T f v ≡ true → Fine (Lifted l (v ∷ done)) rest e → Fine (lift k b (B ∷ map Reg done)) rest e
        tail k l le q rest_fine = fine_less (words_kind T.machine) (words_cool T.machine) heat (lift k b (B ∷ map Reg done)) (Lifted l (v ∷ done)) e rest
            (λ r. subst (λ y. lift k b (y ∷ map Reg done) r ≤ Lifted l (v ∷ done) r) (sym (is_branch q)) (lift_fewer k l b (Reg v ∷ map Reg done) (Reg v ∷ map Reg done) r le (λ h. h))) rest_fine

        Words : Bool → List Word
        Words c = if c then settled T (one first ∷ []) ++ one test ∷ [] else one load ∷ []

        -- while the answer's register is loaded, what was in flight cools
        by : (c : Bool) → holds_branch T f v ≡ c → Fine (Lifted (in_flight T.machine t (Words c)) (v ∷ done)) rest e → Fine (Lifted t done) (Words c ++ rest) e
        by true q rest_fine =
            let k : ℕ = in_flight T.machine 0 (one first ∷ []) in
            let left : ℕ = (t - 1) - k in
            let n : ℕ = max t (latest T.machine (first ∷ [])) - 1 in
            let all : in_flight T.machine t (Words true) ≡ max (n - k) (latest T.machine (test ∷ [])) - 1 = flight_append T.machine n (pause k) (one test ∷ []) ∙ ap (λ z. max z (latest T.machine (test ∷ [])) - 1) (flight_pause T.machine n k) in
            let le : max left (latest T.machine (test ∷ [])) - 1 ≤ in_flight T.machine t (Words true) = omega arith in
            subst (λ ws. Fine (Lifted t done) (one first ∷ ws) e) (sym (append_assoc (pause k) (one test ∷ []) rest))
            (word_fine T.machine heat 0 (Lifted t done) (Lifted (t - 1) done) [] (first ∷ []) (pause k ++ (one test ∷ rest)) e refl (lift_cooled t 1 b (map Reg done)) (λ p r j. absurd j) first_meets
            (wait_fine T.machine heat k k (Lifted (t - 1) done) (Lifted left done) (InGeneral answer ∷ []) (one test ∷ rest) e (omega arith) (lift_cooled (t - 1) k b (map Reg done))
            (word_fine T.machine heat left b b (map Reg done) (test ∷ []) rest e refl (stays 1 b) (λ p r j. absurd j) (test_meets left q) (tail (max left (latest T.machine (test ∷ [])) - 1) (in_flight T.machine t (Words true)) le q rest_fine))))
        by false q rest_fine = word_fine T.machine heat t b b (map Reg done) (load ∷ []) rest e refl (stays 1 b) (λ p r j. absurd j) (load_meets q)
            (subst (λ y. Fine (lift (in_flight T.machine t (one load ∷ [])) b (y ∷ map Reg done)) rest e) (sym (is_general q)) rest_fine)

    -- what follows may meet those that were loaded
    pub loads_then : (t : ℕ) (done vs : List ℕ) (rest : List Word) (e : Register → ℕ) → ((u : ℕ) → IsIn u done → IsIn u names) → ((u : ℕ) → IsIn u vs → IsIn u names) → ((u : ℕ) → IsIn u vs → IsIn u done → ⊥) → NoTwice vs → ((all : List ℕ) → ((u : ℕ) → IsIn u all → IsIn u names) → Fine (Lifted (in_flight T.machine t (load_slots T f names vs)) all) rest e) → Fine (Lifted t done) (load_slots T f names vs ++ rest) e
    loads_then t done [] rest e sub in_names no_ once more = more done sub
    loads_then t done (v ∷ vs) rest e sub in_names no_ once more =
        let here : List Word = load_slot T f 0 v (general_of T f names v) (branch_of T f names v) in
        let others : List Word = load_slots T f names vs in
        let k : ℕ = in_flight T.machine t here in
        let q : in_flight T.machine k others ≡ in_flight T.machine t (here ++ others) = sym (flight_append T.machine t here others) in
        let tail : Fine (Lifted k (v ∷ done)) (others ++ rest) e =
        loads_then k (v ∷ done) vs rest e (λ u i. ⊎_elim (λ q. in_names u (inl q)) (sub u) i) (λ u i. in_names u (inr i)) (λ u i j. ⊎_elim (λ q. once.0 (subst (λ z. IsIn z vs) q i)) (no_ u (inr i)) j) once.1 (λ all s. subst (λ z. Fine (Lifted z all) rest e) (sym q) (more all s)) in
        subst (λ ws. Fine (Lifted t done) ws e) (sym (append_assoc here others rest))
        (one_load t v done (others ++ rest) e (in_names v (inl refl)) sub (no_ v (inl refl)) tail)

    pub loads_fine : (t : ℕ) (done vs : List ℕ) (rest : List Word) (e : Register → ℕ) → ((u : ℕ) → IsIn u done → IsIn u names) → ((u : ℕ) → IsIn u vs → IsIn u names) → ((u : ℕ) → IsIn u vs → IsIn u done → ⊥) → NoTwice vs → Fine b rest e → Fine (Lifted t done) (load_slots T f names vs ++ (pause (in_flight T.machine t (load_slots T f names vs)) ++ rest)) e
    loads_fine t done vs rest e sub in_names no_ once more =
        let n : ℕ = in_flight T.machine t (load_slots T f names vs) in
        loads_then t done vs (pause n ++ rest) e sub in_names no_ once (λ all s. wait_fine T.machine heat n n b b (map Reg all) rest e (omega arith) (stays n b) more)
