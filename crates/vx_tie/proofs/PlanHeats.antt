-- Words that begin with writes to values in flight: loads of slots in front of a word, drains and choices.
use Rattle.std.proofs.Common.{◌≡◌, ◌≤◌, inl, inr, ⊎_elim, ℕ, zero, suc, true, Some, List, [], ◌∷◌, ◌++◌, refl, sym, ap, ◌∙◌, subst, arith}
use Rattle.std.specs.Prelude.{if◌then◌else◌, slice_get}
use Rattle.std.proofs.lemmas.List.{append-nil}
use Rattle.vx_base.proofs.Pieces.{fine_append}
use Rattle.vx_flow.specs.declared.graph.Bank.TheVariants.{Branch as BranchBank}
use Rattle.vx_flow.specs.declared.graph.Exit.TheVariants.{Split as Branches}
use Rattle.vx_flow.specs.Effects.{IsIn}
use Rattle.vx_flow.specs.Sound.{Has, Sound}
use Rattle.vx_isa.specs.declared.operation.Register.{Register}
use Rattle.vx_isa.specs.declared.operation.Register.TheVariants.{General as InGeneral, Branch as InBranch}
use Rattle.vx_isa.specs.declared.operation.Operation.TheVariants.{BranchOn}
use Rattle.vx_isa.specs.declared.program.Word.{Word}
use Rattle.vx_mixed.specs.declared.layout.VirtualWord.{VirtualWord}
use Rattle.vx_mixed.specs.declared.layout.VirtualWord.TheVariants.{Drain, Choice}
use Rattle.vx_mixed.specs.LaidSettled.{bank_in}
use Rattle.vx_mixed.specs.Settled.{NoTwice}
use Rattle.vx_regs.specs.Intervals.{is_live, here}
use Rattle.vx_target.specs.Target.{Target, is_branch, general_of, branch_of, register_of, slotted, if_some, once, before, past, choice_words, one, waits, pause, in_flight, settled, load_slots}
use Rattle.vx_target.specs.Carried.{IsMapped}
use Rattle.vx_target.proofs.Names.{Few, not_general, apart_all}
use Rattle.vx_target.proofs.FromGraph.{whole_bank, has_whole}
use Rattle.vx_target.proofs.Limits.{Limits}
use Rattle.vx_tie.proofs.Filed.{few_single}
use Rattle.vx_target.proofs.Once.{once_in, no_twice}
use Rattle.vx_target.proofs.Word.{slotted_from}
use Rattle.vx_tie.proofs.Early.{Touches, words_kind, words_cool}
use Rattle.vx_tie.proofs.Loads.{Names, loads_fine}
use Rattle.vx_tie.proofs.ColdPieces.{Fine}
use Rattle.vx_tie.proofs.Pending.{Banked, Busy, Left, pend, pend_kept, pend_own, pend_name}

abbrev Any : ℕ → Type 0
Any a = Unit {0}

module _ (T : Target) (heat : ℕ → Register → ℕ) (f : ℕ) (mapped : IsMapped T f) (sound : Sound (T.graph f)) where
  abbrev F : (Register → ℕ) → List Word → (Register → ℕ) → Type 0
  F h ws e = Fine T heat h ws e

  abbrev Heat : ℕ → Register → ℕ
  Heat p = pend T f mapped sound p

  -- what a word names at a place, with nothing left of it
  abbrev pub Settles : ℕ → ℕ → Type 0
  Settles p v = Banked T f mapped sound v × Busy T f mapped sound p v × (Left T f mapped sound p v ≡ 0)

  names_at : (p : ℕ) (names : List ℕ) → Few T f mapped names → ((v : ℕ) → IsIn v names → Settles p v) → Names T heat f names (Heat p)
  names_at p names few h = record {
    stack = λ k. pend_own T f mapped sound p k 1 (omega arith);
    answered = pend_own T f mapped sound p 0 2 (omega arith);
    cold = λ v i. pend_name T f mapped sound p v names few i (h v i).0 (h v i).1 (h v i).2;
    own = λ v k i. not_general T f mapped names v k 1 (h v i).0 (omega arith);
    not_answer = λ v i. not_general T f mapped names v 0 2 (h v i).0 (omega arith);
    apart = λ x y i j ne. apart_all T f mapped p names x y (λ v k. ((h v k).0, (h v k).1)) few i j ne;
  }

  loads_case : (p : ℕ) (names : List ℕ) → Few T f mapped names → ((v : ℕ) → IsIn v names → Settles p v) → (vs us : List ℕ) → ((v : ℕ) → IsIn v us → IsIn v names) → NoTwice us → F (Heat p) (if_some vs (settled T (load_slots T f names us))) (Heat p)
  loads_case p names few h [] us sub n = λ r. omega arith
  loads_case p names few h (v ∷ vs) us sub n = subst (λ ws. F (Heat p) (load_slots T f names us ++ ws) (Heat p)) (append-nil (pause (in_flight T.machine 0 (load_slots T f names us))))
      (loads_fine T heat f names (Heat p) (names_at p names few h) 0 [] us [] (Heat p) (λ u i. absurd i) sub (λ u i j. j) n (λ r. omega arith))

  -- slots are loaded in front of a word, each once
  pub before_fine : (p : ℕ) (names : List ℕ) → Few T f mapped names → ((v : ℕ) → IsIn v names → Settles p v) → F (Heat p) (before T f names) (Heat p)
  before_fine p names few h = loads_case p names few h (slotted T f names) (once (slotted T f names)) (λ v i. (slotted_from T f v names (once_in v (slotted T f names) i)).0) (no_twice (slotted T f names))

  abbrev At : ℕ → VirtualWord → Type 0
  At p word = slice_get (T.layout f).words p ≡ Some word

  pub drain_fine : (p n : ℕ) → At p (Drain n) → F (Heat p) (waits n ∷ []) (Heat (suc p))
  drain_fine p n e = (λ r t. ⊎_elim (λ i. absurd i) (λ i. absurd i) t.0, (λ q r j. absurd j), λ r. (let a = pend_kept T f mapped sound p (suc p) r (Drain n) e refl in omega arith))

  -- behind all but the last of its cycles one is left at most, where nothing is behind them all
  pub drain_short : (p n k : ℕ) (e : Register → ℕ) → At p (Drain n) → n ≤ suc k → ((r : Register) → Heat (suc p) r ≤ 0) → ((r : Register) → 1 ≤ e r) → F (Heat p) (pause k) e
  drain_short p n zero e at long calm one_more = λ r. (let a = pend_kept T f mapped sound p (suc p) r (Drain n) at refl in let b = calm r in let c = one_more r in omega arith)
  drain_short p n (suc k) e at long calm one_more = (
    λ r t. ⊎_elim (λ i. absurd i) (λ i. absurd i) t.0,
    λ q r j. absurd j,
    λ r. (let a = pend_kept T f mapped sound p (suc p) r (Drain n) at refl in let b = calm r in let c = one_more r in omega arith),
  )

  -- a choice tests a branch value of which nothing is left
  module _ (l : Limits T.machine) (p test q : ℕ) (at : At p (Choice test q)) (there : (r : Register) → Heat q r ≤ heat (T.starts f (past T f q)) r) where
    tested : bank_in (T.layout f) test ≡ Some BranchBank
    tested =
        let parts = mapped.code.choices p test q at in
        let has : Has (T.graph f) test BranchBank = sound.exit_tests (Branches test parts.yes parts.no) test parts.has (inl refl) in
        whole_bank T f Any sound mapped.code test BranchBank (has_whole T f Any sound mapped.code (λ a z. tt) test BranchBank has)

    settles : Settles p test
    settles = ((BranchBank, tested), is_live (here at (inl refl)), mapped.settled.choices p test q at)

    each_settles : (v : ℕ) → IsIn v (test ∷ []) → Settles p v
    each_settles v i = ⊎_elim (λ e. subst (λ z. Settles p z) (sym e) settles) (λ j. absurd j) i

    few : Few T f mapped (test ∷ [])
    few = few_single T f mapped l test

    branch_name : InBranch (record { cluster = 0; number = branch_of T f (test ∷ []) test }) ≡ register_of T f (test ∷ []) test
    branch_name = sym (ap (λ b. if b then InBranch (record { cluster = 0; number = branch_of T f (test ∷ []) test }) else InGeneral (general_of T f (test ∷ []) test)) (ap is_branch tested))

    meets : (r : Register) → Touches (BranchOn (branch_of T f (test ∷ []) test) true (T.starts f (past T f q)) ∷ []) r → Heat p r ≡ 0
    meets r t = ⊎_elim
        (λ i. ⊎_elim (λ e. ap (Heat p) (e ∙ branch_name) ∙ pend_name T f mapped sound p test (test ∷ []) few (inl refl) settles.0 settles.1 settles.2) (λ j. absurd j) i)
        (λ i. absurd i) t.0

    pub choice_fine : F (Heat p) (choice_words T f test q) (Heat (suc p))
    choice_fine = fine_append (words_kind T.machine) (words_cool T.machine) heat (Heat p) (Heat p) (Heat (suc p)) (before T f (test ∷ [])) (one (BranchOn (branch_of T f (test ∷ []) test) true (T.starts f (past T f q))) ∷ [])
        (before_fine p (test ∷ []) few each_settles) (
          meets,
          (λ t r j. ⊎_elim (λ e. (let a = pend_kept T f mapped sound p q r (Choice test q) at (inl refl) in let b = there r in let c = ap (λ x. heat x r) e in omega arith)) (λ k. absurd k) j),
          λ r. (let a = pend_kept T f mapped sound p (suc p) r (Choice test q) at (inr refl) in omega arith),
        )
