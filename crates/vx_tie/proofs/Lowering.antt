-- A call leaves for the trap of the depth, or the stack pointers of all clusters go a frame down: in one word, or in two.
use Rattle.std.proofs.Common.{◌≡◌, ◌≢◌, ◌<◌, ◌+◌, ℕ, suc, ℤ, neg_ℤ, Bool, true, false, ◌==◌, ◌&&◌, List, [], ◌∷◌, length, refl, ap, arith}
use Rattle.std.specs.Prelude.{if◌then◌else◌}
use Rattle.std.proofs.lemmas.List.{append-nil}
use Rattle.vx_base.specs.Arithmetic.{sum_of}
use Rattle.vx_base.specs.declared.arithmetic.Code.TheVariants.{Add}
use Rattle.vx_isa.specs.Fits.{fits}
use Rattle.vx_isa.specs.Machine.{State, To, register, is_one}
use Rattle.vx_isa.specs.declared.operation.Operation.{Operation}
use Rattle.vx_isa.specs.declared.operation.Operation.TheVariants.{Compute, BranchOn}
use Rattle.vx_isa.specs.declared.operation.Register.{Register}
use Rattle.vx_isa.specs.declared.operation.Register.TheVariants.{General, Branch}
use Rattle.vx_isa.specs.declared.operation.Source.TheVariants.{Held, Number}
use Rattle.vx_isa.specs.declared.program.Word.{Word}
use Rattle.vx_isa.specs.declared.program.WordProgram.{WordProgram}
use Rattle.vx_target.specs.Target.{Target, stack_on, one, bytes, stack_steps, move_stack, leave_or_lower}
use Rattle.vx_target.proofs.Calm.{seen, after, AllFit}
use Rattle.vx_target.proofs.Forms.{Plainly}
use Rattle.vx_target.proofs.Steps.{Stands, Quiet, quiet_on, Forth, forth_comes, forth_on, word_step}
use Rattle.vx_tie.proofs.Moves.{branch_run, move_run}

module _ (T : Target) (w : WordProgram) (fit : AllFit T.machine w) (u : State) (calm : u.flying ≡ []) where
  abbrev op : ℕ → Operation
  op k = Compute k Add (General (stack_on k)) (Held (stack_on k)) (Number (neg_ℤ (bytes T.frame)))

  abbrev Leaves : Word
  Leaves = one (BranchOn 0 true T.depth_trap)

  abbrev Beside : Word
  Beside = record { ops = BranchOn 0 true T.depth_trap ∷ stack_steps T (neg_ℤ (bytes T.frame)); idle = 0 }

  abbrev Either : Bool → List Word
  Either b = if b then Beside ∷ [] else Leaves ∷ move_stack T (neg_ℤ (bytes T.frame))

  abbrev Tested : Register
  Tested = Branch (record { cluster = 0; number = 0 })

  abbrev Lower : ℕ → ℤ
  Lower k = sum_of (register u (General (stack_on k))) (neg_ℤ (bytes T.frame))

  -- the stack pointers are a frame lower, and nothing else has changed
  pub record Lowered (words : ℕ) : Type 0 where
    pub to : State
    pub forth : Forth T.machine w fit u to
    pub place : to.place ≡ u.place + words
    pub quiet : Quiet u to
    pub memory : to.memory ≡ u.memory
    pub stack : (k : ℕ) → k < T.machine.clusters → register to (General (stack_on k)) ≡ Lower k
    pub others : (q : Register) → ((k : ℕ) → q ≢ General (stack_on k)) → seen to.registers q ≡ seen u.registers q

  -- the trap is next, and nothing was printed
  pub record Left : Type 0 where
    pub to : State
    pub forth : Forth T.machine w fit u to
    pub place : to.place ≡ T.depth_trap
    pub quiet : Quiet u to

  plainly : (v : State) (k : ℕ) → Plainly w v (op k)
  plainly v k = record { bad = refl; takes = refl; prints = refl; stores = λ m. refl; leads = λ ops. refl }

  lower_by : (b : Bool) → Stands w.words u.place (Either b) → is_one (register u Tested) ≡ false → Lowered (length (Either b))
  lower_by true st e =
      let a = branch_run T.machine w fit u op Lower (λ k. refl) (λ k. refl) (plainly u) 0 T.depth_trap T.machine.clusters (u.place + 1) calm st.0 (ap (λ b. if b then To T.depth_trap else To (u.place + 1)) e) in
      record { to = a.to; forth = a.forth; place = a.there; quiet = a.quiet; memory = a.memory; stack = a.stack; others = a.others }
  lower_by false st e =
      let d : State = after w u Leaves (u.place + 1) in
      let falls : Forth T.machine w fit u d = word_step T.machine w fit u Leaves (u.place + 1) calm st.0 (record { addresses = refl; input = refl }) (ap (λ b. if b then To T.depth_trap else To (u.place + 1)) e) in
      let a = move_run T.machine w fit d op Lower (λ k. refl) (λ k. refl) (plainly d) T.machine.clusters refl st.1 in
      let p : a.to.place ≡ (u.place + 1) + length (move_stack T (neg_ℤ (bytes T.frame))) = a.place in
      let q : a.to.place ≡ u.place + suc (length (move_stack T (neg_ℤ (bytes T.frame)))) = omega arith in
      record {
        to = a.to;
        forth = forth_on T.machine w fit u d a.to falls (forth_comes T.machine w fit d a.to a.forth);
        place = q;
        quiet = quiet_on u d a.to (record { calm = refl; input = refl; out = append-nil u.out }) a.quiet;
        memory = a.memory;
        stack = a.stack;
        others = a.others;
      }

  leave_by : (b : Bool) → Stands w.words u.place (Either b) → is_one (register u Tested) ≡ true → Left
  leave_by true st e =
      let a = branch_run T.machine w fit u op Lower (λ k. refl) (λ k. refl) (plainly u) 0 T.depth_trap T.machine.clusters T.depth_trap calm st.0 (ap (λ b. if b then To T.depth_trap else To (u.place + 1)) e) in
      record { to = a.to; forth = a.forth; place = a.there; quiet = a.quiet }
  leave_by false st e = record {
    to = after w u Leaves T.depth_trap;
    forth = word_step T.machine w fit u Leaves T.depth_trap calm st.0 (record { addresses = refl; input = refl }) (ap (λ b. if b then To T.depth_trap else To (u.place + 1)) e);
    place = refl;
    quiet = record { calm = refl; input = refl; out = append-nil u.out };
  }

  abbrev InOne : Bool
  InOne = (T.machine.latency_alu == 1) && fits T.machine (BranchOn 0 true T.depth_trap ∷ stack_steps T (neg_ℤ (bytes T.frame)))

  pub lower_run : Stands w.words u.place (leave_or_lower T) → is_one (register u Tested) ≡ false → Lowered (length (leave_or_lower T))
  lower_run st e = lower_by InOne st e

  pub leave_run : Stands w.words u.place (leave_or_lower T) → is_one (register u Tested) ≡ true → Left
  leave_run st e = leave_by InOne st e
