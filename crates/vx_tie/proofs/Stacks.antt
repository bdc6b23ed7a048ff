-- The words that move the stack pointers of all clusters.
use Rattle.std.proofs.Common.{◌≡◌, ◌+◌, ℕ, suc, ℤ, List, [], ◌∷◌, refl}
use Rattle.vx_base.specs.Arithmetic.{sum_of}
use Rattle.vx_base.specs.declared.arithmetic.Code.TheVariants.{Add}
use Rattle.vx_base.proofs.Runs.{run_reach}
use Rattle.vx_isa.specs.declared.operation.Register.TheVariants.{General}
use Rattle.vx_isa.specs.declared.operation.Source.TheVariants.{Held, Number}
use Rattle.vx_isa.specs.declared.operation.Operation.{Operation}
use Rattle.vx_isa.specs.declared.operation.Operation.TheVariants.{Compute}
use Rattle.vx_isa.specs.declared.program.Word.{Word}
use Rattle.vx_isa.specs.declared.program.WordProgram.{WordProgram}
use Rattle.vx_isa.specs.Machine.{State, register, step}
use Rattle.vx_target.specs.Target.{Target, stack_on, move_stack}
use Rattle.vx_tie.specs.Moved.{AllAt, StackMoved, StackLaw}
use Rattle.vx_target.proofs.Calm.{AllFit}
use Rattle.vx_target.proofs.Forms.{Plainly}
use Rattle.vx_tie.proofs.Moves.{move_run}
use Rattle.vx_target.proofs.Steps.{Stands}

module _ (T : Target) (w : WordProgram) (fit : AllFit T.machine w) (z : ℤ) (u : State) where
  abbrev op : ℕ → Operation
  op k = Compute k Add (General (stack_on k)) (Held (stack_on k)) (Number z)

  abbrev value : ℕ → ℤ
  value k = sum_of (register u (General (stack_on k))) z

  plainly : (k : ℕ) → Plainly w u (op k)
  plainly k = record { bad = refl; takes = refl; prints = refl; stores = λ m. refl; leads = λ ops. refl }

  pub stacks_move : u.flying ≡ [] → Stands w.words u.place (move_stack T z) → StackMoved T w z u
  stacks_move calm st =
      let a = move_run T.machine w fit u op value (λ k. refl) (λ k. refl) plainly T.machine.clusters calm st in
      record {
        to = a.to;
        words = a.forth.0;
        over_registers = λ n. run_reach (step T.machine (1 ∷ []) w) (λ x. x.out) (suc a.forth.0) n u a.to a.forth.1;
        place = a.place;
        stack = a.stack;
        others = a.others;
        memory = a.memory;
        input = a.quiet.input;
        out = a.quiet.out;
      }

pub stack_law : StackLaw
stack_law T w fit z u calm at = stacks_move T w fit z u calm (stands_at w u.place (move_stack T z) at)
  where
    stands_at : (v : WordProgram) (q : ℕ) (ws : List Word) → AllAt v q ws → Stands v.words q ws
    stands_at v q [] a = tt
    stands_at v q (x ∷ ws) a = (a.0, stands_at v (q + 1) ws a.1)
