-- What single operations of the machine do, form by form.
use Rattle.std.proofs.Common.{◌≡◌, ℕ, ℤ, pos, negsuc, zero, suc, Bool, true, false, Some, List, [], ◌∷◌, refl}
use Rattle.std.specs.Prelude.{if◌then◌else◌}
use Rattle.vx_base.specs.Arithmetic.{value_of}
use Rattle.vx_base.specs.declared.arithmetic.Code.{Code}
use Rattle.vx_base.specs.declared.arithmetic.Code.TheVariants.{Add, ToBranch}
use Rattle.vx_flow.specs.Effects.{is_unary, is_one as is_one_there}
use Rattle.vx_isa.specs.declared.operation.GeneralRegister.{GeneralRegister}
use Rattle.vx_isa.specs.declared.operation.Register.{Register}
use Rattle.vx_isa.specs.declared.operation.Register.TheVariants.{General}
use Rattle.vx_isa.specs.declared.operation.Source.{Source}
use Rattle.vx_isa.specs.declared.operation.Operation.{Operation}
use Rattle.vx_isa.specs.declared.operation.Operation.TheVariants.{Compute, Move, Select, Load, Store, Input, More, OutText, OutDecimal, OutByte, Goto, BranchOn, Call, Return, FromLink, ToLink, EndByTrap, Halt}
use Rattle.vx_isa.specs.declared.program.WordProgram.{WordProgram}
use Rattle.vx_isa.specs.Operations.{destination_of}
use Rattle.vx_isa.specs.Machine.{State, source, number_of, memory_after, takes_input, print_of, has_bad_address, lead_of, is_one}
use Rattle.vx_target.specs.Target.{computes}

-- a test that holds is told alike by graphs and by words
pub one_alike : (z : ℤ) → is_one_there z ≡ is_one z
one_alike (pos zero) = refl
one_alike (pos (suc zero)) = refl
one_alike (pos (suc (suc n))) = refl
one_alike (negsuc n) = refl

-- the code writes a branch register
abbrev pub to_branch : Code → Bool
to_branch (ToBranch c) = true
to_branch code = false

-- memory after an operation and others
pub memory_on : (u : State) (o : Operation) (ops : List Operation) (memory : ℕ → ℤ) → memory_after u (o ∷ ops) memory ≡ memory_after u ops (memory_after u (o ∷ []) memory)
memory_on u (Compute k code to a b) ops memory = refl
memory_on u (Move k to a) ops memory = refl
memory_on u (Select k to t a b) ops memory = refl
memory_on u (Load k to o r d) ops memory = refl
memory_on u (Store k o r a) ops memory = refl
memory_on u (Input to) ops memory = refl
memory_on u (More to) ops memory = refl
memory_on u (OutText n) ops memory = refl
memory_on u (OutDecimal a) ops memory = refl
memory_on u (OutByte a) ops memory = refl
memory_on u (Goto p) ops memory = refl
memory_on u (BranchOn t x p) ops memory = refl
memory_on u (Call p) ops memory = refl
memory_on u Return ops memory = refl
memory_on u (FromLink to) ops memory = refl
memory_on u (ToLink a) ops memory = refl
memory_on u (EndByTrap k) ops memory = refl
memory_on u (Halt a) ops memory = refl

module _ (w : WordProgram) (u : State) where
  -- the operation changes registers alone
  pub record Plainly (o : Operation) : Type 0 where
    pub bad : has_bad_address w.memory u o ≡ false
    pub takes : takes_input o ≡ false
    pub prints : print_of w u o ≡ []
    pub stores : (memory : ℕ → ℤ) → memory_after u (o ∷ []) memory ≡ memory
    pub leads : (ops : List Operation) → lead_of u (o ∷ ops) ≡ lead_of u ops

  -- what a code computes, where a move has its own form
  pub record Computed (code : Code) (to : Register) (g : GeneralRegister) (a b : Source) (o : Operation) : Type 0 where
    pub plainly : Plainly o
    pub to_is : destination_of o ≡ Some (if is_unary code then General g else to)
    pub number : number_of w.memory u o ≡ (if is_unary code then source u a else value_of code (source u a) (source u b))

  pub computed_is : (k : ℕ) (code : Code) (to : Register) (g : GeneralRegister) (a b : Source) → Computed code to g a b (computes k code to g a b)
  computed_is k Add to g a b = record { plainly = record { bad = refl; takes = refl; prints = refl; stores = λ m. refl; leads = λ ops. refl }; to_is = refl; number = refl }
  computed_is k code to g a b = record { plainly = record { bad = refl; takes = refl; prints = refl; stores = λ m. refl; leads = λ ops. refl }; to_is = refl; number = refl }
