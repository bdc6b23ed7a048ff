-- The steps by which a graph that is being made grows, exactly: an operation is added, the open block ends with a test.
use Rattle.std.specs.Prelude.{◌≡◌, ℕ, pos, Option, Some, None, length}
use Rattle.vx_base.specs.declared.outcome.Trap.{Trap}
use Rattle.vx_base.specs.declared.arithmetic.Code.TheVariants.{Mov, ToBranch}
use Rattle.vx_base.specs.declared.arithmetic.Compare.{Compare}
use Rattle.vx_flow.specs.declared.graph.Bank.TheVariants.{General, Branch}
use Rattle.vx_flow.specs.declared.graph.Operand.{Operand}
use Rattle.vx_flow.specs.declared.graph.Operand.TheVariants.{Held, Number}
use Rattle.vx_flow.specs.declared.graph.Op.{Op}
use Rattle.vx_flow.specs.declared.graph.Op.TheVariants.{Compute, Base}
use Rattle.vx_flow.specs.declared.graph.Exit.TheVariants.{Goto, Split, Ends}
use Rattle.vx_lower.specs.Holds.{ends}
use Rattle.vx_lower.specs.Builds.{reserved, closed, filled, with_value, with_op}
use Rattle.vx_lower.specs.Emits.{Aimed}
use Rattle.vx_lower.specs.declared.builder.Builder.{Builder}

-- the open block goes to one that is open then
abbrev pub entered : Builder → Builder
entered b = closed (reserved b) (Goto (length b.blocks)) (length b.blocks)

-- an operation was added, in a block of its own where the open one was full
pub data Added (op : Op) (old new : Builder) : Type 0 where
  near : new ≡ with_op old op → Added op old new
  far : new ≡ with_op (entered old) op → Added op old new

-- a test was added: the open block is where it holds, and n where it does not
pub record Forked (op : Op) (test n : ℕ) (old new : Builder) : Type 0 where
  pub middle : Builder
  pub added : Added op old middle
  pub other : n ≡ length (reserved middle).blocks
  pub is : new ≡ closed (reserved (reserved middle)) (Split test (length middle.blocks) n) (length middle.blocks)

-- a test was added that ends the program by a trap where it does not hold
pub record Trapped (op : Op) (test : ℕ) (trap : Trap) (old new : Builder) : Type 0 where
  pub n : ℕ
  pub middle : Builder
  pub forked : Forked op test n old middle
  pub is : new ≡ filled middle n (ends (Ends trap))

-- a last operation, which writes t
pub record Last (op : Op) (dest : Option ℕ) (t : ℕ) (old new : Builder) : Type 0 where
  pub middle : Builder
  pub aimed : Aimed dest t old middle
  pub added : Added op middle new

-- a base of array a was made, in a value of its own
pub record AddsBase (a : ℕ) (from : Operand) (v : ℕ) (old new : Builder) : Type 0 where
  pub middle : Builder
  pub taken : (v ≡ length old.banks) × (middle ≡ with_value old General)
  pub added : Added (Base v a from) middle new

-- a compare is tested: the open block is where it holds, and n where it does not
pub record Compared (compare : Compare) (left right : Operand) (n : ℕ) (old new : Builder) : Type 0 where
  pub test : ℕ
  pub middle : Builder
  pub taken : (test ≡ length old.banks) × (middle ≡ with_value old Branch)
  pub forked : Forked (Compute (ToBranch compare) test left right) test n middle new

-- an operand as it is, or moved to where it is wanted
abbrev pub Delivered : Option ℕ → (from to : Operand) → Builder → Builder → Type 0
Delivered None from to old new = (to ≡ from) × (new ≡ old)
Delivered (Some t) from to old new = (to ≡ Held t) × Added (Compute Mov t from (Number (pos 0))) old new
