-- The program that a command works on: the one that the file of the source reads as, with what is asked of it rewritten.
use Rattle.std.specs.Prelude.{ℕ, List, Option, IfSome}
use Rattle.vx_io.specs.Outside.{Files}
use Rattle.vx_ast.specs.Tree.{Program}
use Rattle.vx_command.specs.Command.{Rewriting}
use Rattle.vx_files.specs.Held.{HoldsProgram}
use Rattle.vx_unroll.specs.Unrolling.{UnrolledBy}

-- of a depot that tells these files: q is what the source's file reads as, with its loops unrolled where that is asked
pub record ReadAs (told : Option Files) (source : List ℕ) (asked : Rewriting) (q : Program) : Type 0 where
  pub program : Program
  pub holds : IfSome told (λ held. HoldsProgram held source program)
  pub turns : UnrolledBy asked.unroll program q
