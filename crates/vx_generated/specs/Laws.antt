-- The laws of generated sources.
use Rattle.std.specs.Prelude.{ℕ, ◌≤◌}
use Rattle.vx_ast.specs.declared.fault.SourceFault.{SourceFault}
use Rattle.vx_ast.specs.Tree.{Program}
use Rattle.vx_ast.specs.Reads.{Reads, Refusal}
use Rattle.vx_gen.specs.Program.{program_text}

-- each generated source is an accepted one
abbrev pub GeneratedIsRead : Type 0
GeneratedIsRead = (seed size : ℕ) → size ≤ 10000 → (program : Program) × Reads (program_text seed size) program

-- and none is refused
abbrev pub GeneratedIsNotRefused : Type 0
GeneratedIsNotRefused = (seed size : ℕ) → size ≤ 10000 → (fault : SourceFault) → Refusal (program_text seed size) fault → ⊥
