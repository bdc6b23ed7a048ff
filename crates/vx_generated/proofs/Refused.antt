-- What is read is not refused.
use Rattle.std.proofs.Common.{ℕ, ◌≤◌}
use Rattle.vx_ast.specs.declared.fault.SourceFault.{SourceFault}
use Rattle.vx_ast.specs.Reads.{Refusal}
use Rattle.vx_gen.specs.Program.{program_text}
use Rattle.vx_parse.proofs.Wholes.{read_or_not}
use Rattle.vx_generated.proofs.Limits.{program_reads}

pub never_refused : (seed size : ℕ) → size ≤ 10000 → (fault : SourceFault) → Refusal (program_text seed size) fault → ⊥
never_refused seed size h fault r =
    let read = program_reads seed size h in
    read_or_not (program_text seed size) read.0 fault read.1 r
