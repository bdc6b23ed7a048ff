-- The text is that of the seed and the size, and short enough for a source.
use Rattle.std.proofs.Common.{◌≡◌, ◌∙◌, subst, arith}
use Rattle.vx_status.specs.declared.status.Status.TheVariants.{NoMemory}
use Rattle.vx_runs.proofs.NotRefused.{only_memory, never_both}
use Rattle.vx_runs.proofs.soak_run.program_made.Goals.{in-NoMemory, in_default}
use Rattle.vx_ast.specs.Reads.{Reads}
use Rattle.vx_ast.specs.View.{program_of}
use Rattle.vx_runs.proofs.soak_run.program_made.Goals as goal

pub typed_of-requires : goal.typed_of-requires
typed_of-requires c = let short = c.in_ok-text.ensures.short in rw c.as_slice.ensures.value (omega (arith, short))

pub returns-in-Ok : goal.returns-in-Ok
returns-in-Ok c = subst (λ bytes. Reads bytes (program_of c.in-Ok.typed.program)) (c.as_slice.ensures.value ∙ c.in_ok-text.ensures.text) c.in-Ok.ensures.reads

-- it is read, so what is wanting is memory
pub prove-unreachable-requires : goal.prove-unreachable-requires
prove-unreachable-requires c =
    let is : c.in-Err.status ≡ NoMemory = only_memory c.args.seed c.args.size c.as_slice.result.now c.in-Err.status c.requires.small (c.as_slice.ensures.value ∙ c.in_ok-text.ensures.text) c.in-Err.ensures.refused in
    elim c.match-matches.branch [
      | in-NoMemory w ↦ never_both c.match-matches.matches w.matches-is c.if-prove.true
      | in_default w ↦ absurd (w.in_default.not-NoMemory is)
    ]
