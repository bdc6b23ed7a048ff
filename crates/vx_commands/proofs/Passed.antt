-- What is compiled is path strict, and so passes the check.
use Rattle.vx_check.specs.declared.verdict.Verdict.TheVariants.{Yes}
use Rattle.vx_check.proofs.Verdicts.{one_verdict}
use Rattle.vx_commands.specs.Passing.{CompiledPasses}

pub compiled_passes : CompiledPasses
compiled_passes program counts machine growth words plan made = (made.path_strict, λ verdict found. one_verdict machine words verdict Yes found made.path_strict)
