-- What is compiled passes the check.
use Rattle.std.specs.Prelude.{◌≡◌, ℕ}
use Rattle.vx_isa.specs.declared.program.WordProgram.{WordProgram}
use Rattle.vx_isa.specs.Numbers.{Numbers}
use Rattle.vx_ast.specs.Tree.{Program}
use Rattle.vx_profile.specs.declared.counts.Counts.{Counts}
use Rattle.vx_report.specs.declared.plan.Plan.{Plan}
use Rattle.vx_compiled.specs.Compiled.{Compiled}
use Rattle.vx_check.specs.declared.verdict.Verdict.{Verdict}
use Rattle.vx_check.specs.declared.verdict.Verdict.TheVariants.{Yes}
use Rattle.vx_check.specs.Checked.{Checks}

-- words that are compiled for a machine are path strict for it, and nothing else is found of them
abbrev pub CompiledPasses : Type 0
CompiledPasses =
    (program : Program) (counts : Counts) (machine : Numbers) (growth : ℕ) (words : WordProgram) (plan : Plan) → Compiled program counts machine growth words plan →
    Checks machine words Yes × ((verdict : Verdict) → Checks machine words verdict → verdict ≡ Yes)
