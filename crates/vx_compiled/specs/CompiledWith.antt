-- What the words owe beside what compiled words do, where calls are to be inlined and diamonds to be converted.
use Rattle.std.specs.Prelude.{◌≡◌, ℕ, Option}
use Rattle.vx_isa.specs.declared.program.WordProgram.{WordProgram}
use Rattle.vx_isa.specs.Numbers.{Numbers}
use Rattle.vx_ast.specs.Tree.{Program}
use Rattle.vx_flow.specs.declared.graph.Flow.{Flow}
use Rattle.vx_profile.specs.declared.counts.Counts.{Counts}
use Rattle.vx_report.specs.declared.plan.Plan.{Plan}
use Rattle.vx_rewrite.specs.Rewritten.{Rewritten}
use Rattle.vx_compiled.specs.Compiled.{Compiled}

-- the words are compiled, of these graphs
pub record CompiledFrom (p : Program) (counts : Counts) (m : Numbers) (growth : ℕ) (flow : Flow) (w : WordProgram) (plan : Plan) : Type 0 where
  pub compiled : Compiled p counts m growth w plan
  pub flow_is : compiled.flow ≡ flow

-- the words are compiled, of graphs that come of what is asked
pub record CompiledWith (p : Program) (counts : Counts) (m : Numbers) (growth : ℕ) (inline select : Option ℕ) (w : WordProgram) (plan : Plan) : Type 0 where
  pub compiled : Compiled p counts m growth w plan
  pub rewritten : Rewritten p inline select compiled.flow
