-- What is asked of compiled words besides: the texts of them and of their plan, words by some plan, and the size of their graphs.
use Rattle.std.specs.Prelude.{◌≡◌, ℕ, Bool, true, List, Option, length}
use Rattle.std.specs.List.{sum_by}
use Rattle.vx_flow.specs.declared.graph.Graph.{Graph}
use Rattle.vx_isa.specs.declared.program.WordProgram.{WordProgram}
use Rattle.vx_isa.specs.Numbers.{Numbers}
use Rattle.vx_profile.specs.declared.counts.Counts.{Counts}
use Rattle.vx_ast.specs.Tree.{Program}
use Rattle.vx_report.specs.declared.plan.Plan.{Plan}
use Rattle.vx_report.specs.Report.{names_of, report_text}
use Rattle.vx_words.specs.Spelling.{Spells}
use Rattle.vx_compiled.specs.Compiled.{Compiled}
use Rattle.vx_compiled.specs.CompiledWith.{CompiledWith}
use Rattle.vx_compiled.specs.declared.program.FlowSize.{FlowSize}

-- the texts of a compiled program, of which that of the report is made where one is asked
pub record MakesTexts (p : Program) (counts : Counts) (machine : Numbers) (growth : ℕ) (inline select : Option ℕ) (asked : Bool) (text report : List ℕ) : Type 0 where
  pub words : WordProgram
  pub plan : Plan
  pub compiled : CompiledWith p counts machine growth inline select words plan
  pub spells : Spells text words
  pub reports : asked ≡ true → report ≡ report_text plan (names_of p)

-- words that are compiled from a program as it is asked for, by some plan
pub record IsCompiled (p : Program) (counts : Counts) (machine : Numbers) (growth : ℕ) (inline select : Option ℕ) (w : WordProgram) : Type 0 where
  pub plan : Plan
  pub compiled : CompiledWith p counts machine growth inline select w plan

-- the blocks of some graphs
abbrev pub all_blocks : List Graph → ℕ
all_blocks graphs = sum_by (λ (g : Graph). length g.blocks) graphs

-- words that are compiled from a program, with their plan and the size of their graphs
pub record Sized (p : Program) (counts : Counts) (m : Numbers) (growth : ℕ) (w : WordProgram) (plan : Plan) (size : FlowSize) : Type 0 where
  pub compiled : Compiled p counts m growth w plan
  pub functions_are : size.functions ≡ length compiled.flow.functions
  pub blocks_are : size.blocks ≡ all_blocks compiled.flow.functions
