-- What graphs of a program come of by what is asked of them: calls inlined, and diamonds as choices.
use Rattle.std.specs.Prelude.{◌≡◌, ◌*◌, ℕ, count_by, Option, Some, None, slice_get, IfSome}
use Rattle.vx_ast.specs.Tree.{Function, Program}
use Rattle.vx_ast.specs.Accepted.{function_nodes}
use Rattle.vx_flow.specs.declared.graph.Graph.{Graph}
use Rattle.vx_flow.specs.declared.graph.Flow.{Flow}
use Rattle.vx_lower.specs.FlowOf.{FlowOf, is_general, is_branch}
use Rattle.vx_select.specs.Selected.{Selected}
use Rattle.vx_inline.specs.declared.site.Site.{Site}
use Rattle.vx_inline.specs.Choosing.{IsCandidate}

-- no site is left that may be inlined, whose callee has at most so many operations
abbrev pub NoneLeft : Flow → ℕ → Type 0
NoneLeft flow most = (site : Site) → IsCandidate flow most site → ⊥

-- each graph has exactly three general and two branch values for each node of its function
abbrev pub IsFull : Program → Flow → Type 0
IsFull p flow = (f : ℕ) (function : Function) (graph : Graph) → slice_get p.functions f ≡ Some function → slice_get flow.functions f ≡ Some graph →
    (count_by is_general graph.banks ≡ 3 * function_nodes function) × (count_by is_branch graph.banks ≡ 2 * function_nodes function)

-- the graphs with diamonds converted, where that is asked
abbrev pub ConvertedBy : Option ℕ → (old new : Flow) → Type 0
ConvertedBy None old new = new ≡ old
ConvertedBy (Some most) old new = Selected old most new

-- the flow comes of graphs of the program with room for what is asked, in which nothing is left to inline; diamonds are converted last
pub record Rewritten (p : Program) (inline select : Option ℕ) (flow : Flow) : Type 0 where
  pub before : Flow
  pub flow_of : FlowOf p before
  pub full_to_inline : IfSome inline (λ _. IsFull p before)
  pub full_to_select : IfSome select (λ _. IsFull p before)
  pub none_left : IfSome inline (λ most. NoneLeft before most)
  pub converted : ConvertedBy select before flow
