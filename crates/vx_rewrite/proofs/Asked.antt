-- What comes of graphs with room, in which nothing is left to inline.
use Rattle.std.proofs.Common.{◌≡◌, ℕ, Option, Some, None, refl, sym, subst}
use Rattle.std.specs.Prelude.{IfSome}
use Rattle.vx_ast.specs.Tree.{Program}
use Rattle.vx_flow.specs.declared.graph.Flow.{Flow}
use Rattle.vx_lower.specs.FlowOf.{FlowOf}
use Rattle.vx_select.proofs.Flows.{selected_stays}
use Rattle.vx_rewrite.specs.Rewritten.{ConvertedBy, IsFull, NoneLeft, Rewritten}

pub nothing_asked : (p : Program) (inline select : Option ℕ) (flow : Flow) → inline ≡ None → select ≡ None → FlowOf p flow → Rewritten p inline select flow
nothing_asked p inline select flow i s o = subst (λ a. Rewritten p a select flow) (sym i) (subst (λ a. Rewritten p None a flow) (sym s) (record { before = flow; flow_of = o; full_to_inline = tt; full_to_select = tt; none_left = tt; converted = refl }))

where_some : {A : Type 0} (asked : Option ℕ) → A → IfSome asked (λ _. A)
where_some None a = tt
where_some (Some n) a = a

pub rewritten_asked : (p : Program) (inline select : Option ℕ) (before flow : Flow) → FlowOf p before → IsFull p before → IfSome inline (λ most. NoneLeft before most) → ConvertedBy select before flow → Rewritten p inline select flow
rewritten_asked p inline select before flow o full none converted = record {
  before = before;
  flow_of = o;
  full_to_inline = where_some inline full;
  full_to_select = where_some select full;
  none_left = none;
  converted = converted;
}

pub converted_stays : (p : Program) (select : Option ℕ) (before flow : Flow) → ConvertedBy select before flow → FlowOf p before → FlowOf p flow
converted_stays p None before flow e o = subst (FlowOf p) (sym e) o
converted_stays p (Some most) before flow s o = selected_stays p before flow most s o
