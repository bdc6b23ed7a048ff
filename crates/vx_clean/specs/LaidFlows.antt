-- A flow of a program whose graphs are laid out as linked chains stays one, where what comes out has the shape.
use Rattle.std.specs.Prelude.{◌≡◌, ℕ, suc, true, List, [], ◌∷◌, slice_get, Some}
use Rattle.vx_ast.specs.Tree.{Program}
use Rattle.vx_flow.specs.declared.graph.Graph.{Graph}
use Rattle.vx_flow.specs.declared.graph.Flow.{Flow}
use Rattle.vx_flow.specs.Sound.{is_sound_flow}
use Rattle.vx_lower.specs.FlowOf.{FlowOf}
use Rattle.vx_shape.specs.Flows.{with_graphs}
use Rattle.vx_clean.specs.Laying.{laid, Begun, Linked}
use Rattle.vx_shape.specs.Shape.{Shaped}

pub record FunctionLaid (to : ℕ → ℕ) (chains : List (List ℕ)) (g : Graph) : Type 0 where
  pub first : to 0 ≡ 0
  pub begun : Begun to g.blocks chains 0
  pub linked : (i : ℕ) (chain : List ℕ) → slice_get chains i ≡ Some chain → Linked to g.blocks chains chain
  pub shaped : Shaped (laid to chains g)

-- the functions from function f on
abbrev pub laid_functions : (ℕ → ℕ → ℕ) → (ℕ → List (List ℕ)) → ℕ → List Graph → List Graph
laid_functions to chains f [] = []
laid_functions to chains f (g ∷ gs) = laid (to f) (chains f) g ∷ laid_functions to chains (suc f) gs

abbrev pub laid_flow : (ℕ → ℕ → ℕ) → (ℕ → List (List ℕ)) → Flow → Flow
laid_flow to chains flow = with_graphs flow (laid_functions to chains 0 flow.functions)

abbrev pub LaidFlow : Type 0
LaidFlow = (p : Program) (flow : Flow) (to : ℕ → ℕ → ℕ) (chains : ℕ → List (List ℕ)) → FlowOf p flow →
    ((f : ℕ) (g : Graph) → slice_get flow.functions f ≡ Some g → FunctionLaid (to f) (chains f) g) →
    is_sound_flow (laid_flow to chains flow) ≡ true → FlowOf p (laid_flow to chains flow)
