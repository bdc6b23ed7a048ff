-- A flow with other graphs, each of which is an old one or what a pass makes of it, and when a flow of a program stays one.
use Rattle.std.specs.Prelude.{◌≡◌, ◌⊎◌, List, [], ◌∷◌}
use Rattle.vx_ast.specs.Tree.{Program}
use Rattle.vx_flow.specs.declared.graph.Graph.{Graph}
use Rattle.vx_flow.specs.declared.graph.Flow.{Flow}
use Rattle.vx_lower.specs.FlowOf.{FlowOf}

abbrev pub with_graphs : Flow → List Graph → Flow
with_graphs flow graphs = record flow { functions = graphs }

-- the lists have one length, and R holds of each two items that stand in one place
abbrev pub Each : {A : Type 0} → (A → A → Type 0) → List A → List A → Type 0
Each R [] [] = Unit {0}
Each R [] (y ∷ ys) = ⊥
Each R (x ∷ xs) [] = ⊥
Each R (x ∷ xs) (y ∷ ys) = R x y × Each R xs ys

-- the new item is the old one, or one that R allows in its place
abbrev pub OrSame : {A : Type 0} → (A → A → Type 0) → A → A → Type 0
OrSame R old new = (new ≡ old) ⊎ R old new

-- a flow of a program stays one
abbrev pub FlowStays : Flow → Flow → Type 0
FlowStays old new = (p : Program) → FlowOf p old → FlowOf p new
