-- The items of a trace in trace order, and the same items in words.
use Rattle.std.specs.Prelude.{ℕ, zero, suc, List, [], ◌∷◌}
use Rattle.vx_flow.specs.Effects.{State, Setting}
use Rattle.vx_flow.specs.declared.graph.Op.TheVariants.{Store}
use Rattle.vx_flow.specs.declared.graph.Operand.TheVariants.{Stack}
use Rattle.vx_mixed.specs.declared.region.Item.{Item}
use Rattle.vx_mixed.specs.declared.region.Item.TheVariants.{Plain}
use Rattle.vx_motion.specs.Items.{calm}
use Rattle.vx_mixed.specs.Alive.{AfterItem}
use Rattle.vx_mixed.specs.declared.mixed.MixedGraph.{MixedGraph}

-- reads nothing, writes nothing
abbrev pub inert : Item
inert = Plain (Store 0 Stack Stack) 0

abbrev pub nth : List Item → ℕ → Item
nth [] k = inert
nth (i ∷ is) zero = i
nth (i ∷ is) (suc k) = nth is k

-- the state before place k of the trace, splits as no operations
abbrev pub order : Setting → List Item → State → ℕ → State
order setting is s zero = s
order setting [] s (suc k) = s
order setting (i ∷ is) s (suc k) = order setting is (calm setting s i) k

abbrev pub AfterOf : MixedGraph → List Item → ℕ → ℕ → Type 0
AfterOf m is e v = AfterItem m (nth is e) v
