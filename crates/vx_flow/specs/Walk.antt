-- The depth-first walk of a graph, its back edges and its headers. The walk begins at block 0, and then at each block that
-- was not reached so far, in ascending order. It takes successors in ascending order.
use Rattle.std.specs.Prelude.{◌≡◌, ◌==◌, ◌+◌, ℕ, zero, suc, nat_lt, if◌then◌else◌, List, [], ◌∷◌, ◌++◌, length, Option, Some, None, slice_get}
use Rattle.std.specs.List.{list_any, filter}
use Rattle.vx_flow.specs.declared.graph.Exit.{Exit}
use Rattle.vx_flow.specs.declared.graph.Exit.TheVariants.{Goto, Split, Call, Return, Ends}
use Rattle.vx_flow.specs.declared.graph.Block.{Block}
use Rattle.vx_flow.specs.declared.graph.Graph.{Graph}
use Rattle.vx_flow.specs.declared.graph.Edge.{Edge}
use Rattle.vx_flow.specs.Effects.{IsIn}

abbrev pub ascending : ℕ → ℕ → List ℕ
ascending c d = if c == d then c ∷ [] else if nat_lt c d then c ∷ d ∷ [] else d ∷ c ∷ []

-- the blocks to which an exit leads, ascending, each once
abbrev pub successors_of : Exit → List ℕ
successors_of (Goto c) = c ∷ []
successors_of (Split p c d) = ascending c d
successors_of (Call g arguments result next) = next ∷ []
successors_of (Return x) = []
successors_of (Ends k) = []

abbrev pub successors_in : Option Block → List ℕ
successors_in None = []
successors_in (Some block) = successors_of block.exit

abbrev pub successors : Graph → ℕ → List ℕ
successors g b = successors_in (slice_get g.blocks b)

abbrev pub edge : ℕ → ℕ → Edge
edge b c = record { from = b; to = c }

-- The walk goes over some blocks one after the other, from the end of its path (the latest block first), where some blocks
-- were reached before; it comes to others, and finds back edges: those that lead from the end of the path to a block on it.
pub data Walks (g : Graph) : (path todo seen after : List ℕ) → List Edge → Type 0 where
  done : {path seen : List ℕ} → Walks g path [] seen seen []
  closes : {b c : ℕ} {path todo seen after : List ℕ} {back : List Edge} → IsIn c (b ∷ path) → Walks g (b ∷ path) todo seen after back → Walks g (b ∷ path) (c ∷ todo) seen after (edge b c ∷ back)
  passes : {c : ℕ} {path todo seen after : List ℕ} {back : List Edge} → (IsIn c path → ⊥) → IsIn c seen → Walks g path todo seen after back → Walks g path (c ∷ todo) seen after back
  enters : {c : ℕ} {path todo seen between after : List ℕ} {first later : List Edge} → (IsIn c seen → ⊥) →
      Walks g (c ∷ path) (successors g c) (c ∷ seen) between first → Walks g path todo between after later → Walks g path (c ∷ todo) seen after (first ++ later)

-- so many numbers from b on
abbrev pub numbers : (b count : ℕ) → List ℕ
numbers b zero = []
numbers b (suc count) = b ∷ numbers (b + 1) count

-- the back edges of the graph, in the order in which the walk finds them
pub record BackEdges (g : Graph) (back : List Edge) : Type 0 where
  pub after : List ℕ
  pub walk : Walks g [] (numbers 0 (length g.blocks)) [] after back

-- the blocks to which back edges lead, ascending
abbrev pub headers_of : (blocks : ℕ) → List Edge → List ℕ
headers_of blocks back = filter (λ b. list_any (λ e. e.to == b) back) (numbers 0 blocks)

pub record Headers (g : Graph) (headers : List ℕ) : Type 0 where
  pub back : List Edge
  pub edges : BackEdges g back
  pub targets : headers ≡ headers_of (length g.blocks) back
