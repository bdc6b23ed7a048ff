-- How a trace grows: the tables of heaviest edges, and what is known of the blocks so far.
use Rattle.std.specs.Prelude.{◌≡◌, ◌==◌, ◌<◌, ◌≤◌, ◌⊎◌, ◌&&◌, ◌||◌, ℕ, Bool, nat_lt, if◌then◌else◌, Option, Some, None, List, [], ◌∷◌, ◌++◌}
use Rattle.vx_flow.specs.declared.graph.Edge.{Edge}
use Rattle.vx_flow.specs.Effects.{IsIn}
use Rattle.vx_flow.specs.Walk.{edge}
use Rattle.vx_mixed.specs.declared.mixed.MixedGraph.{MixedGraph}
use Rattle.vx_mixed.specs.Settled.{NoTwice}
use Rattle.vx_mixed.specs.TraceOf.{EndsWithCall, block_at, inner_edges}
use Rattle.vx_profile.specs.declared.counts.Counts.{Counts}
use Rattle.vx_trace.specs.declared.heaviest.Best.{Best}
use Rattle.vx_trace.specs.Picked.{Greatest, HeaviestOut, HeaviestIn, IsUnused, count_of_block, count_of_edge, size_of}

-- the best of several, one after the other

abbrev pub is_better : Best → (other count : ℕ) → Bool
is_better b other count = nat_lt b.count count || ((b.count == count) && nat_lt other b.other)

abbrev pub better : Option Best → (other count : ℕ) → Best
better None other count = record { other = other; count = count }
better (Some b) other count = if is_better b other count then record { other = other; count = count } else b

abbrev pub BestOf : {A : Type 0} → (A → Type 0) → (count number : A → ℕ) → Option Best → Type 0
BestOf {A = A} Is count number None = (x : A) → Is x → ⊥
BestOf {A = A} Is count number (Some b) = (x : A) × Greatest Is count number x × (number x ≡ b.other) × (count x ≡ b.count)

-- the seed, if there is one
abbrev pub IsSeed : MixedGraph → Counts → Option ℕ → Type 0
IsSeed m counts None = (b : ℕ) → IsUnused m b → ⊥
IsSeed m counts (Some b) = Greatest (IsUnused m) (count_of_block m counts) (λ c. c) b

-- to which block the heaviest edge out of block b goes, if an edge goes out of it
abbrev pub HasTarget : MixedGraph → Counts → ℕ → Option ℕ → Type 0
HasTarget m counts b None = (c : ℕ) → HeaviestOut m counts (edge b c) → ⊥
HasTarget m counts b (Some c) = HeaviestOut m counts (edge b c)

-- to which of some targets of block b the heaviest edge goes, if there is one
abbrev pub HeaviestOf : MixedGraph → Counts → ℕ → List ℕ → Option ℕ → Type 0
HeaviestOf m counts b targets None = (c : ℕ) → IsIn c targets → ⊥
HeaviestOf m counts b targets (Some c) = Greatest (λ d. IsIn d targets) (λ d. count_of_edge m counts (edge b d)) (λ d. d) c

-- from which block the heaviest edge into block b comes, if an edge goes to it
abbrev pub HasSource : MixedGraph → Counts → ℕ → Option ℕ → Type 0
HasSource m counts b None = (c : ℕ) → HeaviestIn m counts (edge c b) → ⊥
HasSource m counts b (Some c) = HeaviestIn m counts (edge c b)

-- a trace may go along the edge, whatever edges are heavier
pub record Passes (m : MixedGraph) (e : Edge) : Type 0 where
  pub no_back : IsIn e m.back → ⊥
  pub no_header : IsIn e.to m.headers → ⊥
  pub no_call : EndsWithCall (block_at m e.from).exit → ⊥

-- an edge along which a trace may go
pub record Linked (m : MixedGraph) (counts : Counts) (e : Edge) : Type 0 where
  pub out : HeaviestOut m counts e
  pub into : HeaviestIn m counts e
  pub passes : Passes m e

-- a way over blocks of one kind, each once, and along edges of one kind
pub record Way (P : ℕ → Type 0) (Q : Edge → Type 0) (t : List ℕ) : Type 0 where
  pub blocks : (b : ℕ) → IsIn b t → P b
  pub once : NoTwice t
  pub edges : (e : Edge) → IsIn e (inner_edges t) → Q e

-- the one block of a kind, if there is one
abbrev pub OnlyOne : (ℕ → Type 0) → Option ℕ → Type 0
OnlyOne Is None = (b : ℕ) → Is b → ⊥
OnlyOne Is (Some c) = Is c × ((b : ℕ) → Is b → b ≡ c)

-- a block that can stand beside these
abbrev pub IsFree : MixedGraph → List ℕ → ℕ → Type 0
IsFree m blocks b = IsUnused m b × (IsIn b blocks → ⊥)

-- the seed and blocks behind it, to which no block could be put
pub record GrownForward (m : MixedGraph) (Q : Edge → Type 0) (seed : ℕ) (t : List ℕ) : Type 0 where
  pub after : List ℕ
  pub is : t ≡ seed ∷ after
  pub way : Way (IsUnused m) Q t
  pub small : (after ≡ []) ⊎ (size_of m t ≤ 512)
  pub ends : (b : ℕ) → Way (IsUnused m) Q (t ++ b ∷ []) → 512 < size_of m (t ++ b ∷ [])

-- these blocks and blocks before them, before which no block could be put
pub record GrownBackward (m : MixedGraph) (Q : Edge → Type 0) (from t : List ℕ) : Type 0 where
  pub before : List ℕ
  pub is : t ≡ before ++ from
  pub way : Way (IsUnused m) Q t
  pub small : (before ≡ []) ⊎ (size_of m t ≤ 512)
  pub begins : (b : ℕ) → Way (IsUnused m) Q (b ∷ t) → 512 < size_of m (b ∷ t)
