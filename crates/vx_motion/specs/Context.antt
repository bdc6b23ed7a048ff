-- Programs in which graphs were replaced by graphs of the same meaning, and programs of graphs without regions.
use Rattle.std.specs.Prelude.{◌≡◌, ◌≢◌, ℕ, ℤ, Bool, Option, Some, None, List, [], length, slice_get}
use Rattle.vx_base.specs.Outcome.{Same, NeverFails}
use Rattle.vx_flow.specs.declared.graph.Op.{Op}
use Rattle.vx_flow.specs.declared.graph.Graph.{Graph}
use Rattle.vx_flow.specs.declared.graph.Flow.{Flow}
use Rattle.vx_flow.specs.Apart.{GlobalsFirst}
use Rattle.vx_flow.specs.Effects.{State, Setting}
use Rattle.vx_flow.specs.Meaning.{hop_of, graph_run}
use Rattle.vx_mixed.specs.declared.mixed.MixedGraph.{MixedGraph}
use Rattle.vx_mixed.specs.Meaning.{hop}
use Rattle.vx_mixed.specs.Agree.{SameMeaning}
use Rattle.vx_mixed.specs.Program.{mixed_run}
use Rattle.vx_mixed.specs.FromGraph.{OfGraph}

-- the same graph, or one of the same function that has the same meaning
pub data Becomes (latency : Op → ℕ) (m m' : MixedGraph) : Type 0 where
  Remains : m' ≡ m → Becomes latency m m'
  Changes : m'.parameters ≡ m.parameters → m'.arrays ≡ m.arrays → (meet_old meet_new pairs : ℕ → ℕ → Bool) → SameMeaning latency m m' meet_old meet_new pairs → Becomes latency m m'

abbrev pub Both : (Op → ℕ) → Option MixedGraph → Option MixedGraph → Type 0
Both latency None None = Unit {0}
Both latency (Some m) (Some m') = Becomes latency m m'
Both latency None (Some m') = ⊥
Both latency (Some m) None = ⊥

-- function by function
abbrev pub AllBecome : (Op → ℕ) → List MixedGraph → List MixedGraph → Type 0
AllBecome latency ms ms' = (f : ℕ) → Both latency (slice_get ms f) (slice_get ms' f)

-- where no run of the one fails, the other runs the same, and never fails
abbrev pub SameRuns : Flow → List ℕ → (Op → ℕ) → List MixedGraph → List MixedGraph → List ℤ → Type 0
SameRuns flow times latency ms ms' input =
    NeverFails (mixed_run flow times latency ms input) →
    Same (mixed_run flow times latency ms input) (mixed_run flow times latency ms' input) × NeverFails (mixed_run flow times latency ms' input)

-- in each function the arrays that are numbered as globals are global
abbrev pub HaveGlobalsFirst : (globals : ℕ) → List MixedGraph → Type 0
HaveGlobalsFirst globals ms = (f : ℕ) (m : MixedGraph) → slice_get ms f ≡ Some m → GlobalsFirst globals m.arrays

-- A graph of the same meaning may stand in place of a graph of any function of a program.
abbrev pub InContext : Type 0
InContext = (flow : Flow) (times : List ℕ) (latency : Op → ℕ) (ms ms' : List MixedGraph) (input : List ℤ) → times ≢ [] → HaveGlobalsFirst (length flow.globals) ms → AllBecome latency ms ms' → SameRuns flow times latency ms ms' input

-- any number of replacements, one after the other
pub data Chain (latency : Op → ℕ) : List MixedGraph → List MixedGraph → Type 0 where
  Done : {ms : List MixedGraph} → Chain latency ms ms
  Then : {ms ns os : List MixedGraph} → AllBecome latency ms ns → Chain latency ns os → Chain latency ms os

abbrev pub ChainLaw : Type 0
ChainLaw = (flow : Flow) (times : List ℕ) (latency : Op → ℕ) (ms ms' : List MixedGraph) (input : List ℤ) → times ≢ [] → HaveGlobalsFirst (length flow.globals) ms → Chain latency ms ms' → SameRuns flow times latency ms ms' input

-- a graph after any number of replacements
pub data Steps (latency : Op → ℕ) : MixedGraph → MixedGraph → Type 0 where
  Stays : {m : MixedGraph} → Steps latency m m
  Goes : {m n o : MixedGraph} → Becomes latency m n → Steps latency n o → Steps latency m o

abbrev pub BothStep : (Op → ℕ) → Option MixedGraph → Option MixedGraph → Type 0
BothStep latency None None = Unit {0}
BothStep latency (Some m) (Some m') = Steps latency m m'
BothStep latency None (Some m') = ⊥
BothStep latency (Some m) None = ⊥

abbrev pub AllStep : (Op → ℕ) → List MixedGraph → List MixedGraph → Type 0
AllStep latency ms ms' = (f : ℕ) → BothStep latency (slice_get ms f) (slice_get ms' f)

-- Each graph of a program may have been replaced any number of times.
abbrev pub StepsLaw : Type 0
StepsLaw = (flow : Flow) (times : List ℕ) (latency : Op → ℕ) (ms ms' : List MixedGraph) (input : List ℤ) → times ≢ [] → HaveGlobalsFirst (length flow.globals) ms → AllStep latency ms ms' → SameRuns flow times latency ms ms' input

-- it does block by block what the graph does
abbrev pub MeansTheGraph : Type 0
MeansTheGraph =
    (graph : Graph) (m : MixedGraph) → OfGraph graph m →
    (setting : Setting) (times : List ℕ) (latency : Op → ℕ) (b : ℕ) (s : State) → hop setting times latency m b s ≡ hop_of setting b (slice_get graph.blocks b) s

abbrev pub EachOfGraph : Option Graph → Option MixedGraph → Type 0
EachOfGraph None None = Unit {0}
EachOfGraph (Some graph) (Some m) = OfGraph graph m
EachOfGraph None (Some m) = ⊥
EachOfGraph (Some graph) None = ⊥

-- so does a program of such graphs, at every bound
abbrev pub MeansTheFlow : Type 0
MeansTheFlow =
    (flow : Flow) (ms : List MixedGraph) → ((f : ℕ) → EachOfGraph (slice_get flow.functions f) (slice_get ms f)) →
    (times : List ℕ) (latency : Op → ℕ) (input : List ℤ) (n : ℕ) → mixed_run flow times latency ms input n ≡ graph_run flow input n
