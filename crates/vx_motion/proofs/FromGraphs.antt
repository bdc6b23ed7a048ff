-- A mixed graph without regions means what its graph means.
use Rattle.std.proofs.Common.{◌≡◌, ℕ, Option, Some, None, List, drop, length, slice_get, refl, ap, ◌∙◌}
use Rattle.std.specs.Option.{option_map}
use Rattle.std.proofs.Math.Path.{fun_ext}
use Rattle.std.proofs.lemmas.Option.{slice_get-map}
use Rattle.vx_flow.specs.declared.graph.Op.{Op}
use Rattle.vx_flow.specs.declared.graph.Block.{Block}
use Rattle.vx_flow.specs.declared.graph.Array.{Array}
use Rattle.vx_flow.specs.declared.graph.Graph.{Graph}
use Rattle.vx_flow.specs.Effects.{State, Setting}
use Rattle.vx_flow.specs.Meaning.{Hop, Body, Program, bases_in, words_in, hop_of, program_run, at_start, globals_at_start, body_of as graph_body, program_of as graph_program}
use Rattle.vx_mixed.specs.declared.region.Node.TheVariants.{Unused}
use Rattle.vx_mixed.specs.declared.mixed.MixedGraph.{MixedGraph}
use Rattle.vx_mixed.specs.Meaning.{node_hop, timed_from_start, hop}
use Rattle.vx_mixed.specs.Program.{body_of, program_of}
use Rattle.vx_motion.specs.Context.{EachOfGraph, MeansTheGraph, MeansTheFlow}
use Rattle.vx_mixed.specs.FromGraph.{OfGraph}

block_is : (setting : Setting) (times : List ℕ) (latency : Op → ℕ) (m : MixedGraph) (b : ℕ) (s : State) (o : Option Block) → node_hop setting (timed_from_start setting times latency) m b (option_map Unused o) s ≡ hop_of setting b o s
block_is setting times latency m b s None = refl
block_is setting times latency m b s (Some k) = refl

pub means_the_graph : MeansTheGraph
means_the_graph graph m is setting times latency b s =
    ap (λ z. node_hop setting (timed_from_start setting times latency) m b (slice_get z b) s) is.nodes
    ∙ ap (λ z. node_hop setting (timed_from_start setting times latency) m b z s) (slice_get-map Unused graph.blocks b)
    ∙ block_is setting times latency m b s (slice_get graph.blocks b)

module _ (globals : ℕ) (times : List ℕ) (latency : Op → ℕ) where
  abbrev make : List ℕ → List Array → (Setting → ℕ → State → Hop) → Body
  make parameters arrays go = record { parameters = parameters; bases = bases_in arrays; own = words_in arrays; hop = go }

  same_body : (graph : Graph) (m : MixedGraph) → OfGraph graph m → body_of globals times latency m ≡ graph_body globals graph
  same_body graph m is =
      let go : Setting → ℕ → State → Hop = λ setting b s. hop setting times latency m b s in
      ap (λ z. make z (drop globals m.arrays) go) is.parameters
      ∙ ap (λ z. make graph.parameters (drop globals z) go) is.arrays
      ∙ ap (make graph.parameters (drop globals graph.arrays)) (fun_ext (λ setting. fun_ext (λ b. fun_ext (λ s. means_the_graph graph m is setting times latency b s))))

  same_option : (o : Option Graph) (p : Option MixedGraph) → EachOfGraph o p → option_map (body_of globals times latency) p ≡ option_map (graph_body globals) o
  same_option None None h = refl
  same_option (Some graph) (Some m) h = ap Some (same_body graph m h)
  same_option None (Some m) h = absurd h
  same_option (Some graph) None h = absurd h

pub means_the_flow : MeansTheFlow
means_the_flow flow ms each times latency input n =
    let body : (program_of flow times latency ms).body ≡ (graph_program flow).body = fun_ext (λ f. same_option (length flow.globals) times latency (slice_get flow.functions f) (slice_get ms f) (each f)) in
    let same : program_of flow times latency ms ≡ graph_program flow = ap (λ z. with_body z) body in
    ap (λ p. program_run p n (at_start p flow.main (globals_at_start flow input))) same
  where
    with_body : (ℕ → Option Body) → Program
    with_body z = record { globals = length flow.globals; texts = flow.texts; body = z }
