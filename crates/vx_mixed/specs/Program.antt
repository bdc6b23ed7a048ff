-- Programs of mixed graphs: each function does the hops of its graph.
use Rattle.std.specs.Prelude.{ℕ, ℤ, List, drop, length, slice_get}
use Rattle.std.specs.Option.{option_map}
use Rattle.vx_base.specs.Outcome.{Outcome}
use Rattle.vx_flow.specs.declared.graph.Op.{Op}
use Rattle.vx_flow.specs.declared.graph.Flow.{Flow}
use Rattle.vx_flow.specs.Meaning.{Body, Program, bases_in, words_in, at_start, globals_at_start, program_run}
use Rattle.vx_mixed.specs.declared.mixed.MixedGraph.{MixedGraph}
use Rattle.vx_mixed.specs.Meaning.{hop}

-- a function as the run of a program needs it; the first arrays are the program's
abbrev pub body_of : (globals : ℕ) → List ℕ → (Op → ℕ) → MixedGraph → Body
body_of globals times latency m = record { parameters = m.parameters; bases = bases_in (drop globals m.arrays); own = words_in (drop globals m.arrays); hop = λ setting b s. hop setting times latency m b s }

-- the program of a flow with these graphs in place of its own
abbrev pub program_of : Flow → List ℕ → (Op → ℕ) → List MixedGraph → Program
program_of flow times latency ms = record { globals = length flow.globals; texts = flow.texts; body = λ f. option_map (body_of (length flow.globals) times latency) (slice_get ms f) }

-- what it does with an input, in at most so many hops
abbrev pub mixed_run : Flow → List ℕ → (Op → ℕ) → List MixedGraph → List ℤ → ℕ → Outcome
mixed_run flow times latency ms input n = program_run (program_of flow times latency ms) n (at_start (program_of flow times latency ms) flow.main (globals_at_start flow input))
