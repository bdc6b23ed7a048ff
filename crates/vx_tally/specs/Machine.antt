-- A run as it is held: the active function and those that wait, and what its steps come to.
use Rattle.std.specs.Prelude.{◌≡◌, ℕ, ℤ, Option, Some, None, List, [], ◌∷◌, ◌++◌, length, drop, map, slice_get, Bool, true, false, Vec}
use Rattle.std.specs.Option.{option_map}
use Rattle.std.specs.declared.alloc.Global.{Global}
use Rattle.vx_base.specs.Outcome.{Outcome, Ends, Traps, Goes, Step, On, Over}
use Rattle.vx_flow.specs.Effects.{Content, State}
use Rattle.vx_flow.specs.Meaning.{Hop, Visit, AtBlock, AlongEdge, Frame, Active, Program, edge_back, edge_taken, hop, hop_of, body_of, enters, spot_held, undefined, waits, words_in}
use Rattle.vx_flow.specs.declared.graph.Flow.{Flow}
use Rattle.vx_flow.specs.declared.graph.Graph.{Graph}
use Rattle.vx_flow.specs.declared.graph.Array.{Array}
use Rattle.vx_tally.specs.declared.ends.Left.{Left}
use Rattle.vx_tally.specs.declared.ends.Left.TheVariants.{Arrives, Calls, Leaves, Stops, Wrong}
use Rattle.vx_tally.specs.declared.ends.Ending.{Ending}
use Rattle.vx_tally.specs.declared.machine.Waiting.{Waiting}
use Rattle.vx_tally.specs.declared.machine.Machine.{Machine}
use Rattle.vx_tally.specs.Storage.{setting_in, state_of, value_at}

-- how block b was left with a state
abbrev pub hop_from : (b : ℕ) → State → Left → Hop
hop_from b s (Arrives c) = Hop.Arrives b c s
hop_from b s (Calls f arguments result next) = Hop.Calls f arguments result b next s
hop_from b s (Leaves n) = Hop.Leaves n s
hop_from b s (Stops k) = Hop.Stops k s
hop_from b s Wrong = Hop.Wrong

-- what one step of a run adds to its path
abbrev pub visits : Program → Active → List Visit
visits p r = AtBlock r.function r.block ∷ edge_taken r (hop p r)

-- the edge that is taken as block b of function f is left
abbrev pub taken_by : (f b : ℕ) → List Frame → Left → List Visit
taken_by f b waiting (Arrives c) = AlongEdge f b c ∷ []
taken_by f b waiting (Calls g arguments result next) = []
taken_by f b waiting (Leaves n) = edge_back waiting
taken_by f b waiting (Stops k) = []
taken_by f b waiting Wrong = []

-- what a block of a function does
abbrev pub graph_hop : Flow → Option Graph → (passed : List (Option ℕ)) → (base block : ℕ) → State → Hop
graph_hop flow None passed base b s = Hop.Wrong
graph_hop flow (Some g) passed base b s = hop_of (setting_in flow passed base) b (slice_get g.blocks b) s

abbrev pub frame_of : Waiting → Frame
frame_of w = record { function = w.function; from = w.from; next = w.next; result = w.result; passed = w.passed.items; base = w.base; values = value_at w.values.items }

-- the last that began to wait stands in front
abbrev pub stacked : List Frame → List Waiting → List Frame
stacked below [] = below
stacked below (w ∷ ws) = stacked (frame_of w ∷ below) ws

abbrev pub active_of : Machine → Active
active_of m = record { function = m.function; block = m.block; passed = m.passed.items; base = m.base; state = state_of m.storage; waiting = stacked [] m.waiting.items }

-- the arrays that have no base, undefined
abbrev pub undefined_all : List Array → List (List Content)
undefined_all arrays = map undefined (words_in arrays)

-- the bases of arrays, each at its place
abbrev pub all_bases : List Array → List (Option ℕ)
all_bases arrays = map (λ a. a.base) arrays

-- what is passed for an array with this base, or with none
abbrev pub entry_held : (arrays : ℕ) → (ℕ → Content) → (base : Option ℕ) → Option (Option ℕ)
entry_held arrays values None = Some None
entry_held arrays values (Some v) = option_map Some (spot_held arrays (values v))

-- the spots that are passed, as they are listed
abbrev pub spots_of : Option (Vec (Option ℕ) Global) → Option (List (Option ℕ))
spots_of None = None
spots_of (Some spots) = Some spots.items

-- a function's arrays behind the globals
abbrev pub own_in : Flow → Option Graph → List Array
own_in flow None = []
own_in flow (Some g) = drop (length flow.globals) g.arrays

-- the active function waits, and another one is active with these values, spots that are passed to it and arrays behind the globals
abbrev pub entered_by : Active → (function : ℕ) → (values : ℕ → Content) → (passed : List (Option ℕ)) → (own : List Array) → (result : Option ℕ) → (next : ℕ) → Active
entered_by r g values passed own result next = record {
  function = g;
  block = 0;
  passed = passed;
  base = length r.state.arrays;
  state = record (r.state) { values = values; arrays = r.state.arrays ++ undefined_all own };
  waiting = waits r result r.block next r.state ∷ r.waiting;
}

-- the active function calls another one, in a program with so many globals
abbrev pub called_by : Active → (globals function : ℕ) → Option Graph → List ℤ → (result : Option ℕ) → (next : ℕ) → Step Active
called_by r globals g graph arguments result next = enters g (option_map (body_of globals) graph) arguments r.state (waits r result r.block next r.state ∷ r.waiting)

-- what a step comes to: it goes on, or the run is over with the output of the machine
abbrev pub IsStep : Option Ending → Step Active → Machine → Type 0
IsStep None step m = step ≡ On (active_of m)
IsStep (Some (Ending.Ends n)) step m = step ≡ Over (Ends n m.storage.out.items)
IsStep (Some (Ending.Traps k)) step m = step ≡ Over (Traps k m.storage.out.items)
IsStep (Some Ending.Wrong) step m = (out : List ℕ) × (step ≡ Over (Outcome.Wrong out))

-- what a run within a bound comes to
abbrev pub IsOutcome : Option Ending → (out : List ℕ) → Outcome → Type 0
IsOutcome None out o = o ≡ Goes out
IsOutcome (Some (Ending.Ends n)) out o = o ≡ Ends n out
IsOutcome (Some (Ending.Traps k)) out o = o ≡ Traps k out
IsOutcome (Some Ending.Wrong) out o = (other : List ℕ) × (o ≡ Outcome.Wrong other)

-- it returned or was ended by a trap
abbrev pub ended : Option Ending → Bool
ended None = false
ended (Some (Ending.Ends n)) = true
ended (Some (Ending.Traps k)) = true
ended (Some Ending.Wrong) = false
