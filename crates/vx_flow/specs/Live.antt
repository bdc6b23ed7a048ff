-- Which values are live at the start of a block: some path from there reads the value before writing it.
use Rattle.std.specs.Prelude.{◌≡◌, ◌⊎◌, ◌+◌, ◌==◌, ℕ, Bool, true, false, if◌then◌else◌, List, [], ◌∷◌, ◌++◌, Option, Some, None, map, slice_get}
use Rattle.std.specs.List.{flat_map}
use Rattle.vx_flow.specs.declared.graph.Op.{Op}
use Rattle.vx_flow.specs.declared.graph.Exit.{Exit}
use Rattle.vx_flow.specs.declared.graph.Exit.TheVariants.{Goto, Split, Call, Return, Ends}
use Rattle.vx_flow.specs.declared.graph.Block.{Block}
use Rattle.vx_flow.specs.declared.graph.Graph.{Graph}
use Rattle.vx_flow.specs.declared.routes.Touch.{Touch}
use Rattle.vx_flow.specs.declared.routes.Route.{Route}
use Rattle.vx_flow.specs.Effects.{IsIn, value_in, reads, writes}
use Rattle.vx_flow.specs.Sound.{targets_of, results_of_exit}

-- the values that an exit reads. A call writes its result afterwards
abbrev pub reads_of_exit : Exit → List ℕ
reads_of_exit (Goto c) = []
reads_of_exit (Split p c d) = p ∷ []
reads_of_exit (Call g arguments result next) = flat_map value_in arguments
reads_of_exit (Return x) = value_in x
reads_of_exit (Ends k) = []

-- these operations and then the exit read v before they write it
abbrev pub ReadsFirst : List Op → Exit → ℕ → Type 0
ReadsFirst [] exit v = IsIn v (reads_of_exit exit)
ReadsFirst (op ∷ ops) exit v = IsIn v (reads op) ⊎ ((IsIn v (writes op) → ⊥) × ReadsFirst ops exit v)

-- they do not write it
abbrev pub NeverWrites : List Op → Exit → ℕ → Type 0
NeverWrites [] exit v = IsIn v (results_of_exit exit) → ⊥
NeverWrites (op ∷ ops) exit v = (IsIn v (writes op) → ⊥) × NeverWrites ops exit v

-- some path from the start of block b reads v before writing it: block b does, or it leads to a block from which one does
pub data IsLive (g : Graph) : ℕ → ℕ → Type 0 where
  here : {b v : ℕ} {block : Block} → slice_get g.blocks b ≡ Some block → ReadsFirst block.ops block.exit v → IsLive g b v
  beyond : {b c v : ℕ} {block : Block} → slice_get g.blocks b ≡ Some block → NeverWrites block.ops block.exit v → IsIn c (targets_of block.exit) → IsLive g c v → IsLive g b v

-- Routes: ways from a node to others, each with what it reads and writes on the way, in order

-- whether the first that is done to v on the way is a read or a write; None where nothing is
abbrev pub first_touch : ℕ → List Touch → Option Bool
first_touch v [] = None
first_touch v (t ∷ ts) = if t.value == v then Some t.reads else first_touch v ts

-- some path of routes from node b reads v before writing it
pub data LiveOn (routes : List Route) : ℕ → ℕ → Type 0 where
  here : {b v : ℕ} {r : Route} (i : ℕ) → slice_get routes i ≡ Some r → b ≡ r.from → first_touch v r.touches ≡ Some true → LiveOn routes b v
  beyond : {b c v : ℕ} {r : Route} (i : ℕ) → slice_get routes i ≡ Some r → b ≡ r.from → first_touch v r.touches ≡ None → IsIn c r.to → LiveOn routes c v → LiveOn routes b v

-- a block as a route

abbrev pub touch : Bool → ℕ → Touch
touch is_read v = record { value = v; reads = is_read }

abbrev pub reading : List ℕ → List Touch
reading values = map (touch true) values

abbrev pub writing : List ℕ → List Touch
writing values = map (touch false) values

-- what an operation does to values: it reads, and then writes
abbrev pub touches_of : Op → List Touch
touches_of op = reading (reads op) ++ writing (writes op)

-- an exit reads, and a call then writes its result
abbrev pub touches_of_exit : Exit → List Touch
touches_of_exit exit = reading (reads_of_exit exit) ++ writing (results_of_exit exit)

abbrev pub route_of : ℕ → Block → Route
route_of b block = record { from = b; to = targets_of block.exit; touches = flat_map touches_of block.ops ++ touches_of_exit block.exit }

-- the blocks from number b on
abbrev pub routes_from : ℕ → List Block → List Route
routes_from b [] = []
routes_from b (block ∷ blocks) = route_of b block ∷ routes_from (b + 1) blocks
