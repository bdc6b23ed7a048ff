-- Which functions a function reaches by calls, as what is live on routes: one for each function, to the functions that it calls,
-- on which it reads each of them as a value. And what stays of the graphs when a call is inlined.
use Rattle.std.specs.Prelude.{◌≡◌, ◌↔◌, ℕ, suc, List, [], ◌∷◌, length, map}
use Rattle.std.specs.List.{flat_map}
use Rattle.vx_flow.specs.declared.graph.Exit.{Exit}
use Rattle.vx_flow.specs.declared.graph.Exit.TheVariants.{Goto, Split, Call, Return, Ends}
use Rattle.vx_flow.specs.declared.graph.Block.{Block}
use Rattle.vx_flow.specs.declared.graph.Graph.{Graph}
use Rattle.vx_flow.specs.declared.graph.Flow.{Flow}
use Rattle.vx_flow.specs.declared.routes.Route.{Route}
use Rattle.vx_flow.specs.Live.{LiveOn, reading}
use Rattle.vx_flow.specs.Closing.{BeginWithin}
use Rattle.vx_inline.specs.declared.site.Site.{Site}
use Rattle.vx_inline.specs.Inlined.{Inlined, Reaches}

abbrev pub called_by : Exit → List ℕ
called_by (Goto c) = []
called_by (Split p c d) = []
called_by (Call f arguments result c) = f ∷ []
called_by (Return x) = []
called_by (Ends k) = []

abbrev pub calls_of_block : Block → List ℕ
calls_of_block block = called_by block.exit

abbrev pub callees : Graph → List ℕ
callees g = flat_map calls_of_block g.blocks

abbrev pub call_route : ℕ → Graph → Route
call_route f g = record { from = f; to = callees g; touches = reading (callees g) }

-- those of the functions from function f on
abbrev pub call_routes : ℕ → List Graph → List Route
call_routes f [] = []
call_routes f (g ∷ gs) = call_route f g ∷ call_routes (suc f) gs

abbrev pub ReachedWhereLive : Type 0
ReachedWhereLive = (flow : Flow) → BeginWithin (length flow.functions) (call_routes 0 flow.functions) × ((f g : ℕ) → LiveOn (call_routes 0 flow.functions) f g ↔ Reaches flow f g)

-- values, parameters and arrays stay in every graph
abbrev pub NamesStay : Type 0
NamesStay = (flow new : Flow) (site : Site) → Inlined flow site new →
    (map (λ (g : Graph). g.banks) new.functions ≡ map (λ (g : Graph). g.banks) flow.functions) × (map (λ (g : Graph). g.parameters) new.functions ≡ map (λ (g : Graph). g.parameters) flow.functions) × (map (λ (g : Graph). g.arrays) new.functions ≡ map (λ (g : Graph). g.arrays) flow.functions)
