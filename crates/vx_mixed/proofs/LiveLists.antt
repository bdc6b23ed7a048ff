-- The values that are listed as live at a block are those that are live there.
use Rattle.std.proofs.Common.{◌≡◌, ℕ, ◌<◌, true, List, length}
use Rattle.std.specs.Prelude.{◌↔◌}
use Rattle.vx_flow.specs.Effects.{IsIn}
use Rattle.vx_flow.specs.Live.{LiveOn}
use Rattle.vx_flow.specs.Rows.{lives, row_at}
use Rattle.vx_flow.proofs.ClosingSteps.{any_in, in_any}
use Rattle.vx_mixed.specs.declared.mixed.MixedGraph.{MixedGraph}
use Rattle.vx_mixed.specs.Live.{Live}
use Rattle.vx_mixed.specs.Routes.{live_values, routes}
use Rattle.vx_mixed.specs.Valid.{Valid}
use Rattle.vx_mixed.proofs.ByRoutes.{live_by_routes}

pub live_lists : (m : MixedGraph) → Valid m → (rows : List (List ℕ)) → ((b v : ℕ) → (lives rows b v ≡ true) ↔ LiveOn (routes m) b v) → (b v : ℕ) → b < length m.nodes → IsIn v (live_values rows b) ↔ Live m b v
live_lists m valid rows exact b v h =
    let k = live_by_routes m valid b v h in
    let r = exact b v in
    (λ i. k.0 (r.0 (in_any v (row_at rows b) i)), λ l. any_in v (row_at rows b) (r.1 (k.1 l)))
