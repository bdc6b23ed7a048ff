-- The call that replaces: its demands come to those of a replacement, and the parts that it puts in place make the graph after it.
use Rattle.std.proofs.Common.{◌≡◌, Option, List, sym, ap, ◌∙◌, subst}
use Rattle.vx_flow.specs.declared.trace.Homes.{Homes}
use Rattle.vx_mixed.specs.declared.region.Node.{Node}
use Rattle.vx_mixed.specs.declared.region.Origin.{Origin}
use Rattle.vx_mixed.specs.declared.mixed.MixedGraph.{MixedGraph}
use Rattle.vx_mixed.specs.CanReplace.{TraceFits, IsFormed, NamesFit, ListsFit, WordsFit, MadeFits, MadeStands, HomesFit, AwayFits, CanReplace}
use Rattle.vx_mixed.specs.declared.replacement.Replacement.{Replacement}
use Rattle.vx_mixed.specs.Next.{next_mixed}
use Rattle.vx_mixed.specs.Valid.{Valid}
use Rattle.vx_mixed.proofs.StaysValid.{stays_valid}

pub can_at : (m n : MixedGraph) (r : Replacement) → m ≡ n → TraceFits n r → IsFormed r.trace → NamesFit n r → ListsFit r → WordsFit r → MadeFits r → MadeStands n r → HomesFit n r → AwayFits n r → CanReplace m r
can_at m n r same trace formed names lists words made stand homes away =
    subst (λ z. CanReplace z r) (sym same) (record { trace = trace; formed = formed; names = names; lists = lists; words = words; made = made; stand = stand; homes = homes; away = away })

-- g is the graph with the regions after the replacement
pub parts_make : (m g : MixedGraph) (r : Replacement) (nodes : List Node) (origins : List (Option Origin)) (homes : Homes) → g ≡ record m { regions = (next_mixed m r).regions } → nodes ≡ (next_mixed m r).nodes → origins ≡ (next_mixed m r).origins → homes ≡ r.homes → record g { nodes = nodes; origins = origins; homes = homes } ≡ next_mixed m r
parts_make m g r nodes origins homes e n o h =
    ap (λ (z : MixedGraph). record z { nodes = nodes; origins = origins; homes = homes }) e
    ∙ ap (λ z. record m { nodes = z; regions = (next_mixed m r).regions; origins = origins; homes = homes }) n
    ∙ ap (λ z. record m { nodes = (next_mixed m r).nodes; regions = (next_mixed m r).regions; origins = z; homes = homes }) o
    ∙ ap (λ z. record m { nodes = (next_mixed m r).nodes; regions = (next_mixed m r).regions; origins = (next_mixed m r).origins; homes = z }) h

-- the graph that such parts make is that after the replacement
pub parts_hold : (m new : MixedGraph) (r : Replacement) → new ≡ next_mixed m r → Valid m → CanReplace m r → Valid new
parts_hold m new r same valid can = subst Valid (sym same) (stays_valid m r valid can)
