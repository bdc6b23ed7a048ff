-- On which edges of regions blocks are made.
use Rattle.std.specs.Prelude.{ℕ, Bool, false, ◌||◌, List}
use Rattle.std.specs.List.{list_any}
use Rattle.vx_flow.specs.declared.graph.Edge.{Edge}
use Rattle.vx_flow.specs.declared.graph.Exit.{Exit}
use Rattle.vx_flow.specs.declared.graph.Exit.TheVariants.{Goto, Split as Branch, Call, Return, Ends}
use Rattle.vx_flow.specs.Walk.{edge}
use Rattle.vx_mixed.specs.declared.region.Item.{Item}
use Rattle.vx_mixed.specs.declared.region.Item.TheVariants.{Plain, Split}
use Rattle.vx_mixed.specs.declared.region.Made.{Made}
use Rattle.vx_mixed.specs.declared.region.Region.{Region}
use Rattle.vx_mixed.specs.FromGraph.{same_edge}

-- a block is made on the edge
abbrev pub is_made_on : List Made → Edge → Bool
is_made_on made e = list_any (λ (x : Made). same_edge x.edge e) made

abbrev pub item_leads : List Made → Item → Bool
item_leads made (Plain op cluster) = false
item_leads made (Split p y e d) = is_made_on made e

abbrev pub exit_leads : List Made → ℕ → Exit → Bool
exit_leads made b (Goto c) = is_made_on made (edge b c)
exit_leads made b (Branch p c d) = is_made_on made (edge b c) || is_made_on made (edge b d)
exit_leads made b (Call g arguments result next) = is_made_on made (edge b next)
exit_leads made b (Return x) = false
exit_leads made b (Ends k) = false

-- the region is left by an edge on which a block is made
abbrev pub region_leads : List Made → Region → Bool
region_leads made g = list_any (list_any (item_leads made)) g.words || exit_leads made g.from g.last
