-- The ways through a graph of blocks and regions as routes between nodes, for the solver of liveness: a block is a route, and
-- so is each word of a region. The nodes are the blocks' numbers, and behind them one for each word and each exit of a region.
use Rattle.std.specs.Prelude.{◌+◌, ℕ, List, [], ◌∷◌, ◌++◌, length, slice_index_or}
use Rattle.std.specs.List.{flat_map}
use Rattle.vx_flow.specs.declared.graph.Exit.{Exit}
use Rattle.vx_flow.specs.declared.graph.Op.{Op}
use Rattle.vx_flow.specs.declared.routes.Route.{Route}
use Rattle.vx_flow.specs.declared.routes.Touch.{Touch}
use Rattle.vx_flow.specs.Live.{reading, touches_of_exit, writing}
use Rattle.vx_flow.specs.Rows.{row_at}
use Rattle.vx_flow.specs.Sound.{targets_of}
use Rattle.vx_mixed.specs.declared.region.Item.{Item}
use Rattle.vx_mixed.specs.declared.region.Item.TheVariants.{Plain, Split}
use Rattle.vx_mixed.specs.declared.region.Node.{Node}
use Rattle.vx_mixed.specs.declared.region.Node.TheVariants.{Unused, Enters, Inner}
use Rattle.vx_mixed.specs.declared.region.Region.{Region}
use Rattle.vx_mixed.specs.declared.mixed.MixedGraph.{MixedGraph}
use Rattle.vx_mixed.specs.Live.{single, item_reads, item_writes}

abbrev pub reading_item : Item → List Touch
reading_item item = reading (item_reads item)

abbrev pub writing_item : Item → List Touch
writing_item item = writing (item_writes item)

-- a word reads all that it reads before it writes
abbrev pub word_touches : List Item → List Touch
word_touches word = flat_map reading_item word ++ flat_map writing_item word

abbrev pub exit_touches : Exit → List Touch
exit_touches exit = touches_of_exit exit

abbrev pub op_touches : Op → List Touch
op_touches op = word_touches (single op)

abbrev pub route : ℕ → List ℕ → List Touch → Route
route from to touches = record { from = from; to = to; touches = touches }

-- the blocks to which the splits of a word go

abbrev pub off_end : Item → List ℕ
off_end (Plain op cluster) = []
off_end (Split p y e d) = e.to ∷ []

abbrev pub off_ends : List Item → List ℕ
off_ends word = flat_map off_end word

abbrev pub word_route : ℕ → List Item → Route
word_route n word = route n (off_ends word ++ (n + 1) ∷ []) (word_touches word)

abbrev pub exit_route : ℕ → Exit → Route
exit_route n exit = route n (targets_of exit) (exit_touches exit)

-- words from node n on, and their exit
abbrev pub word_routes : ℕ → Exit → List (List Item) → List Route
word_routes n exit [] = exit_route n exit ∷ []
word_routes n exit (word ∷ words) = word_route n word ∷ word_routes (n + 1) exit words

-- the node behind those of a region that begin at n
abbrev pub behind : ℕ → Region → ℕ
behind n g = n + (length g.words + 1)

abbrev pub region_routes : ℕ → List Region → List Route
region_routes n [] = []
region_routes n (g ∷ gs) = word_routes n g.last g.words ++ region_routes (behind n g) gs

-- the nodes of the first words of regions, where the first of all has number n
abbrev pub region_starts : ℕ → List Region → List ℕ
region_starts n [] = []
region_starts n (g ∷ gs) = n ∷ region_starts (behind n g) gs

-- the node behind those of all regions
abbrev pub behind_all : ℕ → List Region → ℕ
behind_all n [] = n
behind_all n (g ∷ gs) = behind_all (behind n g) gs

abbrev pub node_route : List ℕ → ℕ → Node → Route
node_route starts b (Unused block) = route b (targets_of block.exit) (flat_map op_touches block.ops ++ exit_touches block.exit)
node_route starts b (Enters r w) = route b ((slice_index_or starts r 0 + w) ∷ []) []
node_route starts b Inner = route b [] []

abbrev pub node_routes : List ℕ → ℕ → List Node → List Route
node_routes starts b [] = []
node_routes starts b (node ∷ nodes) = node_route starts b node ∷ node_routes starts (b + 1) nodes

abbrev pub routes : MixedGraph → List Route
routes m = node_routes (region_starts (length m.nodes) m.regions) 0 m.nodes ++ region_routes (length m.nodes) m.regions

-- the values that are live at a block, ascending
abbrev pub live_values : List (List ℕ) → ℕ → List ℕ
live_values rows b = row_at rows b
