-- The graph after a replacement: a trace became a region, copies became blocks on its edges, and the edges on which they were
-- made go to them.
use Rattle.std.specs.Prelude.{◌==◌, ◌+◌, ℕ, Bool, true, false, if◌then◌else◌, nat_le, Option, Some, None, List, [], ◌∷◌, ◌++◌, length, map, drop, slice_get, slice_index_or}
use Rattle.std.specs.List.{filter, list_any}
use Rattle.vx_flow.specs.declared.graph.Op.{Op}
use Rattle.vx_flow.specs.declared.graph.Exit.{Exit}
use Rattle.vx_flow.specs.declared.graph.Exit.TheVariants.{Goto, Split as Branch, Call, Return, Ends}
use Rattle.vx_flow.specs.declared.graph.Edge.{Edge}
use Rattle.vx_flow.specs.declared.trace.TraceOp.{TraceOp}
use Rattle.vx_flow.specs.declared.trace.TraceOp.TheVariants.{Plain as TracePlain, Split as TraceSplit}
use Rattle.vx_flow.specs.declared.trace.Join.{Join}
use Rattle.vx_flow.specs.Effects.{dismissed}
use Rattle.vx_flow.specs.Walk.{edge, numbers}
use Rattle.vx_mixed.specs.declared.region.Item.{Item}
use Rattle.vx_mixed.specs.declared.region.Item.TheVariants.{Plain, Split}
use Rattle.vx_mixed.specs.declared.region.Region.{Region}
use Rattle.vx_mixed.specs.declared.region.Node.{Node}
use Rattle.vx_mixed.specs.declared.region.Node.TheVariants.{Unused, Enters, Inner}
use Rattle.vx_mixed.specs.declared.region.Origin.{Origin}
use Rattle.vx_mixed.specs.declared.region.Made.{Made}
use Rattle.vx_mixed.specs.declared.mixed.MixedGraph.{MixedGraph}
pub use Rattle.vx_mixed.specs.declared.replacement.Replacement.{Replacement}
use Rattle.vx_mixed.specs.FromGraph.{same_edge}

-- the edge from b to c goes to (to b c)
abbrev pub rename : (ℕ → ℕ → ℕ) → Item → Item
rename to (Plain op cluster) = Plain op cluster
rename to (Split p y edge d) = Split p y (record edge { to = to edge.from edge.to }) d

-- the number of the block that is made on an edge, where those from b on are made
abbrev pub made_on : ℕ → List Made → Edge → Option ℕ
made_on b [] e = None
made_on b (x ∷ xs) e = if same_edge x.edge e then Some b else made_on (b + 1) xs e

-- the operations of the block that is made on an edge; none where no block is
abbrev pub on_edge : List Made → Edge → List Op
on_edge [] e = []
on_edge (x ∷ xs) e = if same_edge x.edge e then x.ops else on_edge xs e

abbrev pub block_or : Option ℕ → ℕ → ℕ
block_or None to = to
block_or (Some b) to = b

-- where an edge goes: to the block that is made on it, or where it went
abbrev pub new_end : MixedGraph → List Made → ℕ → ℕ → ℕ
new_end m made from to = block_or (made_on (length m.nodes) made (edge from to)) to

abbrev pub renamed_exit : (ℕ → ℕ) → Exit → Exit
renamed_exit to (Goto c) = Goto (to c)
renamed_exit to (Branch p c d) = Branch p (to c) (to d)
renamed_exit to (Call g arguments result next) = Call g arguments result (to next)
renamed_exit to (Return x) = Return x
renamed_exit to (Ends k) = Ends k

abbrev pub renamed_region : (ℕ → ℕ → ℕ) → Region → Region
renamed_region to g = record g { words = map (map (rename to)) g.words; last = renamed_exit (to g.from) g.last }

abbrev pub renamed_node : (ℕ → ℕ → ℕ) → ℕ → Node → Node
renamed_node to b (Unused block) = Unused (record block { exit = renamed_exit (to b) block.exit })
renamed_node to b (Enters r w) = Enters r w
renamed_node to b Inner = Inner

-- The region: a load that is in a word not after one of a split that stood above it may be dismissed

pub record InWord : Type 0 where
  pub word : ℕ
  pub item : Item

abbrev pub freed : ℕ → List ℕ → Op → Op
freed w above op = if list_any (λ s. nat_le w s) above then dismissed op else op

-- the items of a trace in its order, each with its word; above are the words of the splits before
abbrev pub placed : (ℕ → ℕ → ℕ) → List TraceOp → (clusters words drains above : List ℕ) → List InWord
placed to [] clusters words drains above = []
placed to (op ∷ ops) [] words drains above = []
placed to (op ∷ ops) (c ∷ clusters) [] drains above = []
placed to (TracePlain op ∷ ops) (c ∷ clusters) (w ∷ words) drains above = record { word = w; item = Plain (freed w above op) c } ∷ placed to ops clusters words drains above
placed to (TraceSplit p y e live ∷ ops) (c ∷ clusters) (w ∷ words) drains above =
    record { word = w; item = Split p y (record e { to = to e.from e.to }) (slice_index_or drains 0 0) } ∷ placed to ops clusters words (drop 1 drains) (w ∷ above)

abbrev pub in_word : List InWord → ℕ → List Item
in_word items w = map (λ (i : InWord). i.item) (filter (λ (i : InWord). i.word == w) items)

abbrev pub last_of : List ℕ → ℕ
last_of [] = 0
last_of (b ∷ []) = b
last_of (b ∷ c ∷ bs) = last_of (c ∷ bs)

abbrev pub exit_in : Option Node → Exit
exit_in (Some (Unused block)) = block.exit
exit_in _ = Goto 0

abbrev pub new_region : MixedGraph → Replacement → Region
new_region m replacement =
    let to = new_end m replacement.made in
    let from = last_of replacement.trace.blocks in
    record {
      blocks = replacement.trace.blocks;
      words = map (in_word (placed to replacement.trace.ops replacement.clusters replacement.words replacement.drains [])) (numbers 0 replacement.length);
      from = from;
      last = renamed_exit (to from) (exit_in (slice_get m.nodes from));
      drain = replacement.last_drain;
    }

-- The blocks: those of the trace are in the region, which is entered at its start and behind its joins

-- the word behind the join at a block
abbrev pub rejoin_at : List Join → List ℕ → ℕ → Option ℕ
rejoin_at [] words b = None
rejoin_at (j ∷ joins) [] b = None
rejoin_at (j ∷ joins) (w ∷ words) b = if j.block == b then Some w else rejoin_at joins words b

abbrev pub entered_at : ℕ → Option ℕ → Node
entered_at region None = Inner
entered_at region (Some w) = Enters region w

-- where the blocks of a trace are entered
abbrev pub trace_node : MixedGraph → Replacement → List ℕ → ℕ → Node → Node
trace_node m replacement [] b node = renamed_node (new_end m replacement.made) b node
trace_node m replacement (first ∷ others) b node =
    if first == b then Enters (length m.regions) 0
    else if list_any (λ c. c == b) others then entered_at (length m.regions) (rejoin_at replacement.trace.joins replacement.rejoins b)
    else renamed_node (new_end m replacement.made) b node

abbrev pub nodes_from : MixedGraph → Replacement → ℕ → List Node → List Node
nodes_from m replacement b [] = []
nodes_from m replacement b (node ∷ nodes) = trace_node m replacement replacement.trace.blocks b node ∷ nodes_from m replacement (b + 1) nodes

-- a block is made of copies, and goes on where its edge went
abbrev pub made_node : Made → Node
made_node made = Unused (record { ops = made.ops; exit = Goto made.edge.to })

abbrev pub is_split_edge : List TraceOp → Edge → Bool
is_split_edge [] e = false
is_split_edge (TracePlain op ∷ ops) e = is_split_edge ops e
is_split_edge (TraceSplit p y f live ∷ ops) e = if same_edge f e then true else is_split_edge ops e

abbrev pub made_origin : List TraceOp → Made → Option Origin
made_origin ops made = Some (record { edge = made.edge; leaves = is_split_edge ops made.edge; clusters = made.clusters })

abbrev pub next_mixed : MixedGraph → Replacement → MixedGraph
next_mixed m replacement = record m {
  nodes = nodes_from m replacement 0 m.nodes ++ map made_node replacement.made;
  regions = map (renamed_region (new_end m replacement.made)) m.regions ++ new_region m replacement ∷ [];
  origins = m.origins ++ map (made_origin replacement.trace.ops) replacement.made;
  homes = replacement.homes;
}
