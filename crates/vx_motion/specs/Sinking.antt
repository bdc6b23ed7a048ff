-- A sum that sinks below a split: the region splits first, and a made block on the edge that leaves holds the copy.
use Rattle.std.specs.Prelude.{ℕ, pos, Bool, false, [], ◌∷◌, nat_eq, ◌&&◌, not, ◌||◌}
use Rattle.vx_base.specs.declared.arithmetic.Code.TheVariants.{Add}
use Rattle.vx_flow.specs.declared.graph.Exit.TheVariants.{Goto, Split as Branches, Return}
use Rattle.vx_flow.specs.declared.graph.Op.{Op}
use Rattle.vx_flow.specs.declared.graph.Op.TheVariants.{Compute}
use Rattle.vx_flow.specs.declared.graph.Operand.TheVariants.{Held, Number}
use Rattle.vx_flow.specs.Walk.{edge}
use Rattle.vx_mixed.specs.declared.region.Item.TheVariants.{Plain, Split}
use Rattle.vx_mixed.specs.declared.region.Node.TheVariants.{Enters, Inner}
use Rattle.vx_mixed.specs.declared.region.Region.{Region}
use Rattle.vx_mixed.specs.declared.mixed.MixedGraph.{MixedGraph}
use Rattle.vx_mixed.specs.Agree.{SameMeaning}
use Rattle.vx_motion.specs.Example.{block, graph_with}

-- v1 = v2 + 5
abbrev pub sum : Op
sum = Compute Add 1 (Held 2) (Number (pos 5))

-- block 0: the sum, then by v6 to 1 or 2; both return v1
abbrev pub old : MixedGraph
old = graph_with (block (sum ∷ []) (Branches 6 1 2) ∷ block [] (Return (Held 1)) ∷ block [] (Return (Held 1)) ∷ []) []

abbrev pub region : Region
region = record { blocks = 0 ∷ 1 ∷ []; words = (Split 6 false (edge 0 3) 0 ∷ []) ∷ (Plain sum 0 ∷ []) ∷ []; from = 1; last = Return (Held 1); drain = 2 }

abbrev pub new : MixedGraph
new = graph_with (Enters 0 0 ∷ Inner ∷ block [] (Return (Held 1)) ∷ block (sum ∷ []) (Goto 2) ∷ []) (region ∷ [])

-- the same without the copy
abbrev pub without_copy : MixedGraph
without_copy = graph_with (Enters 0 0 ∷ Inner ∷ block [] (Return (Held 1)) ∷ block [] (Goto 2) ∷ []) (region ∷ [])

-- the edge from 0 to 1 is inside the trace, the edge from 0 to 3 leads to the made block
abbrev pub meet_old : ℕ → ℕ → Bool
meet_old a b = not (nat_eq a 0 && nat_eq b 1)

abbrev pub meet_new : ℕ → ℕ → Bool
meet_new a b = not (nat_eq a 0 && nat_eq b 3)

abbrev pub pairs : ℕ → ℕ → Bool
pairs a b = nat_eq a b && (nat_eq a 0 || nat_eq a 2)

abbrev pub latency : Op → ℕ
latency op = 3

abbrev pub SumSinks : Type 0
SumSinks = SameMeaning latency old new meet_old meet_new pairs

abbrev pub RefusedWithoutCopy : Type 0
RefusedWithoutCopy = SameMeaning latency old without_copy meet_old meet_new pairs → ⊥
