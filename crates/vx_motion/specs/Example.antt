-- An `if` without `else` as one region, worked by hand: the test and both sums early, and the product of what stands below
-- the join copied on the edge that joins.
use Rattle.std.specs.Prelude.{◌≡◌, ◌==◌, ℕ, zero, suc, ℤ, pos, false, if◌then◌else◌, Some, None, List, [], ◌∷◌}
use Rattle.vx_base.specs.declared.arithmetic.Code.TheVariants.{Add, Mpylu, ToBranch}
use Rattle.vx_base.specs.declared.arithmetic.Compare.TheVariants.{Lt}
use Rattle.vx_flow.specs.declared.graph.Operand.TheVariants.{Held, Number}
use Rattle.vx_flow.specs.declared.graph.Bank.TheVariants.{General, Branch}
use Rattle.vx_flow.specs.declared.graph.Op.{Op}
use Rattle.vx_flow.specs.declared.graph.Op.TheVariants.{Compute}
use Rattle.vx_flow.specs.declared.graph.Exit.{Exit}
use Rattle.vx_flow.specs.declared.graph.Exit.TheVariants.{Goto, Split as Branches, Return}
use Rattle.vx_flow.specs.Effects.{State, Setting}
use Rattle.vx_flow.specs.Meaning.{Hop, Arrives, Calls, Leaves, Stops, Wrong}
use Rattle.vx_flow.specs.Walk.{edge}
use Rattle.vx_mixed.specs.declared.region.Item.{Item}
use Rattle.vx_mixed.specs.declared.region.Item.TheVariants.{Plain, Split}
use Rattle.vx_mixed.specs.declared.region.Region.{Region}
use Rattle.vx_mixed.specs.declared.region.Node.{Node}
use Rattle.vx_mixed.specs.declared.region.Node.TheVariants.{Unused, Enters, Inner}
use Rattle.vx_mixed.specs.declared.mixed.MixedGraph.{MixedGraph}
use Rattle.vx_mixed.specs.Meaning.{hop}

abbrev pub block : List Op → Exit → Node
block ops exit = Unused (record { ops = ops; exit = exit })

-- v3 = v1 + 5; v6 = v1 < 10; v2 = v2 + 1; v4 = v3 * v1; v5 = v2 + v4

abbrev pub sum : Op
sum = Compute Add 3 (Held 1) (Number (pos 5))

abbrev pub test : Op
test = Compute (ToBranch Lt) 6 (Held 1) (Number (pos 10))

abbrev pub step : Op
step = Compute Add 2 (Held 2) (Number (pos 1))

abbrev pub product : Op
product = Compute Mpylu 4 (Held 3) (Held 1)

abbrev pub total : Op
total = Compute Add 5 (Held 2) (Held 4)

abbrev pub graph_with : List Node → List Region → MixedGraph
graph_with nodes regions = record {
  function = 0;
  nodes = nodes;
  regions = regions;
  origins = [];
  headers = [];
  back = [];
  banks = General ∷ General ∷ General ∷ General ∷ General ∷ General ∷ Branch ∷ [];
  parameters = 1 ∷ 2 ∷ [];
  arrays = [];
  homes = record { clusters = [] };
}

-- block 0 to 1 or 3, block 1 and block 3 to 2
abbrev pub old : MixedGraph
old = graph_with (block (sum ∷ test ∷ []) (Branches 6 1 3) ∷ block (step ∷ []) (Goto 2) ∷ block (product ∷ total ∷ []) (Return (Held 5)) ∷ block [] (Goto 2) ∷ []) []

abbrev pub on : Op → Item
on op = Plain op 0

-- blocks 0, 1 and 2 in five words; they are joined at word 4
abbrev pub region : Region
region = record {
  blocks = 0 ∷ 1 ∷ 2 ∷ [];
  words = (on sum ∷ on test ∷ []) ∷ (on product ∷ []) ∷ (Split 6 false (edge 0 3) 0 ∷ []) ∷ (on step ∷ []) ∷ (on total ∷ []) ∷ [];
  from = 2;
  last = Return (Held 5);
  drain = 0;
}

-- block 4 is the copy on the edge from block 3
abbrev pub new : MixedGraph
new = graph_with (Enters 0 0 ∷ Inner ∷ Enters 0 4 ∷ block [] (Goto 4) ∷ block (product ∷ []) (Goto 2) ∷ []) (region ∷ [])

-- the same without it
abbrev pub without_copy : MixedGraph
without_copy = graph_with (Enters 0 0 ∷ Inner ∷ Enters 0 4 ∷ block [] (Goto 2) ∷ []) (region ∷ [])

-- a product and a test take two cycles
abbrev pub latency : Op → ℕ
latency (Compute Mpylu v a b) = 2
latency (Compute (ToBranch c) v a b) = 2
latency op = 1

abbrev pub setting : Setting
setting = record { spot = λ a. a; texts = [] }

-- v1 = x and v2 = 7; on the edge that joins v3 is there too
abbrev pub at_first : ℤ → State
at_first x = record { values = λ v. if v == 1 then Some x else if v == 2 then Some (pos 7) else None; arrays = []; input = []; out = [] }

abbrev pub at_join : ℤ → ℤ → State
at_join x y = record { values = λ v. if v == 1 then Some x else if v == 2 then Some (pos 7) else if v == 3 then Some y else None; arrays = []; input = []; out = [] }

-- so many hops one after the other
abbrev pub on_from : (ℕ → State → Hop) → Hop → Hop
on_from go (Arrives from to s) = go to s
on_from go h = h

abbrev pub hops : ℕ → (ℕ → State → Hop) → ℕ → State → Hop
hops zero go b s = go b s
hops (suc n) go b s = on_from (hops n go) (go b s)

-- how it leaves: with a number, by an edge to a block, or with no meaning
pub data Way : Type 0 where
  Returns : ℤ → Way
  Goes : (to : ℕ) → Way
  Fails : Way

abbrev pub way : Hop → Way
way (Arrives from to s) = Goes to
way (Calls g arguments result from next s) = Fails
way (Leaves n s) = Returns n
way (Stops k s) = Fails
way Wrong = Fails

abbrev pub late : List ℕ
late = 16 ∷ []

abbrev pub soon : List ℕ
soon = 1 ∷ []

-- With 4 the graph returns 8 + 9 * 4 = 44, with 40 it goes to block 3; from the edge that joins, with 40 and 45, it returns
-- 7 + 1800. The region does the same, whenever writes land.
pub record Works : Type 0 where
  pub below : way (hops 2 (hop setting soon latency old) 0 (at_first (pos 4))) ≡ Returns (pos 44)
  pub below_soon : way (hop setting soon latency new 0 (at_first (pos 4))) ≡ Returns (pos 44)
  pub below_late : way (hop setting late latency new 0 (at_first (pos 4))) ≡ Returns (pos 44)
  pub above : way (hop setting soon latency old 0 (at_first (pos 40))) ≡ Goes 3
  pub above_soon : way (hop setting soon latency new 0 (at_first (pos 40))) ≡ Goes 3
  pub above_late : way (hop setting late latency new 0 (at_first (pos 40))) ≡ Goes 3
  pub joined : way (hops 1 (hop setting soon latency old) 3 (at_join (pos 40) (pos 45))) ≡ Returns (pos 1807)
  pub joined_soon : way (hops 2 (hop setting soon latency new) 3 (at_join (pos 40) (pos 45))) ≡ Returns (pos 1807)
  pub joined_late : way (hops 2 (hop setting late latency new) 3 (at_join (pos 40) (pos 45))) ≡ Returns (pos 1807)

-- Without the copy the edge that joins does not.
pub record FailsWithoutCopy : Type 0 where
  pub soon_too : way (hops 2 (hop setting soon latency without_copy) 3 (at_join (pos 40) (pos 45))) ≡ Fails
  pub late_too : way (hops 2 (hop setting late latency without_copy) 3 (at_join (pos 40) (pos 45))) ≡ Fails
