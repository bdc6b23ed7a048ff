-- A graph that counts up to 10, worked by hand: it can begin.
use Rattle.std.specs.Prelude.{◌≡◌, pos, List, [], ◌∷◌}
use Rattle.vx_base.specs.declared.arithmetic.Code.TheVariants.{Add, ToBranch}
use Rattle.vx_base.specs.declared.arithmetic.Compare.TheVariants.{Lt}
use Rattle.vx_flow.specs.declared.graph.Bank.{Bank}
use Rattle.vx_flow.specs.declared.graph.Bank.TheVariants.{General, Branch}
use Rattle.vx_flow.specs.declared.graph.Block.{Block}
use Rattle.vx_flow.specs.declared.graph.Edge.{Edge}
use Rattle.vx_flow.specs.declared.graph.Exit.TheVariants.{Goto, Split, Return}
use Rattle.vx_flow.specs.declared.graph.Graph.{Graph}
use Rattle.vx_flow.specs.declared.graph.Op.TheVariants.{Compute, Input}
use Rattle.vx_flow.specs.declared.graph.Operand.TheVariants.{Held, Number}
use Rattle.vx_flow.specs.Walk.{edge}
use Rattle.vx_mixed.specs.Edges.{edges_from}
use Rattle.vx_mixed.specs.Valid.{CanBegin}

-- v0 is read; while v0 < 10, v0 = v0 + 1; return v0, with the test in value 2
abbrev pub counting_blocks : List Block
counting_blocks =
    record { ops = Input 0 ∷ []; exit = Goto 1 }
    ∷ record { ops = Compute (ToBranch Lt) 2 (Held 0) (Number (pos 10)) ∷ []; exit = Split 2 3 2 }
    ∷ record { ops = []; exit = Return (Held 0) }
    ∷ record { ops = Compute Add 0 (Held 0) (Number (pos 1)) ∷ []; exit = Goto 1 }
    ∷ []

abbrev pub counting_banks : List Bank
counting_banks = General ∷ General ∷ Branch ∷ []

abbrev pub counting_edges : List Edge
counting_edges = edge 0 1 ∷ edge 1 2 ∷ edge 1 3 ∷ edge 3 1 ∷ []

pub record CountingBegins : Type 0 where
  pub edges : edges_from 0 counting_blocks ≡ counting_edges
  pub begins : (graph : Graph) → graph.blocks ≡ counting_blocks → graph.banks ≡ counting_banks → CanBegin graph
