-- A graph of two blocks, worked by hand.
use Rattle.std.specs.Prelude.{◌≡◌, pos, List, [], ◌∷◌}
use Rattle.vx_base.specs.declared.arithmetic.Code.TheVariants.{Mov, Add, Mpylu}
use Rattle.vx_flow.specs.declared.graph.Bank.{Bank}
use Rattle.vx_flow.specs.declared.graph.Bank.TheVariants.{General}
use Rattle.vx_flow.specs.declared.graph.Block.{Block}
use Rattle.vx_flow.specs.declared.graph.Exit.TheVariants.{Goto, Return}
use Rattle.vx_flow.specs.declared.graph.Graph.{Graph}
use Rattle.vx_flow.specs.declared.graph.Op.TheVariants.{Compute}
use Rattle.vx_flow.specs.declared.graph.Operand.TheVariants.{Held, Number}
use Rattle.vx_mixed.specs.Valid.{CanBegin}

-- v0 = 7; v1 = v0 * v0; v2 = v1 + 1; then v3 = v2 * v0, which is returned
abbrev pub two_blocks : List Block
two_blocks =
    record { ops = Compute Mov 0 (Number (pos 7)) (Number (pos 0)) ∷ Compute Mpylu 1 (Held 0) (Held 0) ∷ Compute Add 2 (Held 1) (Number (pos 1)) ∷ []; exit = Goto 1 }
    ∷ record { ops = Compute Mpylu 3 (Held 2) (Held 0) ∷ []; exit = Return (Held 3) }
    ∷ []

abbrev pub two_banks : List Bank
two_banks = General ∷ General ∷ General ∷ General ∷ []

-- it can begin as a graph of blocks and regions
abbrev pub TwoBegin : Type 0
TwoBegin = (graph : Graph) → graph.blocks ≡ two_blocks → graph.banks ≡ two_banks → CanBegin graph
