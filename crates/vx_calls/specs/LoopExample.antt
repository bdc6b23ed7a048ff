-- A layout that calls in a loop, worked by hand: v0 and v1 are parameters, v2 is counted down, v4 is printed in each turn.
use Rattle.std.specs.Prelude.{pos, true, Some, List, [], ◌∷◌}
use Rattle.vx_base.specs.declared.arithmetic.Code.TheVariants.{Add, Sub, ToBranch}
use Rattle.vx_base.specs.declared.arithmetic.Compare.TheVariants.{Ne}
use Rattle.vx_flow.specs.declared.graph.Op.TheVariants.{Compute, Decimal}
use Rattle.vx_flow.specs.declared.graph.Operand.TheVariants.{Held, Number}
use Rattle.vx_mixed.specs.declared.layout.Laid.TheVariants.{Plain, Split}
use Rattle.vx_mixed.specs.declared.layout.VirtualWord.{VirtualWord}
use Rattle.vx_mixed.specs.declared.layout.VirtualWord.TheVariants.{Planned, Call, Return}

-- v2 = v0 + 1, v4 = v0 + 5; then in a loop v2 = v2 - 1, v3 = f(v2), print v4, v6 = v3 <> 0, again where v6; return v3
abbrev pub loop_words : List VirtualWord
loop_words =
    Planned 0 0 (Plain (Compute Add 2 (Held 0) (Number (pos 1))) 0 ∷ Plain (Compute Add 4 (Held 0) (Number (pos 5))) 0 ∷ [])
    ∷ Planned 0 1 (Plain (Compute Sub 2 (Held 2) (Number (pos 1))) 0 ∷ [])
    ∷ Call 0 (Held 2 ∷ []) (Some 3)
    ∷ Planned 1 0 (Plain (Decimal (Held 4)) 0 ∷ Plain (Compute (ToBranch Ne) 6 (Held 3) (Number (pos 0))) 0 ∷ [])
    ∷ Planned 1 1 (Split 6 true 1 ∷ [])
    ∷ Return (Held 3)
    ∷ []
