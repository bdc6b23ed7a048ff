use Rattle.std.proofs.Common.{◌≡◌, ◌++◌, drop}
use Rattle.vx_inline.specs.Inlined.{moves_in}
use Rattle.vx_inline.specs.Taking.{value_at}
use Rattle.vx_inline.proofs.splice.push_moves.Given as goal

abbrev pub invariant-loop-place : goal.invariant-loop-place
invariant-loop-place l = l.ops ++ moves_in (value_at l.to) (drop l.place l.parameters) (drop l.place l.arguments) ≡ l.initial.ops ++ moves_in (value_at l.to) l.parameters l.arguments
