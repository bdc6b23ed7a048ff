use Rattle.std.proofs.Common.{◌<◌, arith, length, subst}
use Rattle.std.proofs.lemmas.Option.{IfSome_then}
use Rattle.vx_flow.specs.Effects.{IsIn}
use Rattle.vx_loops.proofs.Orders.{in_at}
use Rattle.vx_loops.proofs.loops.loop_at.Goals as goal

pub returns-then-branch-clause-source : goal.returns-then-branch-clause-source
returns-then-branch-clause-source c =
    let some : 0 < length c.as_slice.result.now = omega (arith, c.in-len1.len_at_least) in
    IfSome_then c.jumping.result c.jumping.ensures.same (λ x e. c.in_ok-ends.ensures x (subst (IsIn x) c.as_slice.ensures.value (in_at c.as_slice.result.now 0 x some e)))

pub returns-then-branch-clause-looks : goal.returns-then-branch-clause-looks
returns-then-branch-clause-looks c = IfSome_then c.jumping.result c.jumping.ensures.same (λ x e. c.in_ok-gather.ensures.looks)

pub returns-then-branch-clause-before : goal.returns-then-branch-clause-before
returns-then-branch-clause-before c = c.jumping.ensures.jumps

pub returns-then-branch-clause-tables : goal.returns-then-branch-clause-tables
returns-then-branch-clause-tables c = c.in_ok-gather.ensures.tables

pub returns-then-branch-clause-number : goal.returns-then-branch-clause-number
returns-then-branch-clause-number c = c.in_ok-gather.ensures.number

pub returns-clause-tables : goal.returns-clause-tables
returns-clause-tables c = c.in_ok-gather.ensures.tables

pub returns-clause-number : goal.returns-clause-number
returns-clause-number c = c.in_ok-gather.ensures.number
