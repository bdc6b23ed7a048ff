use Rattle.std.proofs.Common.{[], ◌<◌, ◌-◌, ◌^◌, arith}
use Rattle.vx_loops.proofs.loops.gather.Goals as goal

pub returns-clause-looks : goal.returns-clause-looks
returns-clause-looks c = λ few.
    let begun : c.begin.new.self.number < 2 ^ 64 - 1 = omega (arith, few, c.in_ok-whole.ensures.number, c.mark.ensures.number) in
    c.in_ok-whole.ensures.looks _ (c.mark.ensures.notes [] (c.begin.ensures.notes begun))

pub returns-clause-tables : goal.returns-clause-tables
returns-clause-tables c = λ g t. c.in_ok-whole.ensures.tables g (c.mark.ensures.tables g (c.begin.ensures.tables g t))
