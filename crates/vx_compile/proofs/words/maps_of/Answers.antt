-- Layout by layout.
use Rattle.vx_compile.proofs.Chain.{maps_step, item_at}
use Rattle.vx_compile.proofs.words.maps_of.Goals as goal

pub registers-requires-clause-inside : goal.registers-requires-clause-inside
registers-requires-clause-inside c = (c.requires c.loop-layout.layout-index c.layout-item.result (item_at c.args.layouts.now c.loop-layout.layout-index c.layout-item.result c.loop-layout-test.true c.layout-item.is)).words

pub registers-requires-clause-entry : goal.registers-requires-clause-entry
registers-requires-clause-entry c = (c.requires c.loop-layout.layout-index c.layout-item.result (item_at c.args.layouts.now c.loop-layout.layout-index c.layout-item.result c.loop-layout-test.true c.layout-item.is)).entry

pub loop-layout-preserved : goal.loop-layout-preserved
loop-layout-preserved c =
    maps_step c.args.machine.now c.args.layouts.now c.loop-layout.layout-index c.layout-item.result c.loop-layout.maps c.push.new.self c.in_ok-registers.field-0 c.loop-layout-test.true c.layout-item.is
    c.loop-layout.invariant c.in_ok-registers.ensures c.in_ok-push.ensures.ok
