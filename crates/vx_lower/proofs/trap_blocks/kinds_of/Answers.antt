use Rattle.vx_base.specs.declared.outcome.Trap.TheVariants.{Divide, Index, Input, Depth}
use Rattle.vx_lower.specs.Finished.{where_used}
use Rattle.vx_lower.proofs.TrapBlocks.{four_more}
use Rattle.vx_lower.proofs.trap_blocks.kinds_of.Goals as goal

pub returns : goal.returns
returns c = four_more (where_used c.args.slots.now Divide) (where_used c.args.slots.now Index) (where_used c.args.slots.now Input) (where_used c.args.slots.now Depth) c.new-kinds.result.items c.add_kind.new.kinds.items c.add_kind-2.new.kinds.items c.add_kind-3.new.kinds.items c.add_kind-4.new.kinds.items c.new-kinds.ensures.items c.in_ok-add_kind.ensures c.in_ok-add_kind-2.ensures c.in_ok-add_kind-3.ensures c.in_ok-add_kind-4.ensures
