use Rattle.std.proofs.Common.{refl}
use Rattle.vx_profile.proofs.Replacing.{block_replaced}
use Rattle.vx_profile.proofs.counts.Counts.set_block.Goals as goal

pub returns : goal.returns
returns c = block_replaced c.args.self.now (record { blocks = c.insert.new.self; edges = c.args.self.now.edges }) c.args.function c.args.block c.args.count c.in_ok-insert.ensures.updates.0 refl
