use Rattle.std.proofs.Common.{refl}
use Rattle.vx_profile.proofs.Replacing.{edge_replaced}
use Rattle.vx_profile.proofs.counts.Counts.set_edge.Goals as goal

pub returns : goal.returns
returns c = edge_replaced c.args.self.now (record { blocks = c.args.self.now.blocks; edges = c.insert.new.self }) c.args.function c.args.from c.args.to c.args.count c.in_ok-insert.ensures.updates.0 refl
