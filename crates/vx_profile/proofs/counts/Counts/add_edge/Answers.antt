use Rattle.vx_flow.specs.Meaning.{AlongEdge}
use Rattle.vx_profile.proofs.Counting.{once}
use Rattle.vx_profile.proofs.counts.Counts.add_edge.Goals as goal

pub returns : goal.returns
returns c = once c.args.self.now c.add_edge_times.new.self (AlongEdge c.args.function c.args.from c.args.to) c.in_ok-add_edge_times.ensures
