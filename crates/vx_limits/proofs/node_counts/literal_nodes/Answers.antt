use Rattle.vx_limits.proofs.Counting.{word_fits}
use Rattle.vx_limits.proofs.node_counts.literal_nodes.Goals as goal

pub returns-clause-words : goal.returns-clause-words
returns-clause-words c = word_fits c.args.number c.ranges.number
