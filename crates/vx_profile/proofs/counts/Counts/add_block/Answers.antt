use Rattle.vx_flow.specs.Meaning.{AtBlock}
use Rattle.vx_profile.proofs.Counting.{once}
use Rattle.vx_profile.proofs.counts.Counts.add_block.Goals as goal

pub returns : goal.returns
returns c = once c.args.self.now c.add_block_times.new.self (AtBlock c.args.function c.args.block) c.in_ok-add_block_times.ensures
