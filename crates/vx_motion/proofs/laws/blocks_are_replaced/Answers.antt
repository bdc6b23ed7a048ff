use Rattle.vx_motion.proofs.BlockReplaced.{block_is_traced, block_is_replaced}
use Rattle.vx_motion.proofs.PairReplaced.{pair_is_traced, pair_is_replaced}
use Rattle.vx_motion.proofs.laws.blocks_are_replaced.Goals as goal

pub returns : goal.returns
returns c = record { traced = block_is_traced; replaced = block_is_replaced; traced_two = pair_is_traced; replaced_two = pair_is_replaced }
