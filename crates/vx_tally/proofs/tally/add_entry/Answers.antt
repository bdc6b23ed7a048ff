use Rattle.vx_tally.proofs.Gathering.{entry_gathered}
use Rattle.vx_tally.proofs.tally.add_entry.Goals as goal

pub returns : goal.returns
returns c = entry_gathered c.args.counts.now c.add_block_times.new.self c.add_taken.new.counts c.add_taken-2.new.counts c.args.function c.args.block c.args.entry.now c.in_ok-add_block_times.ensures c.in_ok-add_taken.ensures c.in_ok-add_taken-2.ensures
