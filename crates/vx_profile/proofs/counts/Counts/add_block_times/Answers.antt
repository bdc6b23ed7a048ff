use Rattle.std.proofs.Common.{◌+◌, ◌∙◌, ap, refl}
use Rattle.vx_profile.proofs.Counting.{block_added}
use Rattle.vx_profile.proofs.counts.Counts.add_block_times.Goals as goal

pub returns : goal.returns
returns c = block_added c.args.self.now (record { blocks = c.insert.new.self; edges = c.args.self.now.edges }) c.args.function c.args.block c.args.more c.in_ok-next.next (c.in_ok-next.ensures ∙ ap (λ n. n + c.args.more) c.of_block.ensures) c.in_ok-insert.ensures.updates.0 refl
