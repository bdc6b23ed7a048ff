use Rattle.std.proofs.Common.{refl}
use Rattle.vx_tally.proofs.Tallying.{tally_block_added}
use Rattle.vx_tally.proofs.tally.Tally.pass.Goals as goal

pub returns : goal.returns
returns c = tally_block_added c.args.self.now c.set_entry.new.self c.args.function c.args.block (record { passed = c.in_ok-passed.passed; first = c.args.entry.first; second = c.args.entry.second }) c.args.entry c.requires.there c.in_ok-passed.ensures (λ d. refl) (record { rows = c.set_entry.ensures.rows; rest = c.set_entry.ensures.rest })
