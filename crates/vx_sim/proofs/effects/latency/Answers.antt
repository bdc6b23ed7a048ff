use Rattle.vx_isa.proofs.Ranges.{latency_range}
use Rattle.vx_sim.proofs.effects.latency.Goals as goal

pub returns-clause-some : goal.returns-clause-some
returns-clause-some c = rw c.latency.ensures (latency_range c.args.machine.now c.keeps_ranges.ensures c.args.op.now c.requires.written c.requires.no_call).least

pub returns-clause-few : goal.returns-clause-few
returns-clause-few c = rw c.latency.ensures (latency_range c.args.machine.now c.keeps_ranges.ensures c.args.op.now c.requires.written c.requires.no_call).most
