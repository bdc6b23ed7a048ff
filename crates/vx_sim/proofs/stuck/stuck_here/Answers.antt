use Rattle.vx_sim.specs.Standing.{state_of}
use Rattle.vx_sim.proofs.Touching.{no_reason}
use Rattle.std.proofs.Common.{[]}
use Rattle.vx_sim.proofs.stuck.stuck_here.Goals as goal

pub returns-then-memory-eq0 : goal.returns-then-memory-eq0
returns-then-memory-eq0 c = no_reason c.args.memory c.args.program.now (state_of c.args.now.now []) c.args.ops.now c.requires c.if-memory-eq0.true
