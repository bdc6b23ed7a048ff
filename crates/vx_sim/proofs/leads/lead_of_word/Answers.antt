use Rattle.std.proofs.Common.{◌∙◌, ap, []}
use Rattle.vx_isa.specs.Machine.{To}
use Rattle.vx_sim.specs.Standing.{state_of}
use Rattle.vx_sim.proofs.Leading.{no_lead}
use Rattle.vx_sim.proofs.leads.lead_of_word.Goals as goal

pub returns-then-control-eq0 : goal.returns-then-control-eq0
returns-then-control-eq0 c = ap To c.requires.following ∙ no_lead c.args.control (state_of c.args.now.now []) c.args.ops.now c.requires.control c.if-control-eq0.true
