use Rattle.std.proofs.Common.{◌∙◌, sym, ap, []}
use Rattle.vx_isa.specs.Machine.{lead_of}
use Rattle.vx_sim.specs.Standing.{state_of}
use Rattle.vx_sim.proofs.leads.+lead_of.Goals as goal

pub returns-in-Some-lead_by : goal.returns-in-Some-lead_by
returns-in-Some-lead_by t c = sym (ap (lead_of (state_of c.args.now.now [])) c.in-Some.ensures.cases.0 ∙ c.in-Some-lead_by.ensures c.in-Some.rest.now)

pub returns-in-None-lead_by : goal.returns-in-None-lead_by
returns-in-None-lead_by t c = c.lead_of.ensures ∙ sym (ap (lead_of (state_of c.args.now.now [])) c.in-Some.ensures.cases.0 ∙ c.in-None-lead_by.ensures c.in-Some.rest.now)
