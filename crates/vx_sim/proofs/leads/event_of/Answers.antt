use Rattle.std.proofs.Common.{◌≡◌, ◌∙◌, ap, []}
use Rattle.vx_isa.specs.Machine.{lead_of}
use Rattle.vx_sim.specs.Passed.{leads_away}
use Rattle.vx_sim.specs.Standing.{state_of}
use Rattle.vx_sim.proofs.leads.event_of.Goals as goal

pub returns : goal.returns
returns c = λ word counts lead.
    let now = c.args.now.now in
    let led : c.leads_away.result ≡ leads_away now.place (lead_of (state_of now []) word.ops) = c.leads_away.ensures ∙ ap (leads_away now.place) lead in
    λ i. record {
      place = now.place;
      cycle = c.counted.ensures i;
      alu = (counts i).alu;
      multiply = (counts i).multiply;
      memory = (counts i).memory;
      copy = (counts i).copy;
      control = (counts i).control;
      taken = led i;
    }
