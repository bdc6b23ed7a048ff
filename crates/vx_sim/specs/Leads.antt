-- The lead of a word in the code, as the word machine has it.
use Rattle.std.specs.Prelude.{ℕ, Option, Some, None}
use Rattle.vx_isa.specs.Machine.{Lead, To, Halts, TrapsBy}
use Rattle.vx_sim.specs.declared.leads.Lead.{Lead as CodeLead}
use Rattle.vx_sim.specs.declared.leads.Lead.TheVariants.{To as LeadTo, Halts as LeadHalts, TrapsBy as LeadTrapsBy}

abbrev pub lead_as : CodeLead → Lead
lead_as (LeadTo p) = To p
lead_as (LeadHalts z) = Halts z
lead_as (LeadTrapsBy k) = TrapsBy k

-- where an operation leads, if it is a control operation that is taken, else where the rest of the word leads
abbrev pub lead_or : Option CodeLead → Lead → Lead
lead_or (Some lead) rest = lead_as lead
lead_or None rest = rest

-- the place of the machine behind a word: one that ends the program leaves it
abbrev pub place_behind : Lead → ℕ → ℕ
place_behind (To p) here = p
place_behind (Halts z) here = here
place_behind (TrapsBy k) here = here
