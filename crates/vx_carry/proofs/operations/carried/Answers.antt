use Rattle.std.proofs.Common.{◌∙◌, sym, ap}
use Rattle.vx_flow.specs.declared.graph.Op.{Op}
use Rattle.vx_isa.specs.declared.operation.GeneralRegister.{GeneralRegister}
use Rattle.vx_isa.specs.declared.operation.Operation.{Operation}
use Rattle.vx_isa.specs.declared.operation.Operation.TheVariants.{Input, More, Move}
use Rattle.vx_isa.specs.declared.operation.Source.TheVariants.{Held}
use Rattle.vx_slots.specs.declared.program.Whole.{Whole}
use Rattle.vx_target.specs.Target.{carried, general_of}
use Rattle.vx_slots.specs.Seen.{seen}
use Rattle.vx_carry.specs.declared.word_plan.Site.{Site}
use Rattle.vx_carry.proofs.operations.carried.Goals as goal

-- an operation at its site
abbrev at_site : Whole → Site → Op → Operation
at_site w s op = carried (seen w) s.function s.reads.now s.writes.now s.cluster op

pub returns-in-Compute : goal.returns-in-Compute
returns-in-Compute c = c.carried_compute.ensures ∙ ap (at_site c.args.whole.now c.args.site.now) (sym c.in-Compute.is)

pub returns-in-Select : goal.returns-in-Select
returns-in-Select c = c.carried_select.ensures ∙ ap (at_site c.args.whole.now c.args.site.now) (sym c.in-Select.is)

pub returns-in-Place : goal.returns-in-Place
returns-in-Place c = c.carried_place.ensures ∙ ap (at_site c.args.whole.now c.args.site.now) (sym c.in-Place.is)

pub returns-in-More : goal.returns-in-More
returns-in-More c = ap (λ (r : GeneralRegister). More r) c.target_of.ensures ∙ ap (at_site c.args.whole.now c.args.site.now) (sym c.in-More.is)

pub returns-in-Input : goal.returns-in-Input
returns-in-Input c = ap (λ (r : GeneralRegister). Input r) c.target_of-in-Input.ensures ∙ ap (at_site c.args.whole.now c.args.site.now) (sym c.in-Input.is)

pub returns-in-Across : goal.returns-in-Across
returns-in-Across c =
    let s = c.args.site.now in
    let T = seen c.args.whole.now in
    ap (λ (r : GeneralRegister). Move s.cluster r (Held c.general_of.result)) c.target_of-in-Across.ensures
    ∙ ap (λ (r : GeneralRegister). Move s.cluster (general_of T s.function s.writes.now c.in-Across.to) (Held r)) c.general_of.ensures
    ∙ ap (at_site c.args.whole.now s) (sym c.in-Across.is)

pub returns-in-PlaceIn : goal.returns-in-PlaceIn
returns-in-PlaceIn c = c.carried_place_in.ensures ∙ ap (at_site c.args.whole.now c.args.site.now) (sym c.in-PlaceIn.is)
