use Rattle.std.proofs.Common.{◌≡◌, ◌∙◌, false, ap, sym}
use Rattle.std.specs.List.{list_any}
use Rattle.std.proofs.lemmas.Result.{IfOk-weaker}
use Rattle.vx_replace.specs.MadeEdges.{region_leads}
use Rattle.vx_replace.proofs.StandingRegions.{put_behind_standing}
use Rattle.vx_replace.proofs.replacement.put_regions.Goals as goal

pub returns-then-not-any_leads-clause-next : goal.returns-then-not-any_leads-clause-next
returns-then-not-any_leads-clause-next c =
    let none : list_any (region_leads c.args.replacement.now.made) c.args.graph.now.regions ≡ false =
    ap (λ made. list_any (region_leads made) c.args.graph.now.regions) (sym c.as_slice.ensures)
    ∙ ap (list_any (region_leads c.as_slice.result.now)) (sym c.as_slice-2.ensures)
    ∙ sym c.any_leads.ensures ∙ c.if-not-any_leads.true in
    IfOk-weaker c.push_region.result _ _ (λ _ is. put_behind_standing c.args.graph.now c.push_region.new.graph c.args.replacement.now none is) c.push_region.ensures.next

pub returns-in-Ok-clause-next : goal.returns-in-Ok-clause-next
returns-in-Ok-clause-next c = ap (λ gs. record c.args.graph.now { regions = gs }) (c.swap.ensures.x_after ∙ c.in-Ok.ensures)
