use Rattle.std.proofs.Common.{◌∙◌, ap}
use Rattle.std.specs.List.{list_all}
use Rattle.vx_flow.specs.Rows.{row_at}
use Rattle.vx_inline.specs.Inlined.{is_among}
use Rattle.vx_inline.proofs.PassingSteps.{closed_by}
use Rattle.vx_inline.proofs.passing.is_closed.Goals as goal

pub returns : goal.returns
returns c =
    closed_by c.args.graph.now c.in_ok-live.live c.are_among.result c.in_ok-live.ensures.exact
    (c.are_among.ensures ∙ ap (list_all (λ v. is_among c.as_slice.result.now v)) c.values_at.ensures.values ∙ ap (λ p. list_all (λ v. is_among p v) (row_at c.in_ok-live.live 0)) c.as_slice.ensures)
