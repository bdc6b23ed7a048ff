use Rattle.std.proofs.Common.{◌≡◌, ℕ, true, slice_index_or, subst, sym}
use Rattle.std.proofs.lemmas.Result.{IfOk-weaker}
use Rattle.vx_flow.specs.Effects.{IsIn}
use Rattle.vx_replace.proofs.TraceSteps.{entering_by}
use Rattle.vx_replace.proofs.joins.entering_of.Goals as goal

pub returns : goal.returns
returns c =
    let all = subst (λ l. (b : ℕ) → IsIn b c.args.blocks.now → slice_index_or l b true ≡ true) (sym c.as_slice.ensures.value) c.in_ok-marks.ensures in
    IfOk-weaker c.edges_into.result _ _ (λ into is. entering_by c.as_slice.result.now c.args.blocks.now c.args.edges.now into all is) c.edges_into.ensures
