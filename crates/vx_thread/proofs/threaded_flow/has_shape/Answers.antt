use Rattle.std.proofs.Common.{sym, ◌∙◌}
use Rattle.vx_thread.proofs.ThreadFlow.{shaped_by_test}
use Rattle.vx_thread.proofs.threaded_flow.has_shape.Goals as goal

pub returns : goal.returns
returns c = λ e. shaped_by_test c.args.graph.now c.as_slice-2.result.now c.as_slice-3.result.now c.as_slice-3.ensures (sym c.is_shaped.ensures ∙ e)
