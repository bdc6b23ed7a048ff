use Rattle.std.proofs.Common.{ap, sym, ◌∙◌}
use Rattle.vx_shape.specs.ShapeTest.{is_shaped}
use Rattle.vx_trace_tests.proofs.Beginning.{begins}
use Rattle.vx_trace_tests.proofs.begins.has_shape.Goals as goal

pub returns : goal.returns
returns c = λ shaped.
    let origins = c.as_slice-2.result.now in
    begins c.args.graph.now origins (sym (c.is_shaped.ensures ∙ ap (is_shaped origins) c.as_slice-3.ensures) ∙ shaped) c.requires.few
