use Rattle.std.proofs.Common.{map, ap, subst, refl, ◌∙◌}
use Rattle.vx_ast.specs.View.{program_of}
use Rattle.vx_flow.specs.declared.graph.Flow.{Flow}
use Rattle.vx_lower.specs.Graphs.{AllGraphed}
use Rattle.vx_lower.specs.Lowered.{global_of}
use Rattle.vx_lower.proofs.Programs.{all_lowered}
use Rattle.vx_lower.proofs.lowering.lower_program.Goals as goal

pub returns-clause-lowered : goal.returns-clause-lowered
returns-clause-lowered c =
    let flow : Flow = record { functions = c.in_ok-functions.functions; globals = c.in_ok-globals.globals; texts = c.lower_functions.new.texts; main = c.args.source.now.main } in
    all_lowered c.args.source.now flow (c.in_ok-globals.ensures ∙ ap (map global_of) c.as_slice.ensures) refl (subst (λ z. AllGraphed (program_of c.args.source.now) (program_of c.args.source.now).functions c.in_ok-functions.functions z c.lower_functions.new.texts) c.new-texts.ensures c.in_ok-functions.ensures.code) c.requires.accepted

pub returns-clause-shapes : goal.returns-clause-shapes
returns-clause-shapes c = c.in_ok-functions.ensures.code.shapes

pub returns-clause-fits : goal.returns-clause-fits
returns-clause-fits c = c.in_ok-functions.ensures.fits
