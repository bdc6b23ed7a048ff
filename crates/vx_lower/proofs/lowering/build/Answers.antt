use Rattle.std.proofs.Common.{None, subst, ap, ◌∙◌}
use Rattle.vx_lower.specs.Graphs.{beginning}
use Rattle.vx_ast.specs.View.{all_in, function_of}
use Rattle.vx_lower.specs.Builds.{Ready}
use Rattle.vx_lower.specs.Makes.{Makes}
use Rattle.vx_lower.specs.StatementFits.{StatementWell}
use Rattle.vx_lower.proofs.Bodies.{built_is}
use Rattle.vx_lower.proofs.FunctionShaping.{body_well}
use Rattle.vx_lower.proofs.lowering.build.Goals as goal

pub returns-clause-code : goal.returns-clause-code
returns-clause-code c = λ at. built_is c.args.words.now (function_of c.args.f.now) c.in_ok-b.b c.emit_all.new.b c.close.new.self c.args.texts.now c.emit_all.new.texts (c.in_ok-b.ensures ∙ ap beginning at) (subst (λ z. Ready c.in_ok-b.b → Makes c.args.words.now (all_in z) None None c.in_ok-b.b c.emit_all.new.b c.args.texts.now c.emit_all.new.texts) c.as_slice.ensures.value c.in_ok-emit_all.ensures.code) c.close.ensures

pub returns-clause-fits : goal.returns-clause-fits
returns-clause-fits c = λ at. body_well (function_of c.args.f.now) c.in_ok-b.b c.emit_all.new.b c.close.new.self c.args.texts.now c.emit_all.new.texts (c.in_ok-b.ensures ∙ ap beginning at) (subst (λ z. StatementWell c.args.words.now (all_in z) None None c.in_ok-b.b c.emit_all.new.b c.args.texts.now c.emit_all.new.texts) c.as_slice.ensures.value c.in_ok-emit_all.ensures.fits) c.close.ensures
