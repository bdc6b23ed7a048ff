use Rattle.std.proofs.Common.{sym, subst, take}
use Rattle.vx_ast.specs.Tree.{NoMore}
use Rattle.vx_ast.specs.View.{row_in}
use Rattle.vx_lower.specs.Emits.{EmitsFront, EmitsRow}
use Rattle.vx_lower.specs.Fits.{RowsWell}
use Rattle.vx_lower.proofs.Places.{take_next, take_whole}
use Rattle.vx_lower.proofs.Emitting.{no_front, more_front, whole_row}
use Rattle.vx_lower.proofs.FittingTrees.{no_row, more_row}
use Rattle.vx_lower.proofs.expressions.emit_row.Goals as goal

pub loop-e-init : goal.loop-e-init
loop-e-init c = (
  λ r. subst (λ z. EmitsFront c.args.words.now NoMore z c.args.b.now c.args.b.now) (sym c.new-arguments.ensures) (no_front c.args.words.now c.args.b.now r),
  subst (λ z. RowsWell c.args.words.now NoMore z c.args.b.now c.args.b.now) (sym c.new-arguments.ensures) (no_row c.args.b.now),
)

pub loop-e-preserved : goal.loop-e-preserved
loop-e-preserved c =
    let next = sym (take_next c.args.all.now c.loop-e.e-index c.e-item.result c.loop-e-test.true c.e-item.is) in (
      λ r. subst (λ z. EmitsFront c.args.words.now (row_in z) c.push.new.self c.args.b.now c.emit_value.new.b) next (more_front c.args.words.now (take c.loop-e.e-index c.args.all.now) c.e-item.result c.loop-e.arguments c.push.new.self c.in_ok-value.value c.args.b.now c.loop-e.b c.emit_value.new.b c.loop-e.invariant.0 c.in_ok-value.ensures.code c.in_ok-push.ensures.ok r),
      subst (λ z. RowsWell c.args.words.now (row_in z) c.push.new.self c.args.b.now c.emit_value.new.b) next (more_row (take c.loop-e.e-index c.args.all.now) c.e-item.result c.loop-e.arguments c.push.new.self c.in_ok-value.value c.args.b.now c.loop-e.b c.emit_value.new.b c.loop-e.invariant.1 c.in_ok-value.ensures.fits c.in_ok-push.ensures.ok),
    )

pub returns-clause-code : goal.returns-clause-code
returns-clause-code c = λ r. subst (λ z. EmitsRow c.args.words.now (row_in z) c.loop-e.arguments c.args.b.now c.loop-e.b) (take_whole c.args.all.now c.loop-e.e-index c.loop-e-test.false) (whole_row c.args.words.now (row_in (take c.loop-e.e-index c.args.all.now)) c.loop-e.arguments c.args.b.now c.loop-e.b c.loop-e.invariant.0 r)

pub returns-clause-fits : goal.returns-clause-fits
returns-clause-fits c = subst (λ z. RowsWell c.args.words.now (row_in z) c.loop-e.arguments c.args.b.now c.loop-e.b) (take_whole c.args.all.now c.loop-e.e-index c.loop-e-test.false) c.loop-e.invariant.1
