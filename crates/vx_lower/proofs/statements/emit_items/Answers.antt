use Rattle.std.proofs.Common.{subst, sym, take}
use Rattle.vx_ast.specs.View.{items_of}
use Rattle.vx_lower.specs.Builds.{Ready}
use Rattle.vx_lower.specs.Makes.{MakesPlain}
use Rattle.vx_lower.specs.StatementFits.{PlainWell}
use Rattle.vx_lower.proofs.Places.{take_next, take_whole}
use Rattle.vx_lower.proofs.StatementMaking.{plain_nothing, plain_more}
use Rattle.vx_lower.proofs.FittingStatements.{plain_more_well, plain_nothing_well}
use Rattle.vx_lower.proofs.statements.emit_items.Goals as goal

pub loop-item-init : goal.loop-item-init
loop-item-init c = (plain_nothing c.args.words.now c.args.b.now, plain_nothing_well c.args.b.now)

pub loop-item-preserved : goal.loop-item-preserved
loop-item-preserved c =
    let next = sym (take_next c.args.items.now c.loop-item.item-index c.item-item.result c.loop-item-test.true c.item-item.is) in (
      subst (λ z. Ready c.args.b.now → MakesPlain c.args.words.now (items_of z) c.args.b.now c.emit_item.new.b) next (plain_more c.args.words.now (take c.loop-item.item-index c.args.items.now) c.item-item.result c.args.b.now c.loop-item.b c.emit_item.new.b c.loop-item.invariant.0 c.in_ok-emit_item.ensures.code),
      subst (λ z. PlainWell c.args.words.now (items_of z) c.args.b.now c.emit_item.new.b) next (plain_more_well (take c.loop-item.item-index c.args.items.now) c.item-item.result c.args.b.now c.loop-item.b c.emit_item.new.b c.loop-item.invariant.1 c.in_ok-emit_item.ensures.fits),
    )

pub returns-clause-code : goal.returns-clause-code
returns-clause-code c = subst (λ z. Ready c.args.b.now → MakesPlain c.args.words.now (items_of z) c.args.b.now c.loop-item.b) (take_whole c.args.items.now c.loop-item.item-index c.loop-item-test.false) c.loop-item.invariant.0

pub returns-clause-fits : goal.returns-clause-fits
returns-clause-fits c = subst (λ z. PlainWell c.args.words.now (items_of z) c.args.b.now c.loop-item.b) (take_whole c.args.items.now c.loop-item.item-index c.loop-item-test.false) c.loop-item.invariant.1
