use Rattle.std.proofs.Common.{ap, sym, ◌∙◌}
use Rattle.std.proofs.lemmas.Result.{on_ok_weaker}
use Rattle.vx_ast.specs.Tree.{Nothing, Head}
use Rattle.vx_ast.specs.View.{first_of, action_of, items_of}
use Rattle.vx_lower.proofs.StatementMaking.{plain_as, plain_nothing, plain_head}
use Rattle.vx_lower.proofs.FittingStatements.{plain_head_well, plain_nothing_well, plain_well_as}
use Rattle.vx_lower.proofs.statements.emit_first.Goals as goal

pub returns-in-Nothing-clause-code : goal.returns-in-Nothing-clause-code
returns-in-Nothing-clause-code c = plain_as c.args.words.now c.args.b.now c.args.b.now Nothing (first_of c.args.first.now) (ap first_of (sym c.in-Nothing.is)) (plain_nothing c.args.words.now c.args.b.now)

pub returns-in-Nothing-clause-fits : goal.returns-in-Nothing-clause-fits
returns-in-Nothing-clause-fits c = plain_well_as c.args.b.now c.args.b.now Nothing (first_of c.args.first.now) (ap first_of (sym c.in-Nothing.is)) (plain_nothing_well c.args.b.now)

pub returns-in-Simple-clause-code : goal.returns-in-Simple-clause-code
returns-in-Simple-clause-code c = on_ok_weaker c.emit_action.result (λ h. plain_as c.args.words.now c.args.b.now c.emit_action.new.b (Head (action_of c.in-Simple.action)) (first_of c.args.first.now) (ap first_of (sym c.in-Simple.is)) (plain_head c.args.words.now (action_of c.in-Simple.action) c.args.b.now c.emit_action.new.b h)) c.emit_action.ensures.code

pub returns-in-Simple-clause-fits : goal.returns-in-Simple-clause-fits
returns-in-Simple-clause-fits c = on_ok_weaker c.emit_action.result (λ h. plain_well_as c.args.b.now c.emit_action.new.b (Head (action_of c.in-Simple.action)) (first_of c.args.first.now) (ap first_of (sym c.in-Simple.is)) (plain_head_well (action_of c.in-Simple.action) c.args.b.now c.emit_action.new.b h)) c.emit_action.ensures.fits

pub returns-in-Items-clause-code : goal.returns-in-Items-clause-code
returns-in-Items-clause-code c = on_ok_weaker c.emit_items.result (plain_as c.args.words.now c.args.b.now c.emit_items.new.b (items_of c.as_slice.result.now) (first_of c.args.first.now) (ap items_of c.as_slice.ensures.value ∙ ap first_of (sym c.in-Items.is))) c.emit_items.ensures.code

pub returns-in-Items-clause-fits : goal.returns-in-Items-clause-fits
returns-in-Items-clause-fits c = on_ok_weaker c.emit_items.result (plain_well_as c.args.b.now c.emit_items.new.b (items_of c.as_slice.result.now) (first_of c.args.first.now) (ap items_of c.as_slice.ensures.value ∙ ap first_of (sym c.in-Items.is))) c.emit_items.ensures.fits
