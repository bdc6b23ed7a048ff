use Rattle.std.proofs.Common.{ap, sym, subst, ◌∙◌, take, length}
use Rattle.std.specs.Prelude.{option_map}
use Rattle.std.proofs.lemmas.Result.{on_ok_weaker}
use Rattle.vx_ast.specs.Tree.{Empty, Block as Braces, Simply, Print, If, IfElse, While, DoWhile, For, Break, Continue, Return, ReturnValue}
use Rattle.vx_ast.specs.View.{tree_of, row_in, action_of, items_of, first_of, step_of, code_of, all_in}
use Rattle.vx_lower.specs.Builds.{closed, reserved, Ready}
use Rattle.vx_lower.specs.Makes.{Makes}
use Rattle.vx_lower.specs.StatementFits.{StatementWell}
use Rattle.vx_lower.proofs.Places.{take_next, take_whole}
use Rattle.vx_lower.proofs.StatementViews.{view-Block}
use Rattle.vx_lower.proofs.StatementMaking.{makes_as, makes_plain, makes_empty, makes_braces, makes_break, makes_continue, makes_return, makes_if, makes_if_else, plain_simply}
use Rattle.vx_lower.proofs.LoopMaking.{makes_while, makes_do_while, makes_for, makes_nothing, makes_more}
use Rattle.vx_lower.proofs.FittingStatements.{braces_well, break_well, continue_well, empty_well, if_else_well, if_well, plain_simply_well, return_well, statement_plain_well, statement_well_as}
use Rattle.vx_lower.proofs.FittingLoops.{do_while_well, for_well, more_well, nothing_well, while_well}
use Rattle.vx_lower.proofs.statements.+statements.Goals as goal

pub emit_statement-returns-in-Empty-clause-code : goal.emit_statement-returns-in-Empty-clause-code
emit_statement-returns-in-Empty-clause-code t c =
    makes_as c.args.words.now c.args.leaves c.args.again c.args.b.now c.args.b.now c.args.texts.now c.args.texts.now Empty (code_of c.args.s.now) (ap code_of (sym c.in-Empty.is)) (makes_empty c.args.words.now c.args.leaves c.args.again c.args.b.now c.args.texts.now)

pub emit_statement-returns-in-Empty-clause-fits : goal.emit_statement-returns-in-Empty-clause-fits
emit_statement-returns-in-Empty-clause-fits t c =
    statement_well_as c.args.leaves c.args.again c.args.b.now c.args.b.now c.args.texts.now c.args.texts.now Empty (code_of c.args.s.now) (ap code_of (sym c.in-Empty.is)) (empty_well c.args.leaves c.args.again c.args.b.now c.args.texts.now)

pub emit_statement-returns-in-Block-clause-code : goal.emit_statement-returns-in-Block-clause-code
emit_statement-returns-in-Block-clause-code t c =
    on_ok_weaker c.emit_all.result (λ h. makes_as c.args.words.now c.args.leaves c.args.again c.args.b.now c.emit_all.new.b c.args.texts.now c.emit_all.new.texts (Braces (all_in c.as_slice.result.now)) (code_of c.args.s.now) (ap (λ z. Braces (all_in z)) c.as_slice.ensures.value ∙ sym (view-Block c.in-Block.all) ∙ ap code_of (sym c.in-Block.is)) (makes_braces c.args.words.now c.args.leaves c.args.again (all_in c.as_slice.result.now) c.args.b.now c.emit_all.new.b c.args.texts.now c.emit_all.new.texts h)) c.emit_all.ensures.code

pub emit_statement-returns-in-Block-clause-fits : goal.emit_statement-returns-in-Block-clause-fits
emit_statement-returns-in-Block-clause-fits t c =
    on_ok_weaker c.emit_all.result (λ h. statement_well_as c.args.leaves c.args.again c.args.b.now c.emit_all.new.b c.args.texts.now c.emit_all.new.texts (Braces (all_in c.as_slice.result.now)) (code_of c.args.s.now) (ap (λ z. Braces (all_in z)) c.as_slice.ensures.value ∙ sym (view-Block c.in-Block.all) ∙ ap code_of (sym c.in-Block.is)) (braces_well c.args.leaves c.args.again (all_in c.as_slice.result.now) c.args.b.now c.emit_all.new.b c.args.texts.now c.emit_all.new.texts h)) c.emit_all.ensures.fits

pub emit_statement-returns-in-Declaration-clause-code : goal.emit_statement-returns-in-Declaration-clause-code
emit_statement-returns-in-Declaration-clause-code t c =
    on_ok_weaker c.emit_items.result (λ h. makes_as c.args.words.now c.args.leaves c.args.again c.args.b.now c.emit_items.new.b c.args.texts.now c.args.texts.now (items_of c.as_slice-in-Declaration.result.now) (code_of c.args.s.now) (ap items_of c.as_slice-in-Declaration.ensures.value ∙ ap code_of (sym c.in-Declaration.is)) (makes_plain c.args.words.now c.args.leaves c.args.again (items_of c.as_slice-in-Declaration.result.now) c.args.b.now c.emit_items.new.b c.args.texts.now h)) c.emit_items.ensures.code

pub emit_statement-returns-in-Declaration-clause-fits : goal.emit_statement-returns-in-Declaration-clause-fits
emit_statement-returns-in-Declaration-clause-fits t c =
    on_ok_weaker c.emit_items.result (λ h. statement_well_as c.args.leaves c.args.again c.args.b.now c.emit_items.new.b c.args.texts.now c.args.texts.now (items_of c.as_slice-in-Declaration.result.now) (code_of c.args.s.now) (ap items_of c.as_slice-in-Declaration.ensures.value ∙ ap code_of (sym c.in-Declaration.is)) (statement_plain_well c.args.leaves c.args.again (items_of c.as_slice-in-Declaration.result.now) c.args.b.now c.emit_items.new.b c.args.texts.now h)) c.emit_items.ensures.fits

pub emit_statement-returns-in-Simple-clause-code : goal.emit_statement-returns-in-Simple-clause-code
emit_statement-returns-in-Simple-clause-code t c =
    on_ok_weaker c.emit_action.result (λ h. makes_as c.args.words.now c.args.leaves c.args.again c.args.b.now c.emit_action.new.b c.args.texts.now c.args.texts.now (Simply (action_of c.in-Simple.action)) (code_of c.args.s.now) (ap code_of (sym c.in-Simple.is)) (makes_plain c.args.words.now c.args.leaves c.args.again (Simply (action_of c.in-Simple.action)) c.args.b.now c.emit_action.new.b c.args.texts.now (plain_simply c.args.words.now (action_of c.in-Simple.action) c.args.b.now c.emit_action.new.b h))) c.emit_action.ensures.code

pub emit_statement-returns-in-Simple-clause-fits : goal.emit_statement-returns-in-Simple-clause-fits
emit_statement-returns-in-Simple-clause-fits t c =
    on_ok_weaker c.emit_action.result (λ h. statement_well_as c.args.leaves c.args.again c.args.b.now c.emit_action.new.b c.args.texts.now c.args.texts.now (Simply (action_of c.in-Simple.action)) (code_of c.args.s.now) (ap code_of (sym c.in-Simple.is)) (statement_plain_well c.args.leaves c.args.again (Simply (action_of c.in-Simple.action)) c.args.b.now c.emit_action.new.b c.args.texts.now (plain_simply_well (action_of c.in-Simple.action) c.args.b.now c.emit_action.new.b h))) c.emit_action.ensures.fits

pub emit_statement-returns-in-Print-clause-code : goal.emit_statement-returns-in-Print-clause-code
emit_statement-returns-in-Print-clause-code t c =
    on_ok_weaker c.emit_print.result (λ h. makes_as c.args.words.now c.args.leaves c.args.again c.args.b.now c.emit_print.new.b c.args.texts.now c.emit_print.new.texts (Print c.as_slice-in-Print.result.now (row_in c.as_slice-in-Print-2.result.now)) (code_of c.args.s.now) (ap (λ z. Print z (row_in c.as_slice-in-Print-2.result.now)) c.as_slice-in-Print.ensures ∙ ap (λ z. Print c.in-Print.format (row_in z)) c.as_slice-in-Print-2.ensures.value ∙ ap code_of (sym c.in-Print.is)) (h c.args.leaves c.args.again)) c.emit_print.ensures.code

pub emit_statement-returns-in-Print-clause-fits : goal.emit_statement-returns-in-Print-clause-fits
emit_statement-returns-in-Print-clause-fits t c =
    on_ok_weaker c.emit_print.result (λ h. statement_well_as c.args.leaves c.args.again c.args.b.now c.emit_print.new.b c.args.texts.now c.emit_print.new.texts (Print c.as_slice-in-Print.result.now (row_in c.as_slice-in-Print-2.result.now)) (code_of c.args.s.now) (ap (λ z. Print z (row_in c.as_slice-in-Print-2.result.now)) c.as_slice-in-Print.ensures ∙ ap (λ z. Print c.in-Print.format (row_in z)) c.as_slice-in-Print-2.ensures.value ∙ ap code_of (sym c.in-Print.is)) (h c.args.leaves c.args.again)) c.emit_print.ensures.fits

pub emit_statement-returns-in-If-clause-code : goal.emit_statement-returns-in-If-clause-code
emit_statement-returns-in-If-clause-code t c =
    on_ok_weaker c.emit_if.result (λ h. makes_as c.args.words.now c.args.leaves c.args.again c.args.b.now c.emit_if.new.b c.args.texts.now c.emit_if.new.texts (If (tree_of c.in-If.e) (code_of c.deref.result.now)) (code_of c.args.s.now) (ap (λ z. If (tree_of c.in-If.e) (code_of z)) c.deref.ensures ∙ ap code_of (sym c.in-If.is)) (h)) c.emit_if.ensures.code

pub emit_statement-returns-in-If-clause-fits : goal.emit_statement-returns-in-If-clause-fits
emit_statement-returns-in-If-clause-fits t c =
    on_ok_weaker c.emit_if.result (λ h. statement_well_as c.args.leaves c.args.again c.args.b.now c.emit_if.new.b c.args.texts.now c.emit_if.new.texts (If (tree_of c.in-If.e) (code_of c.deref.result.now)) (code_of c.args.s.now) (ap (λ z. If (tree_of c.in-If.e) (code_of z)) c.deref.ensures ∙ ap code_of (sym c.in-If.is)) (h)) c.emit_if.ensures.fits

pub emit_statement-returns-in_ok-emit_statement-in-IfElse-2-clause-code : goal.emit_statement-returns-in_ok-emit_statement-in-IfElse-2-clause-code
emit_statement-returns-in_ok-emit_statement-in-IfElse-2-clause-code t c =
    makes_as c.args.words.now c.args.leaves c.args.again c.args.b.now c.close.new.self c.args.texts.now c.emit_statement-in-IfElse.new.texts (IfElse (tree_of c.in-IfElse.e) (code_of c.deref-in-IfElse.result.now) (code_of c.deref-in-IfElse-2.result.now)) (code_of c.args.s.now) (ap (λ z. IfElse (tree_of c.in-IfElse.e) (code_of z) (code_of c.deref-in-IfElse-2.result.now)) c.deref-in-IfElse.ensures ∙ ap (λ z. IfElse (tree_of c.in-IfElse.e) (code_of c.in-IfElse.one.value) (code_of z)) c.deref-in-IfElse-2.ensures ∙ ap code_of (sym c.in-IfElse.is))
    (makes_if_else c.args.words.now c.args.leaves c.args.again c.in_ok-no-in-IfElse.no c.in_ok-both-in-IfElse.both (tree_of c.in-IfElse.e) (code_of c.deref-in-IfElse.result.now) (code_of c.deref-in-IfElse-2.result.now) c.args.b.now c.emit_test.new.b c.emit_statement.new.b c.join.new.b c.emit_statement-in-IfElse.new.b c.close.new.self c.args.texts.now c.emit_statement.new.texts c.emit_statement-in-IfElse.new.texts c.in_ok-no-in-IfElse.ensures.code c.in_ok-emit_statement-in-IfElse.ensures.code c.in_ok-both-in-IfElse.ensures c.in_ok-emit_statement-in-IfElse-2.ensures.code c.close.ensures)

pub emit_statement-returns-in_ok-emit_statement-in-IfElse-2-clause-fits : goal.emit_statement-returns-in_ok-emit_statement-in-IfElse-2-clause-fits
emit_statement-returns-in_ok-emit_statement-in-IfElse-2-clause-fits t c =
    statement_well_as c.args.leaves c.args.again c.args.b.now c.close.new.self c.args.texts.now c.emit_statement-in-IfElse.new.texts (IfElse (tree_of c.in-IfElse.e) (code_of c.deref-in-IfElse.result.now) (code_of c.deref-in-IfElse-2.result.now)) (code_of c.args.s.now) (ap (λ z. IfElse (tree_of c.in-IfElse.e) (code_of z) (code_of c.deref-in-IfElse-2.result.now)) c.deref-in-IfElse.ensures ∙ ap (λ z. IfElse (tree_of c.in-IfElse.e) (code_of c.in-IfElse.one.value) (code_of z)) c.deref-in-IfElse-2.ensures ∙ ap code_of (sym c.in-IfElse.is))
    (if_else_well c.args.leaves c.args.again c.in_ok-no-in-IfElse.no c.in_ok-both-in-IfElse.both (tree_of c.in-IfElse.e) (code_of c.deref-in-IfElse.result.now) (code_of c.deref-in-IfElse-2.result.now) c.args.b.now c.emit_test.new.b c.emit_statement.new.b c.join.new.b c.emit_statement-in-IfElse.new.b c.close.new.self c.args.texts.now c.emit_statement.new.texts c.emit_statement-in-IfElse.new.texts c.in_ok-no-in-IfElse.ensures.fits c.in_ok-emit_statement-in-IfElse.ensures.fits c.in_ok-both-in-IfElse.ensures c.in_ok-emit_statement-in-IfElse-2.ensures.fits c.close.ensures)

pub emit_statement-returns-in-While-clause-code : goal.emit_statement-returns-in-While-clause-code
emit_statement-returns-in-While-clause-code t c =
    on_ok_weaker c.emit_while.result (λ h. makes_as c.args.words.now c.args.leaves c.args.again c.args.b.now c.emit_while.new.b c.args.texts.now c.emit_while.new.texts (While (tree_of c.in-While.e) (code_of c.deref-in-While.result.now)) (code_of c.args.s.now) (ap (λ z. While (tree_of c.in-While.e) (code_of z)) c.deref-in-While.ensures ∙ ap code_of (sym c.in-While.is)) (h c.args.leaves c.args.again)) c.emit_while.ensures.code

pub emit_statement-returns-in-While-clause-fits : goal.emit_statement-returns-in-While-clause-fits
emit_statement-returns-in-While-clause-fits t c =
    on_ok_weaker c.emit_while.result (λ h. statement_well_as c.args.leaves c.args.again c.args.b.now c.emit_while.new.b c.args.texts.now c.emit_while.new.texts (While (tree_of c.in-While.e) (code_of c.deref-in-While.result.now)) (code_of c.args.s.now) (ap (λ z. While (tree_of c.in-While.e) (code_of z)) c.deref-in-While.ensures ∙ ap code_of (sym c.in-While.is)) (h c.args.leaves c.args.again)) c.emit_while.ensures.fits

pub emit_statement-returns-in-DoWhile-clause-code : goal.emit_statement-returns-in-DoWhile-clause-code
emit_statement-returns-in-DoWhile-clause-code t c =
    on_ok_weaker c.emit_do_while.result (λ h. makes_as c.args.words.now c.args.leaves c.args.again c.args.b.now c.emit_do_while.new.b c.args.texts.now c.emit_do_while.new.texts (DoWhile (code_of c.deref-in-DoWhile.result.now) (tree_of c.in-DoWhile.e)) (code_of c.args.s.now) (ap (λ z. DoWhile (code_of z) (tree_of c.in-DoWhile.e)) c.deref-in-DoWhile.ensures ∙ ap code_of (sym c.in-DoWhile.is)) (h c.args.leaves c.args.again)) c.emit_do_while.ensures.code

pub emit_statement-returns-in-DoWhile-clause-fits : goal.emit_statement-returns-in-DoWhile-clause-fits
emit_statement-returns-in-DoWhile-clause-fits t c =
    on_ok_weaker c.emit_do_while.result (λ h. statement_well_as c.args.leaves c.args.again c.args.b.now c.emit_do_while.new.b c.args.texts.now c.emit_do_while.new.texts (DoWhile (code_of c.deref-in-DoWhile.result.now) (tree_of c.in-DoWhile.e)) (code_of c.args.s.now) (ap (λ z. DoWhile (code_of z) (tree_of c.in-DoWhile.e)) c.deref-in-DoWhile.ensures ∙ ap code_of (sym c.in-DoWhile.is)) (h c.args.leaves c.args.again)) c.emit_do_while.ensures.fits

pub emit_statement-returns-in-For-clause-code : goal.emit_statement-returns-in-For-clause-code
emit_statement-returns-in-For-clause-code t c =
    on_ok_weaker c.emit_for.result (λ h. makes_as c.args.words.now c.args.leaves c.args.again c.args.b.now c.emit_for.new.b c.args.texts.now c.emit_for.new.texts (For (first_of c.in-For.first) (option_map tree_of c.in-For.test) (step_of c.in-For.step) (code_of c.deref-in-For.result.now)) (code_of c.args.s.now) (ap (λ z. For (first_of c.in-For.first) (option_map tree_of c.in-For.test) (step_of c.in-For.step) (code_of z)) c.deref-in-For.ensures ∙ ap code_of (sym c.in-For.is)) (h c.args.leaves c.args.again)) c.emit_for.ensures.code

pub emit_statement-returns-in-For-clause-fits : goal.emit_statement-returns-in-For-clause-fits
emit_statement-returns-in-For-clause-fits t c =
    on_ok_weaker c.emit_for.result (λ h. statement_well_as c.args.leaves c.args.again c.args.b.now c.emit_for.new.b c.args.texts.now c.emit_for.new.texts (For (first_of c.in-For.first) (option_map tree_of c.in-For.test) (step_of c.in-For.step) (code_of c.deref-in-For.result.now)) (code_of c.args.s.now) (ap (λ z. For (first_of c.in-For.first) (option_map tree_of c.in-For.test) (step_of c.in-For.step) (code_of z)) c.deref-in-For.ensures ∙ ap code_of (sym c.in-For.is)) (h c.args.leaves c.args.again)) c.emit_for.ensures.fits

pub emit_statement-returns-in-Break-clause-code : goal.emit_statement-returns-in-Break-clause-code
emit_statement-returns-in-Break-clause-code t c =
    on_ok_weaker c.end_with.result (λ h. makes_as c.args.words.now c.args.leaves c.args.again c.args.b.now c.end_with.new.b c.args.texts.now c.args.texts.now Break (code_of c.args.s.now) (ap code_of (sym c.in-Break.is)) (makes_break c.args.words.now c.args.leaves c.args.again c.args.b.now c.end_with.new.b c.args.texts.now (h ∙ ap (λ z. closed (reserved c.args.b.now) z (length c.args.b.now.blocks)) c.way.ensures))) c.end_with.ensures

pub emit_statement-returns-in-Break-clause-fits : goal.emit_statement-returns-in-Break-clause-fits
emit_statement-returns-in-Break-clause-fits t c =
    on_ok_weaker c.end_with.result (λ h. statement_well_as c.args.leaves c.args.again c.args.b.now c.end_with.new.b c.args.texts.now c.args.texts.now Break (code_of c.args.s.now) (ap code_of (sym c.in-Break.is)) (break_well c.args.leaves c.args.again c.args.b.now c.end_with.new.b c.args.texts.now (h ∙ ap (λ z. closed (reserved c.args.b.now) z (length c.args.b.now.blocks)) c.way.ensures))) c.end_with.ensures

pub emit_statement-returns-in-Continue-clause-code : goal.emit_statement-returns-in-Continue-clause-code
emit_statement-returns-in-Continue-clause-code t c =
    on_ok_weaker c.end_with-in-Continue.result (λ h. makes_as c.args.words.now c.args.leaves c.args.again c.args.b.now c.end_with-in-Continue.new.b c.args.texts.now c.args.texts.now Continue (code_of c.args.s.now) (ap code_of (sym c.in-Continue.is)) (makes_continue c.args.words.now c.args.leaves c.args.again c.args.b.now c.end_with-in-Continue.new.b c.args.texts.now (h ∙ ap (λ z. closed (reserved c.args.b.now) z (length c.args.b.now.blocks)) c.way-in-Continue.ensures))) c.end_with-in-Continue.ensures

pub emit_statement-returns-in-Continue-clause-fits : goal.emit_statement-returns-in-Continue-clause-fits
emit_statement-returns-in-Continue-clause-fits t c =
    on_ok_weaker c.end_with-in-Continue.result (λ h. statement_well_as c.args.leaves c.args.again c.args.b.now c.end_with-in-Continue.new.b c.args.texts.now c.args.texts.now Continue (code_of c.args.s.now) (ap code_of (sym c.in-Continue.is)) (continue_well c.args.leaves c.args.again c.args.b.now c.end_with-in-Continue.new.b c.args.texts.now (h ∙ ap (λ z. closed (reserved c.args.b.now) z (length c.args.b.now.blocks)) c.way-in-Continue.ensures))) c.end_with-in-Continue.ensures

pub emit_statement-returns-in-Return-clause-code : goal.emit_statement-returns-in-Return-clause-code
emit_statement-returns-in-Return-clause-code t c =
    on_ok_weaker c.end_with-in-Return.result (λ h. makes_as c.args.words.now c.args.leaves c.args.again c.args.b.now c.end_with-in-Return.new.b c.args.texts.now c.args.texts.now Return (code_of c.args.s.now) (ap code_of (sym c.in-Return.is)) (makes_return c.args.words.now c.args.leaves c.args.again c.args.b.now c.end_with-in-Return.new.b c.args.texts.now h)) c.end_with-in-Return.ensures

pub emit_statement-returns-in-Return-clause-fits : goal.emit_statement-returns-in-Return-clause-fits
emit_statement-returns-in-Return-clause-fits t c =
    on_ok_weaker c.end_with-in-Return.result (λ h. statement_well_as c.args.leaves c.args.again c.args.b.now c.end_with-in-Return.new.b c.args.texts.now c.args.texts.now Return (code_of c.args.s.now) (ap code_of (sym c.in-Return.is)) (return_well c.args.leaves c.args.again c.args.b.now c.end_with-in-Return.new.b c.args.texts.now h)) c.end_with-in-Return.ensures

pub emit_statement-returns-in-ReturnValue-clause-code : goal.emit_statement-returns-in-ReturnValue-clause-code
emit_statement-returns-in-ReturnValue-clause-code t c =
    on_ok_weaker c.emit_return.result (λ h. makes_as c.args.words.now c.args.leaves c.args.again c.args.b.now c.emit_return.new.b c.args.texts.now c.args.texts.now (ReturnValue (tree_of c.in-ReturnValue.e)) (code_of c.args.s.now) (ap code_of (sym c.in-ReturnValue.is)) (h c.args.leaves c.args.again c.args.texts.now)) c.emit_return.ensures.code

pub emit_statement-returns-in-ReturnValue-clause-fits : goal.emit_statement-returns-in-ReturnValue-clause-fits
emit_statement-returns-in-ReturnValue-clause-fits t c =
    on_ok_weaker c.emit_return.result (λ h. statement_well_as c.args.leaves c.args.again c.args.b.now c.emit_return.new.b c.args.texts.now c.args.texts.now (ReturnValue (tree_of c.in-ReturnValue.e)) (code_of c.args.s.now) (ap code_of (sym c.in-ReturnValue.is)) (h c.args.leaves c.args.again c.args.texts.now)) c.emit_return.ensures.fits

pub emit_if-returns-clause-code : goal.emit_if-returns-clause-code
emit_if-returns-clause-code t c =
    makes_if c.args.words.now c.args.leaves c.args.again c.in_ok-skip.skip c.in_ok-both.both (tree_of c.args.e.now) (code_of c.args.one.now) c.args.b.now c.emit_test.new.b c.emit_statement.new.b c.join.new.b c.close.new.self c.args.texts.now c.emit_statement.new.texts c.in_ok-skip.ensures.code c.in_ok-emit_statement.ensures.code c.in_ok-both.ensures c.close.ensures

pub emit_if-returns-clause-fits : goal.emit_if-returns-clause-fits
emit_if-returns-clause-fits t c =
    if_well c.args.leaves c.args.again c.in_ok-skip.skip c.in_ok-both.both (tree_of c.args.e.now) (code_of c.args.one.now) c.args.b.now c.emit_test.new.b c.emit_statement.new.b c.join.new.b c.close.new.self c.args.texts.now c.emit_statement.new.texts c.in_ok-skip.ensures.fits c.in_ok-emit_statement.ensures.fits c.in_ok-both.ensures c.close.ensures

pub emit_while-returns-clause-code : goal.emit_while-returns-clause-code
emit_while-returns-clause-code t c =
    λ leaves again. makes_while c.args.words.now leaves again c.in_ok-head.head c.in_ok-end.end c.in_ok-after.after (tree_of c.args.e.now) (code_of c.args.body.now) c.args.b.now c.enter.new.b c.emit_test.new.b c.reserve.new.self c.emit_statement.new.b c.close.new.self c.close-2.new.self c.args.texts.now c.emit_statement.new.texts c.in_ok-head.ensures c.in_ok-end.ensures.code c.in_ok-after.ensures c.in_ok-emit_statement.ensures.code c.close.ensures c.close-2.ensures

pub emit_while-returns-clause-fits : goal.emit_while-returns-clause-fits
emit_while-returns-clause-fits t c =
    λ leaves again. while_well leaves again c.in_ok-head.head c.in_ok-end.end c.in_ok-after.after (tree_of c.args.e.now) (code_of c.args.body.now) c.args.b.now c.enter.new.b c.emit_test.new.b c.reserve.new.self c.emit_statement.new.b c.close.new.self c.close-2.new.self c.args.texts.now c.emit_statement.new.texts c.in_ok-head.ensures c.in_ok-end.ensures.fits c.in_ok-after.ensures c.in_ok-emit_statement.ensures.fits c.close.ensures c.close-2.ensures

pub emit_do_while-returns-clause-code : goal.emit_do_while-returns-clause-code
emit_do_while-returns-clause-code t c =
    λ leaves again. makes_do_while c.args.words.now leaves again c.in_ok-head.head c.in_ok-done.done c.in_ok-after.after c.in_ok-test.test (code_of c.args.body.now) (tree_of c.args.e.now) c.args.b.now c.enter.new.b c.reserve.new.self c.reserve-2.new.self c.emit_statement.new.b c.close.new.self c.emit_test.new.b c.close-2.new.self c.close-3.new.self c.args.texts.now c.emit_statement.new.texts c.in_ok-head.ensures c.in_ok-after.ensures c.in_ok-test.ensures c.in_ok-emit_statement.ensures.code c.close.ensures c.in_ok-done.ensures.code c.close-2.ensures c.close-3.ensures

pub emit_do_while-returns-clause-fits : goal.emit_do_while-returns-clause-fits
emit_do_while-returns-clause-fits t c =
    λ leaves again. do_while_well leaves again c.in_ok-head.head c.in_ok-done.done c.in_ok-after.after c.in_ok-test.test (code_of c.args.body.now) (tree_of c.args.e.now) c.args.b.now c.enter.new.b c.reserve.new.self c.reserve-2.new.self c.emit_statement.new.b c.close.new.self c.emit_test.new.b c.close-2.new.self c.close-3.new.self c.args.texts.now c.emit_statement.new.texts c.in_ok-head.ensures c.in_ok-after.ensures c.in_ok-test.ensures c.in_ok-emit_statement.ensures.fits c.close.ensures c.in_ok-done.ensures.fits c.close-2.ensures c.close-3.ensures

pub emit_for-returns-clause-code : goal.emit_for-returns-clause-code
emit_for-returns-clause-code t c =
    λ leaves again. makes_for c.args.words.now leaves again c.in_ok-head.head c.in_ok-end.end c.in_ok-after.after c.in_ok-next.next (first_of c.args.first.now) (step_of c.args.step.now) (code_of c.args.body.now) (option_map tree_of c.args.test.now) c.args.b.now c.emit_first.new.b c.enter.new.b c.emit_asked.new.b c.reserve.new.self c.reserve-2.new.self c.emit_statement.new.b c.close.new.self c.emit_step.new.b c.close-2.new.self c.close-3.new.self c.args.texts.now c.emit_statement.new.texts c.in_ok-emit_first.ensures.code c.in_ok-head.ensures c.in_ok-end.ensures.code c.in_ok-after.ensures c.in_ok-next.ensures c.in_ok-emit_statement.ensures.code c.close.ensures c.in_ok-emit_step.ensures.code c.close-2.ensures c.close-3.ensures

pub emit_for-returns-clause-fits : goal.emit_for-returns-clause-fits
emit_for-returns-clause-fits t c =
    λ leaves again. for_well leaves again c.in_ok-head.head c.in_ok-end.end c.in_ok-after.after c.in_ok-next.next (first_of c.args.first.now) (step_of c.args.step.now) (code_of c.args.body.now) (option_map tree_of c.args.test.now) c.args.b.now c.emit_first.new.b c.enter.new.b c.emit_asked.new.b c.reserve.new.self c.reserve-2.new.self c.emit_statement.new.b c.close.new.self c.emit_step.new.b c.close-2.new.self c.close-3.new.self c.args.texts.now c.emit_statement.new.texts c.in_ok-emit_first.ensures.fits c.in_ok-head.ensures c.in_ok-end.ensures.fits c.in_ok-after.ensures c.in_ok-next.ensures c.in_ok-emit_statement.ensures.fits c.close.ensures c.in_ok-emit_step.ensures.fits c.close-2.ensures c.close-3.ensures

pub emit_all-loop-s-init : goal.emit_all-loop-s-init
emit_all-loop-s-init t c =
    (makes_nothing c.args.words.now c.args.leaves c.args.again c.args.b.now c.args.texts.now, nothing_well c.args.leaves c.args.again c.args.b.now c.args.texts.now)

pub emit_all-loop-s-preserved : goal.emit_all-loop-s-preserved
emit_all-loop-s-preserved t c =
    let next = sym (take_next c.args.all.now c.loop-s.s-index c.s-item.result c.loop-s-test.true c.s-item.is) in (
      subst (λ z. Ready c.args.b.now → Makes c.args.words.now (all_in z) c.args.leaves c.args.again c.args.b.now c.emit_statement.new.b c.args.texts.now c.emit_statement.new.texts) next (makes_more c.args.words.now c.args.leaves c.args.again (take c.loop-s.s-index c.args.all.now) c.s-item.result c.args.b.now c.loop-s.b c.emit_statement.new.b c.args.texts.now c.loop-s.texts c.emit_statement.new.texts c.loop-s.invariant.0 c.in_ok-emit_statement.ensures.code),
      subst (λ z. StatementWell c.args.words.now (all_in z) c.args.leaves c.args.again c.args.b.now c.emit_statement.new.b c.args.texts.now c.emit_statement.new.texts) next (more_well c.args.leaves c.args.again (take c.loop-s.s-index c.args.all.now) c.s-item.result c.args.b.now c.loop-s.b c.emit_statement.new.b c.args.texts.now c.loop-s.texts c.emit_statement.new.texts c.loop-s.invariant.1 c.in_ok-emit_statement.ensures.fits),
    )

pub emit_all-returns-clause-code : goal.emit_all-returns-clause-code
emit_all-returns-clause-code t c =
    subst (λ z. Ready c.args.b.now → Makes c.args.words.now (all_in z) c.args.leaves c.args.again c.args.b.now c.loop-s.b c.args.texts.now c.loop-s.texts) (take_whole c.args.all.now c.loop-s.s-index c.loop-s-test.false) c.loop-s.invariant.0

pub emit_all-returns-clause-fits : goal.emit_all-returns-clause-fits
emit_all-returns-clause-fits t c =
    subst (λ z. StatementWell c.args.words.now (all_in z) c.args.leaves c.args.again c.args.b.now c.loop-s.b c.args.texts.now c.loop-s.texts) (take_whole c.args.all.now c.loop-s.s-index c.loop-s-test.false) c.loop-s.invariant.1
