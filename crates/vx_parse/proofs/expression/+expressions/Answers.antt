use Rattle.std.proofs.Common.{◌≡◌, ◌≤◌, ◌<◌, ◌+◌, ◌-◌, suc, max, [], ◌∷◌, ◌++◌, length, drop, Some, refl, sym, ap, ◌∙◌, subst, arith, rules, w32, FitsSigned, IfOk, IfErr}
use Rattle.std.proofs.lemmas.Int.{to_z-of_z}
use Rattle.vx_ast.specs.declared.token.Mark.TheVariants as marks
use Rattle.vx_ast.specs.declared.token.TokenKind.TheVariants as kinds
use Rattle.vx_ast.specs.Syntax as syntax
use Rattle.vx_ast.specs.SyntaxView.{phrase_of}
use Rattle.vx_ast.specs.Phrases as phrases
use Rattle.vx_ast.specs.Phrases.{Level, Primary, A, mark, parts_of, strength}
use Rattle.vx_ast.specs.Tree.{One}
use Rattle.vx_ast.specs.declared.tree.UnaryOperator.{UnaryOperator}
use Rattle.vx_ast.specs.Derivations.{unary_of, joined}
use Rattle.vx_ast.specs.declared.syntax.Argument.{Argument}
use Rattle.vx_parse.specs.declared.expression.Operand.{Operand}
use Rattle.vx_parse.specs.Reading.{next_kind, Stops, IsOperand, Passed}
use Rattle.vx_parse.proofs.HandedOn.{handed_on}
use Rattle.vx_parse.proofs.Views.{view-Call}
use Rattle.vx_parse.proofs.Expressions.{map_ok, map_err, enclosed_inner, enclosed_end, bracket_opens, call_opens, nested_opens, unary_opens, nested_is, element_is, call_is, use_is, no_rest, number_is, name_is, name_stops, no_primary, unary_is, primary_is, primary_stops, operates, rest_is_none, rest_not_held, right_stops, more_is, more_stops, level_is, level_first, level_then, test_is, test_stops, asks, choice_not_held, chosen_stops, colon_not_held, end_not_held, operand_bound, other_stops, choice_is}
use Rattle.vx_parse.proofs.Parts.{no_memory}
use Rattle.vx_parse.proofs.Measures.{further_falls, rank_falls, deeper_fits, depth_fits, height_fits, behind_place, depth_within, same, one_on, just_on, past_one, past_next, past_both, room, one_on_within, both_within, level_below, level_within, unary_first, below_4, below_four, below_6, below_19, below_20, below_21, expression_first, primary_first, level_first_of}
use Rattle.vx_parse.proofs.Steps.{stops_no_phrase, too_deep, stops_opened}
use Rattle.vx_parse.proofs.Arguments.{operands_bound, no_arguments, first_stops, others_stop, arguments_are, gathered, comma_opens, next_stops, gathers_more}
use Rattle.vx_parse.proofs.expression.+expressions.Goals as goal

three : {a b c x y z : syntax.Phrase One} → a ≡ x → b ≡ y → c ≡ z → syntax.Choice a b c ≡ syntax.Choice x y z
three p q r = cc

two : {a x : UnaryOperator} {b y : syntax.Phrase One} → a ≡ x → b ≡ y → syntax.Unary a b ≡ syntax.Unary x y
two p q = cc

pub read_arguments-returns-then-is_mark-clause-ok : goal.read_arguments-returns-then-is_mark-clause-ok
read_arguments-returns-then-is_mark-clause-ok t c =
    let k : next_kind (drop c.args.place c.args.tokens.now) ≡ kinds.Mark marks.CloseParenthesis = sym c.kind_at.ensures ∙ c.is_mark.ensures.yes c.if-is_mark.true in
    no_arguments c.args.tokens.now c.args.place c.args.depth _ c.requires.within c.requires.depth k c.new-arguments.ensures.items refl refl

pub read_arguments-returns-in_err-first-clause-stop : goal.read_arguments-returns-in_err-first-clause-stop
read_arguments-returns-in_err-first-clause-stop t c =
    let n : next_kind (drop c.args.place c.args.tokens.now) ≡ kinds.Mark marks.CloseParenthesis → ⊥ = λ e. c.is_mark.ensures.no c.if-is_mark.false (c.kind_at.ensures ∙ e) in
    handed_on _ _ _ c.from_residual.ensures.1 (first_stops c.args.tokens.now c.args.place c.args.depth _ c.requires.within n c.in_err-first.ensures.stop)

pub read_arguments-returns-clause-ok : goal.read_arguments-returns-clause-ok
read_arguments-returns-clause-ok t c =
    let n : next_kind (drop c.args.place c.args.tokens.now) ≡ kinds.Mark marks.CloseParenthesis → ⊥ = λ e. c.is_mark.ensures.no c.if-is_mark.false (c.kind_at.ensures ∙ e) in
    let argument : Argument = record { place = c.place_at.result; expression = c.in_ok-first.first.expression } in
    let items : c.append.new.items.items ≡ argument ∷ [] = c.in_ok-append.ensures.ok ∙ ap (λ l. l ++ (argument ∷ [])) c.new-arguments.ensures.items in
    map_ok c.read_more.result (λ r. arguments_are c.args.tokens.now c.args.place c.args.depth c.in_ok-first.first argument _ r c.requires.within n c.in_ok-first.ensures.ok c.place_at.ensures refl items refl refl) c.read_more.ensures.ok

pub read_arguments-returns-clause-stop : goal.read_arguments-returns-clause-stop
read_arguments-returns-clause-stop t c =
    let n : next_kind (drop c.args.place c.args.tokens.now) ≡ kinds.Mark marks.CloseParenthesis → ⊥ = λ e. c.is_mark.ensures.no c.if-is_mark.false (c.kind_at.ensures ∙ e) in
    map_err c.read_more.result (λ s. others_stop c.args.tokens.now c.args.place c.args.depth c.in_ok-first.first s c.requires.within n c.in_ok-first.ensures.ok) c.read_more.ensures.stop

pub read_behind-returns-then-strength-level-clause-ok : goal.read_behind-returns-then-strength-level-clause-ok
read_behind-returns-then-strength-level-clause-ok t c =
    let e : strength (next_kind (drop c.args.left.next c.args.tokens.now)) ≡ c.strength.result = sym (c.strength.ensures ∙ ap strength c.kind_at-kind.ensures) in
    rest_is_none c.args.level c.args.tokens.now c.args.depth c.args.left c.requires.within c.requires.shallow (λ q. c.if-strength-level.true (sym e ∙ q))

pub read_behind-read_level-requires : goal.read_behind-read_level-requires
read_behind-read_level-requires t c =
    let e : strength (next_kind (drop c.args.left.next c.args.tokens.now)) ≡ c.strength.result = sym (c.strength.ensures ∙ ap strength c.kind_at-kind.ensures) in
    let o = operates c.args.level c.args.tokens.now c.args.left.next c.requires.ended c.requires.within c.requires.level (e ∙ c.if-strength-level.false) in
    let l = c.requires.level in
    (further_falls (length c.args.tokens.now) c.args.left.next (c.args.left.next + 1) (8 + c.args.level) 19 t c.decreases c.requires.within (one_on c.args.left.next) (level_below c.args.level l), (c.requires.ended, (o.passed.within, (room c.args.depth c.args.left.height c.in_ok-before.ensures.ok.1, level_within c.args.level l))))

pub read_behind-returns-in_err-right-clause-stop : goal.read_behind-returns-in_err-right-clause-stop
read_behind-returns-in_err-right-clause-stop t c =
    let e : strength (next_kind (drop c.args.left.next c.args.tokens.now)) ≡ c.strength.result = sym (c.strength.ensures ∙ ap strength c.kind_at-kind.ensures) in
    let o = operates c.args.level c.args.tokens.now c.args.left.next c.requires.ended c.requires.within c.requires.level (e ∙ c.if-strength-level.false) in
    let b = c.in_ok-before.ensures.ok.1 in
    handed_on _ _ _ c.from_residual-in_err-right.ensures.1 (right_stops c.args.level c.args.tokens.now c.args.left.next c.args.depth c.args.left.height _ o b c.in_err-right.ensures.stop)

pub read_behind-returns-clause-ok : goal.read_behind-returns-clause-ok
read_behind-returns-clause-ok t c =
    let e : strength (next_kind (drop c.args.left.next c.args.tokens.now)) ≡ c.strength.result = sym (c.strength.ensures ∙ ap strength c.kind_at-kind.ensures) in
    let o = operates c.args.level c.args.tokens.now c.args.left.next c.requires.ended c.requires.within c.requires.level (e ∙ c.if-strength-level.false) in
    let both : Operand = record { expression = c.join.result; height = 1 + c.max.result; next = c.in_ok-right.right.next } in
    let kind : phrase_of c.join.result ≡ joined (next_kind (drop c.args.left.next c.args.tokens.now)) (phrase_of c.args.left.expression) (phrase_of c.in_ok-right.right.expression) =
    c.join.ensures ∙ ap (λ z. joined z (phrase_of c.in_ok-before.before.value) (phrase_of c.in_ok-behind.behind.value)) c.kind_at-kind.ensures ∙ ap (λ z. joined (next_kind (drop c.args.left.next c.args.tokens.now)) (phrase_of z) (phrase_of c.in_ok-behind.behind.value)) c.in_ok-before.ensures.ok.0 ∙ ap (λ z. joined (next_kind (drop c.args.left.next c.args.tokens.now)) (phrase_of c.args.left.expression) (phrase_of z)) c.in_ok-behind.ensures.ok in
    let high : 1 + c.max.result ≡ 1 + max c.args.left.height c.in_ok-right.right.height = let x = c.max.ensures in omega arith in
    map_ok c.read_behind.result (λ r. more_is c.args.level c.args.tokens.now c.args.left.next c.args.depth (phrase_of c.args.left.expression) c.args.left.height c.in_ok-right.right both r o c.in_ok-right.ensures.ok kind high refl) c.read_behind.ensures.ok

pub read_behind-returns-clause-stop : goal.read_behind-returns-clause-stop
read_behind-returns-clause-stop t c =
    let e : strength (next_kind (drop c.args.left.next c.args.tokens.now)) ≡ c.strength.result = sym (c.strength.ensures ∙ ap strength c.kind_at-kind.ensures) in
    let o = operates c.args.level c.args.tokens.now c.args.left.next c.requires.ended c.requires.within c.requires.level (e ∙ c.if-strength-level.false) in
    let both : Operand = record { expression = c.join.result; height = 1 + c.max.result; next = c.in_ok-right.right.next } in
    let kind : phrase_of c.join.result ≡ joined (next_kind (drop c.args.left.next c.args.tokens.now)) (phrase_of c.args.left.expression) (phrase_of c.in_ok-right.right.expression) =
    c.join.ensures ∙ ap (λ z. joined z (phrase_of c.in_ok-before.before.value) (phrase_of c.in_ok-behind.behind.value)) c.kind_at-kind.ensures ∙ ap (λ z. joined (next_kind (drop c.args.left.next c.args.tokens.now)) (phrase_of z) (phrase_of c.in_ok-behind.behind.value)) c.in_ok-before.ensures.ok.0 ∙ ap (λ z. joined (next_kind (drop c.args.left.next c.args.tokens.now)) (phrase_of c.args.left.expression) (phrase_of z)) c.in_ok-behind.ensures.ok in
    let high : 1 + c.max.result ≡ 1 + max c.args.left.height c.in_ok-right.right.height = let x = c.max.ensures in omega arith in
    map_err c.read_behind.result (λ s. more_stops c.args.level c.args.tokens.now c.args.left.next c.args.depth c.args.left.height c.in_ok-right.right both s o c.in_ok-right.ensures.ok high refl) c.read_behind.ensures.stop

pub read_expression-returns-in_err-test-clause-stop : goal.read_expression-returns-in_err-test-clause-stop
read_expression-returns-in_err-test-clause-stop t c =
    handed_on _ _ _ c.from_residual.ensures.1 (test_stops c.args.tokens.now c.args.place c.args.depth _ c.requires.within c.in_err-test.ensures.stop)

pub read_expression-returns-then-not-is_mark-clause-ok : goal.read_expression-returns-then-not-is_mark-clause-ok
read_expression-returns-then-not-is_mark-clause-ok t c =
    let n : next_kind (drop c.in_ok-test.test.next c.args.tokens.now) ≡ kinds.Mark marks.Question → ⊥ = λ e. c.is_mark.ensures.no c.if-not-is_mark.true (c.kind_at.ensures ∙ e) in
    test_is c.args.tokens.now c.args.place c.args.depth c.in_ok-test.test c.requires.within n c.in_ok-test.ensures.ok

pub read_expression-read_expression-requires : goal.read_expression-read_expression-requires
read_expression-read_expression-requires t c =
    let q : next_kind (drop c.in_ok-test.test.next c.args.tokens.now) ≡ kinds.Mark marks.Question = sym c.kind_at.ensures ∙ c.is_mark.ensures.yes c.if-not-is_mark.false in
    let a = asks c.args.tokens.now c.args.place c.args.depth c.in_ok-test.test c.requires.ended c.requires.within c.in_ok-test.ensures.ok q in
    (further_falls (length c.args.tokens.now) c.args.place (c.in_ok-test.test.next + 1) 20 20 t c.decreases c.requires.within (past_one c.args.place c.in_ok-test.test.next a.is.further) below_20, (c.requires.ended, (a.passed.within, room c.args.depth c.in_ok-test.test.height c.in_ok-condition.ensures.ok.1)))

pub read_expression-returns-in_err-chosen-clause-stop : goal.read_expression-returns-in_err-chosen-clause-stop
read_expression-returns-in_err-chosen-clause-stop t c =
    let q : next_kind (drop c.in_ok-test.test.next c.args.tokens.now) ≡ kinds.Mark marks.Question = sym c.kind_at.ensures ∙ c.is_mark.ensures.yes c.if-not-is_mark.false in
    let a = asks c.args.tokens.now c.args.place c.args.depth c.in_ok-test.test c.requires.ended c.requires.within c.in_ok-test.ensures.ok q in
    let b = c.in_ok-condition.ensures.ok.1 in
    handed_on _ _ _ c.from_residual-in_err-chosen.ensures.1 (chosen_stops c.args.tokens.now c.args.place c.args.depth c.in_ok-test.test _ a b c.in_err-chosen.ensures.stop)

pub read_expression-returns-in_err-other-clause-stop : goal.read_expression-returns-in_err-other-clause-stop
read_expression-returns-in_err-other-clause-stop t c =
    let q : next_kind (drop c.in_ok-test.test.next c.args.tokens.now) ≡ kinds.Mark marks.Question = sym c.kind_at.ensures ∙ c.is_mark.ensures.yes c.if-not-is_mark.false in
    let a = asks c.args.tokens.now c.args.place c.args.depth c.in_ok-test.test c.requires.ended c.requires.within c.in_ok-test.ensures.ok q in
    let b = c.in_ok-condition.ensures.ok.1 in
    handed_on _ _ _ c.from_residual-in_err-other.ensures.1 (other_stops c.args.tokens.now c.args.place c.args.depth (c.in_ok-chosen.chosen.next + 1) c.in_ok-test.test c.in_ok-chosen.chosen _ a b c.in_ok-chosen.ensures.ok c.in_ok-taken.ensures.ok.1 c.in_err-other.ensures.stop)

pub read_expression-returns-clause-ok : goal.read_expression-returns-clause-ok
read_expression-returns-clause-ok t c =
    let q : next_kind (drop c.in_ok-test.test.next c.args.tokens.now) ≡ kinds.Mark marks.Question = sym c.kind_at.ensures ∙ c.is_mark.ensures.yes c.if-not-is_mark.false in
    let a = asks c.args.tokens.now c.args.place c.args.depth c.in_ok-test.test c.requires.ended c.requires.within c.in_ok-test.ensures.ok q in
    let b = c.in_ok-condition.ensures.ok.1 in
    let e : syntax.Choice (phrase_of c.in_ok-condition.condition.value) (phrase_of c.in_ok-taken.taken.value) (phrase_of c.in_ok-left.left.value) ≡ syntax.Choice (phrase_of c.in_ok-test.test.expression) (phrase_of c.in_ok-chosen.chosen.expression) (phrase_of c.in_ok-other.other.expression) = three (ap phrase_of c.in_ok-condition.ensures.ok.0) (ap phrase_of c.in_ok-taken.ensures.ok.0) (ap phrase_of c.in_ok-left.ensures.ok) in
    choice_is c.args.tokens.now c.args.place c.args.depth (c.in_ok-chosen.chosen.next + 1) c.in_ok-test.test c.in_ok-chosen.chosen c.in_ok-other.other _ a b c.in_ok-chosen.ensures.ok c.in_ok-taken.ensures.ok.1 c.in_ok-other.ensures.ok e (let x = c.max.ensures in let y = c.max-2.ensures in omega arith) refl

pub read_level-returns-in_err-left-clause-stop : goal.read_level-returns-in_err-left-clause-stop
read_level-returns-in_err-left-clause-stop t c =
    let m = c.args.level - 1 in
    let e : suc m ≡ c.args.level = let h = c.if-level-eq0.false in omega arith in
    handed_on _ _ _ c.from_residual.ensures.1 (subst (λ n. Stops (A (Level n) ∷ []) (drop c.args.place c.args.tokens.now) c.args.tokens.now c.args.depth 0 c.in_err-left.field-0.0) e (level_first m c.args.tokens.now c.args.place c.args.depth _ c.requires.within c.in_err-left.ensures.stop))

pub read_level-returns-clause-ok : goal.read_level-returns-clause-ok
read_level-returns-clause-ok t c =
    let m = c.args.level - 1 in
    let e : suc m ≡ c.args.level = let h = c.if-level-eq0.false in omega arith in
    map_ok c.read_behind.result (λ r b. subst (λ n. IsOperand (Level n) c.args.tokens.now c.args.place c.args.depth r) e (level_is m c.args.tokens.now c.args.place c.args.depth c.in_ok-left.left r c.requires.within c.in_ok-left.ensures.ok b)) c.read_behind.ensures.ok

pub read_level-returns-clause-stop : goal.read_level-returns-clause-stop
read_level-returns-clause-stop t c =
    let m = c.args.level - 1 in
    let e : suc m ≡ c.args.level = let h = c.if-level-eq0.false in omega arith in
    map_err c.read_behind.result (λ s w. subst (λ n. Stops (A (Level n) ∷ []) (drop c.args.place c.args.tokens.now) c.args.tokens.now c.args.depth 0 s) e (level_then m c.args.tokens.now c.args.place c.args.depth c.in_ok-left.left s c.requires.within c.in_ok-left.ensures.ok w)) c.read_behind.ensures.stop

pub read_more-returns-then-not-is_mark-clause-ok : goal.read_more-returns-then-not-is_mark-clause-ok
read_more-returns-then-not-is_mark-clause-ok t c =
    gathered c.args.before c.args.tokens.now c.args.depth c.more.all c.more.invariant (λ e. c.is_mark.ensures.no c.if-not-is_mark.true (c.kind_at.ensures ∙ e))

pub read_more-read_expression-requires : goal.read_more-read_expression-requires
read_more-read_expression-requires t c =
    let q : next_kind (drop c.more.all.next c.args.tokens.now) ≡ kinds.Mark marks.Comma = sym c.kind_at.ensures ∙ c.is_mark.ensures.yes c.if-not-is_mark.false in
    let o = comma_opens c.args.tokens.now c.more.all.next c.requires.ended c.more.invariant.within q in
    let h = behind_place c.args.before.next c.more.all.next c.more.invariant.further in
    (further_falls (length c.args.tokens.now) c.args.before.next (c.more.all.next + 1) 20 19 t c.decreases c.requires.within h below_20, (c.requires.ended, (o.passed.within, depth_within c.args.depth c.args.before.height c.requires.depth)))

pub read_more-returns-in_err-next-clause-stop : goal.read_more-returns-in_err-next-clause-stop
read_more-returns-in_err-next-clause-stop t c =
    let q : next_kind (drop c.more.all.next c.args.tokens.now) ≡ kinds.Mark marks.Comma = sym c.kind_at.ensures ∙ c.is_mark.ensures.yes c.if-not-is_mark.false in
    let o = comma_opens c.args.tokens.now c.more.all.next c.requires.ended c.more.invariant.within q in
    handed_on _ _ _ c.from_residual.ensures.1 (c.more.invariant.stops _ (next_stops c.args.tokens.now c.more.all.next c.args.depth _ o c.in_err-next.ensures.stop))

pub read_more-more-preserved : goal.read_more-more-preserved
read_more-more-preserved t c =
    let q : next_kind (drop c.more.all.next c.args.tokens.now) ≡ kinds.Mark marks.Comma = sym c.kind_at.ensures ∙ c.is_mark.ensures.yes c.if-not-is_mark.false in
    let o = comma_opens c.args.tokens.now c.more.all.next c.requires.ended c.more.invariant.within q in
    gathers_more c.args.before c.args.tokens.now c.args.depth c.more.all _ c.in_ok-next.next (record { place = c.place_at.result; expression = c.in_ok-next.next.expression }) c.requires.ended c.more.invariant q c.in_ok-next.ensures.ok c.place_at.ensures refl c.in_ok-append.ensures.ok c.max.ensures refl

pub read_index-returns-then-depth-ge-DEEPEST-clause-stop : goal.read_index-returns-then-depth-ge-DEEPEST-clause-stop
read_index-returns-then-depth-ge-DEEPEST-clause-stop t c =
    let o = bracket_opens c.args.tokens.now c.args.place c.requires.ended c.requires.within c.requires.here in
    too_deep c.args.depth o (let h = c.if-depth-ge-DEEPEST.true in omega arith)

pub read_index-read_expression-requires : goal.read_index-read_expression-requires
read_index-read_expression-requires t c =
    let o = bracket_opens c.args.tokens.now c.args.place c.requires.ended c.requires.within c.requires.here in
    let b : c.args.depth < 200 = let x = c.if-depth-ge-DEEPEST.false in omega arith in
    (further_falls (length c.args.tokens.now) c.args.place (c.args.place + 1) 20 3 t c.decreases c.requires.within (one_on c.args.place) below_20, (c.requires.ended, (o.passed.within, one_on_within c.args.depth b)))

pub read_index-returns-in_err-index-clause-stop : goal.read_index-returns-in_err-index-clause-stop
read_index-returns-in_err-index-clause-stop t c =
    let o = bracket_opens c.args.tokens.now c.args.place c.requires.ended c.requires.within c.requires.here in
    handed_on _ _ _ c.from_residual.ensures.1 (enclosed_inner c.args.depth _ o c.in_err-index.ensures.stop)

pub read_index-returns-clause-ok : goal.read_index-returns-clause-ok
read_index-returns-clause-ok t c =
    let o = bracket_opens c.args.tokens.now c.args.place c.requires.ended c.requires.within c.requires.here in
    λ name made e h n. element_is c.args.tokens.now c.args.place c.args.depth name c.in_ok-index.index made o c.in_ok-index.ensures.ok (subst (λ z. Passed (mark marks.CloseBracket) c.args.tokens.now c.in_ok-index.index.next z) (sym n) c.in_ok-boxed_closed.ensures.ok.1) (e ∙ ap (λ z. syntax.Element name (phrase_of z)) c.in_ok-boxed_closed.ensures.ok.0) h

pub read_called-returns-then-depth-ge-DEEPEST-clause-stop : goal.read_called-returns-then-depth-ge-DEEPEST-clause-stop
read_called-returns-then-depth-ge-DEEPEST-clause-stop t c =
    let o = call_opens c.args.tokens.now c.args.place c.requires.ended c.requires.within c.requires.here in
    too_deep c.args.depth o (let h = c.if-depth-ge-DEEPEST.true in omega arith)

pub read_called-read_arguments-requires : goal.read_called-read_arguments-requires
read_called-read_arguments-requires t c =
    let o = call_opens c.args.tokens.now c.args.place c.requires.ended c.requires.within c.requires.here in
    let b : c.args.depth < 200 = let x = c.if-depth-ge-DEEPEST.false in omega arith in
    (further_falls (length c.args.tokens.now) c.args.place (c.args.place + 1) 21 3 t c.decreases c.requires.within (one_on c.args.place) below_21, (c.requires.ended, (o.passed.within, one_on_within c.args.depth b)))

pub read_called-returns-in_err-inner-clause-stop : goal.read_called-returns-in_err-inner-clause-stop
read_called-returns-in_err-inner-clause-stop t c =
    let o = call_opens c.args.tokens.now c.args.place c.requires.ended c.requires.within c.requires.here in
    handed_on _ _ _ c.from_residual.ensures.1 (enclosed_inner c.args.depth _ o c.in_err-inner.ensures.stop)

pub read_called-returns-in_err-read_mark-clause-stop : goal.read_called-returns-in_err-read_mark-clause-stop
read_called-returns-in_err-read_mark-clause-stop t c =
    let o = call_opens c.args.tokens.now c.args.place c.requires.ended c.requires.within c.requires.here in
    let a = c.in_ok-inner.ensures.ok in
    handed_on _ _ _ c.from_residual-in_err-read_mark.ensures.1 (enclosed_end c.args.depth _ o a.is (operands_bound a) a.within c.in_err-read_mark.ensures.stop)

pub read_called-returns-clause-ok : goal.read_called-returns-clause-ok
read_called-returns-clause-ok t c =
    let o = call_opens c.args.tokens.now c.args.place c.requires.ended c.requires.within c.requires.here in
    λ name made e h n. call_is c.args.tokens.now c.args.place c.args.depth name c.in_ok-inner.inner made o c.in_ok-inner.ensures.ok (subst (λ z. Passed (mark marks.CloseParenthesis) c.args.tokens.now c.in_ok-inner.inner.next z) (sym n) c.in_ok-read_mark.ensures.ok) e h

pub read_named-returns-then-is_mark-clause-ok : goal.read_named-returns-then-is_mark-clause-ok
read_named-returns-then-is_mark-clause-ok t c = c.in_ok-index.ensures.ok c.args.name _ refl refl refl

pub read_named-returns-then-is_mark-2-clause-ok : goal.read_named-returns-then-is_mark-2-clause-ok
read_named-returns-then-is_mark-2-clause-ok t c =
    c.in_ok-called.ensures.ok c.args.name _ (view-Call c.args.name c.in_ok-called.called.arguments) refl refl

pub read_named-returns-clause-ok : goal.read_named-returns-clause-ok
read_named-returns-clause-ok t c =
    let n1 : next_kind (drop c.args.place c.args.tokens.now) ≡ kinds.Mark marks.OpenBracket → ⊥ = λ e. c.is_mark.ensures.no c.if-is_mark.false (c.kind_at-kind.ensures ∙ e) in
    let n2 : next_kind (drop c.args.place c.args.tokens.now) ≡ kinds.Mark marks.OpenParenthesis → ⊥ = λ e. c.is_mark-2.ensures.no c.if-is_mark-2.false (c.kind_at-kind.ensures ∙ e) in
    use_is c.args.tokens.now c.args.place c.args.depth c.args.name _ c.requires.within c.requires.depth (no_rest (next_kind (drop c.args.place c.args.tokens.now)) n1 n2) refl refl refl

pub read_primary-returns-then-depth-ge-DEEPEST-clause-stop : goal.read_primary-returns-then-depth-ge-DEEPEST-clause-stop
read_primary-returns-then-depth-ge-DEEPEST-clause-stop t c =
    let k : next_kind (drop c.args.place c.args.tokens.now) ≡ kinds.Mark marks.OpenParenthesis = sym c.kind_at-kind.ensures ∙ c.is_mark.ensures.yes c.if-is_mark.true in
    let o = nested_opens c.args.tokens.now c.args.place c.requires.ended c.requires.within k in
    too_deep c.args.depth o (omega arith)

pub read_primary-read_expression-requires : goal.read_primary-read_expression-requires
read_primary-read_expression-requires t c =
    let k : next_kind (drop c.args.place c.args.tokens.now) ≡ kinds.Mark marks.OpenParenthesis = sym c.kind_at-kind.ensures ∙ c.is_mark.ensures.yes c.if-is_mark.true in
    let o = nested_opens c.args.tokens.now c.args.place c.requires.ended c.requires.within k in
    let b : c.args.depth < 200 = let x = c.if-depth-ge-DEEPEST.false in omega arith in
    (further_falls (length c.args.tokens.now) c.args.place (c.args.place + 1) 20 5 t c.decreases c.requires.within (one_on c.args.place) below_20, (c.requires.ended, (o.passed.within, one_on_within c.args.depth b)))

pub read_primary-returns-in_err-inner-clause-stop : goal.read_primary-returns-in_err-inner-clause-stop
read_primary-returns-in_err-inner-clause-stop t c =
    let k : next_kind (drop c.args.place c.args.tokens.now) ≡ kinds.Mark marks.OpenParenthesis = sym c.kind_at-kind.ensures ∙ c.is_mark.ensures.yes c.if-is_mark.true in
    let o = nested_opens c.args.tokens.now c.args.place c.requires.ended c.requires.within k in
    handed_on _ _ _ c.from_residual.ensures.1 (enclosed_inner c.args.depth _ o c.in_err-inner.ensures.stop)

pub read_primary-returns-then-is_mark-clause-ok : goal.read_primary-returns-then-is_mark-clause-ok
read_primary-returns-then-is_mark-clause-ok t c =
    let k : next_kind (drop c.args.place c.args.tokens.now) ≡ kinds.Mark marks.OpenParenthesis = sym c.kind_at-kind.ensures ∙ c.is_mark.ensures.yes c.if-is_mark.true in
    let o = nested_opens c.args.tokens.now c.args.place c.requires.ended c.requires.within k in
    nested_is c.args.tokens.now c.args.place c.args.depth 0 0 c.in_ok-inner.inner _ o c.in_ok-inner.ensures.ok c.in_ok-closed.ensures.ok.1 (ap phrase_of c.in_ok-closed.ensures.ok.0) refl

pub read_primary-returns-in-Number-clause-ok : goal.read_primary-returns-in-Number-clause-ok
read_primary-returns-in-Number-clause-ok t c =
    let f : FitsSigned w32 c.in-Number.value = search rules in
    number_is c.args.tokens.now c.args.place c.args.depth c.in-Number.value _ c.requires.ended c.requires.within c.requires.depth (sym c.kind_at-kind.ensures ∙ c.in-Number.is) (ap syntax.Number (to_z-of_z w32 c.in-Number.value f)) refl refl

pub read_primary-returns-in_ok-name-in-Name-clause-ok : goal.read_primary-returns-in_ok-name-in-Name-clause-ok
read_primary-returns-in_ok-name-in-Name-clause-ok t c =
    map_ok c.read_named.result (λ r. name_is c.args.tokens.now c.args.place c.args.depth c.in_ok-name-in-Name.name r c.requires.within c.in_ok-name-in-Name.ensures.ok) c.read_named.ensures.ok

pub read_primary-returns-in_ok-name-in-Name-clause-stop : goal.read_primary-returns-in_ok-name-in-Name-clause-stop
read_primary-returns-in_ok-name-in-Name-clause-stop t c =
    map_err c.read_named.result (λ s. name_stops c.args.tokens.now c.args.place c.args.depth c.in_ok-name-in-Name.name s c.requires.within c.in_ok-name-in-Name.ensures.ok) c.read_named.ensures.stop

pub read_primary-returns-in_default-clause-stop : goal.read_primary-returns-in_default-clause-stop
read_primary-returns-in_default-clause-stop t c =
    stops_no_phrase Primary c.args.tokens.now c.args.place c.args.depth c.requires.within c.requires.depth (no_primary (next_kind (drop c.args.place c.args.tokens.now)) (λ m e f. c.is_mark.ensures.no c.if-is_mark.false (c.kind_at-kind.ensures ∙ e ∙ ap kinds.Mark f)) (λ z e. c.in_default.not-Number z (c.kind_at-kind.ensures ∙ e)) (λ x e. c.in_default.not-Name x (c.kind_at-kind.ensures ∙ e)))

pub read_unary-returns-then-depth-ge-DEEPEST-clause-stop : goal.read_unary-returns-then-depth-ge-DEEPEST-clause-stop
read_unary-returns-then-depth-ge-DEEPEST-clause-stop t c =
    let p : parts_of (Level 0) (next_kind (drop c.args.place c.args.tokens.now)) ≡ Some (phrases.The (next_kind (drop c.args.place c.args.tokens.now)) ∷ A (Level 0) ∷ []) = subst (λ z. parts_of (Level 0) z ≡ Some (phrases.The z ∷ A (Level 0) ∷ [])) c.kind_at.ensures c.in-Some.ensures.operator.1 in
    let o = unary_opens c.args.tokens.now c.args.place c.requires.ended c.requires.within p in
    too_deep c.args.depth o (omega arith)

pub read_unary-read_unary-requires : goal.read_unary-read_unary-requires
read_unary-read_unary-requires t c =
    let p : parts_of (Level 0) (next_kind (drop c.args.place c.args.tokens.now)) ≡ Some (phrases.The (next_kind (drop c.args.place c.args.tokens.now)) ∷ A (Level 0) ∷ []) = subst (λ z. parts_of (Level 0) z ≡ Some (phrases.The z ∷ A (Level 0) ∷ [])) c.kind_at.ensures c.in-Some.ensures.operator.1 in
    let o = unary_opens c.args.tokens.now c.args.place c.requires.ended c.requires.within p in
    let b : c.args.depth < 200 = let x = c.if-depth-ge-DEEPEST.false in omega arith in
    (further_falls (length c.args.tokens.now) c.args.place (c.args.place + 1) 6 6 t c.decreases c.requires.within (one_on c.args.place) below_6, (c.requires.ended, (o.passed.within, one_on_within c.args.depth b)))

pub read_unary-returns-in_err-operand-in-Some-clause-stop : goal.read_unary-returns-in_err-operand-in-Some-clause-stop
read_unary-returns-in_err-operand-in-Some-clause-stop t c =
    let p : parts_of (Level 0) (next_kind (drop c.args.place c.args.tokens.now)) ≡ Some (phrases.The (next_kind (drop c.args.place c.args.tokens.now)) ∷ A (Level 0) ∷ []) = subst (λ z. parts_of (Level 0) z ≡ Some (phrases.The z ∷ A (Level 0) ∷ [])) c.kind_at.ensures c.in-Some.ensures.operator.1 in
    let o = unary_opens c.args.tokens.now c.args.place c.requires.ended c.requires.within p in
    handed_on _ _ _ c.from_residual.ensures.1 (stops_opened c.args.depth _ o c.in_err-operand-in-Some.ensures.stop)

pub read_unary-returns-in_ok-boxed-in-Some-clause-ok : goal.read_unary-returns-in_ok-boxed-in-Some-clause-ok
read_unary-returns-in_ok-boxed-in-Some-clause-ok t c =
    let p : parts_of (Level 0) (next_kind (drop c.args.place c.args.tokens.now)) ≡ Some (phrases.The (next_kind (drop c.args.place c.args.tokens.now)) ∷ A (Level 0) ∷ []) = subst (λ z. parts_of (Level 0) z ≡ Some (phrases.The z ∷ A (Level 0) ∷ [])) c.kind_at.ensures c.in-Some.ensures.operator.1 in
    let o = unary_opens c.args.tokens.now c.args.place c.requires.ended c.requires.within p in
    let e : c.in-Some.operator ≡ unary_of (next_kind (drop c.args.place c.args.tokens.now)) = c.in-Some.ensures.operator.0 ∙ ap unary_of c.kind_at.ensures in
    let f : syntax.Unary c.in-Some.operator (phrase_of c.in_ok-boxed-in-Some.field-0.value) ≡ syntax.Unary (unary_of (next_kind (drop c.args.place c.args.tokens.now))) (phrase_of c.in_ok-operand-in-Some.operand.expression) = two e (ap phrase_of c.in_ok-boxed-in-Some.ensures.ok) in
    unary_is c.args.tokens.now c.args.place c.args.depth c.in_ok-operand-in-Some.operand _ o c.in_ok-operand-in-Some.ensures.ok f refl refl

pub read_unary-returns-in-None-clause-ok : goal.read_unary-returns-in-None-clause-ok
read_unary-returns-in-None-clause-ok t c =
    let p : parts_of (Level 0) (next_kind (drop c.args.place c.args.tokens.now)) ≡ Some (A Primary ∷ []) = subst (λ z. parts_of (Level 0) z ≡ Some (A Primary ∷ [])) c.kind_at.ensures c.in-None.ensures.primary in
    map_ok c.read_primary.result (λ r. primary_is c.args.tokens.now c.args.place c.args.depth r c.requires.within p) c.read_primary.ensures.ok

pub read_unary-returns-in-None-clause-stop : goal.read_unary-returns-in-None-clause-stop
read_unary-returns-in-None-clause-stop t c =
    let p : parts_of (Level 0) (next_kind (drop c.args.place c.args.tokens.now)) ≡ Some (A Primary ∷ []) = subst (λ z. parts_of (Level 0) z ≡ Some (A Primary ∷ [])) c.kind_at.ensures c.in-None.ensures.primary in
    map_err c.read_primary.result (λ s. primary_stops c.args.tokens.now c.args.place c.args.depth s c.requires.within p) c.read_primary.ensures.stop

pub read_expression-read_expression-requires-2 : goal.read_expression-read_expression-requires-2
read_expression-read_expression-requires-2 t c =
    let v = c.in_ok-test.ensures.ok.further in
    let f = c.in_ok-chosen.ensures.ok.further in
    let p = c.in_ok-taken.ensures.ok.1 in
    (further_falls (length c.args.tokens.now) c.args.place (c.in_ok-chosen.chosen.next + 1) 20 20 t c.decreases c.requires.within (past_both c.args.place c.in_ok-test.test.next c.in_ok-chosen.chosen.next v f) below_20, (c.requires.ended, (p.within, room c.args.depth c.in_ok-test.test.height c.in_ok-condition.ensures.ok.1)))

pub read_arguments-read_more-requires : goal.read_arguments-read_more-requires
read_arguments-read_more-requires t c =
    let o = c.in_ok-first.ensures.ok in
    (further_falls (length c.args.tokens.now) c.args.place c.in_ok-first.first.next 19 21 t c.decreases c.requires.within o.further below_19, (c.requires.ended, (o.within, o.shallow)))

pub read_primary-read_named-requires : goal.read_primary-read_named-requires
read_primary-read_named-requires t c =
    let p = c.in_ok-name-in-Name.ensures.ok.passed in
    (further_falls (length c.args.tokens.now) c.args.place c.in_ok-name-in-Name.name.next 4 5 t c.decreases c.requires.within (just_on c.args.place c.in_ok-name-in-Name.name.next p.further) below_four, (c.requires.ended, (p.within, c.requires.depth)))

pub read_named-read_called-requires : goal.read_named-read_called-requires
read_named-read_called-requires t c =
    (rank_falls (length c.args.tokens.now) c.args.place c.args.place 3 4 t c.decreases (same c.args.place) below_4, (c.requires.ended, (c.requires.within, (c.requires.depth, sym c.kind_at-kind.ensures ∙ c.is_mark-2.ensures.yes c.if-is_mark-2.true))))

pub read_named-read_index-requires : goal.read_named-read_index-requires
read_named-read_index-requires t c =
    (rank_falls (length c.args.tokens.now) c.args.place c.args.place 3 4 t c.decreases (same c.args.place) below_4, (c.requires.ended, (c.requires.within, (c.requires.depth, sym c.kind_at-kind.ensures ∙ c.is_mark.ensures.yes c.if-is_mark.true))))

pub read_arguments-read_expression-requires : goal.read_arguments-read_expression-requires
read_arguments-read_expression-requires t c =
    (rank_falls (length c.args.tokens.now) c.args.place c.args.place 20 21 t c.decreases (same c.args.place) expression_first, (c.requires.ended, (c.requires.within, c.requires.depth)))

pub read_behind-read_behind-requires : goal.read_behind-read_behind-requires
read_behind-read_behind-requires t c =
    let o = c.in_ok-right.ensures.ok in
    (further_falls (length c.args.tokens.now) c.args.left.next c.in_ok-right.right.next 19 19 t c.decreases c.requires.within (past_next c.args.left.next c.in_ok-right.right.next o.further) below_19, (c.requires.ended, (o.within, (both_within c.args.depth c.args.left.height c.in_ok-right.right.height c.max.result c.max.ensures c.in_ok-before.ensures.ok.1 o.shallow, c.requires.level))))

pub read_level-read_behind-requires : goal.read_level-read_behind-requires
read_level-read_behind-requires t c =
    let o = c.in_ok-left.ensures.ok in
    let l : c.args.level ≤ 10 = c.requires.level in
    let m : c.args.level - 1 ≤ 9 = omega arith in
    (further_falls (length c.args.tokens.now) c.args.place c.in_ok-left.left.next 19 (8 + c.args.level) t c.decreases c.requires.within o.further below_19, (c.requires.ended, (o.within, (o.shallow, m))))

pub read_expression-overflow_add-result : goal.read_expression-overflow_add-result
read_expression-overflow_add-result t c =
    let a : c.args.depth + c.in_ok-test.test.height ≤ 200 = c.in_ok-test.ensures.ok.shallow in
    let b : c.args.depth + 1 + c.in_ok-chosen.chosen.height ≤ 200 = c.in_ok-chosen.ensures.ok.shallow in
    let d : c.args.depth + 1 + c.in_ok-other.other.height ≤ 200 = c.in_ok-other.ensures.ok.shallow in
    let x : c.max.result ≡ max c.in_ok-test.test.height c.in_ok-chosen.chosen.height = c.max.ensures in
    let y : c.max-2.result ≡ max c.max.result c.in_ok-other.other.height = c.max-2.ensures in
    omega arith

pub read_unary-read_primary-requires : goal.read_unary-read_primary-requires
read_unary-read_primary-requires t c =
    (rank_falls (length c.args.tokens.now) c.args.place c.args.place 5 6 t c.decreases (same c.args.place) primary_first, (c.requires.ended, (c.requires.within, c.requires.depth)))

pub read_expression-read_level-requires : goal.read_expression-read_level-requires
read_expression-read_level-requires t c =
    (rank_falls (length c.args.tokens.now) c.args.place c.args.place (8 + 10) 20 t c.decreases (same c.args.place) level_first_of, (c.requires.ended, (c.requires.within, (c.requires.depth, same 10))))

pub read_level-read_unary-requires : goal.read_level-read_unary-requires
read_level-read_unary-requires t c =
    (rank_falls (length c.args.tokens.now) c.args.place c.args.place 6 (8 + c.args.level) t c.decreases (same c.args.place) (unary_first c.args.level), (c.requires.ended, (c.requires.within, c.requires.depth)))

pub read_level-read_level-requires : goal.read_level-read_level-requires
read_level-read_level-requires t c =
    let x = c.if-level-eq0.false in
    let l : c.args.level ≤ 10 = c.requires.level in
    let m : c.args.level - 1 ≤ 10 = omega arith in
    let r : 8 + (c.args.level - 1) < 8 + c.args.level = omega arith in
    (rank_falls (length c.args.tokens.now) c.args.place c.args.place (8 + (c.args.level - 1)) (8 + c.args.level) t c.decreases (same c.args.place) r, (c.requires.ended, (c.requires.within, (c.requires.depth, m))))

pub read_called-read_mark-requires-clause-ended : goal.read_called-read_mark-requires-clause-ended
read_called-read_mark-requires-clause-ended t c = c.requires.ended

pub read_called-read_mark-requires-clause-within : goal.read_called-read_mark-requires-clause-within
read_called-read_mark-requires-clause-within t c = c.in_ok-inner.ensures.ok.within

pub read_primary-read_name-requires-clause-ended : goal.read_primary-read_name-requires-clause-ended
read_primary-read_name-requires-clause-ended t c = c.requires.ended

pub read_primary-read_name-requires-clause-within : goal.read_primary-read_name-requires-clause-within
read_primary-read_name-requires-clause-within t c = c.requires.within

pub read_unary-kind_at-requires : goal.read_unary-kind_at-requires
read_unary-kind_at-requires t c = c.requires.within

pub read_primary-kind_at-kind-requires : goal.read_primary-kind_at-kind-requires
read_primary-kind_at-kind-requires t c = c.requires.within

pub read_named-kind_at-kind-requires : goal.read_named-kind_at-kind-requires
read_named-kind_at-kind-requires t c = c.requires.within

pub read_arguments-kind_at-requires : goal.read_arguments-kind_at-requires
read_arguments-kind_at-requires t c = c.requires.within

pub read_behind-kind_at-kind-requires : goal.read_behind-kind_at-kind-requires
read_behind-kind_at-kind-requires t c = c.requires.within

pub read_arguments-place_at-requires : goal.read_arguments-place_at-requires
read_arguments-place_at-requires t c = c.requires.within

pub read_more-place_at-requires : goal.read_more-place_at-requires
read_more-place_at-requires t c =
    let q : next_kind (drop c.more.all.next c.args.tokens.now) ≡ kinds.Mark marks.Comma = sym c.kind_at.ensures ∙ c.is_mark.ensures.yes c.if-not-is_mark.false in
    (comma_opens c.args.tokens.now c.more.all.next c.requires.ended c.more.invariant.within q).passed.within

pub read_more-kind_at-requires : goal.read_more-kind_at-requires
read_more-kind_at-requires t c = c.more.invariant.within

pub read_expression-kind_at-requires : goal.read_expression-kind_at-requires
read_expression-kind_at-requires t c = c.in_ok-test.ensures.ok.within

pub read_expression-returns-in_err-condition-clause-stop : goal.read_expression-returns-in_err-condition-clause-stop
read_expression-returns-in_err-condition-clause-stop t c =
    let q : next_kind (drop c.in_ok-test.test.next c.args.tokens.now) ≡ kinds.Mark marks.Question = sym c.kind_at.ensures ∙ c.is_mark.ensures.yes c.if-not-is_mark.false in
    let a = asks c.args.tokens.now c.args.place c.args.depth c.in_ok-test.test c.requires.ended c.requires.within c.in_ok-test.ensures.ok q in
    handed_on _ _ _ c.from_residual-in_err-condition.ensures.1 (choice_not_held c.args.tokens.now c.args.place c.args.depth c.in_ok-test.test _ a c.in_err-condition.ensures.stop)

pub read_expression-returns-in_err-taken-clause-stop : goal.read_expression-returns-in_err-taken-clause-stop
read_expression-returns-in_err-taken-clause-stop t c =
    let q : next_kind (drop c.in_ok-test.test.next c.args.tokens.now) ≡ kinds.Mark marks.Question = sym c.kind_at.ensures ∙ c.is_mark.ensures.yes c.if-not-is_mark.false in
    let a = asks c.args.tokens.now c.args.place c.args.depth c.in_ok-test.test c.requires.ended c.requires.within c.in_ok-test.ensures.ok q in
    handed_on _ _ _ c.from_residual-in_err-taken.ensures.1 (colon_not_held c.args.tokens.now c.args.place c.args.depth c.in_ok-test.test c.in_ok-chosen.chosen _ a c.in_ok-condition.ensures.ok.1 c.in_ok-chosen.ensures.ok c.in_err-taken.ensures.stop)

pub read_expression-returns-in_err-left-clause-stop : goal.read_expression-returns-in_err-left-clause-stop
read_expression-returns-in_err-left-clause-stop t c = handed_on _ _ _ c.from_residual-in_err-left.ensures.1 (no_memory _ _ _ _ _ _ c.in_err-left.ensures.stop)

pub read_behind-returns-in_err-before-clause-stop : goal.read_behind-returns-in_err-before-clause-stop
read_behind-returns-in_err-before-clause-stop t c =
    let e : strength (next_kind (drop c.args.left.next c.args.tokens.now)) ≡ c.strength.result = sym (c.strength.ensures ∙ ap strength c.kind_at-kind.ensures) in
    let o = operates c.args.level c.args.tokens.now c.args.left.next c.requires.ended c.requires.within c.requires.level (e ∙ c.if-strength-level.false) in
    handed_on _ _ _ c.from_residual.ensures.1 (rest_not_held c.args.level c.args.tokens.now c.args.left.next c.args.depth c.args.left.height _ o c.in_err-before.ensures.stop)

pub read_behind-returns-in_err-behind-clause-stop : goal.read_behind-returns-in_err-behind-clause-stop
read_behind-returns-in_err-behind-clause-stop t c = handed_on _ _ _ c.from_residual-in_err-behind.ensures.1 (no_memory _ _ _ _ _ _ c.in_err-behind.ensures.stop)

pub read_unary-returns-in_err-boxed-in-Some-clause-stop : goal.read_unary-returns-in_err-boxed-in-Some-clause-stop
read_unary-returns-in_err-boxed-in-Some-clause-stop t c = handed_on _ _ _ c.from_residual-in_err-boxed-in-Some.ensures.1 (no_memory _ _ _ _ _ _ c.in_err-boxed-in-Some.ensures.stop)

pub read_arguments-returns-in_err-append-clause-stop : goal.read_arguments-returns-in_err-append-clause-stop
read_arguments-returns-in_err-append-clause-stop t c = handed_on _ _ _ c.from_residual-in_err-append.ensures.1 (no_memory _ _ _ _ _ _ c.in_err-append.ensures.stop)

pub read_more-returns-in_err-append-clause-stop : goal.read_more-returns-in_err-append-clause-stop
read_more-returns-in_err-append-clause-stop t c = handed_on _ _ _ c.from_residual-in_err-append.ensures.1 (no_memory _ _ _ _ _ _ c.in_err-append.ensures.stop)

pub read_named-returns-in_err-index-clause-stop : goal.read_named-returns-in_err-index-clause-stop
read_named-returns-in_err-index-clause-stop t c = handed_on _ _ _ c.from_residual.ensures.1 c.in_err-index.ensures.stop

pub read_named-returns-in_err-called-clause-stop : goal.read_named-returns-in_err-called-clause-stop
read_named-returns-in_err-called-clause-stop t c = handed_on _ _ _ c.from_residual-in_err-called.ensures.1 c.in_err-called.ensures.stop

pub read_level-returns-then-level-eq0-clause-stop : goal.read_level-returns-then-level-eq0-clause-stop
read_level-returns-then-level-eq0-clause-stop t c = subst (λ n. IfErr c.read_unary.result (λ s. Stops (A (Level n) ∷ []) (drop c.args.place c.args.tokens.now) c.args.tokens.now c.args.depth 0 s)) (sym c.if-level-eq0.true) c.read_unary.ensures.stop

pub read_level-returns-then-level-eq0-clause-ok : goal.read_level-returns-then-level-eq0-clause-ok
read_level-returns-then-level-eq0-clause-ok t c = subst (λ n. IfOk c.read_unary.result (λ r. IsOperand (Level n) c.args.tokens.now c.args.place c.args.depth r)) (sym c.if-level-eq0.true) c.read_unary.ensures.ok

pub read_expression-overflow_add-depth-2 : goal.read_expression-overflow_add-depth-2
read_expression-overflow_add-depth-2 t c = deeper_fits c.args.depth c.requires.depth

pub read_expression-overflow_add-depth-3 : goal.read_expression-overflow_add-depth-3
read_expression-overflow_add-depth-3 t c = deeper_fits c.args.depth c.requires.depth

pub read_primary-overflow_add-depth : goal.read_primary-overflow_add-depth
read_primary-overflow_add-depth t c = deeper_fits c.args.depth c.requires.depth

pub read_unary-overflow_add-depth : goal.read_unary-overflow_add-depth
read_unary-overflow_add-depth t c = deeper_fits c.args.depth c.requires.depth

pub read_index-overflow_add-depth : goal.read_index-overflow_add-depth
read_index-overflow_add-depth t c = deeper_fits c.args.depth c.requires.depth

pub read_called-overflow_add-depth : goal.read_called-overflow_add-depth
read_called-overflow_add-depth t c = deeper_fits c.args.depth c.requires.depth

pub read_expression-overflow_add-depth : goal.read_expression-overflow_add-depth
read_expression-overflow_add-depth t c = depth_fits c.args.depth c.in_ok-test.test.height c.in_ok-test.ensures.ok.shallow

pub read_behind-overflow_add-depth : goal.read_behind-overflow_add-depth
read_behind-overflow_add-depth t c = depth_fits c.args.depth c.args.left.height c.requires.shallow

pub read_behind-overflow_add-depth-2 : goal.read_behind-overflow_add-depth-2
read_behind-overflow_add-depth-2 t c = deeper_fits c.args.depth (depth_within c.args.depth c.args.left.height c.requires.shallow)

pub read_primary-overflow_add-result : goal.read_primary-overflow_add-result
read_primary-overflow_add-result t c = height_fits c.args.depth c.in_ok-inner.inner.height c.in_ok-inner.ensures.ok.shallow

pub read_unary-overflow_add-result : goal.read_unary-overflow_add-result
read_unary-overflow_add-result t c = height_fits c.args.depth c.in_ok-operand-in-Some.operand.height c.in_ok-operand-in-Some.ensures.ok.shallow

pub read_called-overflow_add-result : goal.read_called-overflow_add-result
read_called-overflow_add-result t c = height_fits c.args.depth c.in_ok-inner.inner.height c.in_ok-inner.ensures.ok.shallow

pub read_expression-boxed_closed-requires-clause-ended : goal.read_expression-boxed_closed-requires-clause-ended
read_expression-boxed_closed-requires-clause-ended t c =
    c.requires.ended

pub read_expression-boxed_closed-requires-clause-within : goal.read_expression-boxed_closed-requires-clause-within
read_expression-boxed_closed-requires-clause-within t c =
    c.in_ok-chosen.ensures.ok.within

pub read_primary-returns-in_err-closed-clause-stop : goal.read_primary-returns-in_err-closed-clause-stop
read_primary-returns-in_err-closed-clause-stop t c =
    let k : next_kind (drop c.args.place c.args.tokens.now) ≡ kinds.Mark marks.OpenParenthesis = sym c.kind_at-kind.ensures ∙ c.is_mark.ensures.yes c.if-is_mark.true in
    let o = nested_opens c.args.tokens.now c.args.place c.requires.ended c.requires.within k in
    let a = c.in_ok-inner.ensures.ok in
    handed_on _ _ _ c.from_residual-in_err-closed.ensures.1 (enclosed_end c.args.depth _ o a.is (operand_bound a) a.within c.in_err-closed.ensures.stop)

pub read_primary-closed-requires-clause-ended : goal.read_primary-closed-requires-clause-ended
read_primary-closed-requires-clause-ended t c =
    c.requires.ended

pub read_primary-closed-requires-clause-within : goal.read_primary-closed-requires-clause-within
read_primary-closed-requires-clause-within t c =
    c.in_ok-inner.ensures.ok.within

pub read_index-returns-in_err-boxed_closed-clause-stop : goal.read_index-returns-in_err-boxed_closed-clause-stop
read_index-returns-in_err-boxed_closed-clause-stop t c =
    let o = bracket_opens c.args.tokens.now c.args.place c.requires.ended c.requires.within c.requires.here in
    handed_on _ _ _ c.from_residual-in_err-boxed_closed.ensures.1 (end_not_held c.args.depth _ o c.in_ok-index.ensures.ok c.in_err-boxed_closed.ensures.stop)

pub read_index-boxed_closed-requires-clause-ended : goal.read_index-boxed_closed-requires-clause-ended
read_index-boxed_closed-requires-clause-ended t c =
    c.requires.ended

pub read_index-boxed_closed-requires-clause-within : goal.read_index-boxed_closed-requires-clause-within
read_index-boxed_closed-requires-clause-within t c =
    c.in_ok-index.ensures.ok.within
