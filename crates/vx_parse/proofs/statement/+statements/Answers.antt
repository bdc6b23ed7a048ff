use Rattle.std.proofs.Common.{◌≡◌, ◌≤◌, ◌<◌, ◌+◌, ◌++◌, false, true, [], ◌∷◌, length, drop, Some, refl, sym, ap, ◌∙◌, subst, arith}
use Rattle.vx_ast.specs.Syntax as syntax
use Rattle.vx_ast.specs.declared.token.Keyword.TheVariants as words
use Rattle.vx_ast.specs.declared.token.Mark.TheVariants as marks
use Rattle.vx_ast.specs.declared.token.TokenKind.TheVariants as kinds
use Rattle.vx_ast.specs.declared.syntax.Statement as statements
use Rattle.vx_ast.specs.SyntaxView as view
use Rattle.vx_ast.specs.Phrases as phrases
use Rattle.vx_ast.specs.Phrases.{ElsePart, Items, A, AName, Fits, mark, word, parts_of}
use Rattle.vx_parse.specs.Choices.{begins_simple}
use Rattle.vx_parse.specs.Reading.{next_kind}
use Rattle.vx_parse.specs.Statements.{Test, Head, MeansAll, if_with}
use Rattle.vx_parse.proofs.HandedOn.{handed_on}
use Rattle.vx_parse.proofs.Tokens.{passes_word}
use Rattle.vx_parse.proofs.Measures.{further_falls, rank_falls, deeper_fits}
use Rattle.vx_parse.proofs.Steps.{too_deep}
use Rattle.vx_parse.proofs.Expressions.{map_ok, map_err}
use Rattle.vx_parse.proofs.Parts.{past_token, past_phrase, past_row, within_phrase, within_row, misfit, no_memory}
use Rattle.vx_parse.proofs.Loops.{continues_end, Gathers, gathers_none, gathers_next}
use Rattle.vx_parse.proofs.Views.{view-Block}
use Rattle.vx_parse.proofs.Begun.{no_statement}
use Rattle.vx_parse.proofs.Statements.{statement_before, word_opens, if_word, while_word, do_word, for_word, while_is, if_is, do_is, for_is, for_from}
use Rattle.vx_parse.proofs.Blocks.{else_before, else_is, no_else, block_stops, block_is, block_misfit, block_opens, block_before, braces_are, entry_before, entry_is, no_entries}
use Rattle.vx_parse.proofs.statement.+statements.Goals as goal

pub read_inner_block-returns-in_err-block-clause-stop : goal.read_inner_block-returns-in_err-block-clause-stop
read_inner_block-returns-in_err-block-clause-stop t c =
    handed_on _ _ _ c.from_residual.ensures.1 (block_stops c.args.tokens.now c.args.place c.args.depth c.in_err-block.field-0.0 c.requires.within c.requires.here c.in_err-block.ensures.stop)

pub read_inner_block-returns-clause-ok : goal.read_inner_block-returns-clause-ok
read_inner_block-returns-clause-ok t c =
    block_is c.args.tokens.now c.args.place c.args.depth _ c.in_ok-block.block.statements.items (statements.Block c.in_ok-block.block.statements) c.requires.within c.requires.here c.in_ok-block.ensures.ok (view-Block c.in_ok-block.block.statements)

pub read_body-returns-clause-ok : goal.read_body-returns-clause-ok
read_body-returns-clause-ok t c =
    let a = c.in_ok-statement.ensures.ok in
    record { derivation = a.derivation; parted = a.parted; means = a.means ∙ ap view.code_of (sym c.in_ok-boxed.ensures.ok); further = a.further }

pub read_else-returns-then-not-is_word-clause-ok : goal.read_else-returns-then-not-is_word-clause-ok
read_else-returns-then-not-is_word-clause-ok t c =
    no_else c.args.tokens.now c.args.place c.args.depth c.requires.within c.requires.depth (λ e. c.is_word.ensures.no c.if-not-is_word.true (c.kind_at.ensures ∙ e))

pub read_else-read_body-requires : goal.read_else-read_body-requires
read_else-read_body-requires t c =
    let e : next_kind (drop c.args.place c.args.tokens.now) ≡ kinds.Keyword words.Else = sym c.kind_at.ensures ∙ c.is_word.ensures.yes c.if-not-is_word.false in
    let w : c.args.place + 1 < length c.args.tokens.now = (passes_word c.args.tokens.now c.args.place words.Else c.requires.ended c.requires.within e).within in
    let h : c.args.place < c.args.place + 1 = omega arith in
    (further_falls (length c.args.tokens.now) c.args.place (c.args.place + 1) 9 10 t c.decreases c.requires.within h (omega arith), (c.requires.ended, (w, c.requires.depth)))

pub read_else-returns-in_err-other-clause-stop : goal.read_else-returns-in_err-other-clause-stop
read_else-returns-in_err-other-clause-stop t c =
    let e : next_kind (drop c.args.place c.args.tokens.now) ≡ kinds.Keyword words.Else = sym c.kind_at.ensures ∙ c.is_word.ensures.yes c.if-not-is_word.false in
    let p = passes_word c.args.tokens.now c.args.place words.Else c.requires.ended c.requires.within e in
    let b = else_before c.args.tokens.now c.args.place c.args.depth p c.requires.within c.requires.depth e in
    handed_on _ _ _ c.from_residual.ensures.1 (within_phrase b c.in_err-other.field-0.0 c.in_err-other.ensures.stop)

pub read_else-returns-clause-ok : goal.read_else-returns-clause-ok
read_else-returns-clause-ok t c =
    let e : next_kind (drop c.args.place c.args.tokens.now) ≡ kinds.Keyword words.Else = sym c.kind_at.ensures ∙ c.is_word.ensures.yes c.if-not-is_word.false in
    let p = passes_word c.args.tokens.now c.args.place words.Else c.requires.ended c.requires.within e in
    else_is c.args.tokens.now c.args.place c.args.depth _ c.in_ok-other.other p c.requires.within c.requires.depth e c.in_ok-other.ensures.ok

pub read_if-returns-then-depth-ge-DEEPEST-clause-stop : goal.read_if-returns-then-depth-ge-DEEPEST-clause-stop
read_if-returns-then-depth-ge-DEEPEST-clause-stop t c =
    let o = word_opens words.If (Test ++ (A phrases.Statement ∷ A ElsePart ∷ [])) c.args.tokens.now c.args.place if_word c.requires.ended c.requires.within c.requires.here in
    too_deep c.args.depth o (let x = c.if-depth-ge-DEEPEST.true in omega arith)

pub read_if-read_test-requires-clause-within : goal.read_if-read_test-requires-clause-within
read_if-read_test-requires-clause-within t c =
    (passes_word c.args.tokens.now c.args.place words.If c.requires.ended c.requires.within c.requires.here).within

pub read_if-returns-in_err-test-clause-stop : goal.read_if-returns-in_err-test-clause-stop
read_if-returns-in_err-test-clause-stop t c =
    let l : c.args.depth < 200 = let x = c.if-depth-ge-DEEPEST.false in omega arith in
    let o = word_opens words.If (Test ++ (A phrases.Statement ∷ A ElsePart ∷ [])) c.args.tokens.now c.args.place if_word c.requires.ended c.requires.within c.requires.here in
    let b0 = statement_before c.args.depth o refl l in
    handed_on _ _ _ c.from_residual.ensures.1 (within_row Test (A phrases.Statement ∷ A ElsePart ∷ []) b0 c.in_err-test.field-0.0 c.in_err-test.ensures.stop)

pub read_if-returns-in_err-chosen-clause-stop : goal.read_if-returns-in_err-chosen-clause-stop
read_if-returns-in_err-chosen-clause-stop t c =
    let l : c.args.depth < 200 = let x = c.if-depth-ge-DEEPEST.false in omega arith in
    let o = word_opens words.If (Test ++ (A phrases.Statement ∷ A ElsePart ∷ [])) c.args.tokens.now c.args.place if_word c.requires.ended c.requires.within c.requires.here in
    let b0 = statement_before c.args.depth o refl l in
    let b1 = past_row Test (A phrases.Statement ∷ A ElsePart ∷ []) refl b0 c.in_ok-test.ensures.ok.parted in
    handed_on _ _ _ c.from_residual-in_err-chosen.ensures.1 (within_phrase b1 c.in_err-chosen.field-0.0 c.in_err-chosen.ensures.stop)

pub read_if-returns-in_err-other-clause-stop : goal.read_if-returns-in_err-other-clause-stop
read_if-returns-in_err-other-clause-stop t c =
    let l : c.args.depth < 200 = let x = c.if-depth-ge-DEEPEST.false in omega arith in
    let o = word_opens words.If (Test ++ (A phrases.Statement ∷ A ElsePart ∷ [])) c.args.tokens.now c.args.place if_word c.requires.ended c.requires.within c.requires.here in
    let b0 = statement_before c.args.depth o refl l in
    let b1 = past_row Test (A phrases.Statement ∷ A ElsePart ∷ []) refl b0 c.in_ok-test.ensures.ok.parted in
    let b2 = past_phrase b1 c.in_ok-chosen.ensures.ok.parted in
    handed_on _ _ _ c.from_residual-in_err-other.ensures.1 (within_phrase b2 c.in_err-other.field-0.0 c.in_err-other.ensures.stop)

pub read_if-returns-clause-ok : goal.read_if-returns-clause-ok
read_if-returns-clause-ok t c =
    let l : c.args.depth < 200 = let x = c.if-depth-ge-DEEPEST.false in omega arith in
    let o = word_opens words.If (Test ++ (A phrases.Statement ∷ A ElsePart ∷ [])) c.args.tokens.now c.args.place if_word c.requires.ended c.requires.within c.requires.here in
    if_is c.args.tokens.now c.args.place c.args.depth _ _ c.in_ok-test.test c.in_ok-chosen.chosen.body.value c.in_ok-other.other.other c.if_of.result o l c.in_ok-test.ensures.ok c.in_ok-chosen.ensures.ok c.in_ok-other.ensures.ok (c.if_of.ensures ∙ ap (λ z. if_with (view.phrase_of z) (view.code_of c.in_ok-chosen.chosen.body.value) c.in_ok-other.other.other) c.into_inner.ensures)

pub read_while-returns-then-depth-ge-DEEPEST-clause-stop : goal.read_while-returns-then-depth-ge-DEEPEST-clause-stop
read_while-returns-then-depth-ge-DEEPEST-clause-stop t c =
    let o = word_opens words.While (Test ++ (A phrases.Statement ∷ [])) c.args.tokens.now c.args.place while_word c.requires.ended c.requires.within c.requires.here in
    too_deep c.args.depth o (let x = c.if-depth-ge-DEEPEST.true in omega arith)

pub read_while-read_test-requires-clause-within : goal.read_while-read_test-requires-clause-within
read_while-read_test-requires-clause-within t c =
    (passes_word c.args.tokens.now c.args.place words.While c.requires.ended c.requires.within c.requires.here).within

pub read_while-returns-in_err-test-clause-stop : goal.read_while-returns-in_err-test-clause-stop
read_while-returns-in_err-test-clause-stop t c =
    let l : c.args.depth < 200 = let x = c.if-depth-ge-DEEPEST.false in omega arith in
    let o = word_opens words.While (Test ++ (A phrases.Statement ∷ [])) c.args.tokens.now c.args.place while_word c.requires.ended c.requires.within c.requires.here in
    let b0 = statement_before c.args.depth o refl l in
    handed_on _ _ _ c.from_residual.ensures.1 (within_row Test (A phrases.Statement ∷ []) b0 c.in_err-test.field-0.0 c.in_err-test.ensures.stop)

pub read_while-returns-in_err-body-clause-stop : goal.read_while-returns-in_err-body-clause-stop
read_while-returns-in_err-body-clause-stop t c =
    let l : c.args.depth < 200 = let x = c.if-depth-ge-DEEPEST.false in omega arith in
    let o = word_opens words.While (Test ++ (A phrases.Statement ∷ [])) c.args.tokens.now c.args.place while_word c.requires.ended c.requires.within c.requires.here in
    let b0 = statement_before c.args.depth o refl l in
    let b1 = past_row Test (A phrases.Statement ∷ []) refl b0 c.in_ok-test.ensures.ok.parted in
    handed_on _ _ _ c.from_residual-in_err-body.ensures.1 (within_phrase b1 c.in_err-body.field-0.0 c.in_err-body.ensures.stop)

pub read_while-returns-clause-ok : goal.read_while-returns-clause-ok
read_while-returns-clause-ok t c =
    let l : c.args.depth < 200 = let x = c.if-depth-ge-DEEPEST.false in omega arith in
    let o = word_opens words.While (Test ++ (A phrases.Statement ∷ [])) c.args.tokens.now c.args.place while_word c.requires.ended c.requires.within c.requires.here in
    while_is c.args.tokens.now c.args.place c.args.depth _ c.in_ok-test.test c.in_ok-body.body.body.value (statements.While c.into_inner.result c.in_ok-body.body.body) o l c.in_ok-test.ensures.ok c.in_ok-body.ensures.ok (ap (λ z. syntax.While (view.phrase_of z) (view.code_of c.in_ok-body.body.body.value)) c.into_inner.ensures)

pub read_do-returns-then-depth-ge-DEEPEST-clause-stop : goal.read_do-returns-then-depth-ge-DEEPEST-clause-stop
read_do-returns-then-depth-ge-DEEPEST-clause-stop t c =
    let o = word_opens words.Do (A phrases.Statement ∷ word words.While ∷ (Test ++ (mark marks.Semicolon ∷ []))) c.args.tokens.now c.args.place do_word c.requires.ended c.requires.within c.requires.here in
    too_deep c.args.depth o (let x = c.if-depth-ge-DEEPEST.true in omega arith)

pub read_do-read_body-requires : goal.read_do-read_body-requires
read_do-read_body-requires t c =
    let w : c.args.place + 1 < length c.args.tokens.now = (passes_word c.args.tokens.now c.args.place words.Do c.requires.ended c.requires.within c.requires.here).within in
    let x = c.if-depth-ge-DEEPEST.false in
    let b : c.args.depth < 200 = omega arith in
    let d : c.args.depth + 1 ≤ 200 = omega arith in
    let h : c.args.place < c.args.place + 1 = omega arith in
    (further_falls (length c.args.tokens.now) c.args.place (c.args.place + 1) 9 7 t c.decreases c.requires.within h (omega arith), (c.requires.ended, (w, d)))

pub read_do-returns-in_err-body-clause-stop : goal.read_do-returns-in_err-body-clause-stop
read_do-returns-in_err-body-clause-stop t c =
    let l : c.args.depth < 200 = let x = c.if-depth-ge-DEEPEST.false in omega arith in
    let o = word_opens words.Do (A phrases.Statement ∷ word words.While ∷ (Test ++ (mark marks.Semicolon ∷ []))) c.args.tokens.now c.args.place do_word c.requires.ended c.requires.within c.requires.here in
    let b0 = statement_before c.args.depth o refl l in
    handed_on _ _ _ c.from_residual.ensures.1 (within_phrase b0 c.in_err-body.field-0.0 c.in_err-body.ensures.stop)

pub read_do-returns-in_err-test_place-clause-stop : goal.read_do-returns-in_err-test_place-clause-stop
read_do-returns-in_err-test_place-clause-stop t c =
    let l : c.args.depth < 200 = let x = c.if-depth-ge-DEEPEST.false in omega arith in
    let o = word_opens words.Do (A phrases.Statement ∷ word words.While ∷ (Test ++ (mark marks.Semicolon ∷ []))) c.args.tokens.now c.args.place do_word c.requires.ended c.requires.within c.requires.here in
    let b0 = statement_before c.args.depth o refl l in
    let b1 = past_phrase b0 c.in_ok-body.ensures.ok.parted in
    handed_on _ _ _ c.from_residual-in_err-test_place.ensures.1 (misfit b1 c.in_err-test_place.field-0.0 c.in_err-test_place.ensures.stop)

pub read_do-returns-in_err-test-clause-stop : goal.read_do-returns-in_err-test-clause-stop
read_do-returns-in_err-test-clause-stop t c =
    let l : c.args.depth < 200 = let x = c.if-depth-ge-DEEPEST.false in omega arith in
    let o = word_opens words.Do (A phrases.Statement ∷ word words.While ∷ (Test ++ (mark marks.Semicolon ∷ []))) c.args.tokens.now c.args.place do_word c.requires.ended c.requires.within c.requires.here in
    let b0 = statement_before c.args.depth o refl l in
    let b1 = past_phrase b0 c.in_ok-body.ensures.ok.parted in
    let b2 = past_token b1 c.in_ok-test_place.ensures.ok in
    handed_on _ _ _ c.from_residual-in_err-test.ensures.1 (within_row Test (mark marks.Semicolon ∷ []) b2 c.in_err-test.field-0.0 c.in_err-test.ensures.stop)

pub read_do-returns-in_err-next-clause-stop : goal.read_do-returns-in_err-next-clause-stop
read_do-returns-in_err-next-clause-stop t c =
    let l : c.args.depth < 200 = let x = c.if-depth-ge-DEEPEST.false in omega arith in
    let o = word_opens words.Do (A phrases.Statement ∷ word words.While ∷ (Test ++ (mark marks.Semicolon ∷ []))) c.args.tokens.now c.args.place do_word c.requires.ended c.requires.within c.requires.here in
    let b0 = statement_before c.args.depth o refl l in
    let b1 = past_phrase b0 c.in_ok-body.ensures.ok.parted in
    let b2 = past_token b1 c.in_ok-test_place.ensures.ok in
    let b3 = past_row Test (mark marks.Semicolon ∷ []) refl b2 c.in_ok-test.ensures.ok.parted in
    handed_on _ _ _ c.from_residual-in_err-next.ensures.1 (misfit b3 c.in_err-next.field-0.0 c.in_err-next.ensures.stop)

pub read_do-returns-clause-ok : goal.read_do-returns-clause-ok
read_do-returns-clause-ok t c =
    let l : c.args.depth < 200 = let x = c.if-depth-ge-DEEPEST.false in omega arith in
    let o = word_opens words.Do (A phrases.Statement ∷ word words.While ∷ (Test ++ (mark marks.Semicolon ∷ []))) c.args.tokens.now c.args.place do_word c.requires.ended c.requires.within c.requires.here in
    do_is c.args.tokens.now c.args.place c.args.depth _ _ _ c.in_ok-body.body.body.value c.in_ok-test.test (statements.DoWhile c.in_ok-body.body.body c.into_inner.result) o l c.in_ok-body.ensures.ok c.in_ok-test_place.ensures.ok c.in_ok-test.ensures.ok c.in_ok-next.ensures.ok (ap (λ z. syntax.DoWhile (view.code_of c.in_ok-body.body.body.value) (view.phrase_of z)) c.into_inner.ensures)

pub read_for-returns-then-depth-ge-DEEPEST-clause-stop : goal.read_for-returns-then-depth-ge-DEEPEST-clause-stop
read_for-returns-then-depth-ge-DEEPEST-clause-stop t c =
    let o = word_opens words.For (Head ++ (A phrases.Statement ∷ [])) c.args.tokens.now c.args.place for_word c.requires.ended c.requires.within c.requires.here in
    too_deep c.args.depth o (let x = c.if-depth-ge-DEEPEST.true in omega arith)

pub read_for-read_head-requires-clause-within : goal.read_for-read_head-requires-clause-within
read_for-read_head-requires-clause-within t c =
    (passes_word c.args.tokens.now c.args.place words.For c.requires.ended c.requires.within c.requires.here).within

pub read_for-returns-in_err-head-clause-stop : goal.read_for-returns-in_err-head-clause-stop
read_for-returns-in_err-head-clause-stop t c =
    let l : c.args.depth < 200 = let x = c.if-depth-ge-DEEPEST.false in omega arith in
    let o = word_opens words.For (Head ++ (A phrases.Statement ∷ [])) c.args.tokens.now c.args.place for_word c.requires.ended c.requires.within c.requires.here in
    let b0 = statement_before c.args.depth o refl l in
    handed_on _ _ _ c.from_residual.ensures.1 (within_row Head (A phrases.Statement ∷ []) b0 c.in_err-head.field-0.0 c.in_err-head.ensures.stop)

pub read_for-returns-in_err-body-clause-stop : goal.read_for-returns-in_err-body-clause-stop
read_for-returns-in_err-body-clause-stop t c =
    let l : c.args.depth < 200 = let x = c.if-depth-ge-DEEPEST.false in omega arith in
    let o = word_opens words.For (Head ++ (A phrases.Statement ∷ [])) c.args.tokens.now c.args.place for_word c.requires.ended c.requires.within c.requires.here in
    let b0 = statement_before c.args.depth o refl l in
    let b1 = past_row Head (A phrases.Statement ∷ []) refl b0 c.in_ok-head.ensures.ok.parted in
    handed_on _ _ _ c.from_residual-in_err-body.ensures.1 (within_phrase b1 c.in_err-body.field-0.0 c.in_err-body.ensures.stop)

pub read_for-returns-clause-ok : goal.read_for-returns-clause-ok
read_for-returns-clause-ok t c =
    let l : c.args.depth < 200 = let x = c.if-depth-ge-DEEPEST.false in omega arith in
    let o = word_opens words.For (Head ++ (A phrases.Statement ∷ [])) c.args.tokens.now c.args.place for_word c.requires.ended c.requires.within c.requires.here in
    for_is c.args.tokens.now c.args.place c.args.depth _ c.in_ok-head.head c.in_ok-body.body.body.value (statements.For c.into_inner.result c.into_inner-2.result c.into_inner-3.result c.in_ok-body.body.body) o l c.in_ok-head.ensures.ok c.in_ok-body.ensures.ok (for_from c.into_inner.ensures c.into_inner-2.ensures c.into_inner-3.ensures)

pub read_entry-returns-clause-ok : goal.read_entry-returns-clause-ok
read_entry-returns-clause-ok t c =
    let n : next_kind (drop c.args.place c.args.tokens.now) ≡ kinds.Keyword words.Int → ⊥ = λ e. c.is_word.ensures.no c.if-is_word.false (c.kind_at.ensures ∙ e) in
    map_ok c.read_statement.result (λ r w. entry_is c.args.tokens.now c.args.place c.args.depth r.next r.statement c.requires.within c.requires.depth c.requires.more n w) c.read_statement.ensures.ok

pub read_entry-returns-clause-stop : goal.read_entry-returns-clause-stop
read_entry-returns-clause-stop t c =
    let n : next_kind (drop c.args.place c.args.tokens.now) ≡ kinds.Keyword words.Int → ⊥ = λ e. c.is_word.ensures.no c.if-is_word.false (c.kind_at.ensures ∙ e) in
    let b = entry_before c.args.tokens.now c.args.place c.args.depth c.requires.within c.requires.depth c.requires.more n in
    map_err c.read_statement.result (λ s w. within_phrase b s w) c.read_statement.ensures.stop

pub read_entry-returns-clause-further : goal.read_entry-returns-clause-further
read_entry-returns-clause-further t c =
    map_ok c.read_statement.result (λ r w. let f = w.further in omega arith) c.read_statement.ensures.ok

pub read_entries-returns-then-is_mark-clause-ok : goal.read_entries-returns-then-is_mark-clause-ok
read_entries-returns-then-is_mark-clause-ok t c =
    let g = c.entries.invariant in
    let w = no_entries c.args.tokens.now c.entries.all.next c.args.depth g.continues.within c.requires.depth (sym c.kind_at.ensures ∙ c.is_mark.ensures.yes c.if-is_mark.true) in
    let v = continues_end g.continues w.derivation w.parted w.means in
    record { derivation = v.derivation; parted = v.parted; means = subst (λ z. MeansAll z v.derivation) (sym g.joined) v.means; further = v.further }

pub read_entries-entries-init : goal.read_entries-entries-init
read_entries-entries-init t c =
    subst (λ z. Gathers Items c.args.tokens.now c.args.place c.args.depth MeansAll [] c.args.place z) (sym c.new.ensures.items) (gathers_none Items c.args.tokens.now c.args.place c.args.depth MeansAll [] c.requires.within)

pub read_entries-entries-preserved : goal.read_entries-entries-preserved
read_entries-entries-preserved t c =
    gathers_next c.in_ok-entry.entry.statement c.entries.invariant c.in_ok-entry.ensures.ok c.in_ok-append.ensures.ok

pub read_block-returns-in_err-inner-clause-stop : goal.read_block-returns-in_err-inner-clause-stop
read_block-returns-in_err-inner-clause-stop t c =
    handed_on _ _ _ c.from_residual.ensures.1 (block_misfit c.args.tokens.now c.args.place c.args.depth c.in_err-inner.field-0.0 c.requires.within c.requires.depth c.in_err-inner.ensures.stop)

pub read_block-returns-then-depth-ge-DEEPEST-clause-stop : goal.read_block-returns-then-depth-ge-DEEPEST-clause-stop
read_block-returns-then-depth-ge-DEEPEST-clause-stop t c =
    let o = block_opens c.args.tokens.now c.args.place _ c.requires.within c.in_ok-inner.ensures.ok in
    too_deep c.args.depth o (let x = c.if-depth-ge-DEEPEST.true in omega arith)

pub read_block-returns-in_err-entries-clause-stop : goal.read_block-returns-in_err-entries-clause-stop
read_block-returns-in_err-entries-clause-stop t c =
    let l : c.args.depth < 200 = let x = c.if-depth-ge-DEEPEST.false in omega arith in
    let o = block_opens c.args.tokens.now c.args.place _ c.requires.within c.in_ok-inner.ensures.ok in
    let b0 = block_before c.args.depth o l in
    handed_on _ _ _ c.from_residual-in_err-entries.ensures.1 (within_phrase b0 c.in_err-entries.field-0.0 c.in_err-entries.ensures.stop)

pub read_block-returns-in_err-read_mark-clause-stop : goal.read_block-returns-in_err-read_mark-clause-stop
read_block-returns-in_err-read_mark-clause-stop t c =
    let l : c.args.depth < 200 = let x = c.if-depth-ge-DEEPEST.false in omega arith in
    let o = block_opens c.args.tokens.now c.args.place _ c.requires.within c.in_ok-inner.ensures.ok in
    let b0 = block_before c.args.depth o l in
    let b1 = past_phrase b0 c.in_ok-entries.ensures.ok.parted in
    handed_on _ _ _ c.from_residual-in_err-read_mark.ensures.1 (misfit b1 c.in_err-read_mark.field-0.0 c.in_err-read_mark.ensures.stop)

pub read_block-returns-clause-ok : goal.read_block-returns-clause-ok
read_block-returns-clause-ok t c =
    let l : c.args.depth < 200 = let x = c.if-depth-ge-DEEPEST.false in omega arith in
    let o = block_opens c.args.tokens.now c.args.place _ c.requires.within c.in_ok-inner.ensures.ok in
    braces_are c.args.tokens.now c.args.place _ c.args.depth _ _ c.in_ok-entries.entries.statements.items o l c.in_ok-entries.ensures.ok c.in_ok-read_mark.ensures.ok

pub read_statement-returns-in-Nothing-clause-stop : goal.read_statement-returns-in-Nothing-clause-stop
read_statement-returns-in-Nothing-clause-stop t c =
    no_statement c.args.tokens.now c.args.place c.args.depth c.requires.within c.requires.depth (subst (λ z. begins_simple z ≡ false) c.kind_at.ensures c.in-Nothing.ensures.0) (subst (λ z. parts_of phrases.Statement z ≡ Some (A phrases.Simple ∷ mark marks.Semicolon ∷ [])) c.kind_at.ensures c.in-Nothing.ensures.1)

pub read_entry-read_statement-requires : goal.read_entry-read_statement-requires
read_entry-read_statement-requires t c =
    (rank_falls (length c.args.tokens.now) c.args.place c.args.place 8 9 t c.decreases (omega arith) (omega arith), (c.requires.ended, (c.requires.within, c.requires.depth)))

pub read_entries-read_entry-requires : goal.read_entries-read_entry-requires
read_entries-read_entry-requires t c =
    let g = c.entries.invariant.continues in
    let f : c.args.place ≤ c.entries.all.next = g.further in
    (rank_falls (length c.args.tokens.now) c.args.place c.entries.all.next 9 10 t c.decreases f (omega arith), (c.requires.ended, (g.within, (c.requires.depth, (λ e. c.is_mark.ensures.no c.if-is_mark.false (c.kind_at.ensures ∙ e))))))

pub read_if-read_else-requires : goal.read_if-read_else-requires
read_if-read_else-requires t c =
    let p = c.in_ok-test.ensures.ok.parted in
    let f : c.args.place + 1 ≤ c.in_ok-test.test.next = p.further in
    let a = c.in_ok-chosen.ensures.ok in
    let g : c.in_ok-test.test.next + 1 ≤ c.in_ok-chosen.chosen.next = a.further in
    let h : c.args.place < c.in_ok-chosen.chosen.next = omega arith in
    let b : c.args.depth < 200 = let x = c.if-depth-ge-DEEPEST.false in omega arith in
    let d : c.args.depth + 1 ≤ 200 = omega arith in
    (further_falls (length c.args.tokens.now) c.args.place c.in_ok-chosen.chosen.next 10 7 t c.decreases c.requires.within h (omega arith), (c.requires.ended, (a.parted.within, d)))

pub read_if-read_body-requires : goal.read_if-read_body-requires
read_if-read_body-requires t c =
    let p = c.in_ok-test.ensures.ok.parted in
    let f : c.args.place + 1 ≤ c.in_ok-test.test.next = p.further in
    let h : c.args.place < c.in_ok-test.test.next = omega arith in
    let b : c.args.depth < 200 = let x = c.if-depth-ge-DEEPEST.false in omega arith in
    let d : c.args.depth + 1 ≤ 200 = omega arith in
    (further_falls (length c.args.tokens.now) c.args.place c.in_ok-test.test.next 9 7 t c.decreases c.requires.within h (omega arith), (c.requires.ended, (p.within, d)))

pub read_while-read_body-requires : goal.read_while-read_body-requires
read_while-read_body-requires t c =
    let p = c.in_ok-test.ensures.ok.parted in
    let f : c.args.place + 1 ≤ c.in_ok-test.test.next = p.further in
    let h : c.args.place < c.in_ok-test.test.next = omega arith in
    let b : c.args.depth < 200 = let x = c.if-depth-ge-DEEPEST.false in omega arith in
    let d : c.args.depth + 1 ≤ 200 = omega arith in
    (further_falls (length c.args.tokens.now) c.args.place c.in_ok-test.test.next 9 7 t c.decreases c.requires.within h (omega arith), (c.requires.ended, (p.within, d)))

pub read_for-read_body-requires : goal.read_for-read_body-requires
read_for-read_body-requires t c =
    let p = c.in_ok-head.ensures.ok.parted in
    let f : c.args.place + 1 ≤ c.in_ok-head.head.next = p.further in
    let h : c.args.place < c.in_ok-head.head.next = omega arith in
    let b : c.args.depth < 200 = let x = c.if-depth-ge-DEEPEST.false in omega arith in
    let d : c.args.depth + 1 ≤ 200 = omega arith in
    (further_falls (length c.args.tokens.now) c.args.place c.in_ok-head.head.next 9 7 t c.decreases c.requires.within h (omega arith), (c.requires.ended, (p.within, d)))

pub read_block-read_entries-requires : goal.read_block-read_entries-requires
read_block-read_entries-requires t c =
    let p = c.in_ok-inner.ensures.ok in
    let f : c.in_ok-inner.inner ≡ c.args.place + 1 = p.further in
    let h : c.args.place < c.in_ok-inner.inner = omega arith in
    let b : c.args.depth < 200 = let x = c.if-depth-ge-DEEPEST.false in omega arith in
    let d : c.args.depth + 1 ≤ 200 = omega arith in
    (further_falls (length c.args.tokens.now) c.args.place c.in_ok-inner.inner 10 6 t c.decreases c.requires.within h (omega arith), (c.requires.ended, (p.within, d)))

pub read_statement-read_for-requires : goal.read_statement-read_for-requires
read_statement-read_for-requires t c =
    (rank_falls (length c.args.tokens.now) c.args.place c.args.place 7 8 t c.decreases (omega arith) (omega arith), (c.requires.ended, (c.requires.within, (c.requires.depth, sym c.kind_at.ensures ∙ c.in-For.ensures))))

pub read_statement-read_do-requires : goal.read_statement-read_do-requires
read_statement-read_do-requires t c =
    (rank_falls (length c.args.tokens.now) c.args.place c.args.place 7 8 t c.decreases (omega arith) (omega arith), (c.requires.ended, (c.requires.within, (c.requires.depth, sym c.kind_at.ensures ∙ c.in-Do.ensures))))

pub read_statement-read_while-requires : goal.read_statement-read_while-requires
read_statement-read_while-requires t c =
    (rank_falls (length c.args.tokens.now) c.args.place c.args.place 7 8 t c.decreases (omega arith) (omega arith), (c.requires.ended, (c.requires.within, (c.requires.depth, sym c.kind_at.ensures ∙ c.in-While.ensures))))

pub read_statement-read_if-requires : goal.read_statement-read_if-requires
read_statement-read_if-requires t c =
    (rank_falls (length c.args.tokens.now) c.args.place c.args.place 7 8 t c.decreases (omega arith) (omega arith), (c.requires.ended, (c.requires.within, (c.requires.depth, sym c.kind_at.ensures ∙ c.in-If.ensures))))

pub read_statement-read_inner_block-requires : goal.read_statement-read_inner_block-requires
read_statement-read_inner_block-requires t c =
    (rank_falls (length c.args.tokens.now) c.args.place c.args.place 7 8 t c.decreases (omega arith) (omega arith), (c.requires.ended, (c.requires.within, (c.requires.depth, sym c.kind_at.ensures ∙ c.in-Block.ensures))))

pub read_body-read_statement-requires : goal.read_body-read_statement-requires
read_body-read_statement-requires t c =
    (rank_falls (length c.args.tokens.now) c.args.place c.args.place 8 9 t c.decreases (omega arith) (omega arith), (c.requires.ended, (c.requires.within, c.requires.depth)))

pub read_inner_block-read_block-requires : goal.read_inner_block-read_block-requires
read_inner_block-read_block-requires t c =
    (rank_falls (length c.args.tokens.now) c.args.place c.args.place 6 7 t c.decreases (omega arith) (omega arith), (c.requires.ended, (c.requires.within, c.requires.depth)))

pub read_block-read_mark-requires-2-clause-ended : goal.read_block-read_mark-requires-2-clause-ended
read_block-read_mark-requires-2-clause-ended t c = c.requires.ended

pub read_block-read_mark-requires-2-clause-within : goal.read_block-read_mark-requires-2-clause-within
read_block-read_mark-requires-2-clause-within t c = c.in_ok-entries.ensures.ok.parted.within

pub read_block-read_mark-requires-clause-ended : goal.read_block-read_mark-requires-clause-ended
read_block-read_mark-requires-clause-ended t c = c.requires.ended

pub read_block-read_mark-requires-clause-within : goal.read_block-read_mark-requires-clause-within
read_block-read_mark-requires-clause-within t c = c.requires.within

pub read_do-read_mark-requires-clause-ended : goal.read_do-read_mark-requires-clause-ended
read_do-read_mark-requires-clause-ended t c = c.requires.ended

pub read_do-read_mark-requires-clause-within : goal.read_do-read_mark-requires-clause-within
read_do-read_mark-requires-clause-within t c = c.in_ok-test.ensures.ok.parted.within

pub read_do-read_test-requires-clause-ended : goal.read_do-read_test-requires-clause-ended
read_do-read_test-requires-clause-ended t c = c.requires.ended

pub read_do-read_test-requires-clause-within : goal.read_do-read_test-requires-clause-within
read_do-read_test-requires-clause-within t c = c.in_ok-test_place.ensures.ok.within

pub read_do-read_word-requires-clause-ended : goal.read_do-read_word-requires-clause-ended
read_do-read_word-requires-clause-ended t c = c.requires.ended

pub read_do-read_word-requires-clause-within : goal.read_do-read_word-requires-clause-within
read_do-read_word-requires-clause-within t c = c.in_ok-body.ensures.ok.parted.within

pub read_entry-read_declaration-requires-clause-depth : goal.read_entry-read_declaration-requires-clause-depth
read_entry-read_declaration-requires-clause-depth t c = c.requires.depth

pub read_entry-read_declaration-requires-clause-ended : goal.read_entry-read_declaration-requires-clause-ended
read_entry-read_declaration-requires-clause-ended t c = c.requires.ended

pub read_entry-read_declaration-requires-clause-within : goal.read_entry-read_declaration-requires-clause-within
read_entry-read_declaration-requires-clause-within t c = c.requires.within

pub read_for-read_head-requires-clause-ended : goal.read_for-read_head-requires-clause-ended
read_for-read_head-requires-clause-ended t c = c.requires.ended

pub read_if-read_test-requires-clause-ended : goal.read_if-read_test-requires-clause-ended
read_if-read_test-requires-clause-ended t c = c.requires.ended

pub read_statement-read_break-requires-clause-depth : goal.read_statement-read_break-requires-clause-depth
read_statement-read_break-requires-clause-depth t c = c.requires.depth

pub read_statement-read_break-requires-clause-ended : goal.read_statement-read_break-requires-clause-ended
read_statement-read_break-requires-clause-ended t c = c.requires.ended

pub read_statement-read_break-requires-clause-within : goal.read_statement-read_break-requires-clause-within
read_statement-read_break-requires-clause-within t c = c.requires.within

pub read_statement-read_continue-requires-clause-depth : goal.read_statement-read_continue-requires-clause-depth
read_statement-read_continue-requires-clause-depth t c = c.requires.depth

pub read_statement-read_continue-requires-clause-ended : goal.read_statement-read_continue-requires-clause-ended
read_statement-read_continue-requires-clause-ended t c = c.requires.ended

pub read_statement-read_continue-requires-clause-within : goal.read_statement-read_continue-requires-clause-within
read_statement-read_continue-requires-clause-within t c = c.requires.within

pub read_statement-read_empty-requires-clause-depth : goal.read_statement-read_empty-requires-clause-depth
read_statement-read_empty-requires-clause-depth t c = c.requires.depth

pub read_statement-read_empty-requires-clause-ended : goal.read_statement-read_empty-requires-clause-ended
read_statement-read_empty-requires-clause-ended t c = c.requires.ended

pub read_statement-read_empty-requires-clause-within : goal.read_statement-read_empty-requires-clause-within
read_statement-read_empty-requires-clause-within t c = c.requires.within

pub read_statement-read_print-requires-clause-depth : goal.read_statement-read_print-requires-clause-depth
read_statement-read_print-requires-clause-depth t c = c.requires.depth

pub read_statement-read_print-requires-clause-ended : goal.read_statement-read_print-requires-clause-ended
read_statement-read_print-requires-clause-ended t c = c.requires.ended

pub read_statement-read_print-requires-clause-within : goal.read_statement-read_print-requires-clause-within
read_statement-read_print-requires-clause-within t c = c.requires.within

pub read_statement-read_return-requires-clause-depth : goal.read_statement-read_return-requires-clause-depth
read_statement-read_return-requires-clause-depth t c = c.requires.depth

pub read_statement-read_return-requires-clause-ended : goal.read_statement-read_return-requires-clause-ended
read_statement-read_return-requires-clause-ended t c = c.requires.ended

pub read_statement-read_return-requires-clause-within : goal.read_statement-read_return-requires-clause-within
read_statement-read_return-requires-clause-within t c = c.requires.within

pub read_statement-read_simple_statement-requires-clause-depth : goal.read_statement-read_simple_statement-requires-clause-depth
read_statement-read_simple_statement-requires-clause-depth t c = c.requires.depth

pub read_statement-read_simple_statement-requires-clause-ended : goal.read_statement-read_simple_statement-requires-clause-ended
read_statement-read_simple_statement-requires-clause-ended t c = c.requires.ended

pub read_statement-read_simple_statement-requires-clause-within : goal.read_statement-read_simple_statement-requires-clause-within
read_statement-read_simple_statement-requires-clause-within t c = c.requires.within

pub read_while-read_test-requires-clause-ended : goal.read_while-read_test-requires-clause-ended
read_while-read_test-requires-clause-ended t c = c.requires.ended

pub read_statement-returns-in-Block-clause-ok : goal.read_statement-returns-in-Block-clause-ok
read_statement-returns-in-Block-clause-ok t c = c.read_inner_block.ensures.ok

pub read_statement-returns-in-Block-clause-stop : goal.read_statement-returns-in-Block-clause-stop
read_statement-returns-in-Block-clause-stop t c = c.read_inner_block.ensures.stop

pub read_statement-returns-in-Empty-clause-ok : goal.read_statement-returns-in-Empty-clause-ok
read_statement-returns-in-Empty-clause-ok t c = c.read_empty.ensures.ok

pub read_statement-returns-in-Empty-clause-stop : goal.read_statement-returns-in-Empty-clause-stop
read_statement-returns-in-Empty-clause-stop t c = c.read_empty.ensures.stop

pub read_statement-returns-in-If-clause-ok : goal.read_statement-returns-in-If-clause-ok
read_statement-returns-in-If-clause-ok t c = c.read_if.ensures.ok

pub read_statement-returns-in-If-clause-stop : goal.read_statement-returns-in-If-clause-stop
read_statement-returns-in-If-clause-stop t c = c.read_if.ensures.stop

pub read_statement-returns-in-While-clause-ok : goal.read_statement-returns-in-While-clause-ok
read_statement-returns-in-While-clause-ok t c = c.read_while.ensures.ok

pub read_statement-returns-in-While-clause-stop : goal.read_statement-returns-in-While-clause-stop
read_statement-returns-in-While-clause-stop t c = c.read_while.ensures.stop

pub read_statement-returns-in-Do-clause-ok : goal.read_statement-returns-in-Do-clause-ok
read_statement-returns-in-Do-clause-ok t c = c.read_do.ensures.ok

pub read_statement-returns-in-Do-clause-stop : goal.read_statement-returns-in-Do-clause-stop
read_statement-returns-in-Do-clause-stop t c = c.read_do.ensures.stop

pub read_statement-returns-in-For-clause-ok : goal.read_statement-returns-in-For-clause-ok
read_statement-returns-in-For-clause-ok t c = c.read_for.ensures.ok

pub read_statement-returns-in-For-clause-stop : goal.read_statement-returns-in-For-clause-stop
read_statement-returns-in-For-clause-stop t c = c.read_for.ensures.stop

pub read_statement-returns-in-Break-clause-ok : goal.read_statement-returns-in-Break-clause-ok
read_statement-returns-in-Break-clause-ok t c = c.read_break.ensures.ok

pub read_statement-returns-in-Break-clause-stop : goal.read_statement-returns-in-Break-clause-stop
read_statement-returns-in-Break-clause-stop t c = c.read_break.ensures.stop

pub read_statement-returns-in-Continue-clause-ok : goal.read_statement-returns-in-Continue-clause-ok
read_statement-returns-in-Continue-clause-ok t c = c.read_continue.ensures.ok

pub read_statement-returns-in-Continue-clause-stop : goal.read_statement-returns-in-Continue-clause-stop
read_statement-returns-in-Continue-clause-stop t c = c.read_continue.ensures.stop

pub read_statement-returns-in-Return-clause-ok : goal.read_statement-returns-in-Return-clause-ok
read_statement-returns-in-Return-clause-ok t c = c.read_return.ensures.ok

pub read_statement-returns-in-Return-clause-stop : goal.read_statement-returns-in-Return-clause-stop
read_statement-returns-in-Return-clause-stop t c = c.read_return.ensures.stop

pub read_statement-returns-in-Print-clause-ok : goal.read_statement-returns-in-Print-clause-ok
read_statement-returns-in-Print-clause-ok t c = c.read_print.ensures.ok

pub read_statement-returns-in-Print-clause-stop : goal.read_statement-returns-in-Print-clause-stop
read_statement-returns-in-Print-clause-stop t c = c.read_print.ensures.stop

pub read_statement-returns-in-Simple-clause-ok : goal.read_statement-returns-in-Simple-clause-ok
read_statement-returns-in-Simple-clause-ok t c = c.read_simple_statement.ensures.ok

pub read_statement-returns-in-Simple-clause-stop : goal.read_statement-returns-in-Simple-clause-stop
read_statement-returns-in-Simple-clause-stop t c = c.read_simple_statement.ensures.stop

pub read_statement-read_empty-requires-clause-here : goal.read_statement-read_empty-requires-clause-here
read_statement-read_empty-requires-clause-here t c = sym c.kind_at.ensures ∙ c.in-Empty.ensures

pub read_statement-read_break-requires-clause-here : goal.read_statement-read_break-requires-clause-here
read_statement-read_break-requires-clause-here t c = sym c.kind_at.ensures ∙ c.in-Break.ensures

pub read_statement-read_continue-requires-clause-here : goal.read_statement-read_continue-requires-clause-here
read_statement-read_continue-requires-clause-here t c = sym c.kind_at.ensures ∙ c.in-Continue.ensures

pub read_statement-read_return-requires-clause-here : goal.read_statement-read_return-requires-clause-here
read_statement-read_return-requires-clause-here t c = sym c.kind_at.ensures ∙ c.in-Return.ensures

pub read_statement-read_print-requires-clause-name : goal.read_statement-read_print-requires-clause-name
read_statement-read_print-requires-clause-name t c = subst (Fits AName) c.kind_at.ensures c.in-Print.ensures.0

pub read_statement-read_print-requires-clause-here : goal.read_statement-read_print-requires-clause-here
read_statement-read_print-requires-clause-here t c = subst (λ z. parts_of phrases.Statement z ≡ Some (A phrases.Print ∷ mark marks.Semicolon ∷ [])) c.kind_at.ensures c.in-Print.ensures.1

pub read_statement-read_simple_statement-requires-clause-begins : goal.read_statement-read_simple_statement-requires-clause-begins
read_statement-read_simple_statement-requires-clause-begins t c = subst (λ z. begins_simple z ≡ true) c.kind_at.ensures c.in-Simple.ensures.0

pub read_statement-read_simple_statement-requires-clause-here : goal.read_statement-read_simple_statement-requires-clause-here
read_statement-read_simple_statement-requires-clause-here t c = subst (λ z. parts_of phrases.Statement z ≡ Some (A phrases.Simple ∷ mark marks.Semicolon ∷ [])) c.kind_at.ensures c.in-Simple.ensures.1

pub read_entry-returns-then-is_word-clause-ok : goal.read_entry-returns-then-is_word-clause-ok
read_entry-returns-then-is_word-clause-ok t c = c.read_declaration.ensures.ok

pub read_entry-returns-then-is_word-clause-stop : goal.read_entry-returns-then-is_word-clause-stop
read_entry-returns-then-is_word-clause-stop t c = c.read_declaration.ensures.stop

pub read_entry-returns-then-is_word-clause-further : goal.read_entry-returns-then-is_word-clause-further
read_entry-returns-then-is_word-clause-further t c = c.read_declaration.ensures.further

pub read_entry-read_declaration-requires-clause-here : goal.read_entry-read_declaration-requires-clause-here
read_entry-read_declaration-requires-clause-here t c = sym c.kind_at.ensures ∙ c.is_word.ensures.yes c.if-is_word.true

pub read_statement-kind_at-requires : goal.read_statement-kind_at-requires
read_statement-kind_at-requires t c = c.requires.within

pub read_entry-kind_at-requires : goal.read_entry-kind_at-requires
read_entry-kind_at-requires t c = c.requires.within

pub read_else-kind_at-requires : goal.read_else-kind_at-requires
read_else-kind_at-requires t c = c.requires.within

pub read_entries-kind_at-requires : goal.read_entries-kind_at-requires
read_entries-kind_at-requires t c = c.entries.invariant.continues.within

pub read_body-returns-in_err-boxed-clause-stop : goal.read_body-returns-in_err-boxed-clause-stop
read_body-returns-in_err-boxed-clause-stop t c = handed_on _ _ _ c.from_residual-in_err-boxed.ensures.1 (no_memory _ _ _ _ _ _ c.in_err-boxed.ensures.stop)

pub read_entries-returns-in_err-append-clause-stop : goal.read_entries-returns-in_err-append-clause-stop
read_entries-returns-in_err-append-clause-stop t c = handed_on _ _ _ c.from_residual-in_err-append.ensures.1 (no_memory _ _ _ _ _ _ c.in_err-append.ensures.stop)

pub read_block-overflow_add-depth : goal.read_block-overflow_add-depth
read_block-overflow_add-depth t c = deeper_fits c.args.depth c.requires.depth

pub read_do-overflow_add-depth : goal.read_do-overflow_add-depth
read_do-overflow_add-depth t c = deeper_fits c.args.depth c.requires.depth

pub read_do-overflow_add-depth-2 : goal.read_do-overflow_add-depth-2
read_do-overflow_add-depth-2 t c = deeper_fits c.args.depth c.requires.depth

pub read_for-overflow_add-depth : goal.read_for-overflow_add-depth
read_for-overflow_add-depth t c = deeper_fits c.args.depth c.requires.depth

pub read_for-overflow_add-depth-2 : goal.read_for-overflow_add-depth-2
read_for-overflow_add-depth-2 t c = deeper_fits c.args.depth c.requires.depth

pub read_if-overflow_add-depth : goal.read_if-overflow_add-depth
read_if-overflow_add-depth t c = deeper_fits c.args.depth c.requires.depth

pub read_if-overflow_add-depth-2 : goal.read_if-overflow_add-depth-2
read_if-overflow_add-depth-2 t c = deeper_fits c.args.depth c.requires.depth

pub read_if-overflow_add-depth-3 : goal.read_if-overflow_add-depth-3
read_if-overflow_add-depth-3 t c = deeper_fits c.args.depth c.requires.depth

pub read_while-overflow_add-depth : goal.read_while-overflow_add-depth
read_while-overflow_add-depth t c = deeper_fits c.args.depth c.requires.depth

pub read_while-overflow_add-depth-2 : goal.read_while-overflow_add-depth-2
read_while-overflow_add-depth-2 t c = deeper_fits c.args.depth c.requires.depth
