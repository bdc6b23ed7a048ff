use Rattle.std.proofs.Common.{◌∙◌, ℕ, Bool, List, nat_eq, ap, sym}
use Rattle.std.specs.Borrow.{Bor}
use Rattle.std.specs.Cmp.Lexicographic.{pointwise}
use Rattle.vx_ast.specs.declared.token.Keyword.{Keyword}
use Rattle.vx_lex.proofs.Found.{found_on, found_here, found_none}
use Rattle.vx_lex.proofs.word.keyword_in.Goals as goal

abbrev entry : Bor (List ℕ) × Keyword → List ℕ × Keyword
entry k = (k.0.now, k.1)

abbrev is_spelled : List ℕ → List ℕ × Keyword → Bool
is_spelled name k = pointwise nat_eq name k.0

abbrev keyword : List ℕ × Keyword → Keyword
keyword k = k.1

pub returns-then-eq : goal.returns-then-eq
returns-then-eq c =
    found_here entry (is_spelled c.args.name.now) keyword c.args.table.now c.loop-entry.entry-index _ c.loop-entry-test.true c.loop-entry.invariant
    (sym (c.eq.ensures ∙ ap (pointwise nat_eq c.args.name.now) c.as_bytes.ensures.value) ∙ c.if-eq.true)

pub loop-entry-preserved : goal.loop-entry-preserved
loop-entry-preserved c =
    found_on entry (is_spelled c.args.name.now) keyword c.args.table.now c.loop-entry.entry-index _ c.loop-entry-test.true c.loop-entry.invariant
    (sym (c.eq.ensures ∙ ap (pointwise nat_eq c.args.name.now) c.as_bytes.ensures.value) ∙ c.if-eq.false)

pub returns : goal.returns
returns c = found_none entry (is_spelled c.args.name.now) keyword c.args.table.now c.loop-entry.entry-index c.loop-entry-test.false c.loop-entry.invariant
