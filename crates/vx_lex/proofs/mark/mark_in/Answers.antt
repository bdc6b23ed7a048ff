use Rattle.std.proofs.Common.{◌∙◌, ℕ, Bool, List, length, nat_eq, ap, sym}
use Rattle.std.specs.Borrow.{Bor}
use Rattle.std.specs.List.{starts_with}
use Rattle.vx_ast.specs.declared.token.Mark.{Mark}
use Rattle.vx_lex.proofs.Found.{found_on, found_none}
use Rattle.vx_lex.proofs.mark.mark_in.Goals as goal

abbrev entry : Bor (List ℕ) × Mark → List ℕ × Mark
entry m = (m.0.now, m.1)

abbrev begins : List ℕ → List ℕ × Mark → Bool
begins text m = starts_with nat_eq text m.0

abbrev counted : List ℕ × Mark → Mark × ℕ
counted m = (m.1, length m.0)

pub loop-entry-preserved : goal.loop-entry-preserved
loop-entry-preserved c =
    found_on entry (begins c.args.text.now) counted c.args.table.now c.loop-entry.entry-index _ c.loop-entry-test.true c.loop-entry.invariant
    (sym (c.starts_with.ensures.value ∙ ap (starts_with nat_eq c.args.text.now) c.as_bytes.ensures.value) ∙ c.if-starts_with.false)

pub returns : goal.returns
returns c = found_none entry (begins c.args.text.now) counted c.args.table.now c.loop-entry.entry-index c.loop-entry-test.false c.loop-entry.invariant
