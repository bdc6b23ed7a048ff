use Rattle.std.proofs.Common.{◌≡◌, ◌∙◌, IfOk, ap, subst, sym}
use Rattle.std.proofs.lemmas.Bool.{eq-eqb}
use Rattle.vx_ast.specs.declared.token.Piece.{Piece}
use Rattle.vx_ast.specs.Tokens.{is_blank, is_digit, is_letter}
use Rattle.vx_lex.proofs.Firsts.{word_first, string_first}
use Rattle.vx_lex.proofs.piece.first_piece.Goals as goal

pub returns-then-is_letter : goal.returns-then-is_letter
returns-then-is_letter c =
    subst (λ (p : Piece). IfOk c.word_piece.result (λ piece. piece ≡ p))
    (word_first c.args.text.now (ap is_blank (sym c.byte_at-first.ensures) ∙ sym c.is_blank.ensures ∙ c.if-is_blank.false)
    (sym c.starts_with.ensures.value ∙ c.if-starts_with.false) (sym c.starts_with-else-starts_with.ensures.value ∙ c.if-starts_with-2.false)
    (ap is_letter (sym c.byte_at-first.ensures) ∙ sym c.is_letter.ensures ∙ c.if-is_letter.true))
    c.word_piece.ensures

pub returns-then-first-eq34 : goal.returns-then-first-eq34
returns-then-first-eq34 c =
    subst (λ (p : Piece). IfOk c.string_piece.result (λ piece. piece ≡ p))
    (string_first c.args.text.now (ap is_blank (sym c.byte_at-first.ensures) ∙ sym c.is_blank.ensures ∙ c.if-is_blank.false)
    (sym c.starts_with.ensures.value ∙ c.if-starts_with.false) (sym c.starts_with-else-starts_with.ensures.value ∙ c.if-starts_with-2.false)
    (ap is_letter (sym c.byte_at-first.ensures) ∙ sym c.is_letter.ensures ∙ c.if-is_letter.false) (sym c.begins_hex.ensures ∙ c.if-begins_hex.false)
    (ap is_digit (sym c.byte_at-first.ensures) ∙ sym c.is_digit.ensures ∙ c.if-is_digit.false) (eq-eqb _ _ (sym c.byte_at-first.ensures ∙ c.if-first-eq34.true)))
    c.string_piece.ensures
