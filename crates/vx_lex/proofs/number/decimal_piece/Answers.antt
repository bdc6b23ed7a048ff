use Rattle.std.proofs.Common.{◌∙◌}
use Rattle.vx_lex.proofs.Numbers.{decimal_zero, decimal_number}
use Rattle.vx_lex.proofs.number.decimal_piece.Goals as goal

pub returns-then-byte_at-eq48 : goal.returns-then-byte_at-eq48
returns-then-byte_at-eq48 c = c.number_of.ensures ∙ decimal_zero c.args.text.now c.byte_at.result c.byte_at.ensures c.if-byte_at-eq48.true

pub returns : goal.returns
returns c =
    c.number_of-2.ensures ∙ decimal_number c.args.text.now c.byte_at.result c.digits_length-count.result _ c.byte_at.ensures c.if-byte_at-eq48.false c.digits_length-count.ensures.count c.capped_value.ensures
