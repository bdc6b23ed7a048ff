use Rattle.std.proofs.Common.{cond, nat_lt, length, ap, ◌≡◌, ◌∙◌, sym}
use Rattle.std.proofs.lemmas.Bool.{lt-ltb, le-ltb}
use Rattle.vx_lex.proofs.Numbers.{hex_long, hex_faulty, hex_number}
use Rattle.vx_lex.proofs.number.hex_piece.Goals.{then-text-gt2, else-text-gt2}
use Rattle.vx_lex.proofs.number.hex_piece.Goals as goal

pub skip-behind-requires : goal.skip-behind-requires
skip-behind-requires c = hex_long c.args.text.now c.requires

pub returns-then-count-eq0 : goal.returns-then-count-eq0
returns-then-count-eq0 c =
    let place : c.if-text-gt2.result ≡ cond (nat_lt 2 (length c.args.text.now)) 2 1
    = elim c.if-text-gt2.branch [
      | then-text-gt2 w ↦ w.result-is ∙ sym (ap (λ t. cond t 2 1) (lt-ltb 2 (length c.args.text.now) w.if-text-gt2.true))
      | else-text-gt2 w ↦ w.result-is ∙ sym (ap (λ t. cond t 2 1) (le-ltb 2 (length c.args.text.now) w.if-text-gt2.false))
    ] in
    hex_faulty c.args.text.now c.skip-behind.result.now c.hex_digits_length-count.result _ c.skip-behind.ensures c.hex_digits_length-count.ensures.count c.if-count-eq0.true place

pub returns : goal.returns
returns c =
    c.number_of.ensures
    ∙ hex_number c.args.text.now c.skip-behind.result.now c.hex_digits_length-count.result _ c.skip-behind.ensures c.hex_digits_length-count.ensures.count c.if-count-eq0.false c.capped_value.ensures
