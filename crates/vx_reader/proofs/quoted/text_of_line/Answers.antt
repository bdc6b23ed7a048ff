-- The bytes of what stands between the quotes.
use Rattle.std.proofs.Common.{◌≡◌, ◌∙◌, ◌-◌, length, take, ap, sym, arith}
use Rattle.std.proofs.lemmas.Bool.Decides.{nat_tests}
use Rattle.std.proofs.lemmas.List.{take_all}
use Rattle.vx_reader.proofs.Taken.{unquoted_is}
use Rattle.vx_reader.proofs.quoted.text_of_line.Goals as goal
use Rattle.vx_reader.proofs.quoted.text_of_line.Goals.{then-is_empty, else-is_empty}

pub returns : goal.returns
returns c =
    let rest = c.skip-rest.result.now in
    let inner : c.if-is_empty.inner.now ≡ take (length rest - 1) rest = elim c.if-is_empty.branch [
      | then-is_empty w ↦ ap (λ b. b.now) w.inner-is ∙ sym (take_all (length rest - 1) rest (grind (arith, nat_tests, c.is_empty.ensures, w.if-is_empty.true)))
      | else-is_empty w ↦ ap (λ b. b.now) w.inner-is
    ] in
    unquoted_is c.args.line.now rest c.if-is_empty.inner.now c.in_ok-from_vec.field-0 c.skip-rest.ensures inner (c.in_ok-from_vec.ensures ∙ c.in_ok-unquoted_bytes.ensures)
