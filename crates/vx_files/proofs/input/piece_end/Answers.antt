use Rattle.std.proofs.Common.{ap, not, sym, ◌∙◌, arith}
use Rattle.std.proofs.lemmas.List.Sums.{prefix_len-drop_yes, prefix_len-drop_no, prefix_len-drop_all, prefix_len-le-length}
use Rattle.vx_files.specs.InputText.{is_no_blank}
use Rattle.vx_files.proofs.input.piece_end.Goals as goal

pub loop-place-init : goal.loop-place-init
loop-place-init c = omega arith

pub returns-then-blank-clause-end : goal.returns-then-blank-clause-end
returns-then-blank-clause-end c = omega (arith, c.loop-place.invariant, prefix_len-drop_no is_no_blank c.args.text.now c.loop-place.place 0 c.loop-place-test.true (ap not (sym c.blank.ensures ∙ c.if-blank.true)))

pub loop-place-preserved : goal.loop-place-preserved
loop-place-preserved c = omega (arith, c.loop-place.invariant, prefix_len-drop_yes is_no_blank c.args.text.now c.loop-place.place 0 c.loop-place-test.true (ap not (sym c.blank.ensures ∙ c.if-blank.false)))

pub returns-clause-end : goal.returns-clause-end
returns-clause-end c =
    omega (arith, c.loop-place.invariant, prefix_len-drop_all is_no_blank c.args.text.now c.loop-place.place c.loop-place-test.false, prefix_len-le-length is_no_blank c.args.text.now)
