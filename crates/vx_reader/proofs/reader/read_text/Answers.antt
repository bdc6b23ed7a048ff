-- A text without the last line.
use Rattle.std.proofs.Common.{◌∙◌, arith, sym, subst}
use Rattle.vx_reader.specs.Text.{Reads, reading}
use Rattle.vx_reader.proofs.Taken.{if_ok, reading_is, when_false}
use Rattle.vx_reader.proofs.reader.read_text.Goals as goal

pub returns-then-not-ends_with-clause-exact : goal.returns-then-not-ends_with-clause-exact
unfolding reading
returns-then-not-ends_with-clause-exact c = when_false _ _ _ (sym c.ends_with.ensures.value ∙ c.if-not-ends_with.true)

pub returns-clause-small : goal.returns-clause-small
returns-clause-small c = if_ok c.finish.result (omega (arith, c.if-bytes-ge4294967290.false))

pub returns-clause-exact : goal.returns-clause-exact
returns-clause-exact c =
    let whole = reading_is c.args.bytes.now c.as_slice.result.now c.count_words-total.result c.in_ok-before.number c.in_ok-before.before (sym c.ends_with.ensures.value ∙ c.if-not-ends_with.false) (c.as_slice.ensures.value ∙ c.in_ok-marks.ensures) c.count_words-total.ensures.count c.in_ok-before.ensures.before c.in_ok-before.ensures.number in
    subst (λ read. Reads (λ w. w) c.finish.result read) whole c.finish.ensures
