-- Each turn reads one digit more.
use Rattle.std.proofs.Common.{◌∙◌, ◌+◌, ◌*◌, min, ap, sym, arith}
use Rattle.vx_reader.proofs.Taken.{number_more, number_stop, number_end}
use Rattle.vx_reader.proofs.fields.capped_at.Goals as goal

pub returns-then-not-is_digit-clause-value : goal.returns-then-not-is_digit-clause-value
returns-then-not-is_digit-clause-value c =
    ap (λ w. w.0) (number_stop c.args.text.now c.args.most c.loop-place.value c.loop-place.place _ c.loop-place.invariant.same (sym c.is_digit.ensures ∙ c.if-not-is_digit.true) c.loop-place-test.true)

pub loop-place-preserved : goal.loop-place-preserved
loop-place-preserved c =
    let is = c.min-value.ensures ∙ (λ k. min (10 * c.from.ensures k + c.from-in-loop-place.ensures k) (c.from-in-loop-place-2.ensures k)) in record {
      bound = omega (arith, is);
      same = number_more c.args.text.now c.args.most c.loop-place.value c.min-value.result c.loop-place.place _ c.loop-place.invariant.same is (sym c.is_digit.ensures ∙ c.if-not-is_digit.false) c.loop-place-test.true;
    }

pub returns-clause-value : goal.returns-clause-value
returns-clause-value c = ap (λ w. w.0) (number_end c.args.text.now c.args.most c.loop-place.value c.loop-place.place _ c.loop-place.invariant.same c.loop-place-test.false)

pub returns-clause-rest : goal.returns-clause-rest
returns-clause-rest c = ap (λ w. w.1) (number_end c.args.text.now c.args.most c.loop-place.value c.loop-place.place _ c.loop-place.invariant.same c.loop-place-test.false)
