use Rattle.std.proofs.Common.{◌≡◌, false, ap, arith}
use Rattle.vx_isa.specs.declared.program.Word.{Word}
use Rattle.vx_isa.specs.Numbers.{Numbers}
use Rattle.vx_isa.specs.Fits.{fits}
use Rattle.vx_isa.specs.Machine.{issuing_machine}
use Rattle.vx_check.specs.Checked.{IsUnfit}
use Rattle.vx_check.proofs.Passing.{one_more}
use Rattle.vx_check.proofs.Reaches.{same_word, there_word}
use Rattle.vx_check.proofs.strictness.first_unfit.Goals as goal

pub places-preserved : goal.places-preserved
places-preserved c = one_more (IsUnfit c.args.machine.now c.args.program.now) c.places.place c.places.invariant
    (λ unfit.
    let e = same_word c.args.program.now c.places.place unfit.0 c.word_at.result.now unfit.1 c.word_at.ensures in
    let no = ap (λ (z : Word). fits (issuing_machine c.args.program.now c.args.machine.now) z.ops) e in
    let by = ap (λ (k : Numbers). fits k c.word_at.result.now.ops) c.for_version-issuing.ensures in
    let wrong = unfit.2 in
    let right = c.if-not-fits.false in
    let is = c.fits.ensures in
    absurd (cc))

pub returns-then-not-fits : goal.returns-then-not-fits
returns-then-not-fits c =
    let word = c.word_at.result.now in
    let by = ap (λ (k : Numbers). fits k word.ops) c.for_version-issuing.ensures in
    let no = c.if-not-fits.true in
    let is = c.fits.ensures in
    let wrong : fits (issuing_machine c.args.program.now c.args.machine.now) word.ops ≡ false = cc in
    record { here = (word, c.word_at.ensures, wrong); first = c.places.invariant }

pub returns : goal.returns
returns c = λ q unfit.
    let few = there_word c.args.program.now.words q unfit.0 unfit.1 in
    let len = c.len-place-end.ensures.len in
    let over = c.places-test.false in
    c.places.invariant q (omega arith) unfit
