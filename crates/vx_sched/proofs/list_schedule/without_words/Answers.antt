use Rattle.std.proofs.Common.{◌≡◌, ◌+◌, ◌∷◌, [], None, length, ap, arith, ◌∙◌}
use Rattle.std.proofs.lemmas.List.{length-append}
use Rattle.vx_sched.proofs.RowSteps.{one_more_without}
use Rattle.vx_sched.proofs.list_schedule.without_words.Goals as goal

pub loop-words-preserved : goal.loop-words-preserved
loop-words-preserved c =
    let words = c.loop-words.words.items in
    let more = c.in_ok-push.ensures.items in
    let longer : length c.push.new.self.items ≡ length words + 1 = ap length more ∙ length-append words (None ∷ []) in
    let test = c.loop-words-test.true in
    let here = c.len.ensures in
    (one_more_without words c.push.new.self.items c.loop-words.invariant.0 more, omega (arith, longer, test, here))
