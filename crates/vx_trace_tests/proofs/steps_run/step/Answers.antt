use Rattle.std.proofs.Common.{sym, subst}
use Rattle.vx_region.specs.Regions.{IsGraphOf, ReplacesOne}
use Rattle.vx_trace_tests.proofs.steps_run.step.Goals as goal

pub returns-in-Finished : goal.returns-in-Finished
returns-in-Finished c =
    let machine = c.args.machine.now in
    let finished = rw c.in-Finished.is at c.in_ok-replace_one.ensures.finished in
    (c.requires.0, subst (IsGraphOf machine c.requires.0) (sym finished.1) c.requires.1)

pub returns-in-Replaced : goal.returns-in-Replaced
returns-in-Replaced c =
    let machine = c.args.machine.now in
    let counts = c.args.counts.now in
    let cap = c.args.budget.now.cap in
    let used = c.args.budget.now.used in
    let more = c.replace_one.new.budget.used in
    let m = c.args.mixed.now in
    let next = c.replace_one.new.mixed in
    let one : ReplacesOne machine counts cap m used c.in-Replaced.plan next more = rw c.in-Replaced.is at c.in_ok-replace_one.ensures.replaced in
    (c.requires.0, (c.steps_keep_the_graph.ensures machine counts cap used more c.requires.0 m next c.in-Replaced.plan c.keeps_valid.ensures c.requires.1 one).2)
