-- Each turn puts the line of one operation more.
use Rattle.std.proofs.Common.{◌∙◌, ◌++◌, ℕ, refl, ap}
use Rattle.vx_dep.specs.Compensation.{word_at}
use Rattle.vx_report.specs.Report.{op_line, ops_text}
use Rattle.vx_report.proofs.Pieces.{placed_all, placed_more}
use Rattle.vx_report.proofs.text.push_ops.Goals as goal

pub loop-place-preserved : goal.loop-place-preserved
loop-place-preserved c =
    let words = c.args.words.now in
    let clusters = c.args.clusters.now in
    let place = c.loop-place.place in
    let out = c.loop-place.out.items in
    placed_more (ops_text words clusters) out _ c.args.ops.now place c.loop-place.invariant c.push_op.new.out.items (op_line place (word_at words place) (word_at clusters place)) c.index-ops-place.result c.loop-place-test.true refl
    (c.in_ok-push_op.ensures
    ∙ ap (λ (n : ℕ). out ++ op_line place n c.number_at-in-loop-place.result) c.number_at.ensures
    ∙ ap (λ (n : ℕ). out ++ op_line place (word_at words place) n) c.number_at-in-loop-place.ensures)

pub returns : goal.returns
returns c = placed_all (ops_text c.args.words.now c.args.clusters.now) c.loop-place.out.items _ c.args.ops.now c.loop-place.place c.loop-place.invariant c.loop-place-test.false refl
