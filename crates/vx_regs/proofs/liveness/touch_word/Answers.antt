use Rattle.std.proofs.Common.{◌++◌, ℕ, true, false, List, map, append_assoc, ap, ◌∙◌}
use Rattle.std.proofs.lemmas.Result.{IfOk-equal}
use Rattle.vx_flow.specs.declared.routes.Touch.{Touch}
use Rattle.vx_flow.specs.Live.{touch}
use Rattle.vx_regs.specs.Intervals.{word_reads}
use Rattle.vx_regs.proofs.liveness.touch_word.Goals as goal

pub returns : goal.returns
returns c =
    let old = c.args.touches.now in
    let word = c.args.word.now in
    let reads = map (touch true) c.as_slice.result.now in
    let writes = map (touch false) c.as_slice-2.result.now in
    IfOk-equal _ _ _ _ c.push_touches-2.ensures
    (ap (λ (z : List Touch). z ++ writes) c.in_ok-push_touches.ensures
    ∙ append_assoc old reads writes
    ∙ ap (λ (z : List ℕ). old ++ (map (touch true) z ++ writes)) (c.as_slice.ensures ∙ c.in_ok-reads.ensures)
    ∙ ap (λ (z : List ℕ). old ++ (map (touch true) (word_reads word) ++ map (touch false) z)) (c.as_slice-2.ensures ∙ c.in_ok-writes.ensures))
