-- The pieces stand one behind the other.
use Rattle.std.proofs.Common.{◌≡◌, ◌∙◌, ◌++◌, List, ℕ, OnOk, ap, codes, subst}
use Rattle.std.specs.List.{flat_map}
use Rattle.vx_dep.specs.declared.copies.EdgeCopies.{EdgeCopies}
use Rattle.vx_dep.specs.declared.copies.Rejoin.{Rejoin}
use Rattle.vx_flow.specs.declared.trace.TraceOp.{TraceOp}
use Rattle.vx_report.specs.Report.{join_line, numbers_line, ops_text, split_line}
use Rattle.vx_report.proofs.Pieces.{put_behind, two_put}
use Rattle.vx_report.proofs.text.push_placed.Goals as goal

pub returns : goal.returns
returns c =
    let old = c.args.out.now.items in
    let plan = c.args.plan.now in
    let placed = plan.placed in
    let a = numbers_line (codes "blocks") plan.blocks in
    let b = ops_text placed.words placed.clustered.clusters 0 placed.clustered.trace.ops in
    let d = flat_map split_line plan.splits in
    let one = c.in_ok-push_numbers.ensures ∙ ap (λ (z : List ℕ). old ++ numbers_line (codes "blocks") z) c.as_slice.ensures in
    let ops = c.in_ok-push_ops.ensures
    ∙ ap (λ (z : List TraceOp). c.push_numbers.new.out.items ++ ops_text c.as_slice-3.result.now c.as_slice-4.result.now 0 z) c.as_slice-2.ensures
    ∙ ap (λ (z : List ℕ). c.push_numbers.new.out.items ++ ops_text z c.as_slice-4.result.now 0 placed.clustered.trace.ops) c.as_slice-3.ensures
    ∙ ap (λ (z : List ℕ). c.push_numbers.new.out.items ++ ops_text placed.words z 0 placed.clustered.trace.ops) c.as_slice-4.ensures in
    let two = two_put old _ _ a b one ops in
    let three = two_put old _ _ (a ++ b) d two (c.in_ok-push_splits.ensures ∙ ap (λ (z : List EdgeCopies). c.push_ops.new.out.items ++ flat_map split_line z) c.as_slice-5.ensures) in
    let last = subst (λ (z : List Rejoin). OnOk c.push_joins.result (c.push_joins.new.out.items ≡ c.push_splits.new.out.items ++ flat_map join_line z)) c.as_slice-6.ensures c.push_joins.ensures in
    put_behind c.push_joins.result old _ _ (a ++ b ++ d) (flat_map join_line plan.rejoins) three last
