use Rattle.std.proofs.Common.{◌≡◌, ◌<◌, ◌^◌, List, sym, subst, length, arith, rules}
use Rattle.std.specs.List.Sorted.{IsPermutation}
use Rattle.vx_room.specs.Items.{latency_of_op}
use Rattle.vx_regs.specs.declared.map.Kept.{Kept}
use Rattle.vx_regs.specs.declared.spans.Span.{Span}
use Rattle.vx_regs.specs.Filed.{spans_from}
use Rattle.vx_regs.specs.Mapped.{Mapped}
use Rattle.vx_regs.specs.Spans.{Scanned, Scannable}
use Rattle.vx_regs.proofs.Allocated.{banked, mapped, scannable}
use Rattle.vx_regs.proofs.allocation.keep_by_scan.Goals as goal

pub scan-requires : goal.scan-requires
scan-requires c =
    let l = c.args.code.now in
    let spans = c.sort_spans.new.spans.items in
    let few : length l.words < 2 ^ 32 = omega (arith, c.len-count.ensures.few, c.len-count.ensures.len) in
    let same : IsPermutation (spans_from l 0 c.args.hulls.now) spans = subst (λ (z : List Span). IsPermutation z spans) c.in_ok-spans.ensures c.sort_spans.ensures.same in
    let slice : c.as_slice.result.now ≡ spans = search rules in
    let long : length c.in_ok-kept.kept.items ≡ length c.args.hulls.now = search rules in
    subst (λ (z : List Span). Scannable z c.in_ok-kept.kept.items) (sym slice)
    (scannable c.args.machine.now (latency_of_op c.args.machine.now) l c.requires.inside few c.args.hulls.now c.requires.hulls spans same c.sort_spans.ensures.sorted c.in_ok-kept.kept.items long c.in_ok-kept.ensures.nowhere)

pub returns : goal.returns
returns c =
    let l = c.args.code.now in
    let m = c.args.machine.now in
    let latency = latency_of_op m in
    let spans = c.sort_spans.new.spans.items in
    let few : length l.words < 2 ^ 32 = omega (arith, c.len-count.ensures.few, c.len-count.ensures.len) in
    let same : IsPermutation (spans_from l 0 c.args.hulls.now) spans = subst (λ (z : List Span). IsPermutation z spans) c.in_ok-spans.ensures c.sort_spans.ensures.same in
    let slice : c.as_slice.result.now ≡ spans = search rules in
    let scanned : Scanned m spans c.scan.new.kept.items = subst (λ (z : List Span). Scanned m z c.scan.new.kept.items) slice c.in_ok-scan.ensures in
    let values : c.in_ok-values.values ≡ c.scan.new.kept.items = search rules in
    subst (λ (z : List Kept). Mapped m latency l (record { values = z })) (sym values)
    (mapped m latency l c.requires.inside few c.args.hulls.now c.requires.hulls spans same c.sort_spans.ensures.sorted c.scan.new.kept.items scanned (banked l c.requires.some))
