use Rattle.std.proofs.Common.{◌≡◌, ◌<◌, ◌≤◌, false, length, arith}
use Rattle.vx_inline.specs.Values.{is_listed}
use Rattle.vx_inline.proofs.Named.{few_next, first_all, first_full, first_next}
use Rattle.vx_inline.proofs.by_bank.first_of.Goals as goal

pub returns-then-len-most : goal.returns-then-len-most
returns-then-len-most c =
    let found = c.loop-value.values in
    let count : c.in_ok-count.count ≡ length c.args.banks.now = c.in_ok-count.ensures in
    let low : c.loop-value.value ≤ length c.args.banks.now = omega (arith, count, c.loop-value-test.true) in
    let size : c.len.result ≡ length found = c.len.ensures.len in
    let many : c.args.most ≤ length found = omega (arith, size, c.if-len-most.true) in
    first_full (is_listed c.args.banks.now c.args.marks.now false c.args.bank) found c.loop-value.value (length c.args.banks.now) c.args.most c.loop-value.invariant.found c.loop-value.invariant.few many low

pub loop-value-preserved : goal.loop-value-preserved
loop-value-preserved c =
    let found = c.loop-value.values in
    let p = is_listed c.args.banks.now c.args.marks.now false c.args.bank in
    let size : c.len.result ≡ length found = c.len.ensures.len in
    let short : length found < c.args.most = omega (arith, size, c.if-len-most.false) in
    record {
      found = first_next p found c.push_unmarked.new.values c.loop-value.value c.loop-value.invariant.found c.in_ok-push_unmarked.ensures;
      few = few_next found c.push_unmarked.new.values c.loop-value.value c.args.most (p c.loop-value.value) short c.in_ok-push_unmarked.ensures;
    }

pub returns : goal.returns
returns c =
    let found = c.loop-value.values in
    let count : c.in_ok-count.count ≡ length c.args.banks.now = c.in_ok-count.ensures in
    let all : c.loop-value.value ≡ length c.args.banks.now = omega (arith, count, c.loop-value-test.false, c.loop-value.auto.value-end) in
    first_all (is_listed c.args.banks.now c.args.marks.now false c.args.bank) found c.loop-value.value (length c.args.banks.now) c.args.most c.loop-value.invariant.found c.loop-value.invariant.few all
