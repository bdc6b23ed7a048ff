use Rattle.std.proofs.Common.{◌≡◌, ◌+◌, ◌<◌, ◌≤◌, ◌∷◌, [], ◌++◌, length, ap, subst, Some, None, arith, length-append}
use Rattle.vx_flow.specs.Walk.{edge}
use Rattle.vx_trace.specs.Growing.{IsFree, Linked, OnlyOne}
use Rattle.vx_trace.proofs.Grows.{Ahead, ahead_start, ahead_step, ahead_none, ahead_full, few_blocks, last_unused}
use Rattle.vx_trace.proofs.Readings.{unused_below}
use Rattle.vx_trace.proofs.growth.forward.Goals as goal

pub ops_of-ops-requires : goal.ops_of-ops-requires
ops_of-ops-requires c = unused_below c.args.mixed.now c.args.seed c.requires

pub growing-init : goal.growing-init
growing-init c =
    let m = c.args.mixed.now in
    let counts = c.args.counts.now in
    ahead_start m (Linked m counts) c.args.seed c.in_ok-blocks.blocks.items c.ops_of-ops.result c.requires c.in_ok-blocks.ensures c.ops_of-ops.ensures.is c.ops_of-ops.ensures.few

pub next_after-requires : goal.next_after-requires
next_after-requires c = last_unused c.args.mixed.now (Linked c.args.mixed.now c.args.counts.now) c.args.seed c.growing.blocks.items c.growing.last c.growing.ops c.growing.invariant

pub ops_of-added-requires : goal.ops_of-added-requires
ops_of-added-requires c = unused_below c.args.mixed.now c.in-Some.next c.in-Some.ensures.0.0.0

pub growing-preserved : goal.growing-preserved
growing-preserved c =
    let m = c.args.mixed.now in
    let counts = c.args.counts.now in
    let ops = c.growing.ops in
    let fits : ops + c.ops_of-added.result ≤ 512 = omega arith in
    ahead_step m (Linked m counts) c.args.seed c.growing.blocks.items c.put_behind.new.blocks.items c.growing.last c.in-Some.next ops (ops + c.ops_of-added.result)
    c.growing.invariant (subst (λ z. IsFree m z c.in-Some.next) c.as_slice.ensures.value c.in-Some.ensures.0.0) c.in-Some.ensures.0.1 c.in_ok-put_behind-in-Some.ensures (ap (λ z. ops + z) c.ops_of-added.ensures.is) fits

pub growing-smaller : goal.growing-smaller
growing-smaller c =
    let m = c.args.mixed.now in
    let counts = c.args.counts.now in
    let ops = c.growing.ops in
    let t = c.growing.blocks.items in
    let u = c.put_behind.new.blocks.items in
    let fits : ops + c.ops_of-added.result ≤ 512 = omega arith in
    let next : Ahead m (Linked m counts) c.args.seed u c.in-Some.next (ops + c.ops_of-added.result)
    = ahead_step m (Linked m counts) c.args.seed t u c.growing.last c.in-Some.next ops (ops + c.ops_of-added.result)
    c.growing.invariant (subst (λ z. IsFree m z c.in-Some.next) c.as_slice.ensures.value c.in-Some.ensures.0.0) c.in-Some.ensures.0.1 c.in_ok-put_behind-in-Some.ensures (ap (λ z. ops + z) c.ops_of-added.ensures.is) fits in
    let many : length u ≤ length m.nodes = few_blocks m (Linked m counts) u next.way in
    let same : length u ≡ length (t ++ c.in-Some.next ∷ []) = ap length c.in_ok-put_behind-in-Some.ensures in
    let one = length-append t (c.in-Some.next ∷ []) in
    omega arith

pub returns-in-None-clause-grown : goal.returns-in-None-clause-grown
returns-in-None-clause-grown c =
    let m = c.args.mixed.now in
    let counts = c.args.counts.now in
    ahead_none m (Linked m counts) c.args.seed c.growing.blocks.items c.growing.last c.growing.ops c.growing.invariant (subst (λ z. OnlyOne (λ b. IsFree m z b × Linked m counts (edge c.growing.last b)) None) c.as_slice.ensures.value c.in-None.ensures)

pub returns-then-more-gt-MOST_OPS-clause-grown : goal.returns-then-more-gt-MOST_OPS-clause-grown
returns-then-more-gt-MOST_OPS-clause-grown c =
    let m = c.args.mixed.now in
    let counts = c.args.counts.now in
    let ops = c.growing.ops in
    let big : 512 < ops + c.ops_of-added.result = omega arith in
    ahead_full m (Linked m counts) c.args.seed c.growing.blocks.items c.growing.last c.in-Some.next ops (ops + c.ops_of-added.result)
    c.growing.invariant (subst (λ z. OnlyOne (λ b. IsFree m z b × Linked m counts (edge c.growing.last b)) (Some c.in-Some.next)) c.as_slice.ensures.value c.in-Some.ensures) (ap (λ z. ops + z) c.ops_of-added.ensures.is) big
