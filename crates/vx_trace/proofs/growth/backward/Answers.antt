use Rattle.std.proofs.Common.{◌≡◌, ◌+◌, ◌<◌, ◌≤◌, ◌∷◌, length, ap, subst, Some, None, arith}
use Rattle.vx_flow.specs.Walk.{edge}
use Rattle.vx_trace.specs.Growing.{IsFree, Linked, OnlyOne}
use Rattle.vx_trace.proofs.Grows.{Aback, aback_start, aback_step, aback_none, aback_full, first_unused, few_blocks}
use Rattle.vx_trace.proofs.Readings.{unused_below}
use Rattle.vx_trace.proofs.growth.backward.Goals as goal

pub growing-init : goal.growing-init
growing-init c =
    let m = c.args.mixed.now in
    let counts = c.args.counts.now in
    aback_start m (Linked m counts) c.args.seed c.args.grown.blocks.items c.args.grown.ops c.requires.grown c.requires.ops c.requires.few

pub next_before-requires : goal.next_before-requires
next_before-requires c =
    let m = c.args.mixed.now in
    let counts = c.args.counts.now in
    first_unused m (Linked m counts) c.args.grown.blocks.items c.growing.blocks.items c.growing.first c.growing.ops c.growing.invariant

pub ops_of-added-requires : goal.ops_of-added-requires
ops_of-added-requires c = unused_below c.args.mixed.now c.in-Some.next c.in-Some.ensures.0.0.0

pub growing-preserved : goal.growing-preserved
growing-preserved c =
    let m = c.args.mixed.now in
    let counts = c.args.counts.now in
    let ops = c.growing.ops in
    let fits : ops + c.ops_of-added.result ≤ 512 = omega arith in
    aback_step m (Linked m counts) c.args.grown.blocks.items c.growing.blocks.items c.put_before.new.blocks.items c.growing.first c.in-Some.next ops (ops + c.ops_of-added.result)
    c.growing.invariant (subst (λ z. IsFree m z c.in-Some.next) c.as_slice.ensures.value c.in-Some.ensures.0.0) c.in-Some.ensures.0.1 c.in_ok-put_before-in-Some.ensures (ap (λ z. ops + z) c.ops_of-added.ensures.is) fits

pub growing-smaller : goal.growing-smaller
growing-smaller c =
    let m = c.args.mixed.now in
    let counts = c.args.counts.now in
    let ops = c.growing.ops in
    let t = c.growing.blocks.items in
    let u = c.put_before.new.blocks.items in
    let fits : ops + c.ops_of-added.result ≤ 512 = omega arith in
    let next : Aback m (Linked m counts) c.args.grown.blocks.items u c.in-Some.next (ops + c.ops_of-added.result)
    = aback_step m (Linked m counts) c.args.grown.blocks.items t u c.growing.first c.in-Some.next ops (ops + c.ops_of-added.result)
    c.growing.invariant (subst (λ z. IsFree m z c.in-Some.next) c.as_slice.ensures.value c.in-Some.ensures.0.0) c.in-Some.ensures.0.1 c.in_ok-put_before-in-Some.ensures (ap (λ z. ops + z) c.ops_of-added.ensures.is) fits in
    let many : length u ≤ length m.nodes = few_blocks m (Linked m counts) u next.way in
    let same : length u ≡ length (c.in-Some.next ∷ t) = ap length c.in_ok-put_before-in-Some.ensures in
    omega arith

pub returns-in-None : goal.returns-in-None
returns-in-None c =
    let m = c.args.mixed.now in
    let counts = c.args.counts.now in
    aback_none m (Linked m counts) c.args.grown.blocks.items c.growing.blocks.items c.growing.first c.growing.ops c.growing.invariant (subst (λ z. OnlyOne (λ b. IsFree m z b × Linked m counts (edge b c.growing.first)) None) c.as_slice.ensures.value c.in-None.ensures)

pub returns-then-more-gt-MOST_OPS : goal.returns-then-more-gt-MOST_OPS
returns-then-more-gt-MOST_OPS c =
    let m = c.args.mixed.now in
    let counts = c.args.counts.now in
    let ops = c.growing.ops in
    let big : 512 < ops + c.ops_of-added.result = omega arith in
    aback_full m (Linked m counts) c.args.grown.blocks.items c.growing.blocks.items c.growing.first c.in-Some.next ops (ops + c.ops_of-added.result)
    c.growing.invariant (subst (λ z. OnlyOne (λ b. IsFree m z b × Linked m counts (edge b c.growing.first)) (Some c.in-Some.next)) c.as_slice.ensures.value c.in-Some.ensures) (ap (λ z. ops + z) c.ops_of-added.ensures.is) big
