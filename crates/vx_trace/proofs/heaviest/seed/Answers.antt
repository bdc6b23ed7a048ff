use Rattle.std.proofs.Common.{◌≡◌, ◌+◌, ◌<◌, length, subst, sym, arith}
use Rattle.vx_trace.specs.Growing.{BestOf}
use Rattle.vx_trace.specs.Picked.{IsUnused, count_of_block}
use Rattle.vx_trace.proofs.Bests.{seed_more, seed_kept, seed_found, seed_missing}
use Rattle.vx_trace.proofs.heaviest.seed.Goals.{then-is_unused, else-is_unused}
use Rattle.vx_trace.proofs.heaviest.seed.Goals as goal

pub loop-block-preserved : goal.loop-block-preserved
loop-block-preserved c =
    let m = c.args.mixed.now in
    let counts = c.args.counts.now in
    let i = c.loop-block.block in
    let best = c.loop-block.best in (
      elim c.if-is_unused.branch [
        | then-is_unused w ↦ subst (BestOf (λ b. (b < i + 1) × IsUnused m b) (count_of_block m counts) (λ b. b)) (sym w.best-is)
            (seed_more m counts i w.count_of_block.result best w.better.result (c.is_unused.ensures.holds w.if-is_unused.true) w.count_of_block.ensures w.better.ensures c.loop-block.invariant.0)
        | else-is_unused w ↦ subst (BestOf (λ b. (b < i + 1) × IsUnused m b) (count_of_block m counts) (λ b. b)) (sym w.best-is)
            (seed_kept m counts i best (c.is_unused.ensures.fails w.if-is_unused.false) c.loop-block.invariant.0)
      ],
      c.loop-block.invariant.1,
    )

pub returns-in-Some : goal.returns-in-Some
returns-in-Some c =
    let m = c.args.mixed.now in
    let counts = c.args.counts.now in
    let i = c.loop-block.block in
    let a = c.loop-block-test.false in
    let b = c.loop-block.auto.block-end in
    let e = c.blocks-block-end.ensures in
    let same : i ≡ length m.nodes = omega (arith, a, b, e) in
    seed_found m counts i c.in-Some.best same (subst (BestOf (λ b. (b < i) × IsUnused m b) (count_of_block m counts) (λ b. b)) c.in-Some.is c.loop-block.invariant.0)

pub returns-in-None : goal.returns-in-None
returns-in-None c =
    let m = c.args.mixed.now in
    let counts = c.args.counts.now in
    let i = c.loop-block.block in
    let a = c.loop-block-test.false in
    let b = c.loop-block.auto.block-end in
    let e = c.blocks-block-end.ensures in
    let same : i ≡ length m.nodes = omega (arith, a, b, e) in
    seed_missing m counts i same (subst (BestOf (λ b. (b < i) × IsUnused m b) (count_of_block m counts) (λ b. b)) c.in-None.is c.loop-block.invariant.0)
