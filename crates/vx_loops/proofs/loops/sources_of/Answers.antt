use Rattle.std.proofs.Common.{◌<◌, ◌^◌, arith, subst, sym, take}
use Rattle.vx_loops.specs.Noted.{SourcesOf}
use Rattle.vx_loops.proofs.Edges.{edges_all, edges_more, no_edges}
use Rattle.vx_loops.proofs.loops.sources_of.Goals as goal

pub loop-place-preserved : goal.loop-place-preserved
loop-place-preserved c = λ few.
    let small : c.loop-place.place < 2 ^ 32 = omega (arith, few, c.loop-place-test.true) in
    edges_more c.args.blocks.now c.loop-place.place c.index-blocks-place.result c.loop-place.sources.items c.note_block.new.sources.items c.loop-place-test.true c.index-blocks-place.is (c.loop-place.invariant few) (c.in_ok-note_block.ensures small)

pub returns : goal.returns
returns c = λ few. edges_all c.args.blocks.now c.loop-place.place c.loop-place.sources.items c.loop-place-test.false (c.loop-place.invariant few)

pub loop-place-init : goal.loop-place-init
loop-place-init c = λ few. subst (SourcesOf c.args.blocks.now (take 0 c.args.blocks.now)) (sym c.in_ok-sources.ensures) (no_edges c.args.blocks.now)
