use Rattle.std.proofs.Common.{ℕ, rules}
use Rattle.vx_profile.specs.Counts.{Pair}
use Rattle.vx_profile.specs.Text.{Fits, block_row}
use Rattle.vx_profile.proofs.Pushing.{fit_left, fit_passed, text_left, text_passed}
use Rattle.vx_profile.proofs.count_writer.push_blocks.Goals as goal

pub loop-block-preserved-in-Continue-1 : goal.loop-block-preserved-in-Continue-1
loop-block-preserved-in-Continue-1 c =
    let e : Pair × ℕ = (c.in-Some.block.now, c.in-Some.passed.now) in
    let fits : Fits (block_row e) = search rules in
    record {
      text = text_passed block_row e c.loop-block.block-iterator c.next.new.self c.in-Some.ensures.steps c.loop-block.out.items c.push_block.new.out.items c.if-passed-gt0.true c.in_ok-push_block.ensures c.loop-block.invariant.text;
      fit = fit_passed block_row e c.loop-block.block-iterator c.next.new.self c.in-Some.ensures.steps c.if-passed-gt0.true fits c.loop-block.invariant.fit;
    }

pub loop-block-preserved : goal.loop-block-preserved
loop-block-preserved c =
    let e : Pair × ℕ = (c.in-Some.block.now, c.in-Some.passed.now) in
    record {
      text = text_left block_row e c.loop-block.block-iterator c.next.new.self c.in-Some.ensures.steps c.loop-block.out.items c.if-passed-gt0.false c.loop-block.invariant.text;
      fit = fit_left block_row e c.loop-block.block-iterator c.next.new.self c.in-Some.ensures.steps c.if-passed-gt0.false c.loop-block.invariant.fit;
    }
