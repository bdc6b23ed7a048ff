-- Each turn adds the first word of one global more.
use Rattle.std.proofs.Common.{refl}
use Rattle.vx_calls.specs.Globals.{firsts_from}
use Rattle.vx_calls.proofs.Globals.{first_more}
use Rattle.vx_calls.proofs.Pieces.{placed_all}
use Rattle.vx_calls.proofs.addresses.firsts.Goals as goal

pub loop-global-preserved : goal.loop-global-preserved
loop-global-preserved c = first_more c.args.globals.now c.loop-global.global-index c.loop-global.words c.in_ok-words.words _ c.loop-global.start c.push_first.new.start _ c.loop-global.invariant c.loop-global-test.true c.in_ok-push_first.ensures c.in_ok-words.ensures

pub returns : goal.returns
returns c = placed_all firsts_from c.loop-global.start _ c.loop-global.words c.args.globals.now c.loop-global.global-index c.loop-global.invariant c.loop-global-test.false refl
