use Rattle.std.proofs.Common.{◌∙◌, ap, sym}
use Rattle.std.proofs.lemmas.List.{take_all}
use Rattle.vx_narrow.specs.Narrowing.{are_numbers}
use Rattle.vx_narrow.proofs.narrowed_flow.are_numbers.Goals as goal

pub returns : goal.returns
returns c = sym c.loop-global.invariant ∙ ap are_numbers (take_all c.loop-global.global-index c.args.globals.now c.loop-global-test.false)
