use Rattle.std.proofs.Common.{◌∙◌, ap, sym}
use Rattle.vx_linear.specs.Ascending.{ascend}
use Rattle.vx_linear.proofs.Merging.{empty_of}
use Rattle.vx_linear.proofs.linear.ascend.Goals as goal

pub returns-in-None : goal.returns-in-None
returns-in-None c = sym (c.ascend.invariant ∙ ap ascend (empty_of c.ascend.rest.now c.in-None.ensures.cases))
