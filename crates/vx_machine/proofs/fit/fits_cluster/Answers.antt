use Rattle.std.proofs.Common.{sym, ap, ◌∙◌}
use Rattle.vx_machine.specs.declared.left.Left.{Left}
use Rattle.vx_machine.specs.Left.{fits_left, need_of}
use Rattle.vx_machine.proofs.LeftSteps.{fits_by}
use Rattle.vx_machine.proofs.fit.fits_cluster.Goals as goal

pub returns : goal.returns
returns c =
    let left = ap (λ (l : Left). fits_left (need_of c.args.cluster) l c.args.ops.now) c.limits.ensures in
    c.fits_left.ensures ∙ left ∙ sym (fits_by c.args.machine.now c.args.ops.now c.args.cluster)
