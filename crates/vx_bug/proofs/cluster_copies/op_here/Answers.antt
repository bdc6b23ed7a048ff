use Rattle.std.proofs.Common.{◌∙◌, ap, sym}
use Rattle.vx_flow.specs.declared.trace.TraceOp.TheVariants.{Plain}
use Rattle.vx_bug.specs.Copies.{here, renamed_op}
use Rattle.vx_bug.specs.Ledgers.{homes_in}
use Rattle.vx_bug.proofs.cluster_copies.op_here.Goals as goal

pub returns-in_ok-plain_here-in-Plain : goal.returns-in_ok-plain_here-in-Plain
returns-in_ok-plain_here-in-Plain c =
    let site = c.args.site.now in
    ap Plain c.in_ok-plain_here-in-Plain.ensures ∙ ap (renamed_op (here site.values (homes_in site.homes.now) site.cluster)) (sym c.in-Plain.is)
