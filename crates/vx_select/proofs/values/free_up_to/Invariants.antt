use Rattle.std.proofs.Common.{length}
use Rattle.vx_select.specs.Known.{told, whole}
use Rattle.vx_select.specs.Selected.{is_free}
use Rattle.vx_select.specs.Values.{Taking}
use Rattle.vx_select.proofs.values.free_up_to.Given as goal

abbrev pub invariant-loop-value : goal.invariant-loop-value
invariant-loop-value l = Taking (is_free (told l.known) l.graph (whole l.graph l.corners)) (length l.graph.banks) l.most l.value l.free.items
