use Rattle.std.proofs.Common.{List, subst}
use Rattle.std.proofs.lemmas.Result.{IfOk-weaker}
use Rattle.vx_flow.specs.declared.graph.Graph.{Graph}
use Rattle.vx_narrow.specs.Checking.{listed_given}
use Rattle.vx_narrow.proofs.Staged.{some_given}
use Rattle.vx_narrow.proofs.narrowed_flow.narrowed_functions.Goals as goal

pub returns : goal.returns
returns c = IfOk-weaker c.narrowed_graphs-narrowed.result _ _ (λ found h. some_given (listed_given _) c.args.graphs.now found h) c.narrowed_graphs-narrowed.ensures
