use Rattle.vx_mixed.proofs.BlockEdges.{edges_whatever_function}
use Rattle.vx_replace.proofs.Renumbered.{valid_whatever_function}
use Rattle.vx_replace.proofs.function.Mixed.set_function.Goals as goal

pub invariant_of-self : goal.invariant_of-self
invariant_of-self c = (edges_whatever_function c.self.inside.graph c.args.function c.self.inside.edges c.self.invariant.0, valid_whatever_function c.self.inside.graph c.args.function c.self.invariant.1)
