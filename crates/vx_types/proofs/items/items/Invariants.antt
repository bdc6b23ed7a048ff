use Rattle.std.proofs.Common.{false, drop}
use Rattle.vx_ast.specs.declared.tree.Gives.TheVariants.{Int}
use Rattle.vx_types.proofs.Declarations.{ItemsSo}
use Rattle.vx_types.proofs.items.items.Given as goal

abbrev pub invariant-loop-one : goal.invariant-loop-one
invariant-loop-one l = ItemsSo Int false l.made.items l.names l.first (drop l.one-index l.fn.all) l.fn.names l.fn.first l.fn.all
