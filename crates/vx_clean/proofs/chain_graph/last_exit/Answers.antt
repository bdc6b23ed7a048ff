use Rattle.std.proofs.Common.{◌≡◌, IfOk, subst}
use Rattle.vx_flow.specs.declared.graph.Exit.{Exit}
use Rattle.vx_clean.specs.LinkTest.{moves}
use Rattle.vx_clean.proofs.Laid.{last_at}
use Rattle.vx_clean.proofs.chain_graph.last_exit.Goals as goal

pub returns-in-len1-up : goal.returns-in-len1-up
returns-in-len1-up c = subst (λ (x : Exit). IfOk c.exit_at.result (λ exit. exit ≡ x)) (last_at (moves c.args.to.now) c.args.blocks.now c.args.chain.now c.in-len1-up.len_at_least) c.exit_at.ensures
