use Rattle.std.proofs.Common.{◌≡◌, ℕ, Some, subst, sym, ap, ◌∙◌}
use Rattle.std.specs.Prelude.{slice_get}
use Rattle.vx_base.specs.declared.outcome.Trap.{Trap}
use Rattle.vx_flow.specs.declared.graph.Block.{Block}
use Rattle.vx_lower.specs.Builds.{Stands}
use Rattle.vx_lower.specs.Finished.{TrapsAt, TrapsLast, AreShort, WereShort, IsUsed, finished}
use Rattle.vx_lower.specs.Shape.{Settled}
use Rattle.vx_lower.proofs.TrapBlocks.{finished_stands, finished_traps, finished_used, finished_short, finished_settled}
use Rattle.vx_lower.proofs.trap_blocks.finish.Goals as goal

pub returns-clause-blocks : goal.returns-clause-blocks
returns-clause-blocks c = c.in_ok-blocks.ensures ∙ ap finished c.into_vec.ensures

pub returns-clause-stands : goal.returns-clause-stands
returns-clause-stands c = subst (λ B. (n : ℕ) (block : Block) → slice_get c.args.slots n ≡ Some (Some block) → Stands B n block block.exit) (sym (c.in_ok-blocks.ensures ∙ ap finished c.into_vec.ensures)) (finished_stands c.args.slots)

pub returns-clause-traps : goal.returns-clause-traps
returns-clause-traps c = subst TrapsLast (sym (c.in_ok-blocks.ensures ∙ ap finished c.into_vec.ensures)) (finished_traps c.args.slots)

pub returns-clause-used : goal.returns-clause-used
returns-clause-used c = subst (λ B. (b : ℕ) (k : Trap) → TrapsAt B b k → IsUsed c.args.slots k) (sym (c.in_ok-blocks.ensures ∙ ap finished c.into_vec.ensures)) (finished_used c.args.slots)

pub returns-clause-short : goal.returns-clause-short
returns-clause-short c = subst (λ B. WereShort c.args.slots → AreShort B) (sym (c.in_ok-blocks.ensures ∙ ap finished c.into_vec.ensures)) (finished_short c.args.slots)

pub returns-clause-settled : goal.returns-clause-settled
returns-clause-settled c = subst (Settled c.args.slots) (sym (c.in_ok-blocks.ensures ∙ ap finished c.into_vec.ensures)) (finished_settled c.args.slots)
