use Rattle.std.proofs.Common.{ap, sym, ◌∙◌}
use Rattle.vx_ast.specs.declared.tree.Statement.{Statement}
use Rattle.vx_ast.specs.View.{code_of}
use Rattle.vx_unroll.specs.Growth.{is_block}
use Rattle.vx_unroll.proofs.Rooms.{items_no_block}
use Rattle.vx_unroll.proofs.room.is_block.Goals as goal

pub returns-in-Declaration : goal.returns-in-Declaration
returns-in-Declaration c = sym (ap (λ (s : Statement). is_block (code_of s)) c.in-Declaration.is ∙ items_no_block c.in-Declaration.field-0.items)
