use Rattle.vx_claims.specs.Facts.{same_code, same_operand}
use Rattle.vx_claims.proofs.Fronts.{not_all}
use Rattle.vx_claims.proofs.known.is_made_so.Goals as goal

pub returns-else-same_operand : goal.returns-else-same_operand
returns-else-same_operand c = not_all (same_code c.args.other c.args.code) (same_operand c.args.one c.args.left) (same_operand c.args.two c.args.right) c.same_operand.result c.same_operand.ensures c.if-same_operand.false
