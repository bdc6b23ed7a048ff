use Rattle.std.proofs.Common.{refl}
use Rattle.vx_linear.proofs.Passing.{passes_none}
use Rattle.vx_linear.proofs.passed.none_passed.Goals as goal

pub returns : goal.returns
returns c = λ t. passes_none t _ c.new.ensures c.new-2.ensures c.new-3.ensures refl
