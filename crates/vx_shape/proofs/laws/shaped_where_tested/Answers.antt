use Rattle.vx_shape.proofs.ShapeTests.{shaped_where_tested}
use Rattle.vx_shape.proofs.laws.shaped_where_tested.Goals as goal

pub returns : goal.returns
returns c = shaped_where_tested
