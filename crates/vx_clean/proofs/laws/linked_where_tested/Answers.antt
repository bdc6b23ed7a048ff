use Rattle.vx_clean.proofs.LinkTests.{linked_where_tested}
use Rattle.vx_clean.proofs.laws.linked_where_tested.Goals as goal

pub returns : goal.returns
returns c = linked_where_tested
