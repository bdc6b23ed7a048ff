use Rattle.vx_region.proofs.Counted.{blocks_are_counted}
use Rattle.vx_region.proofs.Falls.{blocks_are_used}
use Rattle.vx_region.proofs.laws.blocks_are_used.Goals as goal

pub returns-clause-one : goal.returns-clause-one
returns-clause-one c = blocks_are_used

pub returns-clause-all : goal.returns-clause-all
returns-clause-all c = blocks_are_counted
