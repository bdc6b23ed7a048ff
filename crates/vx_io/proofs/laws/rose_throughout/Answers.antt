use Rattle.vx_io.proofs.OutsideLaws.{rose_throughout}
use Rattle.vx_io.proofs.laws.rose_throughout.Goals as goal

pub returns : goal.returns
returns c = rose_throughout
