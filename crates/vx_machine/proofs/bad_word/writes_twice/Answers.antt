use Rattle.std.proofs.Common.{sym}
use Rattle.vx_isa.specs.Fits.{destinations}
use Rattle.vx_machine.proofs.MarksLaw.{twice_from_unmarked}
use Rattle.vx_machine.proofs.bad_word.writes_twice.Goals as goal

pub loop-op-init : goal.loop-op-init
loop-op-init c = record {
  rest = sym (twice_from_unmarked (destinations c.args.ops.now) c.requires);
  marked = c.requires;
}
