use Rattle.std.proofs.Common.{None, sym, ◌∙◌}
use Rattle.vx_regs.proofs.Holding.{found_free}
use Rattle.vx_regs.proofs.scan.free_at.Goals as goal

pub returns-then-not-goes_on : goal.returns-then-not-goes_on
returns-then-not-goes_on c = found_free c.args.held.now c.args.place c.find.register None c.find-test.true (sym c.goes_on.ensures ∙ c.if-not-goes_on.true)
