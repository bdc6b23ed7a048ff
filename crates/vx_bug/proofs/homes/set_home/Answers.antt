use Rattle.vx_bug.proofs.Giving.{set_there}
use Rattle.vx_bug.proofs.homes.set_home.Goals as goal

pub returns : goal.returns
returns c = set_there c.args.homes.now.items c.lengthen.new.homes.items c.args.value c.args.cluster c.in_ok-lengthen.ensures.same c.in_ok-lengthen.ensures.long
