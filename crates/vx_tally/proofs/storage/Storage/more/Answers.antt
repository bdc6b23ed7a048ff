use Rattle.std.proofs.Common.{◌<◌, length, ap, sym, arith}
use Rattle.vx_base.specs.Arithmetic.{one_if}
use Rattle.vx_tally.proofs.Storing.{left_where}
use Rattle.vx_tally.proofs.storage.Storage.more.Goals as goal

pub returns-then-self-len : goal.returns-then-self-len
returns-then-self-len c =
    let below : c.args.self.now.read < length c.args.self.now.input.items = omega (arith, c.args.self.now.input.ok.0) in
    ap one_if (sym (left_where c.args.self.now.input.items c.args.self.now.read below))
