use Rattle.std.proofs.Common.{◌≡◌, false, rules}
use Rattle.vx_test_files.specs.Memory.{next_fails}
use Rattle.vx_test_files.proofs.MemFiles.{neither}
use Rattle.vx_test_files.proofs.depot.MemDepotDepot.read_at.Goals as goal

pub returns-clause-fails_as_listed : goal.returns-clause-fails_as_listed
returns-clause-fails_as_listed c =
    let quiet : next_fails c.args.self.now ≡ false = search rules in
    neither (next_fails c.args.self.now) quiet (λ failed. search rules)
