use Rattle.std.proofs.Common.{sym, arith}
use Rattle.vx_test_files.specs.Memory.{content_in, named_files}
use Rattle.vx_test_files.proofs.MemFiles.{ReadsAt-copied}
use Rattle.vx_test_files.proofs.depot.read_named.Goals as goal

pub returns-in-Some-clause-bytes : goal.returns-in-Some-clause-bytes
returns-in-Some-clause-bytes c =
    ReadsAt-copied (content_in (named_files c.args.files.now)) c.args.name.now c.in-Some.content.now c.args.into.now _ c.args.place _ (sym c.in-Some.ensures) c.copy_at.ensures.count c.copy_at.ensures.front (omega arith)
