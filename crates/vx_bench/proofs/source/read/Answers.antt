-- The tokens of a source are what the parser asks for.
use Rattle.std.proofs.Common.{subst, sym}
use Rattle.vx_parse.specs.Reading.{Ended}
use Rattle.vx_bench.proofs.Ended.{ended}
use Rattle.vx_bench.proofs.source.read.Goals as goal

pub parse-requires : goal.parse-requires
parse-requires c = subst Ended (sym c.as_slice.ensures.value) (ended c.args.source.now c.in_ok-all.all.items c.in_ok-all.ensures.ok)
