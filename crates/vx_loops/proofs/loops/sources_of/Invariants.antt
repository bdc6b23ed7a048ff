use Rattle.std.proofs.Common.{◌<◌, ◌^◌, length, take}
use Rattle.vx_loops.specs.Noted.{SourcesOf}
use Rattle.vx_loops.proofs.loops.sources_of.Given as goal

abbrev pub invariant-loop-place : goal.invariant-loop-place
invariant-loop-place l = length l.blocks < 2 ^ 32 → SourcesOf l.blocks (take l.place l.blocks) l.sources.items
