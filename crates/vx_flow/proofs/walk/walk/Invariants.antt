use Rattle.std.proofs.Common.{◌≡◌, length}
use Rattle.vx_flow.specs.Walking.{Walking}
use Rattle.vx_flow.proofs.Remaining.{walk_work}
use Rattle.vx_flow.proofs.walk.walk.Given as goal

abbrev pub invariant-steps : goal.invariant-steps
invariant-steps l = record { walking : Walking l.graph l.root l.seen.items l.on_path.items l.places.items l.back.items; seen_len : length l.seen.items ≡ length l.graph.blocks; path_len : length l.on_path.items ≡ length l.graph.blocks }

abbrev pub decreases-steps : goal.decreases-steps
decreases-steps l = walk_work (length l.graph.blocks) l.root l.seen.items l.places.items
