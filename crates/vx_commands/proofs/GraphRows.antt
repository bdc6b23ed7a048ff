-- The blocks of graphs, worked out by hand.
use Rattle.std.proofs.Common.{◌≡◌, refl, []}
use Rattle.vx_compiled.specs.Sized.{all_blocks}

of_no_graphs : all_blocks [] ≡ 0
of_no_graphs = refl
